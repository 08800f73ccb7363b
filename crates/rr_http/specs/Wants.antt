-- What a connection wants, by the bytes that it gives (RFC 3912, RFC 9112; profile): for
-- `read_head`, `read_request` and `serve_one`.
use Rattle.std.specs.Prelude.{◌≡◌, ℕ, ◌<◌, ◌≤◌, Bool, true, false, nat_le, IsTrue}
use Rattle.std.specs.Prelude.{is_some, ◌⊎◌}
use Rattle.std.specs.Prelude.{List, ◌++◌, length, map, take, [], Option, None, Some}
use Rattle.std.specs.Prelude.{if◌then◌else◌}
use Rattle.httparse.specs.Grammar.{ReadsRequest, RequestHead}
use Rattle.httparse.specs.Spans.{name_and_value}
use Rattle.rr_io.specs.Told.{Told}
use Rattle.rr_io.specs.Receiving.{BreaksOff, Gives, IsSpent}
use Rattle.rr_http.specs.declared.asking.Refusal.{Refusal}
use Rattle.rr_http.specs.declared.asking.Refusal.TheVariants.{BadRequest, HeadTooLarge}
use Rattle.rr_http.specs.declared.asking.TheConstants.{FIELD_LIMIT}
use Rattle.rr_http.specs.declared.heads.Head.{Head}
use Rattle.rr_http.specs.declared.heads.Head.TheVariants.{Whois, Http, Refused}
use Rattle.rr_http.specs.declared.heads.TheConstants.{HEAD_LIMIT}
use Rattle.rr_http.specs.Heads.{has_line_feed, head_length}
use Rattle.rr_http.specs.Lines.{speaks_http, whois_query}
use Rattle.rr_http.specs.Requests.{Asks, asks_of, refused}

-- what a connection wants: the answer to a query by whois, or what a request asks, after how many
-- bytes its head has, 0 if there is no whole head
pub data Wants : Type 0 where
  whois : List ℕ → Wants
  http : ℕ → Asks → Wants

-- a text is a request's head and what follows it, with at most 64 fields; or no such head stands at
-- its beginning (RFC 9112, 2; profile)
abbrev pub IsParsed : List ℕ → Option RequestHead → Type 0
IsParsed text (Some head) =
    (rest : List ℕ) × ReadsRequest text head rest × (length head.fields ≤ FIELD_LIMIT)
IsParsed text None =
    (head : RequestHead) (rest : List ℕ) → ReadsRequest text head rest
    → FIELD_LIMIT < length head.fields

-- what is asked by a head, or by what is none
abbrev pub head_asks : Option RequestHead → Asks
head_asks None = refused BadRequest
head_asks (Some head) = asks_of head.method head.target (map name_and_value head.fields)

-- what a text asks as the head of a request; it is refused if it is none
abbrev pub RequestAsks : List ℕ → Asks → Type 0
RequestAsks text asks =
    (parsed : Option RequestHead) × IsParsed text parsed × (asks ≡ head_asks parsed)

-- the refusal of bytes that have no whole head: they are too many if they are 8,192, and else no
-- head, because the input ended (profile)
abbrev pub unended : Bool → Refusal
unended full = if full then HeadTooLarge else BadRequest

-- what bytes want that speak HTTP, by where the head of a request ends in them
abbrev pub RequestWants : Option ℕ → List ℕ → Bool → Wants → Type 0
RequestWants None bytes full wants = wants ≡ http 0 (refused (unended full))
RequestWants (Some place) bytes full wants =
    (asks : Asks) × RequestAsks (take place bytes) asks × (wants ≡ http place asks)

-- what bytes want, by whether they speak HTTP and whether they are 8,192
abbrev pub HeadWants : Bool → List ℕ → Bool → Wants → Type 0
HeadWants false bytes full wants = wants ≡ whois (whois_query bytes)
HeadWants true bytes full wants = RequestWants (head_length bytes) bytes full wants

-- so many bytes are as many as are read of a connection before it is known what it wants
abbrev pub is_full : List ℕ → Bool
is_full bytes = nat_le HEAD_LIMIT (length bytes)

-- what a connection wants that gives these bytes in all: its first 8,192 bytes alone say it
-- (profile)
abbrev pub IsWanted : List ℕ → Wants → Type 0
IsWanted bytes wants =
    HeadWants (speaks_http (take HEAD_LIMIT bytes)) (take HEAD_LIMIT bytes) (is_full bytes) wants

-- bytes say what the connection wants: by HTTP they have the head of a request, otherwise a first
-- line (profile)
abbrev pub says_by : Bool → List ℕ → Bool
says_by true bytes = is_some (head_length bytes)
says_by false bytes = has_line_feed bytes

-- bytes say what the connection wants that gives them (profile)
abbrev pub says_wants : List ℕ → Bool
says_wants bytes = says_by (speaks_http bytes) bytes

-- enough of a connection was read to know what it wants: what says it, or all that is read, or all
-- that the connection has
abbrev pub IsDecided : List ℕ → Bool → Type 0
IsDecided bytes at_end =
    IsTrue (says_wants bytes) ⊎ ((length bytes ≡ HEAD_LIMIT) ⊎ IsTrue at_end)

-- the head of a connection was read, at most 8,192 bytes, so far that it is known what it wants;
-- the input may have ended there
pub record ReadsHead (old new : Told) (head : List ℕ) (at_end : Bool) : Type 0 where
  pub gives : Gives old new head
  pub short : length head ≤ HEAD_LIMIT
  pub settled : IsDecided head at_end
  pub spent : IsTrue at_end → IsSpent new

-- bytes do not say yet what the connection wants, and are fewer than 8,192
pub record IsUndecided (bytes : List ℕ) : Type 0 where
  pub unsaid : says_wants bytes ≡ false
  pub room_left : length bytes < HEAD_LIMIT

-- a read failed before it was known what the connection wants (profile)
abbrev pub BreaksHead : Told → Told → Type 0
BreaksHead old new = (bytes : List ℕ) × BreaksOff old new bytes × IsUndecided bytes

-- what stands at the head of a connection of which these bytes were read, as code says it: by
-- whois, a query of so many bytes; by HTTP, the head of a request of so many, or the refusal of
-- bytes that have none
abbrev pub IsHead : List ℕ → Head → Type 0
IsHead bytes (Whois count) =
    (speaks_http bytes ≡ false) × (count ≤ length bytes)
    × (take count bytes ≡ whois_query bytes)
IsHead bytes (Http count) =
    (speaks_http bytes ≡ true) × (count ≤ length bytes) × (head_length bytes ≡ Some count)
IsHead bytes (Refused refusal) =
    (speaks_http bytes ≡ true) × (head_length bytes ≡ None)
    × (refusal ≡ unended (is_full bytes))

-- the head of a connection was read, and this stands there
abbrev pub FindsHead : Told → Told → List ℕ → Head → Type 0
FindsHead old new bytes head = (at_end : Bool) × ReadsHead old new bytes at_end × IsHead bytes head

-- what is wanted by the head of a connection, once enough of it was read to know that, is wanted by
-- all that the connection gives, whatever may follow. The head has at most 8,192 bytes. Where the
-- input ended with it, nothing follows
abbrev pub WantsByItsHead : Type 0
WantsByItsHead =
    (head more : List ℕ) (at_end : Bool) (wants : Wants) → length head ≤ HEAD_LIMIT
    → IsDecided head at_end → (IsTrue at_end → more ≡ [])
    → HeadWants (speaks_http head) head (is_full head) wants → IsWanted (head ++ more) wants
