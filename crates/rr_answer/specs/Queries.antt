-- What a query asks for: for `find_for`, by `Answers`, and for `is_too_long`.
use Rattle.std.specs.Prelude.{ℕ, Bool, ◌||◌, List, [], ◌∷◌, length, nat_lt, codes}
use Rattle.std.specs.Prelude.{Option, None, Some, Result, Ok, Err, if◌then◌else◌}
use Rattle.std.specs.List.{list_any}
use Rattle.std.specs.Option.{option_and_then, option_map, option_or}
use Rattle.rr_bytes.specs.Blanks.{is_line_feed}
use Rattle.rr_bytes.specs.LetterCase.{is_keyword, lowered}
use Rattle.rr_bytes.specs.Parts.{joined_by_space, words}
use Rattle.rr_text.specs.Bytes.{is_refused}
use Rattle.rr_number.specs.Addresses.{address_of}
use Rattle.rr_number.specs.AsNumbers.{as_number_of}
use Rattle.rr_number.specs.Names.{maintainer_name_of}
use Rattle.rr_number.specs.Prefixes.{PrefixParts, masked, prefix_of}
use Rattle.rr_number.specs.SetNames.{set_name_of}
use Rattle.rr_object.specs.declared.class.Class.TheVariants as class
use Rattle.rr_object.specs.declared.key.Key.{Key}
use Rattle.rr_object.specs.Classes.{class_named}
use Rattle.rr_object.specs.Items.{only}
use Rattle.rr_object.specs.KeySpellings.{key_of_text}
use Rattle.rr_answer.specs.declared.query_fault.QueryFault.{QueryFault}
use Rattle.rr_answer.specs.declared.query_fault.QueryFault.TheVariants.{Bad, TooLong}
use Rattle.rr_answer.specs.declared.query.Query.{Query}
use Rattle.rr_answer.specs.declared.query.Query.TheVariants.{Object, Exact, Closest, Less, More}
use Rattle.rr_answer.specs.declared.query.Query.TheVariants.{Naming, Originated, Expand, Prefixes}

-- The most bytes of a query (profile).
abbrev pub query_limit : ℕ
query_limit = 1024

-- A query of more than 1,024 bytes is too long (profile).
abbrev pub is_too_long : List ℕ → Bool
is_too_long text = nat_lt query_limit (length text)

-- The bytes that stand in no line of an object, and the LF, stand in no query (profile).
abbrev pub is_unreadable : ℕ → Bool
is_unreadable b = is_line_feed b || is_refused b

-- A prefix, or an address, which stands for the prefix of it alone (profile).
abbrev pub prefix_spelled : List ℕ → Option PrefixParts
prefix_spelled word =
    option_or (prefix_of word) (option_map (λ address. masked address 32) (address_of word))

-- The words of a key, joined by one space, spell it as a text does; letter case is ignored in the
-- class too. There is none if no class has this name (profile).
abbrev pub key_of_words : List ℕ → List (List ℕ) → Option Key
key_of_words class others = option_and_then (λ found. key_of_text found (joined_by_space others))
    (class_named (lowered class))

-- The key of an as-set, or else of a route-set (RFC 2622, 5).
abbrev pub set_key_of : List ℕ → Option Key
set_key_of word = option_or (key_of_text class.AsSet word) (key_of_text class.RouteSet word)

-- One word is tried as an AS number, as a prefix or an address, as a set's name and as a
-- maintainer's, in this order (profile).
abbrev pub query_of_word : List ℕ → Option Query
query_of_word word =
    option_or (option_map Object (key_of_text class.AutNum word))
    (option_or (option_map Closest (prefix_spelled word))
    (option_or (option_map Object (set_key_of word))
    (option_map Object (key_of_text class.Mntner word))))

-- Two words say what is asked, and of which prefix (`exact`, `closest`, `less`, `more`) or set
-- (`expand`, `prefixes`); no others are a query (profile).
abbrev pub query_of_two : List ℕ → List ℕ → Option Query
query_of_two verb word =
    if is_keyword (codes "exact") verb then option_map Exact (prefix_spelled word)
    else if is_keyword (codes "closest") verb then option_map Closest (prefix_spelled word)
    else if is_keyword (codes "less") verb then option_map Less (prefix_spelled word)
    else if is_keyword (codes "more") verb then option_map More (prefix_spelled word)
    else if is_keyword (codes "expand") verb then option_map Expand (set_name_of word)
    else if is_keyword (codes "prefixes") verb then option_map Prefixes (set_name_of word)
    else None

-- A query for the objects that name a maintainer (`mnt`), or for the routes of an origin (`origin`)
-- (profile).
abbrev pub inverse_of : List ℕ → List ℕ → Option Query
inverse_of attribute word =
    if is_keyword (codes "mnt") attribute then option_map Naming (maintainer_name_of word)
    else if is_keyword (codes "origin") attribute then option_map Originated (as_number_of word)
    else None

-- Three words and more ask for an object by its class and key (`object`). Exactly three ask for the
-- objects that name a maintainer, or for the routes of an origin (`inverse`) (profile).
unfoldable pub query_of_more : List ℕ → List ℕ → List (List ℕ) → Option Query
query_of_more verb second others =
    if is_keyword (codes "object") verb then option_map Object (key_of_words second others)
    else if is_keyword (codes "inverse") verb then option_and_then (inverse_of second) (only others)
    else None

-- The query of some words, if they are one (profile).
abbrev pub query_of_words : List (List ℕ) → Option Query
query_of_words [] = None
query_of_words (word ∷ []) = query_of_word word
query_of_words (verb ∷ (word ∷ [])) = query_of_two verb word
query_of_words (verb ∷ (second ∷ (third ∷ others))) =
    query_of_more verb second (third ∷ others)

-- A query, or the error that there is none (profile).
abbrev pub or_bad_query : Option Query → Result Query QueryFault
or_bad_query None = Err Bad
or_bad_query (Some query) = Ok query

-- The query that a text is, or its first error: it is too long, or no query can be read (profile).
unfoldable pub query_of : List ℕ → Result Query QueryFault
query_of text =
    if is_too_long text then Err TooLong
    else if list_any is_unreadable text then Err Bad
    else or_bad_query (query_of_words (words text))
