-- Lemmas on the reading of the head of a connection: its first line, and the head of a request.
use Rattle.std.proofs.Common.{◌≡◌, ℕ, ◌+◌, ◌<◌, ◌≤◌, ◌⊎◌, inl, inr, Bool, true, false, List, []}
use Rattle.std.proofs.Common.{◌∷◌, ◌++◌, length, take, drop, map, Option, None, Some, Result, Ok}
use Rattle.std.proofs.Common.{Err, arith, refl, ap, sym, ◌∙◌, subst, length-take, length-take-le}
use Rattle.std.specs.Prelude.{IfSome, OnErr, is_some, position}
use Rattle.std.specs.Option.{option_map}
use Rattle.std.proofs.lemmas.Bool.{or_right}
use Rattle.std.proofs.lemmas.List.{length-map, take_all}
use Rattle.std.proofs.Math.Seq.{take-take}
use Rattle.rr_bytes.specs.Blanks.{is_line_feed}
use Rattle.rr_io.specs.Told.{Told}
use Rattle.rr_io.specs.Receiving.{Gives, IsSpent}
use Rattle.rr_io.proofs.Transfers.{Gives-then}
use Rattle.httparse.specs.Grammar.{RequestHead}
use Rattle.httparse.specs.Spans.{IsRequestAt, header_bytes, name_and_value, span_bytes}
use Rattle.httparse.specs.declared.spans.HeaderSpan.{HeaderSpan}
use Rattle.httparse.specs.declared.spans.RequestSpans.{RequestSpans}
use Rattle.rr_http.specs.declared.heads.Goal.TheVariants.{Line, EmptyLine}
use Rattle.rr_http.specs.declared.heads.Head.{Head}
use Rattle.rr_http.specs.declared.heads.Head.TheVariants.{Whois}
use Rattle.rr_http.specs.AskedParts.{fields_of}
use Rattle.rr_http.specs.Heads.{has_line_feed, head_length}
use Rattle.rr_http.specs.HeadParts.{BreaksOn, ReadsOn, request_head}
use Rattle.rr_http.specs.Lines.{line_of, line_speaks_http, speaks_http, whois_query, without_return}
use Rattle.rr_http.specs.Requests.{Asks, asks_of}
use Rattle.rr_http.specs.Wants.{BreaksHead, FindsHead, IsHead, ReadsHead, RequestAsks, says_by}
use Rattle.rr_http.specs.Wants.{says_wants}
use Rattle.rr_http.proofs.WantLemmas.{head_has_feed, line_of_feed, line_of_on, one_more}
use Rattle.rr_http.proofs.WantLemmas.{speaks_http-append}
use Rattle.rr_http.proofs.SeenLemmas.{line_here, line_on, line_apart, place_within}

pub on_err : {T E : Type 0} (r : Result T E) (P : Type 0) → P → OnErr r P
on_err (Ok t) P p = tt
on_err (Err e) P p = p

-- the first LF of a text stands there
pub record FeedAt (text : List ℕ) (end : ℕ) : Type 0 where
  pub has : has_line_feed text ≡ true
  pub line : line_of text ≡ take end text
  pub before : has_line_feed (take end text) ≡ false

feed_step : (b : ℕ) (bs : List ℕ) (end : ℕ) (t : Bool) (found : Option ℕ) → is_line_feed b ≡ t →
    position is_line_feed bs ≡ found →
    ((n : ℕ) → position is_line_feed bs ≡ Some n → FeedAt bs n) → position is_line_feed (b ∷ bs)
    ≡ Some end → FeedAt (b ∷ bs) end
feed_step b bs end true found e p rec h =
    let here = line_here b bs e in
    let none : end ≡ 0 = cc in
    subst (λ n. FeedAt (b ∷ bs) n) (sym none)
    (record { has = rw e refl; line = line_of_feed b bs e; before = refl })
feed_step b bs end false None e p rec h =
    let on = line_on b bs e ∙ ap (λ found. option_map (λ n. 1 + n) found) p in cc
feed_step b bs end false (Some n) e p rec h =
    let on = line_on b bs e ∙ ap (λ found. option_map (λ n. 1 + n) found) p in
    let is : end ≡ 1 + n = cc in
    let at = rec n p in
    subst (λ n. FeedAt (b ∷ bs) n) (sym is) (record {
      has = or_right (is_line_feed b) (has_line_feed bs) at.has;
      line = line_of_on b bs e ∙ (ap (λ xs. b ∷ xs) at.line ∙ sym (one_more b bs n));
      before = ap has_line_feed (one_more b bs n) ∙ rw e at.before;
    })

pub feed_found : (text : List ℕ) (end : ℕ) → position is_line_feed text ≡ Some end → FeedAt text end
feed_found [] end h = cc
feed_found (b ∷ bs) end h = feed_step b bs end (is_line_feed b) (position is_line_feed bs) refl
    refl (λ n e. feed_found bs n e) h

-- a text without an LF
pub no_feed : (text : List ℕ) → position is_line_feed text ≡ None → has_line_feed text ≡ false
no_feed [] e = refl
no_feed (b ∷ bs) e = let apart = line_apart b bs (is_line_feed b) refl e in
    rw apart.0 (no_feed bs apart.1)

feed_apart : (b : ℕ) (bs : List ℕ) (t : Bool) → is_line_feed b ≡ t → has_line_feed (b ∷ bs)
    ≡ false → (is_line_feed b ≡ false) × (has_line_feed bs ≡ false)
feed_apart b bs true e h = let g = rw e at h in cc
feed_apart b bs false e h = let g = rw e at h in (e, g)

pub line_whole : (text : List ℕ) → has_line_feed text ≡ false → line_of text ≡ text
line_whole [] h = refl
line_whole (b ∷ bs) h = let apart = feed_apart b bs (is_line_feed b) refl h in
    line_of_on b bs apart.0 ∙ ap (λ xs. b ∷ xs) (line_whole bs apart.1)

no_head_found : (text : List ℕ) (found : Option ℕ) → head_length text ≡ found → has_line_feed text
    ≡ false → found ≡ None
no_head_found text None e h = refl
no_head_found text (Some n) e h = let feed = head_has_feed text (ap is_some e) in cc

-- and so without a head
pub no_head : (text : List ℕ) → has_line_feed text ≡ false → head_length text ≡ None
no_head text h = no_head_found text (head_length text) refl h

-- a line without an LF is all of the text
pub lone_refused : (text : List ℕ) → has_line_feed text ≡ false → line_speaks_http text ≡ true →
    IsHead text (request_head (length text) None)
lone_refused text h speaks = (
  ap line_speaks_http (line_whole text h) ∙ speaks,
  no_head text h,
  refl,
)

pub lone_whois : (text : List ℕ) → has_line_feed text ≡ false → line_speaks_http text ≡ false →
    IsHead text (Whois (length text))
lone_whois text h speaks =
    let all : take (length text) text ≡ text = take_all (length text) text (omega arith) in (
      ap line_speaks_http (line_whole text h) ∙ speaks,
      omega arith,
      all ∙ rw h (sym (line_whole text h)),
    )

-- what was read is settled by what it says, or because it is full or the input ended
head_settled : (old new : Told) (bytes : List ℕ) → Gives old new bytes → length bytes ≤ 8192 →
    (says_wants bytes ≡ true) ⊎ ((length bytes ≡ 8192) ⊎ IsSpent new) →
    (at_end : Bool) × ReadsHead old new bytes at_end
head_settled old new bytes gives short (inl says) = (
  false,
  record {
    gives = gives;
    short = short;
    settled = inl says;
    spent = λ over. let none :
        false ≡ true = over in cc;
  },
)
head_settled old new bytes gives short (inr (inl full)) = (
  false,
  record {
    gives = gives;
    short = short;
    settled = inr (inl full);
    spent = λ over.
        let none : false ≡ true = over in cc;
  },
)
head_settled old new bytes gives short (inr (inr spent)) =
    (true, record { gives = gives; short = short; settled = inr (inr refl); spent = λ over. spent })

found_settled : (old new : Told) (bytes : List ℕ) (head : Head) → Gives old new bytes →
    length bytes ≤ 8192 →
    (says_wants bytes ≡ true) ⊎ ((length bytes ≡ 8192) ⊎ IsSpent new) → IsHead bytes head →
    FindsHead old new bytes head
found_settled old new bytes head gives short settled is = let read = head_settled old new bytes
    gives short settled in (read.0, read.1, is)

-- the first line of a buffer of which so many bytes were read
pub line_in : (buf : List ℕ) (count end : ℕ) → Some end ≡ position is_line_feed (take count buf) →
    take end (take count buf) ≡ take end buf
line_in buf count end at =
    let within : IfSome (Some end) (λ place. place ≤ length (take count buf)) =
    subst (λ found. IfSome found (λ place. place ≤ length (take count buf))) (sym at)
    (place_within Line (take count buf)) in
    take-take end count buf (let short : end ≤ length (take count buf) = within in
    omega (arith, length-take count buf))

-- no head of a request is whole in it
pub none_in_line : (buf : List ℕ) (count end : ℕ) → Some end ≡ position is_line_feed
    (take count buf) → head_length (take end buf) ≡ None
none_in_line buf count end at =
    ap head_length (sym (line_in buf count end at)) ∙ no_head (take end (take count buf))
    (feed_found (take count buf) end (sym at)).before

-- a line that no LF ends
pub lone_found : (old new : Told) (room : ℕ) (buf : List ℕ) (count : ℕ) (place : Option ℕ)
    (head : Head) → room ≡ 8192 → place ≡ None →
    ReadsOn Line room old new [] (take count buf) place → count ≤ room → IsHead (take count buf)
    head → FindsHead old new (take count buf) head
lone_found old new room buf count place head e none reads within is =
    let joined : take count buf ≡ reads.more = reads.joined in
    let short : length (take count buf) ≤ 8192 = omega (arith, length-take count buf) in
    found_settled old new (take count buf) head (subst (λ xs. Gives old new xs) (sym joined)
    reads.gives) short
    (inr (subst (λ n. (length (take count buf) ≡ n) ⊎ IsSpent new) e (reads.enough none))) is

-- a line by whois
pub line_found : (old new : Told) (room : ℕ) (buf : List ℕ) (count : ℕ) (place : Option ℕ)
    (end query : ℕ) → room ≡ 8192 → place ≡ Some end →
    ReadsOn Line room old new [] (take count buf) place → count ≤ room →
    line_speaks_http (take end buf) ≡ false → query ≤ length (take end buf) →
    take query (take end buf) ≡ without_return (take end buf) → FindsHead old new (take count buf)
    (Whois query)
line_found old new room buf count place end query e is reads within speaks inner cut =
    let bytes = take count buf in
    let joined : bytes ≡ reads.more = reads.joined in
    let place_is : Some end ≡ position is_line_feed bytes = sym is ∙ reads.is_place in
    let line : take end bytes ≡ take end buf = line_in buf count end place_is in
    let at = feed_found bytes end (sym place_is) in
    let short : length bytes ≤ 8192 = omega (arith, length-take count buf) in
    let is_whois : speaks_http bytes ≡ false = ap line_speaks_http (at.line ∙ line) ∙ speaks in
    let says : says_wants bytes ≡ true = ap (λ b. says_by b bytes) is_whois ∙ at.has in
    let same_length : length (take end bytes) ≡ length (take end buf) =
    ap (λ (xs : List ℕ). length xs) line in
    let below : query ≤ end = omega (arith, length-take end buf) in
    let outer : query ≤ length bytes = omega (arith, length-take end bytes) in
    let asked : whois_query bytes ≡ without_return (take end buf) =
    rw at.has (ap without_return (at.line ∙ line)) in
    let same : take query bytes ≡ take query (take end buf) = sym (take-take query end bytes below)
    ∙ ap (take query) line in
    found_settled old new bytes (Whois query) (subst (λ xs. Gives old new xs) (sym joined)
    reads.gives) short (inl says)
    (is_whois, outer, same ∙ (cut ∙ sym asked))

-- by HTTP, the head of a request, or none that is whole
request_found : (old new : Told) (bytes : List ℕ) (place : Option ℕ) → Gives old new bytes →
    length bytes ≤ 8192 → speaks_http bytes ≡ true → place ≡ head_length bytes →
    (place ≡ None → (length bytes ≡ 8192) ⊎ IsSpent new) → FindsHead old new bytes
    (request_head (length bytes) place)
request_found old new bytes None gives short speaks is enough = found_settled old new bytes
    (request_head (length bytes) None) gives short (inr (enough refl)) (speaks, sym is, refl)
request_found old new bytes (Some place) gives short speaks is enough =
    let says : says_wants bytes ≡ true = ap (λ b. says_by b bytes) speaks ∙ ap is_some (sym is) in
    let within : IfSome (Some place) (λ n. n ≤ length bytes) =
    subst (λ found. IfSome found (λ n. n ≤ length bytes)) (sym is)
    (place_within EmptyLine bytes) in
    found_settled old new bytes (request_head (length bytes) (Some place)) gives short (inl says)
    (speaks, within, sym is)

pub head_found : (old middle new : Told) (room wide : ℕ) (first buf : List ℕ) (few count end : ℕ)
    (line place : Option ℕ) → room ≡ 8192 → wide ≡ 8192 → line ≡ Some end →
    ReadsOn Line room old middle [] (take few first) line → line_speaks_http (take end first)
    ≡ true →
    ReadsOn EmptyLine wide middle new (take few first) (take count buf) place → count ≤ wide →
    count ≤ length buf →
    FindsHead old new (take count buf) (request_head count place)
head_found old middle new room wide first buf few count end line place e f is reads speaks head
    within inside =
    let place_is : Some end ≡ position is_line_feed (take few first) = sym is ∙ reads.is_place in
    let at = feed_found (take few first) end (sym place_is) in
    let same : take few first ≡ reads.more = reads.joined in
    let both : take few first ++ head.more ≡ take count buf = sym head.joined in
    let by_http : speaks_http (take count buf) ≡ true = ap speaks_http (sym both)
    ∙ (speaks_http-append (take few first) head.more at.has
    ∙ (ap line_speaks_http (at.line ∙ line_in first few end place_is) ∙ speaks)) in
    let given : Gives old middle (take few first) = subst (λ xs. Gives old middle xs) (sym same)
    reads.gives in
    let many : length (take count buf) ≡ count = length-take-le count buf inside in
    let short : length (take count buf) ≤ 8192 = omega (arith, length-take count buf) in
    subst (λ n. FindsHead old new (take count buf) (request_head n place)) many
    (request_found old new (take count buf) place
    (subst (λ xs. Gives old new xs) both (Gives-then _ _ given head.gives)) short by_http
    head.is_place
    (subst (λ n. place ≡ None → (length (take count buf) ≡ n) ⊎ IsSpent new) f head.enough))

unsaid_line : (speaks : Bool) (bytes : List ℕ) → has_line_feed bytes ≡ false → says_by speaks bytes
    ≡ false
unsaid_line true bytes h = ap is_some (no_head bytes h)
unsaid_line false bytes h = h

-- a read of the line failed
pub line_broken : (old new : Told) (room : ℕ) → room ≡ 8192 → BreaksOn Line room old new [] →
    BreaksHead old new
line_broken old new room e broken = (
  broken.0,
  broken.1,
  record {
    unsaid = unsaid_line (speaks_http broken.0) broken.0 (no_feed broken.0 broken.2.unreached);
    room_left = subst (λ n. length broken.0 < n) e broken.2.room_left;
  },
)

-- the line was read, and a read of the head of the request failed
pub head_broken : (old middle new : Told) (room wide : ℕ) (first : List ℕ) (few end : ℕ)
    (line : Option ℕ) → room ≡ 8192 → wide ≡ 8192 → line ≡ Some end →
    ReadsOn Line room old middle [] (take few first) line → line_speaks_http (take end first)
    ≡ true → BreaksOn EmptyLine wide middle new (take few first) → BreaksHead old new
head_broken old middle new room wide first few end line e f is reads speaks broken =
    let place_is : Some end ≡ position is_line_feed (take few first) = sym is ∙ reads.is_place in
    let at = feed_found (take few first) end (sym place_is) in
    let same : take few first ≡ reads.more = reads.joined in
    let given : Gives old middle (take few first) = subst (λ xs. Gives old middle xs) (sym same)
    reads.gives in
    let by_http : speaks_http (take few first ++ broken.0) ≡ true =
    speaks_http-append (take few first) broken.0 at.has
    ∙ (ap line_speaks_http (at.line ∙ line_in first few end place_is) ∙ speaks) in (
      take few first ++ broken.0,
      record {
        between = broken.1.between;
        gives = Gives-then _ _ given broken.1.gives;
        fails =
            broken.1.fails;
      },
      record {
        unsaid = ap (λ b. says_by b (take few first ++ broken.0)) by_http ∙ ap is_some
            broken.2.unreached;
        room_left = subst (λ n. length (take few first ++ broken.0) < n) f broken.2.room_left;
      },
    )

-- what was parsed is what is asked
pub parsed_asks : (head : List ℕ) (headers : List HeaderSpan) (spans : RequestSpans)
    (h : RequestHead) (method target : List ℕ) (asks : Asks) →
    IsRequestAt head headers spans h → length headers ≡ 64 → method ≡ span_bytes head spans.method
    → target ≡ span_bytes head spans.path →
    asks ≡ asks_of method target (fields_of head (take spans.headers headers)) →
    RequestAsks head asks
parsed_asks head headers spans h method target asks at room m t is =
    let fields : map (header_bytes head) (take spans.headers headers) ≡ map name_and_value h.fields
    = at.fields in
    let count : length (take spans.headers headers) ≡ length h.fields =
    sym (length-map (take spans.headers headers) (header_bytes head))
    ∙ (ap (λ parts. length parts) fields ∙ length-map h.fields name_and_value) in
    let few : length (take spans.headers headers) ≤ 64 =
    omega (arith, length-take spans.headers headers) in (
      Some h,
      (drop spans.len head, at.reads, subst (λ n. n ≤ 64) count few),
      is ∙ (ap (λ xs. asks_of xs target (fields_of head (take spans.headers headers)))
          (m ∙ at.method)
          ∙ (ap (λ xs. asks_of h.method xs (fields_of head (take spans.headers headers)))
          (t ∙ at.path) ∙ ap (asks_of h.method h.target) fields)),
    )
