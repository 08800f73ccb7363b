-- Lemmas on a text that is looked at as it grows: of what was seen, the last two bytes alone are
-- looked at again.
use Rattle.std.proofs.Common.{◌≡◌, ℕ, zero, suc, ◌+◌, ◌-◌, ◌<◌, ◌≤◌, Bool, true, false, cond, ◌&&◌}
use Rattle.std.proofs.Common.{List, [], ◌∷◌, length, take, drop, Option, None, Some, arith, refl}
use Rattle.std.proofs.Common.{ap, sym, ◌∙◌}
use Rattle.std.specs.Prelude.{nat_lt, position, IfSome}
use Rattle.std.specs.List.{position_or_len}
use Rattle.std.specs.Option.{option_map}
use Rattle.std.proofs.lemmas.Bool.{le-ltb, lt-ltb, ltb-true, ltb-false}
use Rattle.rr_bytes.specs.Blanks.{is_line_feed}
use Rattle.rr_http.specs.declared.heads.Goal.{Goal}
use Rattle.rr_http.specs.declared.heads.Goal.TheVariants.{Line, EmptyLine}
use Rattle.rr_http.specs.HeadParts.{goal_place}
use Rattle.rr_http.specs.Heads.{head_length, line_end}
use Rattle.rr_http.proofs.WantLemmas.{head_at, head_after, head_within}

-- a text of no bytes has nothing that it is read for
pub none_reached : (goal : Goal) → goal_place goal [] ≡ None
unfolding head_length
none_reached Line = refl
none_reached EmptyLine = refl

unmapped : (k : ℕ) (found : Option ℕ) → option_map (λ n. k + n) found ≡ None → found ≡ None
unmapped k None e = refl
unmapped k (Some n) e = cc

mapped_zero : (found : Option ℕ) → found ≡ option_map (λ n. 0 + n) found
mapped_zero None = refl
mapped_zero (Some n) = ap Some (let e : n ≡ 0 + n = omega arith in e)

none_mapped : (k : ℕ) (found : Option ℕ) → found ≡ None → found ≡ option_map (λ n. k + n) found
none_mapped k found e = rw e refl

mapped_twice : (k : ℕ) (found : Option ℕ) → option_map (λ n. 1 + n) (option_map (λ n. k + n) found)
    ≡ option_map (λ n. suc k + n) found
mapped_twice k None = refl
mapped_twice k (Some n) = ap Some (let e : 1 + (k + n) ≡ suc k + n = omega arith in e)

-- the place of the first LF, by the first byte
pub line_here : (b : ℕ) (bs : List ℕ) → is_line_feed b ≡ true → position is_line_feed (b ∷ bs)
    ≡ Some 0
line_here b bs e =
    let at : position_or_len is_line_feed (b ∷ bs) ≡ 0 = rw e refl in
    let less : position_or_len is_line_feed (b ∷ bs) < length (b ∷ bs) = omega arith in
    rw (lt-ltb _ _ less) (ap Some at)

line_next : (b : ℕ) (bs : List ℕ) (t : Bool) → is_line_feed b ≡ false →
    nat_lt (position_or_len is_line_feed bs) (length bs) ≡ t →
    position is_line_feed (b ∷ bs) ≡ option_map (λ n. 1 + n)
    (cond t (Some (position_or_len is_line_feed bs)) None)
line_next b bs true e h =
    let on : position_or_len is_line_feed (b ∷ bs) ≡ 1 + position_or_len is_line_feed bs =
    rw e refl in
    let less : position_or_len is_line_feed (b ∷ bs) < length (b ∷ bs) =
    (let below = ltb-true _ _ h in omega arith) in
    rw (lt-ltb _ _ less) (ap Some on)
line_next b bs false e h =
    let on : position_or_len is_line_feed (b ∷ bs) ≡ 1 + position_or_len is_line_feed bs =
    rw e refl in
    let more : length (b ∷ bs) ≤ position_or_len is_line_feed (b ∷ bs) =
    (let above = ltb-false _ _ h in omega arith) in
    rw (le-ltb _ _ more) refl

pub line_on : (b : ℕ) (bs : List ℕ) → is_line_feed b ≡ false → position is_line_feed (b ∷ bs)
    ≡ option_map (λ n. 1 + n) (position is_line_feed bs)
line_on b bs e = line_next b bs (nat_lt (position_or_len is_line_feed bs) (length bs)) e refl

pub line_apart : (b : ℕ) (bs : List ℕ) (t : Bool) → is_line_feed b ≡ t → position is_line_feed
    (b ∷ bs) ≡ None → (is_line_feed b ≡ false) × (position is_line_feed bs ≡ None)
line_apart b bs true e h = let here = line_here b bs e in cc
line_apart b bs false e h = (e, unmapped 1 _ (sym (line_on b bs e) ∙ h))

line_seen : (k m : ℕ) (text : List ℕ) → k ≡ m - 2 → position is_line_feed (take m text) ≡ None →
    position is_line_feed text ≡ option_map (λ n. k + n) (position is_line_feed (drop k text))
line_seen zero m text e h = mapped_zero (position is_line_feed text)
line_seen (suc k) zero text e h = absurd (omega arith)
line_seen (suc k) (suc m) [] e h = refl
line_seen (suc k) (suc m) (b ∷ bs) e h =
    let apart = line_apart b (take m bs) (is_line_feed b) refl h in
    let fewer : k ≡ m - 2 = omega arith in
    line_on b bs apart.0
    ∙ (ap (λ found. option_map (λ n. 1 + n) found) (line_seen k m bs fewer apart.1)
    ∙ mapped_twice k (position is_line_feed (drop k bs)))

line_end_seen : (m : ℕ) (text : List ℕ) → 2 ≤ m → line_end (take m text) ≡ line_end text
line_end_seen zero text two = absurd (omega arith)
line_end_seen (suc zero) text two = absurd (omega arith)
line_end_seen (suc (suc m)) [] two = refl
line_end_seen (suc (suc m)) (b ∷ []) two = refl
line_end_seen (suc (suc m)) (b ∷ c ∷ cs) two = refl

head_apart : (b : ℕ) (bs : List ℕ) (t : Bool) → (is_line_feed b && nat_lt 0 (line_end bs)) ≡ t →
    head_length (b ∷ bs) ≡ None →
    ((is_line_feed b && nat_lt 0 (line_end bs)) ≡ false) × (head_length bs ≡ None)
head_apart b bs true e h = let here = head_at b bs e in cc
head_apart b bs false e h = (e, unmapped 1 _ (sym (head_after b bs e) ∙ h))

head_seen : (k m : ℕ) (text : List ℕ) → k ≡ m - 2 → head_length (take m text) ≡ None →
    head_length text ≡ option_map (λ n. k + n) (head_length (drop k text))
head_seen zero m text e h = mapped_zero (head_length text)
head_seen (suc k) zero text e h = absurd (omega arith)
head_seen (suc k) (suc m) [] e h = none_mapped (suc k) (head_length []) (none_reached EmptyLine)
head_seen (suc k) (suc m) (b ∷ bs) e h =
    let apart = head_apart b (take m bs) (is_line_feed b && nat_lt 0 (line_end (take m bs))) refl
    h in
    let same : line_end (take m bs) ≡ line_end bs =
    line_end_seen m bs (let two : 2 ≤ m = omega arith in two) in
    let passed : (is_line_feed b && nat_lt 0 (line_end bs)) ≡ false =
    ap (λ n. is_line_feed b && nat_lt 0 n) (sym same) ∙ apart.0 in
    let fewer : k ≡ m - 2 = omega arith in
    head_after b bs passed
    ∙ (ap (λ found. option_map (λ n. 1 + n) found) (head_seen k m bs fewer apart.1)
    ∙ mapped_twice k (head_length (drop k bs)))

-- what a text is read for stands in it where it stands after what was seen less two bytes
pub place_after_seen : (goal : Goal) (text : List ℕ) (seen from : ℕ) → from ≡ seen - 2 →
    goal_place goal (take seen text) ≡ None →
    goal_place goal text ≡ option_map (λ n. from + n) (goal_place goal (drop from text))
place_after_seen Line text seen from e h = line_seen from seen text e h
place_after_seen EmptyLine text seen from e h = head_seen from seen text e h

-- it stands within the text
mapped_within : (n : ℕ) (found : Option ℕ) → IfSome found (λ place. place ≤ n) →
    IfSome (option_map (λ place. 1 + place) found) (λ place. place ≤ suc n)
mapped_within n None h = tt
mapped_within n (Some place) h = omega arith

line_within : (text : List ℕ) → IfSome (position is_line_feed text) (λ place. place ≤ length text)
line_within [] = tt
line_within (b ∷ bs) = within_step (is_line_feed b) refl (line_within bs)
  where
    within_step : (t : Bool) → is_line_feed b ≡ t → IfSome (position is_line_feed bs)
        (λ place. place ≤ length bs) →
        IfSome (position is_line_feed (b ∷ bs)) (λ place. place ≤ length (b ∷ bs))
    within_step true e rec = rw (line_here b bs e) (omega arith)
    within_step false e rec = rw (line_on b bs e)
        (mapped_within (length bs) (position is_line_feed bs) rec)

pub place_within : (goal : Goal) (text : List ℕ) → IfSome (goal_place goal text)
    (λ place. place ≤ length text)
place_within Line text = line_within text
place_within EmptyLine text = head_within text
