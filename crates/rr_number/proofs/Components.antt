-- The components of a text: cut off at the first colon, joined again, and in upper case. For the
-- names of sets and their parents.
use Rattle.std.proofs.Common.{◌≡◌, ℕ, ◌+◌, ◌<◌, ◌≤◌, ◌==◌, Bool, true, false, not, cond, List, []}
use Rattle.std.proofs.Common.{◌∷◌, ◌++◌, length, length-append, map, suc, Some, None, nat_lt, refl}
use Rattle.std.proofs.Common.{ap, ◌∙◌, arith}
use Rattle.std.proofs.lemmas.Bool.Decides.{nat_tests}
use Rattle.std.proofs.lemmas.List.Splits.{slice_split_first}
use Rattle.std.proofs.lemmas.Option.{cond_some}
use Rattle.std.specs.Char.{to_ascii_uppercase}
use Rattle.std.specs.List.{before_first, after_first, position_or_len, slice_split, onto_first}
use Rattle.std.specs.List.{join_with_byte}
use Rattle.rr_bytes.specs.Cuts.{cut_at}
use Rattle.rr_bytes.specs.LetterCase.{upper}
use Rattle.rr_number.specs.SetNames.{components}
use Rattle.rr_bytes.proofs.CutLemmas.{cut_at-joined, lacks}

-- before a colon stands the first component
pub components-cut : (text before after : List ℕ) → cut_at 58 text ≡ Some (before, after) →
    components text ≡ before ∷ components after
unfolding cut_at
components-cut text before after cut =
    let parts = cond_some (nat_lt (position_or_len (λ b. b == 58) text) (length text)) _ _ cut in
    let inside : position_or_len (λ b. b == 58) text < length text =
    grind (arith, nat_tests, parts.0) in
    let prefix : before_first (λ b. b == 58) text ≡ before = ap (λ pair. pair.0) parts.1 in
    let back : after_first (λ b. b == 58) text ≡ after = ap (λ pair. pair.1) parts.1 in
    slice_split_first (λ b. b == 58) text 0 inside
    ∙ ap (λ t. t ∷ components (after_first (λ b. b == 58) text)) prefix
    ∙ ap (λ t. before ∷ components t) back

-- a text in which nothing is found is one part
split_past_first : (t u : Bool) (x : ℕ) (xs : List ℕ) (parts : List (List ℕ)) (k : ℕ) → u ≡ not t →
    suc (length xs) ≤ cond u (1 + k) 0 → (length xs ≤ k → parts ≡ xs ∷ []) → cond t ([] ∷ parts)
    (onto_first x parts) ≡ (x ∷ xs) ∷ []
split_past_first true true x xs parts k same past rest = absurd (cc)
split_past_first true false x xs parts k same past rest = absurd (omega arith)
split_past_first false true x xs parts k same past rest = ap (onto_first x) (rest (omega arith))
split_past_first false false x xs parts k same past rest = absurd (cc)

split_past : (p : ℕ → Bool) (xs : List ℕ) → length xs ≤ position_or_len p xs → slice_split p xs
    ≡ xs ∷ []
split_past p [] past = refl
split_past p (x ∷ xs) past = split_past_first (p x) (not (p x)) x xs (slice_split p xs)
    (position_or_len p xs) refl past (split_past p xs)

-- without a colon the text is the one component
pub components-uncut : (text : List ℕ) → cut_at 58 text ≡ None → components text ≡ text ∷ []
unfolding cut_at
components-uncut text uncut =
    let past : length text ≤ position_or_len (λ b. b == 58) text = grind (arith, nat_tests) in
    split_past (λ b. b == 58) text past

-- each of these texts has no colon
abbrev pub EachLacks : List (List ℕ) → Type 0
EachLacks [] = Unit {0}
EachLacks (c ∷ cs) = (lacks 58 c ≡ true) × EachLacks cs

lacks-cons : (t : Bool) (b : ℕ) (bs : List ℕ) → (b == 58) ≡ t → lacks 58 (b ∷ bs) ≡ true →
    (t ≡ false) × (lacks 58 bs ≡ true)
lacks-cons true b bs is none = absurd (grind (arith, nat_tests))
lacks-cons false b bs is none = (refl, grind (arith, nat_tests))

-- a text without a colon before one is the first component
pub components-colon : (before after : List ℕ) → lacks 58 before ≡ true →
    components (before ++ (58 ∷ after)) ≡ before ∷ components after
components-colon [] after none = refl
components-colon (b ∷ bs) after none =
    let parts = lacks-cons (b == 58) b bs refl none in
    rw (parts.0, components-colon bs after parts.1) refl

pub components-alone : (text : List ℕ) → lacks 58 text ≡ true → components text ≡ text ∷ []
components-alone [] none = refl
components-alone (b ∷ bs) none =
    let parts = lacks-cons (b == 58) b bs refl none in
    rw (parts.0, components-alone bs parts.1) refl

-- texts without a colon, joined by colons, are the components of the whole
pub components-join : (c : List ℕ) (cs : List (List ℕ)) → EachLacks (c ∷ cs) →
    components (join_with_byte 58 (c ∷ cs)) ≡ c ∷ cs
components-join c [] lack = components-alone c lack.0
components-join c (d ∷ ds) lack = components-colon c (join_with_byte 58 (d ∷ ds)) lack.0
    ∙ ap (λ t. c ∷ t) (components-join d ds lack.1)

first_part : (t : Bool) (b : ℕ) (cs : List (List ℕ)) → (c : List ℕ) × (ds : List (List ℕ))
    × (cond t ([] ∷ cs) (onto_first b cs) ≡ c ∷ ds)
first_part true b cs = ([], cs, refl)
first_part false b [] = (b ∷ [], [], refl)
first_part false b (d ∷ ds) = (b ∷ d, ds, refl)

-- there is a first component
pub some_component : (text : List ℕ) → (c : List ℕ) × (cs : List (List ℕ))
    × (components text ≡ c ∷ cs)
some_component [] = ([], [], refl)
some_component (b ∷ bs) = first_part (b == 58) b (components bs)

lacks-cons_other : (b : ℕ) (bs : List ℕ) → (b == 58) ≡ false → lacks 58 bs ≡ true →
    lacks 58 (b ∷ bs) ≡ true
lacks-cons_other b bs other none = rw (other, none) refl

first_lacks : (t : Bool) (b : ℕ) (cs : List (List ℕ)) → (b == 58) ≡ t → EachLacks cs →
    EachLacks (cond t ([] ∷ cs) (onto_first b cs))
first_lacks true b cs is lack = (refl, lack)
first_lacks false b [] is lack = (lacks-cons_other b [] is refl, tt)
first_lacks false b (d ∷ ds) is lack = (lacks-cons_other b d is lack.0, lack.1)

-- the components have no colon
pub EachLacks-components : (text : List ℕ) → EachLacks (components text)
EachLacks-components [] = (refl, tt)
EachLacks-components (b ∷ bs) = first_lacks (b == 58) b (components bs) refl
    (EachLacks-components bs)

upper_byte-colon : (b : ℕ) → (to_ascii_uppercase b == 58) ≡ (b == 58)
upper_byte-colon b = grind (arith, nat_tests)

first-upper : (t : Bool) (b : ℕ) (cs : List (List ℕ)) → cond t ([] ∷ map upper cs)
    (onto_first (to_ascii_uppercase b) (map upper cs)) ≡ map upper
    (cond t ([] ∷ cs) (onto_first b cs))
first-upper true b cs = refl
first-upper false b [] = refl
first-upper false b (d ∷ ds) = refl

-- upper case goes through the parts
pub components-upper : (text : List ℕ) → components (upper text) ≡ map upper (components text)
components-upper [] = refl
components-upper (b ∷ bs) = rw (upper_byte-colon b, components-upper bs)
    (first-upper (b == 58) b (components bs))

-- upper case brings no colon
pub lacks-upper : (text : List ℕ) → lacks 58 (upper text) ≡ lacks 58 text
lacks-upper [] = refl
lacks-upper (b ∷ bs) = rw (upper_byte-colon b, lacks-upper bs) refl

-- the text after a cut is shorter
pub length-cut : (text before after : List ℕ) → cut_at 58 text ≡ Some (before, after) →
    length after < length text
length-cut text before after cut =
    omega (arith, simp length-append at (ap length (cut_at-joined 58 text before after cut)))
