-- The kind of a set's name, and letter case: for `laws`.
use Rattle.std.proofs.Common.{◌≡◌, ◌⊎◌, ⊎_elim, inl, inr, ℕ, Bool, true, false, ◌&&◌, ◌||◌, cond}
use Rattle.std.proofs.Common.{List, [], ◌∷◌, Some, None, Option, length, map, refl, ap, sym, ◌∙◌}
use Rattle.std.proofs.Common.{subst, arith}
use Rattle.std.proofs.lemmas.Bool.{and_parts, both_ways, or_cases}
use Rattle.std.proofs.lemmas.Bool.Decides.{nat_tests}
use Rattle.std.proofs.lemmas.List.{length-map}
use Rattle.std.specs.Char.{to_ascii_uppercase}
use Rattle.std.specs.Fmt.{decimal}
use Rattle.std.specs.List.{list_all, list_any, starts_with}
use Rattle.std.specs.Prelude.{is_some, nat_eq, nat_le}
use Rattle.std.specs.Str.{all_ascii_digits}
use Rattle.rr_number.specs.AsNumbers.{as_number_of, IsAsNumber}
use Rattle.rr_bytes.specs.LetterCase.{upper}
use Rattle.rr_bytes.specs.NameBytes.{is_name}
use Rattle.rr_number.specs.SetNames.{component_text, components, is_any_set, is_as_number}
use Rattle.rr_number.specs.SetNames.{is_component, is_name_of_kind, is_set_name, is_set_word}
use Rattle.rr_number.specs.SetNames.{kind_of, word_start, set_name_of, set_text, IsSetText}
use Rattle.rr_number.specs.declared.set_kind.SetKind.{SetKind}
use Rattle.rr_number.specs.declared.set_kind.SetKind.TheVariants.{AsSet, RouteSet}
use Rattle.rr_number.proofs.AsNumberLemmas.{as_number_of-bound, as_number_of-spelled}
use Rattle.rr_number.proofs.AsNumberLemmas.{IsAsNumber-printed}
use Rattle.rr_number.proofs.Components.{components-upper}
use Rattle.rr_number.proofs.ComponentTexts.{by_sort}
use Rattle.rr_number.proofs.NameLemmas.{upper-upper}
use Rattle.rr_number.proofs.SetNameLemmas.{components-set_text, or_left, or_right, set_text-upper}
use Rattle.rr_number.proofs.SetWords.{is_component-upper, is_set_word-upper, no_word_begins}

each-upper : (kind : SetKind) (cs : List (List ℕ)) → list_all (is_component kind) (map upper cs)
    ≡ list_all (is_component kind) cs
each-upper kind [] = refl
each-upper kind (c ∷ cs) = λ i. is_component-upper kind c i && each-upper kind cs i

some-upper : (kind : SetKind) (cs : List (List ℕ)) → list_any (is_set_word kind) (map upper cs)
    ≡ list_any (is_set_word kind) cs
some-upper kind [] = refl
some-upper kind (c ∷ cs) = λ i. is_set_word-upper kind c i || some-upper kind cs i

is_name_of_kind-upper : (kind : SetKind) (text : List ℕ) → is_name_of_kind kind (upper text)
    ≡ is_name_of_kind kind text
is_name_of_kind-upper kind text =
    ap (λ cs. list_all (is_component kind) cs && list_any (is_set_word kind) cs)
    (components-upper text)
    ∙ (λ i. each-upper kind (components text) i && some-upper kind (components text) i)

is_set_name-upper : (text : List ℕ) → is_set_name (upper text) ≡ is_set_name text
unfolding is_set_name
is_set_name-upper text =
    rw (
      length-map text to_ascii_uppercase,
      upper-upper text,
      is_name_of_kind-upper AsSet text,
      is_name_of_kind-upper RouteSet text,
    ) refl

pub set_name_of-upper : (text : List ℕ) → set_name_of (upper text) ≡ set_name_of text
set_name_of-upper text =
    ap (λ t. cond t (Some (set_text (upper text))) None) (is_set_name-upper text)
    ∙ ap (λ t. cond (is_set_name text) (Some t) None) (set_text-upper text)

pub set_name_of-case : (a b : List ℕ) → upper a ≡ upper b → set_name_of a ≡ set_name_of b
set_name_of-case a b same = sym (set_name_of-upper a) ∙ ap set_name_of same ∙ set_name_of-upper b

pub set_name_of-again : (name : List ℕ) → IsSetText name → set_name_of name ≡ Some name
set_name_of-again name is =
    ap (λ t. cond t (Some (set_text name)) None) is.spelled ∙ ap Some is.printed

chosen_text : (t : Bool) (text name : List ℕ) → cond t (Some (set_text text)) None ≡ Some name →
    set_text text ≡ name
chosen_text true text name found = cc
chosen_text false text name found = absurd (cc)

pub components-read : (text name : List ℕ) → set_name_of text ≡ Some name → components name
    ≡ map component_text (components text)
components-read text name found =
    ap components (sym (chosen_text (is_set_name text) text name found)) ∙ components-set_text text

digits_stay : (ds : List ℕ) → all_ascii_digits ds ≡ true → upper ds ≡ ds
digits_stay [] digits = refl
digits_stay (d ∷ ds) digits =
    let same : to_ascii_uppercase d ≡ d = grind (arith, nat_tests) in
    let rest : all_ascii_digits ds ≡ true = grind (arith, nat_tests) in
    λ i. same i ∷ digits_stay ds rest i

-- what is printed is in upper case
upper-component_text : (c : List ℕ) → upper (component_text c) ≡ component_text c
upper-component_text c =
    by_sort (λ t. upper t ≡ t) c
    (λ n is. ap (λ ds. 65 ∷ 83 ∷ ds)
    (digits_stay (decimal n) (IsAsNumber-printed n (as_number_of-bound c n is)).number.digits))
    (λ none. upper-upper c)

-- a component that is its own printed text is in upper case
in_upper_case : (c : List ℕ) → component_text c ≡ c → upper c ≡ c
in_upper_case c printed = subst (λ (t : List ℕ). upper t ≡ t) printed (upper-component_text c)

-- no text begins as both kinds do
clash : (text : List ℕ) → starts_with nat_eq text (word_start RouteSet) ≡ true →
    starts_with nat_eq text (word_start AsSet) ≡ false
clash [] begins = absurd (cc)
clash (x ∷ xs) begins =
    let first : nat_eq 82 x ≡ true = (and_parts (nat_eq 82 x) _ begins).0 in
    let other : nat_eq 65 x ≡ false = grind (arith, nat_tests) in
    rw other refl

start_of_word : (kind : SetKind) (c : List ℕ) → component_text c ≡ c → is_set_word kind c ≡ true →
    starts_with nat_eq c (word_start kind) ≡ true
start_of_word kind c printed word =
    let begins = (and_parts (starts_with nat_eq (upper c) (word_start kind)) _
    (and_parts (is_name c) _ word).1).0 in
    subst (λ (t : List ℕ). starts_with nat_eq t (word_start kind) ≡ true) (in_upper_case c printed)
    begins

no_as_start : (c : List ℕ) (o : Option ℕ) → as_number_of c ≡ o → component_text c ≡ c →
    is_component RouteSet c ≡ true → starts_with nat_eq c (word_start AsSet) ≡ false
no_as_start c (Some n) read printed is =
    let number : IsAsNumber c n = as_number_of-spelled c n read in
    subst (λ (t : List ℕ). starts_with nat_eq t (word_start AsSet) ≡ false)
    (in_upper_case c printed) (no_word_begins AsSet c number.begins number.number.digits
    number.number.some)
no_as_start c None read printed is =
    ⊎_elim
    (λ number. absurd (both_ways (is_as_number c) (ap is_some read) number))
    (λ word. clash c (start_of_word RouteSet c printed word))
    (or_cases (is_as_number c) (is_set_word RouteSet c) is)

tails_printed : (c : List ℕ) (cs : List (List ℕ)) → map component_text (c ∷ cs) ≡ c ∷ cs →
    (component_text c ≡ c) × (map component_text cs ≡ cs)
tails_printed c cs printed = (cc, cc)

-- a set's word shows its kind
has_as_start : (cs : List (List ℕ)) → map component_text cs ≡ cs → list_any (is_set_word AsSet) cs
    ≡ true → list_any (λ c. starts_with nat_eq c (word_start AsSet)) cs ≡ true
has_as_start [] printed some = some
has_as_start (c ∷ cs) printed some =
    let parts = tails_printed c cs printed in
    ⊎_elim
    (λ word. or_left (starts_with nat_eq c (word_start AsSet)) _
    (start_of_word AsSet c parts.0 word))
    (λ later. or_right (starts_with nat_eq c (word_start AsSet)) _ (has_as_start cs parts.1 later))
    (or_cases (is_set_word AsSet c) (list_any (is_set_word AsSet) cs) some)

has_no_as_start : (cs : List (List ℕ)) → map component_text cs ≡ cs →
    list_all (is_component RouteSet) cs ≡ true →
    list_any (λ c. starts_with nat_eq c (word_start AsSet)) cs ≡ false
has_no_as_start [] printed all = refl
has_no_as_start (c ∷ cs) printed all =
    let parts = tails_printed c cs printed in
    let each = and_parts (is_component RouteSet c) (list_all (is_component RouteSet) cs) all in
    rw (no_as_start c (as_number_of c) refl parts.0 each.0) (has_no_as_start cs parts.1 each.1)

kinds_of_name : (name : List ℕ) → is_set_name name ≡ true → (is_any_set name ≡ true)
    ⊎ ((is_name_of_kind AsSet name ≡ true) ⊎ (is_name_of_kind RouteSet name ≡ true))
unfolding is_set_name
kinds_of_name name named =
    let either = (and_parts (nat_le (length name) 255) _ named).1 in
    ⊎_elim (λ any. inl any)
    (λ of_kind. inr (or_cases (is_name_of_kind AsSet name) (is_name_of_kind RouteSet name)
    of_kind))
    (or_cases (is_any_set name) (is_name_of_kind AsSet name || is_name_of_kind RouteSet name)
    either)

-- the kind is told by the components beside AS numbers
pub kind_told : (name : List ℕ) → IsSetText name → is_any_set name ≡ false →
    is_name_of_kind (kind_of name) name ≡ true
kind_told name is other =
    let printed : map component_text (components name) ≡ components name =
    sym (components-set_text name) ∙ ap components is.printed in
    ⊎_elim
    (λ any. absurd (both_ways (is_any_set name) other any))
    (λ of_kind. ⊎_elim
    (λ as_set.
    let parts = and_parts (list_all (is_component AsSet) (components name))
    (list_any (is_set_word AsSet) (components name)) as_set in
    ap (λ t. is_name_of_kind (cond t AsSet RouteSet) name) (has_as_start (components name) printed
    parts.1) ∙ as_set)
    (λ route_set.
    let parts = and_parts (list_all (is_component RouteSet) (components name))
    (list_any (is_set_word RouteSet) (components name)) route_set in
    ap (λ t. is_name_of_kind (cond t AsSet RouteSet) name)
    (has_no_as_start (components name) printed parts.0) ∙ route_set)
    of_kind)
    (kinds_of_name name is.spelled)
