-- The printed text of a component: it is its own printed text, has no colon, is no longer than a
-- spelling, and is a component of the same sort. For the names of sets.
use Rattle.std.proofs.Common.{◌≡◌, ℕ, ◌≤◌, true, ◌||◌, List, Some, None, Option, length, refl, ap}
use Rattle.std.proofs.Common.{◌∙◌, arith}
use Rattle.std.proofs.lemmas.Bool.{both_ways}
use Rattle.std.proofs.lemmas.List.{length-map}
use Rattle.std.specs.Char.{to_ascii_uppercase}
use Rattle.std.specs.Fmt.{decimal}
use Rattle.std.specs.Option.{option_map_or}
use Rattle.std.specs.Prelude.{is_some}
use Rattle.rr_number.specs.AsNumbers.{as_number_of, as_number_text, greatest_as_number}
use Rattle.rr_bytes.specs.LetterCase.{upper}
use Rattle.rr_number.specs.SetNames.{component_text, is_component, is_set_word}
use Rattle.rr_number.specs.declared.set_kind.SetKind.{SetKind}
use Rattle.rr_number.proofs.AsNumberLemmas.{as_number_of-bound, as_number_of-printed}
use Rattle.rr_number.proofs.AsNumberLemmas.{IsAsNumber-printed}
use Rattle.rr_number.proofs.Components.{lacks-upper}
use Rattle.rr_bytes.proofs.CutLemmas.{lacks, lacks-digits}
use Rattle.rr_number.proofs.NameLemmas.{upper-upper}
use Rattle.rr_number.proofs.NumberCase.{as_number_of-upper, length-as_number_text}
use Rattle.rr_number.proofs.SetWords.{is_component-upper, is_set_word-upper, number_is_no_word}

-- what is true of the printed number where the component is an AS number, and else of the component
-- in upper case, is
-- true of the printed text
pub by_sort : (P : List ℕ → Type 0) (c : List ℕ) →
    ((n : ℕ) → as_number_of c ≡ Some n → P (as_number_text n)) →
    (as_number_of c ≡ None → P (upper c)) → P (component_text c)
by_sort P c number word = sort (as_number_of c) refl where
  sort : (o : Option ℕ) → as_number_of c ≡ o → P (option_map_or as_number_text o (upper c))
  sort (Some n) is = number n is
  sort None is = word is

pub component_text-upper : (c : List ℕ) → component_text (upper c) ≡ component_text c
component_text-upper c = rw (as_number_of-upper c, upper-upper c) refl

component_text-number : (n : ℕ) → n ≤ greatest_as_number → component_text (as_number_text n)
    ≡ as_number_text n
component_text-number n bound = ap (λ o. option_map_or as_number_text o (upper (as_number_text n)))
    (as_number_of-printed n bound)

component_text-word : (c : List ℕ) → as_number_of c ≡ None → component_text c ≡ upper c
component_text-word c none = ap (λ o. option_map_or as_number_text o (upper c)) none

pub component_text-again : (c : List ℕ) → component_text (component_text c) ≡ component_text c
component_text-again c =
    by_sort (λ t. component_text t ≡ t) c
    (λ n is. component_text-number n (as_number_of-bound c n is))
    (λ none. component_text-upper c ∙ component_text-word c none)

pub lacks-component_text : (c : List ℕ) → lacks 58 c ≡ true → lacks 58 (component_text c) ≡ true
lacks-component_text c lack =
    by_sort (λ t. lacks 58 t ≡ true) c
    (λ n is. lacks-digits 58 (decimal n) refl
    (IsAsNumber-printed n (as_number_of-bound c n is)).number.digits)
    (λ none. lacks-upper c ∙ lack)

pub length-component_text : (c : List ℕ) → length (component_text c) ≤ length c
length-component_text c =
    by_sort (λ t. length t ≤ length c) c
    (λ n is. length-as_number_text c n is)
    (λ none. let same : length (upper c) ≡ length c = length-map c to_ascii_uppercase in
    omega arith)

pub is_component-printed : (kind : SetKind) (c : List ℕ) → is_component kind c ≡ true →
    is_component kind (component_text c) ≡ true
is_component-printed kind c is =
    by_sort (λ t. is_component kind t ≡ true) c
    (λ n number. ap (λ o. is_some o || is_set_word kind (as_number_text n))
    (as_number_of-printed n (as_number_of-bound c n number)))
    (λ none. is_component-upper kind c ∙ is)

pub is_set_word-printed : (kind : SetKind) (c : List ℕ) → is_set_word kind c ≡ true →
    is_set_word kind (component_text c) ≡ true
is_set_word-printed kind c is =
    by_sort (λ t. is_set_word kind t ≡ true) c
    (λ n number. absurd (both_ways (is_set_word kind c) (number_is_no_word kind c n number) is))
    (λ none. is_set_word-upper kind c ∙ is)
