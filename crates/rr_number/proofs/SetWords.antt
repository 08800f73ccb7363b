-- The words of sets: letter case makes no difference to them, and none of them is an AS number. For
-- the components and kinds of sets' names.
use Rattle.std.proofs.Common.{◌≡◌, ℕ, ◌<◌, true, false, not, List, [], ◌∷◌, Some, drop, take}
use Rattle.std.proofs.Common.{length, refl, arith}
use Rattle.std.proofs.lemmas.Bool.Decides.{nat_tests}
use Rattle.std.proofs.lemmas.Bool.{and_left, and_parts, and_right}
use Rattle.std.specs.Char.{is_ascii_digit, to_ascii_uppercase}
use Rattle.std.specs.Prelude.{codes, nat_eq}
use Rattle.std.specs.List.{starts_with}
use Rattle.std.specs.Str.{all_ascii_digits}
use Rattle.rr_number.specs.AsNumbers.{as_number_of, IsAsNumber}
use Rattle.rr_bytes.specs.LetterCase.{upper}
use Rattle.rr_bytes.specs.NameBytes.{is_name}
use Rattle.rr_number.specs.Names.{is_reserved}
use Rattle.rr_number.specs.SetNames.{is_set_word, is_component, word_start}
use Rattle.rr_number.specs.declared.set_kind.SetKind.{SetKind}
use Rattle.rr_number.specs.declared.set_kind.SetKind.TheVariants.{AsSet, RouteSet}
use Rattle.rr_number.proofs.AsNumberLemmas.{as_number_of-spelled}
use Rattle.rr_number.proofs.NameLemmas.{is_name-upper, upper-upper}
use Rattle.rr_number.proofs.NumberCase.{as_number_of-upper}

pub is_set_word-upper : (kind : SetKind) (c : List ℕ) → is_set_word kind (upper c) ≡ is_set_word
    kind c
is_set_word-upper kind c = rw (is_name-upper c, upper-upper c) refl

pub is_component-upper : (kind : SetKind) (c : List ℕ) → is_component kind (upper c) ≡ is_component
    kind c
is_component-upper kind c = rw (as_number_of-upper c, is_set_word-upper kind c) refl

-- an AS number does not begin as a set's word does
pub no_word_begins : (kind : SetKind) (text : List ℕ) → upper (take 2 text) ≡ codes "AS" →
    all_ascii_digits (drop 2 text) ≡ true → 0 < length (drop 2 text) →
    starts_with nat_eq (upper text) (word_start kind) ≡ false
no_word_begins kind [] begins digits some = absurd (cc)
no_word_begins kind (a ∷ []) begins digits some = absurd (cc)
no_word_begins kind (a ∷ b ∷ []) begins digits some = absurd (omega arith)
no_word_begins AsSet (a ∷ b ∷ d ∷ ds) begins digits some =
    let digit : is_ascii_digit d ≡ true =
    (and_parts (is_ascii_digit d) (all_ascii_digits ds) digits).0 in
    let other : nat_eq 45 (to_ascii_uppercase d) ≡ false = grind (arith, nat_tests) in
    and_right (nat_eq 65 (to_ascii_uppercase a)) _ (and_right (nat_eq 83 (to_ascii_uppercase b)) _
    (and_left (nat_eq 45 (to_ascii_uppercase d)) true other))
no_word_begins RouteSet (a ∷ b ∷ d ∷ ds) begins digits some =
    let first : to_ascii_uppercase a ≡ 65 = cc in
    rw first refl

pub number_is_no_word : (kind : SetKind) (c : List ℕ) (n : ℕ) → as_number_of c ≡ Some n →
    is_set_word kind c ≡ false
number_is_no_word kind c n read =
    let is : IsAsNumber c n = as_number_of-spelled c n read in
    let other : starts_with nat_eq (upper c) (word_start kind) ≡ false = no_word_begins kind c
    is.begins is.number.digits is.number.some in
    and_right (is_name c) _ (and_left (starts_with nat_eq (upper c) (word_start kind))
    (not (is_reserved (upper c))) other)
