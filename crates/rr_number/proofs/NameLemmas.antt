-- What upper case changes of a name, which is nothing that the rules ask for: for `Name::read`, and
-- for names of sets.
use Rattle.std.proofs.Common.{◌≡◌, ℕ, ◌-◌, Bool, true, false, ◌&&◌, List, [], ◌∷◌, length, zero}
use Rattle.std.proofs.Common.{suc, refl, ◌∙◌, arith, sym, cond, Some, ap, None, subst}
use Rattle.std.proofs.lemmas.Bool.Decides.{nat_tests}
use Rattle.std.proofs.lemmas.List.{length-map}
use Rattle.std.specs.Prelude.{slice_get}
use Rattle.std.specs.Char.{is_ascii_alphabetic, is_ascii_alphanumeric, to_ascii_uppercase}
use Rattle.std.specs.List.{list_all}
use Rattle.std.specs.Option.{option_map_or}
use Rattle.rr_bytes.specs.LetterCase.{upper}
use Rattle.rr_bytes.specs.NameBytes.{begins, is_name, is_name_byte}
use Rattle.rr_number.specs.Names.{IsUpperName, name_of}

upper_byte-again : (b : ℕ) → to_ascii_uppercase (to_ascii_uppercase b) ≡ to_ascii_uppercase b
upper_byte-again b = grind (arith, nat_tests)

upper_byte-letter : (b : ℕ) → is_ascii_alphabetic (to_ascii_uppercase b) ≡ is_ascii_alphabetic b
upper_byte-letter b = grind (arith, nat_tests)

upper_byte-alphanumeric : (b : ℕ) → is_ascii_alphanumeric (to_ascii_uppercase b)
    ≡ is_ascii_alphanumeric b
upper_byte-alphanumeric b = grind (arith, nat_tests)

upper_byte-name : (b : ℕ) → is_name_byte (to_ascii_uppercase b) ≡ is_name_byte b
upper_byte-name b = grind (arith, nat_tests)

pub upper-upper : (bs : List ℕ) → upper (upper bs) ≡ upper bs
upper-upper [] = refl
upper-upper (b ∷ bs) = λ i. upper_byte-again b i ∷ upper-upper bs i

name_bytes-upper : (bs : List ℕ) → list_all is_name_byte (upper bs) ≡ list_all is_name_byte bs
name_bytes-upper [] = refl
name_bytes-upper (b ∷ bs) = λ i. upper_byte-name b i && name_bytes-upper bs i

-- a test of the byte at a place, which upper case leaves, is left
tested-upper : (p : ℕ → Bool) → ((b : ℕ) → p (to_ascii_uppercase b) ≡ p b) → (bs : List ℕ) (i : ℕ)
    → option_map_or p (slice_get (upper bs) i) false ≡ option_map_or p (slice_get bs i) false
tested-upper p same [] i = refl
tested-upper p same (b ∷ bs) zero = same b
tested-upper p same (b ∷ bs) (suc i) = tested-upper p same bs i

begins-upper : (p : ℕ → Bool) → ((b : ℕ) → p (to_ascii_uppercase b) ≡ p b) → (bs : List ℕ) →
    begins p (upper bs) ≡ begins p bs
begins-upper p same [] = refl
begins-upper p same (b ∷ bs) = same b

pub is_name-upper : (bs : List ℕ) → is_name (upper bs) ≡ is_name bs
unfolding is_name
is_name-upper bs =
    rw (
      length-map,
      name_bytes-upper bs,
      begins-upper is_ascii_alphabetic upper_byte-letter bs,
      tested-upper is_ascii_alphanumeric upper_byte-alphanumeric bs (length bs - 1),
    ) refl

pub IsUpperName-upper : (bs : List ℕ) → is_name bs ≡ true → IsUpperName (upper bs)
IsUpperName-upper bs named = record {
  spelled = is_name-upper bs ∙ named;
  upper_case =
      upper-upper bs;
}

pub name_of-upper_name : (name : List ℕ) → IsUpperName name → name_of name ≡ Some name
name_of-upper_name name is = rw is.spelled (ap Some is.upper_case)

-- letter case makes no difference to whether a text is a name
pub is_name-case : (a b : List ℕ) → upper a ≡ upper b → is_name a ≡ is_name b
is_name-case a b same = sym (is_name-upper a) ∙ ap is_name same ∙ is_name-upper b

pub name_of-case : (a b : List ℕ) → upper a ≡ upper b → name_of a ≡ name_of b
name_of-case a b same =
    ap (λ t. cond t (Some (upper a)) None) (is_name-case a b same)
    ∙ ap (λ t. cond (is_name b) (Some t) None) same

chosen_name : (t : Bool) (bs name : List ℕ) → is_name bs ≡ t → cond t (Some (upper bs)) None
    ≡ Some name → IsUpperName name
chosen_name true bs name named found =
    let same : upper bs ≡ name = cc in subst IsUpperName same (IsUpperName-upper bs named)
chosen_name false bs name named found = absurd (cc)

pub name_of-kept : (bs name : List ℕ) → name_of bs ≡ Some name → IsUpperName name
name_of-kept bs name found = chosen_name (is_name bs) bs name refl found
