-- Texts that are one but for the case of letters: for `is_keyword`.
use Rattle.std.proofs.Common.{◌≡◌, ℕ, Bool, List, [], ◌∷◌, refl, ap, sym, ◌∙◌, arith}
use Rattle.std.proofs.lemmas.Bool.Decides.{nat_tests, same_from_decides}
use Rattle.std.specs.Char.{to_ascii_lowercase, to_ascii_uppercase}
use Rattle.std.specs.Cmp.Lexicographic.{bytes_decides}
use Rattle.std.specs.Str.{bytes_eq}
use Rattle.std.specs.Prelude.{IsTrue, ◌↔◌}
use Rattle.rr_bytes.specs.LetterCase.{is_keyword, lowered, upper}

upper_byte-lower : (b : ℕ) → to_ascii_uppercase (to_ascii_lowercase b) ≡ to_ascii_uppercase b
upper_byte-lower b = grind (arith, nat_tests)

lower_byte-upper : (b : ℕ) → to_ascii_lowercase (to_ascii_uppercase b) ≡ to_ascii_lowercase b
lower_byte-upper b = grind (arith, nat_tests)

upper-lower : (bs : List ℕ) → upper (lowered bs) ≡ upper bs
upper-lower [] = refl
upper-lower (b ∷ bs) = λ i. upper_byte-lower b i ∷ upper-lower bs i

lower-upper : (bs : List ℕ) → lowered (upper bs) ≡ lowered bs
lower-upper [] = refl
lower-upper (b ∷ bs) = λ i. lower_byte-upper b i ∷ lower-upper bs i

-- equal in lower case is equal in upper case
pub same_letters : (xs ys : List ℕ) (r : Bool) → (IsTrue r ↔ (lowered xs ≡ lowered ys)) →
    r ≡ bytes_eq (upper xs) (upper ys)
same_letters xs ys r same =
    same_from_decides r (bytes_eq (upper xs) (upper ys)) (
      λ yes. sym (upper-lower xs) ∙ ap upper (same.0 yes) ∙ upper-lower ys,
      λ e.
          same.1 (sym (lower-upper xs) ∙ ap (lowered) e ∙ lower-upper ys),
    )
    (bytes_decides (upper xs) (upper ys))

-- equal in lower case is the same word
pub same_in_lower_case : (text word : List ℕ) (r : Bool) →
    (IsTrue r ↔ (lowered text ≡ lowered word)) → r ≡ is_keyword word text
unfolding is_keyword
same_in_lower_case text word r same = same_from_decides r (bytes_eq (lowered text) (lowered word))
    same (bytes_decides (lowered text) (lowered word))
