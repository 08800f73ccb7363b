-- That `==` on attributes is equality: for `==` on paragraphs.
use Rattle.std.specs.Prelude.{ℕ, ◌≡◌, List}
use Rattle.std.specs.Bool.{Decides}
use Rattle.std.specs.Cmp.{IsPartialEquivalence, decided, partial_equiv_from_equiv}
use Rattle.std.specs.Cmp.Lexicographic.{pointwise_decides, bytes_decides}
use Rattle.std.proofs.Common.{ap, ◌∙◌}
use Rattle.std.proofs.lemmas.Bool.Decides.{Decides-and, Decides-like}
use Rattle.rr_text.specs.Fields.{Field, field_eq, fields_eq}

-- attributes with the same name and the same lines are equal
same_field : (a b : Field) → (a.name ≡ b.name) × (a.lines ≡ b.lines) → a ≡ b
same_field a b h =
    let make = λ (name : List ℕ) (lines : List (List ℕ)). let field : Field =
    record { name = name; lines = lines } in field in
    ap (λ name. make name a.lines) h.0 ∙ ap (make b.name) h.1

-- `==` holds of equal attributes and of no others
pub field_eq-Decides : (a b : Field) → Decides (field_eq a b) (a ≡ b)
field_eq-Decides a b =
    Decides-like _ (same_field a b) (λ e. (ap (λ f. f.name) e, ap (λ f. f.lines) e))
    (Decides-and _ _ (bytes_decides a.name b.name)
    (pointwise_decides bytes_decides a.lines b.lines))

-- `==` on attributes is symmetric and transitive
pub field_eq-laws : IsPartialEquivalence field_eq
field_eq-laws = partial_equiv_from_equiv (decided field_eq field_eq-Decides)

-- `==` holds of equal lists of attributes and of no others
pub fields_eq-Decides : (a b : List Field) → Decides (fields_eq a b) (a ≡ b)
fields_eq-Decides a b = pointwise_decides field_eq-Decides a b

-- `==` on lists of attributes is symmetric and transitive
pub fields_eq-laws : IsPartialEquivalence fields_eq
fields_eq-laws = partial_equiv_from_equiv (decided fields_eq fields_eq-Decides)
