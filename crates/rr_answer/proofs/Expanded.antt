-- Expansions in registries that are seen alike are answered alike.
use Rattle.std.proofs.Common.{◌≡◌, ℕ, true, false, List, inl, inr, sym, ap, ◌∙◌}
use Rattle.std.specs.Prelude.{Result, Ok, Err}
use Rattle.std.specs.declared.cmp.Ordering.{Ordering}
use Rattle.std.specs.Cmp.{IsTotalOrder, nat_cmp_total}
use Rattle.std.specs.Cmp.Lexicographic.{nat_list_cmp_total}
use Rattle.std.specs.Ordering.{nat_cmp}
use Rattle.std.proofs.lemmas.Map.Lookups.{CmpEqualImpliesEq, exact_bytes, exact_unsigned}
use Rattle.rr_number.specs.Applied.{range_text}
use Rattle.rr_number.specs.AsNumbers.{as_number_text}
use Rattle.rr_number.specs.Ranges.{range_cmp}
use Rattle.rr_number.specs.declared.set_kind.SetKind.{SetKind}
use Rattle.rr_number.specs.declared.set_kind.SetKind.TheVariants as kinds
use Rattle.rr_number.proofs.NumberOrders.{ranges_ordered}
use Rattle.rr_auth.specs.Registries.{Reg}
use Rattle.rr_answer.specs.declared.query_fault.QueryFault.{QueryFault}
use Rattle.rr_answer.specs.Answers.{IsExpanded, IsNumberAnswer, IsRangeAnswer}
use Rattle.rr_sets.specs.SetMeanings.{Meaning, as_set_at, route_set_at}
use Rattle.rr_answer.specs.Expansions.{IsExpansion, IsListed}
use Rattle.rr_answer.specs.Texts.{members_text}
use Rattle.rr_answer.proofs.Alike.{Alike, back}
use Rattle.rr_answer.proofs.SetsAlike.{has_as_set_alike, has_set_alike, in_as_set_on}
use Rattle.rr_answer.proofs.SetsAlike.{in_route_set_on, many_ranges_on, many_sets_on}
use Rattle.rr_answer.proofs.SetsAlike.{missing_name_on, missing_on}
use Rattle.rr_answer.proofs.Sorted.{same_sorted}

-- what is in one set is in the other
pub record IsWithin {X : Type 0} (set other : Meaning X) : Type 0 where
  pub same : set.known ≡ other.known
  pub has : (x : X) → set.Has x → other.Has x
  pub lacks : (name : List ℕ) → set.Lacks name → other.Lacks name
  pub many : set.Overflows → other.Overflows

module _ {X : Type 0} (cmp : X → X → Ordering) (line : X → List ℕ) (total : IsTotalOrder cmp)
    (exact : CmpEqualImpliesEq cmp) (set other : Meaning X) (on : IsWithin set other)
    (from : IsWithin other set) where
  -- both list the same
  listed_alike : (t u : List ℕ) → IsListed cmp line set t → IsListed cmp line other u → t ≡ u
  listed_alike t u p q =
      let found : p.found ≡ q.found = same_sorted total exact p.found q.found p.has.sorted
      q.has.sorted
      (λ x. (
        λ h. (q.has.all x).1 (on.has x ((p.has.all x).0 h)),
        λ h.
            (p.has.all x).1 (from.has x ((q.has.all x).0 h)),
      )) in
      let missing : p.missing ≡ q.missing = same_sorted nat_list_cmp_total exact_bytes p.missing
      q.missing p.lacks.sorted q.lacks.sorted
      (λ n. (
        λ h. (q.lacks.all n).1 (on.lacks n ((p.lacks.all n).0 h)),
        λ h.
            (p.lacks.all n).1 (from.lacks n ((q.lacks.all n).0 h)),
      )) in
      p.text_is ∙ (λ i. members_text line (found i) (missing i)) ∙ sym q.text_is

  -- the answers are the same
  pub expansion_alike : (a b : Result (List ℕ) QueryFault) → IsExpansion cmp line set a →
      IsExpansion cmp line other b → a ≡ b
  expansion_alike (Ok t) (Ok u) (inl p) (inl q) = ap Ok (listed_alike t u p q)
  expansion_alike (Ok t) (Ok u) (inl p) (inr q) =
      absurd (let e : true ≡ false = sym p.known ∙ on.same ∙ q.unknown in cc e)
  expansion_alike (Ok t) (Ok u) (inr p) (inl q) =
      absurd (let e : true ≡ false = sym q.known ∙ sym on.same ∙ p.unknown in cc e)
  expansion_alike (Ok t) (Ok u) (inr p) (inr q) = ap Ok (p.text_is ∙ sym q.text_is)
  expansion_alike (Ok t) (Err f) (inl p) q = absurd (p.few (from.many q.many))
  expansion_alike (Ok t) (Err f) (inr p) q =
      absurd (let e : true ≡ false = sym q.known ∙ sym on.same ∙ p.unknown in cc e)
  expansion_alike (Err f) (Ok u) p (inl q) = absurd (q.few (on.many p.many))
  expansion_alike (Err f) (Ok u) p (inr q) = absurd (let e : true ≡ false = sym p.known ∙ on.same
      ∙ q.unknown in cc e)
  expansion_alike (Err f) (Err g) p q = ap Err (p.fault_is ∙ sym q.fault_is)

numbers_on : (r s : Reg) (limit : ℕ) (name : List ℕ) → Alike r s →
    IsWithin (as_set_at r limit name) (as_set_at s limit name)
numbers_on r s limit name alike = record {
  same = has_as_set_alike r s alike name;
  has = in_as_set_on r s alike name;
  lacks = missing_on r s alike name;
  many = many_sets_on r s alike limit name;
}

ranges_on : (r s : Reg) (limit : ℕ) (name : List ℕ) → Alike r s →
    IsWithin (route_set_at r limit name) (route_set_at s limit name)
ranges_on r s limit name alike = record {
  same = has_set_alike r s alike name;
  has = in_route_set_on r s alike name;
  lacks = missing_name_on r s alike name;
  many = many_ranges_on r s alike limit name;
}

pub number_answers : (r s : Reg) (limit : ℕ) (name : List ℕ) (a b : Result (List ℕ) QueryFault) →
    Alike r s
    → IsNumberAnswer r limit name a → IsNumberAnswer s limit name b → a ≡ b
number_answers r s limit name a b alike p q =
    expansion_alike nat_cmp as_number_text nat_cmp_total exact_unsigned (as_set_at r limit name)
    (as_set_at s limit name)
    (numbers_on r s limit name alike) (numbers_on s r limit name (back r s alike)) a b p q

pub range_answers : (r s : Reg) (limit : ℕ) (name : List ℕ) (a b : Result (List ℕ) QueryFault) →
    Alike r s
    → IsRangeAnswer r limit name a → IsRangeAnswer s limit name b → a ≡ b
range_answers r s limit name a b alike p q =
    expansion_alike range_cmp range_text ranges_ordered.total ranges_ordered.exact
    (route_set_at r limit name) (route_set_at s limit name)
    (ranges_on r s limit name alike) (ranges_on s r limit name (back r s alike)) a b p q

pub expanded_answers : (kind : SetKind) (r s : Reg) (limit : ℕ) (name : List ℕ)
    (a b : Result (List ℕ) QueryFault) → Alike r s
    → IsExpanded kind r limit name a → IsExpanded kind s limit name b → a ≡ b
expanded_answers kinds.AsSet r s limit name a b alike p q = number_answers r s limit name a b alike
    p q
expanded_answers kinds.RouteSet r s limit name a b alike p q = range_answers r s limit name a b
    alike p q
