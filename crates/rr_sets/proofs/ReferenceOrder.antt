-- The order of references tells them apart.
use Rattle.std.proofs.Common.{refl}
use Rattle.std.specs.Ordering.{nat_cmp, ordering_then}
use Rattle.std.proofs.lemmas.Map.Lookups.{CmpEqualImpliesEq, exact_unsigned}
use Rattle.rr_graph.specs.declared.labels.Edge.{Edge}
use Rattle.rr_number.proofs.NumberOrders.{ties}
use Rattle.rr_number.specs.contracts.operator.OperatorOrd.TheImpl as operators
use Rattle.rr_number.specs.declared.operator.Operator.{Operator}
use Rattle.rr_number.specs.declared.operator.Operator.TheVariants.{Plain, Plus, Minus, Lengths}
use Rattle.rr_object.specs.contracts.member.MemberSetOrd.TheImpl as sets
use Rattle.rr_object.specs.declared.member.MemberSet.{MemberSet}
use Rattle.rr_sets.specs.Orders.{exact_member_sets}

-- operators that compare as equal are the same operator
exact_operators : CmpEqualImpliesEq (operators.ghosts).cmp
exact_operators Plain Plain tie = refl
exact_operators Plain Plus tie = cc
exact_operators Plain Minus tie = cc
exact_operators Plain (Lengths c) tie = cc
exact_operators Plus Plain tie = cc
exact_operators Plus Plus tie = refl
exact_operators Plus Minus tie = cc
exact_operators Plus (Lengths c) tie = cc
exact_operators Minus Plain tie = cc
exact_operators Minus Plus tie = cc
exact_operators Minus Minus tie = refl
exact_operators Minus (Lengths c) tie = cc
exact_operators (Lengths b) Plain tie = cc
exact_operators (Lengths b) Plus tie = cc
exact_operators (Lengths b) Minus tie = cc
exact_operators (Lengths b) (Lengths c) tie =
    let both = ties (nat_cmp b.low c.low) (nat_cmp b.high c.high) tie in
    let low = exact_unsigned b.low c.low both.0 in
    let high = exact_unsigned b.high c.high both.1 in
    λ i. Lengths (record { low = low i; high = high i })

-- references that compare as equal are the same reference
pub exact_references : CmpEqualImpliesEq (λ (a b : Edge MemberSet Operator).
    ordering_then ((sets.ghosts).cmp a.to b.to) ((operators.ghosts).cmp a.label b.label))
exact_references a b tie =
    let both = ties ((sets.ghosts).cmp a.to b.to) ((operators.ghosts).cmp a.label b.label) tie in
    let to = exact_member_sets a.to b.to both.0 in
    let label = exact_operators a.label b.label both.1 in
    λ i. record { to = to i; label = label i }
