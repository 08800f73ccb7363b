-- What a set stands for, and what its expansion answers: for `expand_as_set` and
-- `expand_route_set`.
use Rattle.std.specs.Prelude.{◌≡◌, ℕ, Bool, true, false, List, IfOk, OnOk, Err, Result}
use Rattle.std.specs.declared.cmp.Ordering.{Ordering}
use Rattle.std.specs.Cmp.Lexicographic.{slice_cmp}
use Rattle.std.specs.Ordering.{nat_cmp}
use Rattle.rr_auth.specs.Registries.{Reg}
use Rattle.rr_graph.specs.Answered.{ListsInOrder}
use Rattle.rr_graph.specs.Chain.{MoreThan}
use Rattle.rr_number.specs.Ranges.{RangeParts}
use Rattle.rr_sets.specs.AsSets.{InAsSet, IsMissing, IsReachedSet, has_as_set}
use Rattle.rr_sets.specs.RouteSets.{HasTooMany, InRouteSet, IsMissingName, has_set}
use Rattle.rr_sets.specs.declared.members.Members.{Members}
use Rattle.rr_sets.specs.declared.members.ExpandFault.{ExpandFault}
use Rattle.rr_sets.specs.declared.members.ExpandFault.TheVariants.{NoSuchSet, TooMany}

-- What a set stands for: whether there is such a set, what is in it, which names are missing, and
-- whether it is over the limit (RFC 2622, 5; the limit: profile).
pub record Meaning (X : Type 0) : Type 1 where
  pub known : Bool
  pub Has : X → Type 0
  pub Lacks : List ℕ → Type 0
  pub Overflows : Type 0

-- What an as-set stands for. It is over the limit where it reaches more than `limit` names, its own
-- among them (RFC 2622, 5; the limit: profile).
abbrev pub as_set_at : Reg → ℕ → List ℕ → Meaning ℕ
as_set_at r limit name = record {
  known = has_as_set r name;
  Has = InAsSet r name;
  Lacks = IsMissing r name;
  Overflows = MoreThan limit (IsReachedSet r name);
}

-- What a set of either kind stands for, as ranges. It is over the limit where it reaches more than
-- `limit` sets and ASes, itself among them. So it is where there are more than `limit` pairs of one
-- of these and a range that it stands for (RFC 2622, 5; the limit: profile).
abbrev pub route_set_at : Reg → ℕ → List ℕ → Meaning RangeParts
route_set_at r limit name = record {
  known = has_set r name;
  Has = InRouteSet r name;
  Lacks = IsMissingName r name;
  Overflows = HasTooMany r limit name;
}

-- An expansion lists exactly what is in a set, and exactly the names that are missing, both in
-- ascending order without repeats (RFC 2622, 5; profile).
pub record StandsFor {X : Type 0} (cmp : X → X → Ordering) (set : Meaning X)
    (members : Members X) : Type 0 where
  pub found : ListsInOrder cmp set.Has members.found.items
  pub missing : ListsInOrder (slice_cmp nat_cmp) set.Lacks members.missing.items

-- An expansion lists what a set stands for. Unless memory runs out, its fault is `NoSuchSet`
-- exactly where there is no such set, and `TooMany` exactly where there is one and it is over the
-- limit (RFC 2622, 5; the limit: profile).
pub record Expands {X : Type 0} (cmp : X → X → Ordering) (set : Meaning X)
    (result : Result (Members X) ExpandFault) : Type 0 where
  pub found : IfOk result (StandsFor cmp set)
  pub known : OnOk result (set.known ≡ true)
  pub few : OnOk result (¬ set.Overflows)
  pub unknown : result ≡ Err NoSuchSet → set.known ≡ false
  pub many_known : result ≡ Err TooMany → set.known ≡ true
  pub many : result ≡ Err TooMany → set.Overflows
