-- What a fault of a walk is for an expansion: for `ExpandFault`.
use Rattle.rr_graph.specs.declared.ReachFault.{ReachFault}
use Rattle.rr_graph.specs.declared.ReachFault.TheVariants as reach
use Rattle.rr_sets.specs.declared.members.ExpandFault.{ExpandFault}
use Rattle.rr_sets.specs.declared.members.ExpandFault.TheVariants as expand

-- a walk over its limit is an expansion over its limit, and memory that ran out stays so (profile)
abbrev pub expand_fault_of : ReachFault → ExpandFault
expand_fault_of reach.TooMany = expand.TooMany
expand_fault_of reach.Memory = expand.Memory
