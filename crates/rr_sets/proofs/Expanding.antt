-- What a fault of a walk makes of an expansion.
use Rattle.std.proofs.Common.{◌≡◌, true, Err, Result, refl, subst, sym, ◌∙◌, ap}
use Rattle.std.specs.declared.cmp.Ordering.{Ordering}
use Rattle.rr_graph.specs.Answered.{FindsWithin}
use Rattle.rr_graph.specs.declared.ReachFault.{ReachFault}
use Rattle.rr_graph.specs.declared.ReachFault.TheVariants as reach
use Rattle.rr_sets.specs.Faults.{expand_fault_of}
use Rattle.rr_sets.specs.SetMeanings.{Expands, Meaning}
use Rattle.rr_sets.specs.declared.members.ExpandFault.{ExpandFault}
use Rattle.rr_sets.specs.declared.members.ExpandFault.TheVariants.{Memory, TooMany}
use Rattle.rr_sets.specs.declared.members.Members.{Members}

module _ {X : Type 0} (cmp : X → X → Ordering) (set : Meaning X) (known : set.known ≡ true) where
  over_limit : set.Overflows → Expands cmp set (Err TooMany)
  over_limit over = record {
    found = tt;
    few = tt;
    known = tt;
    unknown = λ other. absurd cc;
    many_known = λ _. known;
    many = λ _. over;
  }

  out_of_memory : Expands cmp set (Err Memory)
  out_of_memory = record {
    found = tt;
    few = tt;
    known = tt;
    unknown = λ other. absurd cc;
    many_known = λ _. known;
    many = λ other. absurd cc;
  }

  -- a walk of a set that there is did not end
  pub expanded_fault : {Y : Type 0} {IsWhole : Y → Type 0} {Over : Type 0} {fault : ReachFault}
      (told : ExpandFault) (result : Result (Members X) ExpandFault) → result ≡ Err told →
      told ≡ expand_fault_of fault → (Over → set.Overflows) → FindsWithin IsWhole Over (Err fault)
      → Expands cmp set result
  expanded_fault {fault = reach.TooMany} told result is same over finds =
      subst (Expands cmp set) (sym (is ∙ ap (λ (f : ExpandFault). Err f) same))
      (over_limit (over (finds.many refl)))
  expanded_fault {fault = reach.Memory} told result is same over finds =
      subst (Expands cmp set) (sym (is ∙ ap (λ (f : ExpandFault). Err f) same)) out_of_memory
