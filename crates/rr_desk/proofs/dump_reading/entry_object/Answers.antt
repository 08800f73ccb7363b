use Rattle.std.proofs.Common.{◌≡◌, Ok, Err, inl, inr, refl, sym, subst}
use Rattle.std.specs.Prelude.{◌⊎◌, MatchResult}
use Rattle.rr_desk.specs.Dumps.{entry_object}
use Rattle.rr_desk.specs.declared.dump_read_fault.DumpReadFault.TheVariants.{Memory}
use Rattle.rr_desk.proofs.Found.{faulty_entry}
use Rattle.rr_desk.proofs.dump_reading.entry_object.Goals as goal

pub returns-in-Ok : goal.returns-in-Ok
returns-in-Ok c = λ next is.
    let same = rw c.in-Ok.is at is in
    subst (λ e. MatchResult c.read_object.result (λ o. entry_object c.args.source.now c.args.n e
    ≡ Ok o) (λ f. (f ≡ Memory) ⊎ (entry_object c.args.source.now c.args.n e ≡ Err f)))
    (sym same) c.read_object.ensures

pub returns-in-Memory : goal.returns-in-Memory
returns-in-Memory c = λ next is. inl refl

pub returns-in_default : goal.returns-in_default
returns-in_default c = λ next is. inr (faulty_entry c.args.source.now c.args.n c.in-Err.fault next
    c.in_default.not-Memory (rw c.in-Err.is at is))
