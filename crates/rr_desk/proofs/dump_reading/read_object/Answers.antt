use Rattle.std.proofs.Common.{Err, inl, inr, ap, refl, sym, ◌∙◌}
use Rattle.rr_desk.specs.Dumps.{object_result}
use Rattle.rr_desk.specs.declared.dump_read_fault.DumpReadFault.TheVariants.{Object}
use Rattle.rr_desk.proofs.dump_reading.read_object.Goals as goal

pub returns-in-Ok : goal.returns-in-Ok
returns-in-Ok c = ap (object_result c.args.n) c.in-Ok.ensures.ok

pub returns-in-Memory : goal.returns-in-Memory
returns-in-Memory c = inl refl

pub returns-in_default : goal.returns-in_default
returns-in_default c =
    inr (ap (object_result c.args.n) (c.in-Err.ensures.fault c.in_default.not-Memory)
    ∙ ap (λ code. Err (Object c.args.n code)) (sym c.code.ensures))
