use Rattle.std.proofs.Common.{◌∙◌, ℕ, List, subst}
use Rattle.std.proofs.lemmas.Result.{IfOk-weaker}
use Rattle.rr_answer.specs.Dumps.{WritesDump}
use Rattle.rr_answer.proofs.Dumped.{count_is, dump_is}
use Rattle.rr_answer.proofs.dumping.dump.Goals as goal

pub returns-clause-writes : goal.returns-clause-writes
returns-clause-writes g c =
    subst (λ (bytes : List ℕ). WritesDump bytes (g.W.Writer.told c.args.writer.now)
    (g.W.Writer.told c.dump_listed.new.writer) c.dump_listed.result)
    (dump_is c.args.full c.args.registry.now c.in_ok-objects.objects.items c.deref.result.now
    c.in_ok-objects.ensures.all c.deref.ensures.value)
    c.dump_listed.ensures.writes

pub returns-clause-count : goal.returns-clause-count
returns-clause-count g c =
    IfOk-weaker c.dump_listed.result _ _
    (λ count is. is ∙ count_is c.args.registry.now c.in_ok-objects.objects.items c.deref.result.now
    c.in_ok-objects.ensures.all c.deref.ensures.value)
    c.dump_listed.ensures.count
