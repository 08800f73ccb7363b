use Rattle.std.proofs.Common.{◌∙◌, sym, append_assoc}
use Rattle.std.proofs.lemmas.Result.{err_from_is_err_and}
use Rattle.rr_io.proofs.Transfers.{Takes-then}
use Rattle.rr_answer.proofs.Dumped.{all_taken, cut_between, next_lent, next_of}
use Rattle.rr_answer.proofs.dumping.dump_objects.Goals as goal

pub returns-in_err-dump_object : goal.returns-in_err-dump_object
returns-in_err-dump_object g c =
    let exit = err_from_is_err_and c.from_residual.result c.from_residual.ensures.1 in
    let before = c.objects.invariant in
    let whole = next_lent c.args.full c.args.objects.now c.objects.object-index
    c.object-item.result before.0 c.objects-test.true c.object-item.is before.1 in
    rw (exit.1, exit.2, whole)
    (cut_between _ _ _ _ _ _ _ before.2 c.in_err-dump_object.ensures)

pub objects-preserved : goal.objects-preserved
objects-preserved g c =
    let before = c.objects.invariant in
    let next = next_of c.args.full c.args.objects.now c.objects.object-index c.object-item.result
    before.0 c.objects-test.true c.object-item.is before.1 in (
      _,
      next ∙ sym (append_assoc before.0 _ _),
      Takes-then _ _ before.2 c.in_ok-dump_object.ensures,
    )

pub returns : goal.returns
returns g c =
    let before = c.objects.invariant in
    rw (all_taken c.args.full c.args.objects.now c.objects.object-index before.0
    c.objects-test.false before.1) before.2
