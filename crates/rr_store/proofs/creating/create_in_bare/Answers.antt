use Rattle.std.proofs.Common.{arith, inr, map, rules}
use Rattle.rr_store.specs.Calls.{Transacts}
use Rattle.rr_store.specs.Creating.{IsStoreOf}
use Rattle.rr_store.specs.Entries.{entry_of}
use Rattle.rr_store.specs.Made.{IsBare, IsMadeWith}
use Rattle.rr_store.specs.StepParts.{Step}
use Rattle.rr_object.specs.Objects.{lent}
use Rattle.rr_store.proofs.BodyLemmas.{both_ok}
use Rattle.rr_store.proofs.CommitLemmas.{transacted}
use Rattle.rr_store.proofs.OtherLemmas.{tables_stand}
use Rattle.rr_store.proofs.creating.create_in_bare.Goals as goal

pub returns : goal.returns
returns g c =
    let tx = c.transaction-tx.result.conn.now in
    let mid = c.fill-work.new.tx.conn.now in
    let step = c.fill-work.ensures.step in
    let stored : Step g.S.Store IsBare (IsMadeWith (IsStoreOf (lent c.args.objects.now))) tx mid
    c.fill-work.result = record {
      made = λ over clean.
          let last = step.survives.clean in
          both_ok c.fill-work.result (step.made over clean) (step.goes_on clean)
          (λ filled on. record {
            vacant = inr (over (omega (arith, clean, last)) ((step.kept clean).was_open
                on.is_open));
            tables = tables_stand (map entry_of (lent c.args.objects.now)) _ _
                filled.store.filled filled.others;
            rows = filled.store;
          });
      goes_on = step.goes_on;
      kept = step.kept;
      survives = step.survives;
    } in
    let made : Transacts g.S.Store (IsMadeWith (IsStoreOf (lent c.args.objects.now)))
    c.args.conn.now c.end.new.tx.0 c.end.result =
    transacted g.S.Store c.args.conn.now tx mid c.end.new.tx.0 c.fill-work.result c.end.result
    IsBare (IsMadeWith (IsStoreOf (lent c.args.objects.now)))
    (rw c.conn.view_is at c.transaction-tx.ensures.begun) (λ clean on. c.requires clean) stored
    c.end.ensures c.note_committed.ensures.committed in
    search rules
