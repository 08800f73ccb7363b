use Rattle.std.proofs.Common.{subst}
use Rattle.std.proofs.lemmas.Result.{IfErr-weaker, IfOk-weaker}
use Rattle.rr_store.specs.Calls.{database}
use Rattle.rr_store.specs.Creating.{IsStoreOf}
use Rattle.rr_object.specs.Objects.{lent}
use Rattle.rr_desk.proofs.ListRows.{left_as, lent_rows, untouched_back}
use Rattle.rr_desk.proofs.opened.create_store.Goals as goal

pub returns-in-Err-clause-fails : goal.returns-in-Err-clause-fails
returns-in-Err-clause-fails g c = record {
  none = untouched_back _ _ _ c.note_idle.ensures;
  not_empty = λ is clean. absurd (cc);
  store = λ error is. absurd (cc);
  untabled = λ error is. absurd (cc);
}

pub returns-in-Ok-clause-rows : goal.returns-in-Ok-clause-rows
returns-in-Ok-clause-rows g c =
    IfOk-weaker c.create.result _ _ (λ store makes clean.
    lent_rows c.args.registry.now c.in-Ok.objects.items c.objects.ensures.sound c.in-Ok.ensures.all
    _
    (subst (λ os. IsStoreOf (lent os) (database g.S.Store store)) c.deref.ensures.value
    (makes.filled clean)))
    c.create.ensures.makes

pub returns-in-Ok-clause-is_open : goal.returns-in-Ok-clause-is_open
returns-in-Ok-clause-is_open g c = IfOk-weaker c.create.result _ _ (λ store makes. makes.is_open)
    c.create.ensures.makes

pub returns-in-Ok-clause-settled : goal.returns-in-Ok-clause-settled
returns-in-Ok-clause-settled g c = IfOk-weaker c.create.result _ _ (λ store makes. makes.settled)
    c.create.ensures.makes

pub returns-in-Ok-clause-makes : goal.returns-in-Ok-clause-makes
returns-in-Ok-clause-makes g c =
    IfOk-weaker c.create.result _ _ (λ store makes. record {
      vacant = makes.vacant;
      tables = makes.tables;
      was_open = makes.was_open;
      crash = left_as g.S.Store c.args.conn store (λ db filled.
          lent_rows c.args.registry.now c.in-Ok.objects.items c.objects.ensures.sound
          c.in-Ok.ensures.all db (subst (λ os. IsStoreOf (lent os) db) c.deref.ensures.value
          filled)) makes.crash;
    }) c.create.ensures.makes

pub returns-in-Ok-clause-fails : goal.returns-in-Ok-clause-fails
returns-in-Ok-clause-fails g c =
    IfErr-weaker c.create.result _ _ (λ e fails. record {
      none = record {
        autocommit = fails.autocommit;
        was_open = fails.was_open;
        kept = fails.kept;
        crash = left_as g.S.Store c.args.conn e.1 (λ db filled.
            lent_rows c.args.registry.now c.in-Ok.objects.items c.objects.ensures.sound
            c.in-Ok.ensures.all db (subst (λ os. IsStoreOf (lent os) db) c.deref.ensures.value
            filled)) fails.crash;
      };
      not_empty = fails.not_empty;
      store = fails.store;
      untabled = λ error is none some. let told = fails.untabled none some in cc;
    }) c.create.ensures.fails
