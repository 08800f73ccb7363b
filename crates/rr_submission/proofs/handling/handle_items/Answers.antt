-- Reading moves what was given, and a line moves how far the items have come.
use Rattle.std.proofs.Common.{[], ◌++◌, arith}
use Rattle.std.proofs.lemmas.Result.{err_from_is_err_and}
use Rattle.rr_submission.proofs.Progress.{ComesTo-start, ComesTo-more, Handles-cut, HandlesAll-end}
use Rattle.rr_submission.proofs.Progress.{given_few}
use Rattle.rr_submission.proofs.handling.handle_items.Goals as goal

pub returns-in_default-clause-lasts : goal.returns-in_default-clause-lasts
returns-in_default-clause-lasts g c = record {
  running = c.requires.running;
  lasts = g.met.L.Ledger.lasts_still c.args.ledger.now;
  kept = λ kept. kept;
}

pub items-init : goal.items-init
items-init g c = (
  ([], c.in-Ok.ensures.given _, rw c.new-2.ensures (ComesTo-start _ _ _ c.requires.sound)),
  record {
    running = c.requires.running;
    lasts = g.met.L.Ledger.lasts_still c.args.ledger.now;
    kept = λ kept. kept;
  },
)

pub handle_item-requires-clause-room : goal.handle_item-requires-clause-room
handle_item-requires-clause-room g c =
    let so = c.items.invariant.0 in
    let few = given_few _ _ c.items.paragraphs so.0 so.1 in record {
      items = omega (arith, so.2.few, few);
      refused = omega (arith, so.2.fewer, so.2.few, few);
    }

pub returns-in_err-handle_item-in-Ok-Some-clause-handles :
    goal.returns-in_err-handle_item-in-Ok-Some-clause-handles
returns-in_err-handle_item-in-Ok-Some-clause-handles g c =
    let exit = err_from_is_err_and c.from_residual.result c.from_residual.ensures.1 in
    let so = c.items.invariant.0 in
    let found = rw c.in-Ok-Some.field-0-is at (c.in-Ok-Some.ensures.finds _ so.0 so.1) in
    rw (exit.1, exit.2) (Handles-cut g.L.Ledger _ _ _ _ _ _ _ _
    c.handle_item.new.course _ _ so.2 c.items.invariant.1.running found
    c.in_err-handle_item-in-Ok-Some.ensures.handles)

pub returns-in_err-handle_item-in-Ok-Some-clause-lasts :
    goal.returns-in_err-handle_item-in-Ok-Some-clause-lasts
returns-in_err-handle_item-in-Ok-Some-clause-lasts g c =
    let exit = err_from_is_err_and c.from_residual.result c.from_residual.ensures.1 in
    let so = c.items.invariant.1 in
    let on = c.in_err-handle_item-in-Ok-Some.ensures.lasts in
    record {
      running = rw (exit.1, exit.2) on.running;
      lasts = g.met.L.Ledger.lasts_on _ _ _ so.lasts on.lasts;
      kept = λ kept. on.kept (so.kept kept);
    }

pub items-preserved : goal.items-preserved
items-preserved g c =
    let so = c.items.invariant.0 in
    let kept = c.items.invariant.1 in
    let found = rw c.in-Ok-Some.field-0-is at (c.in-Ok-Some.ensures.finds _ so.0 so.1) in
    let one = c.in_ok-handle_item-in-Ok-Some.ensures.handles in
    let on = c.in_ok-handle_item-in-Ok-Some.ensures.lasts in (
      (
        so.0 ++ found.added,
        found.has,
        rw c.in_ok-handle_item-in-Ok-Some.ensures.same_secrets
            (ComesTo-more _ _ _ _ _ _ _ _ one.outcome so.2 found one.decides one.items one.refused
            one.writes),
      ),
      record {
        running = on.running;
        lasts = g.met.L.Ledger.lasts_on _ _ _ kept.lasts on.lasts;
        kept = λ before. on.kept (kept.kept before);
      },
    )

pub returns-in-Ok-None-clause-handles : goal.returns-in-Ok-None-clause-handles
returns-in-Ok-None-clause-handles g c =
    let so = c.items.invariant.0 in
    let none = rw c.in-Ok-None.field-0-is at (c.in-Ok-None.ensures.finds _ so.0 so.1) in
    record {
      given = so.0 ++ none.added;
      ended = none.all;
      handles = HandlesAll-end none.added so.2
          none.none;
    }

pub returns-in-Err-clause-handles : goal.returns-in-Err-clause-handles
returns-in-Err-clause-handles g c =
    let so = c.items.invariant.0 in
    let none = (c.in-Err.ensures.finds _ so.0 so.1).1 in
    record {
      given = so.0 ++ none.added;
      ended = none.all;
      handles = HandlesAll-end none.added so.2
          none.none;
    }
