use Rattle.std.proofs.Common.{arith}
use Rattle.std.proofs.lemmas.Result.{err_from_is_err_and}
use Rattle.sqlite_trees.proofs.ListLemmas.{all-permutation}
use Rattle.sqlite.specs.Held.{state}
use Rattle.sqlite.specs.State.{HasCleanDisk}
use Rattle.rr_store.specs.Contents.{IsTidy}
use Rattle.rr_store.specs.LookParts.{HoldsOnCleanDisk, IsTabled}
use Rattle.rr_store.specs.Maps.{IsObjectOf}
use Rattle.rr_store.specs.Versions.{form_of, version_text}
use Rattle.rr_store.proofs.CheckLemmas.{both_err, both_ok, each_err}
use Rattle.rr_store.proofs.InspectLemmas.{inspects_then, judged, refused_as, seen_then}
use Rattle.rr_store.proofs.StoredLemmas.{none_apart, none_named, none_read, stored}
use Rattle.rr_store.proofs.opening.checked_objects.Goals as goal

pub returns : goal.returns
returns g c over =
    let old = c.args.conn.now in
    let mid = c.check_objects.new.conn in
    let new = c.check_named_table.new.conn in
    let form = form_of c.args.version in
    let text = version_text c.args.version in
    let objects = c.in_ok-objects.objects.items in
    let db = (state g.S.Store old).now in
    let tabled : HoldsOnCleanDisk g.S.Store IsTabled old = λ clean. (over clean).tables in
    let held = c.in_ok-objects.ensures.inspects tabled in
    let last = c.in_ok-check_named_table.ensures (seen_then g.S.Store old mid held.looks.rests
    held.looks.same IsTabled tabled) in
    let named = inspects_then g.S.Store old mid held.looks.rests held.looks.same new _ _ _ last in
    let before : HasCleanDisk (state g.S.Store new) → HasCleanDisk (state g.S.Store mid) = λ clean.
    omega (arith, clean, last.looks.rests.crash.clean) in
    record {
      inspects =
          judged g.S.Store old new c.in_order.result _ _ named.looks.rests named.looks.same
          (λ clean.
          let first = before clean in
          let numbered = over (omega (arith, first, held.looks.rests.crash.clean)) in
          let rows = held.read first in
          let names = named.read clean in
          let tidy : IsTidy db = record {
            has = numbered.tables;
            meta = numbered.numbered;
            object = rows.0;
            named = names.0;
          } in
          both_ok c.in_order.result _ _ _ c.in_order.ensures.same c.in_order.ensures.order
          (λ ordered reordered order version. stored form c.args.source.now text objects
          ordered.items db
          tidy version rows.1.all (rw c.deref.ensures.value at names.1) reordered order))
          (λ clean.
          let rows = held.read (before clean) in
          both_err c.in_order.result _ _ _ c.in_order.ensures.fault c.in_order.ensures.row_fault
          (λ fault tied alone. record {
            bad_row = λ bad. none_apart form c.args.source.now text objects db rows.1.all
                (tied bad);
            no_other = alone.no_other;
          }))
          (each_err c.in_order.result _ _ c.in_order.ensures.row_fault
          (λ fault alone. alone.no_store));
      listed =
          both_ok c.in_order.result _ _ _ c.in_order.ensures.same c.in_order.ensures.order
          (λ ordered same order. record {
            in_order = order;
            of_source = all-permutation (IsObjectOf c.args.source.now) c.in_ok-objects.objects.items
                ordered.items same c.in_ok-objects.ensures.of_source;
          });
    }

pub returns-in_err-check_named_table : goal.returns-in_err-check_named_table
returns-in_err-check_named_table g c =
    let old = c.args.conn.now in
    let mid = c.check_objects.new.conn in
    let new = c.check_named_table.new.conn in
    let exit = err_from_is_err_and c.from_residual-in_err-check_named_table.result
    c.from_residual-in_err-check_named_table.ensures.1 in
    rw (exit.1, exit.2) (λ over.
    let tabled : HoldsOnCleanDisk g.S.Store IsTabled old = λ clean. (over clean).tables in
    let held = c.in_ok-objects.ensures.inspects tabled in
    let last = c.in_err-check_named_table.ensures (seen_then g.S.Store old mid held.looks.rests
    held.looks.same IsTabled tabled) in
    let named = inspects_then g.S.Store old mid held.looks.rests held.looks.same new _ _ _ last in
    let before : HasCleanDisk (state g.S.Store new) → HasCleanDisk (state g.S.Store mid) = λ clean.
    omega (arith, clean, last.looks.rests.crash.clean) in
    record {
      inspects =
          refused_as g.S.Store old new c.in_err-check_named_table.field-0.0 _ _ _ _
          named (λ clean why. record {
            bad_row = λ bad. none_named (form_of c.args.version) c.args.source.now
                (version_text c.args.version) c.in_ok-objects.objects.items
                (state g.S.Store old).now
                (held.read (before clean)).1.all
                (rw c.deref.ensures.value at (why.bad_row bad));
            no_other = why.no_other;
          });
      listed = tt;
    })

pub returns-in_err-objects : goal.returns-in_err-objects
returns-in_err-objects g c =
    let exit = err_from_is_err_and c.from_residual.result c.from_residual.ensures.1 in
    rw (exit.1, exit.2) (λ over. record {
      inspects =
          refused_as g.S.Store c.args.conn.now c.check_objects.new.conn
          c.in_err-objects.field-0.0 _ _ _ _ (c.in_err-objects.ensures.inspects
          (λ clean. (over clean).tables)) (λ clean why. record {
            bad_row = λ bad. none_read (form_of c.args.version) c.args.source.now
                (version_text c.args.version) (state g.S.Store c.args.conn.now).now
                (why.bad_row bad);
            no_other = why.no_other;
          });
      listed = tt;
    })
