use Rattle.std.proofs.Common.{map, sym, ap, ◌∙◌}
use Rattle.std.proofs.lemmas.List.Sorted.{IsPermutation-sym, IsPermutation-trans}
use Rattle.rr_store.specs.NamingParts.{naming_row}
use Rattle.rr_store.proofs.NamingLemmas.{rows_in_order}
use Rattle.rr_store.proofs.namings.are_named.Goals as goal

pub returns-clause-only : goal.returns-clause-only
returns-clause-only c sorted same =
    let listed = c.in_ok-namings.ensures in
    let rows = rows_in_order c.in_ok-namings.namings.items c.args.rows.now
    (IsPermutation-trans _ _ _ (IsPermutation-sym _ _ listed.same) same) listed.sorted sorted in
    c.are_rows_of.ensures.only (rows ∙ sym (ap (map naming_row) c.deref.ensures.value))
