use Rattle.std.proofs.Common.{◌≡◌, inl, true, refl, arith, subst, sym}
use Rattle.std.proofs.lemmas.Result.{err_from_is_err_and}
use Rattle.sqlite.specs.Held.{state}
use Rattle.rr_store.specs.Calls.{Transacts}
use Rattle.rr_store.specs.Contents.{IsTidy}
use Rattle.rr_store.specs.Migrating.{IsMigrated, has_mntner}
use Rattle.rr_store.specs.MigratingParts.{IsRewritten}
use Rattle.rr_store.proofs.CommitLemmas.{writes_as, writes_failed, writes_ok}
use Rattle.rr_store.proofs.LookLemmas.{writes_then}
use Rattle.rr_store.proofs.MigratedLemmas.{migrated}
use Rattle.rr_store.proofs.OtherVersions.{unread_refuses, unread_store}
use Rattle.rr_store.proofs.migrating.migrate_rows.Goals as goal

pub rewrite-requires : goal.rewrite-requires
rewrite-requires g c =
    let held = c.in_ok-objects.ensures.inspects in
    λ clean. subst IsTidy (sym (held.looks.same clean).0.now_is)
    (held.read (omega (arith, clean, held.looks.rests.crash.clean))).rows.tidy

pub returns-in_ok-rewrite-clause-migrates : goal.returns-in_ok-rewrite-clause-migrates
returns-in_ok-rewrite-clause-migrates g c =
    let is = c.has_mntner.ensures in
    let same = c.deref.ensures.value in
    let held = c.if-has_mntner.true in
    let root = c.args.root.now in
    let source = c.args.source.now in
    let objects = c.in_ok-objects.objects.items in
    let old = c.args.conn.now in
    let new = c.rewrite.new.conn in
    let registered : has_mntner root objects ≡ true = cc in
    let written : Transacts g.S.Store (IsRewritten root source objects) old new c.rewrite.result =
    writes_then g.S.Store old c.stored_objects.new.conn new
    c.in_ok-objects.ensures.inspects.looks.rests
    c.in_ok-objects.ensures.inspects.looks.same (IsRewritten root source objects) c.rewrite.result
    c.rewrite.ensures in
    let done : Transacts g.S.Store (IsMigrated root source) old new c.rewrite.result =
    writes_as g.S.Store old new (IsRewritten root source objects) (IsMigrated root source)
    c.rewrite.result
    (λ clean db rewritten. migrated root source objects (state g.S.Store old).now db
    (c.in_ok-objects.ensures.inspects.read (omega (arith, clean, c.rewrite.ensures.crash.clean)))
    registered rewritten) written in
    writes_ok g.S.Store old new (IsMigrated root source) (IsMigrated root source)
    c.in_ok-rewrite.field-0 c.rewrite.result tt _ c.in_ok-rewrite.was refl done

pub returns-in_err-rewrite-clause-migrates : goal.returns-in_err-rewrite-clause-migrates
returns-in_err-rewrite-clause-migrates g c =
    let is = c.has_mntner.ensures in
    let same = c.deref.ensures.value in
    let held = c.if-has_mntner.true in
    let root = c.args.root.now in
    let source = c.args.source.now in
    let objects = c.in_ok-objects.objects.items in
    let old = c.args.conn.now in
    let new = c.rewrite.new.conn in
    let registered : has_mntner root objects ≡ true = cc in
    let written : Transacts g.S.Store (IsRewritten root source objects) old new c.rewrite.result =
    writes_then g.S.Store old c.stored_objects.new.conn new
    c.in_ok-objects.ensures.inspects.looks.rests
    c.in_ok-objects.ensures.inspects.looks.same (IsRewritten root source objects) c.rewrite.result
    c.rewrite.ensures in
    let done : Transacts g.S.Store (IsMigrated root source) old new c.rewrite.result =
    writes_as g.S.Store old new (IsRewritten root source objects) (IsMigrated root source)
    c.rewrite.result
    (λ clean db rewritten. migrated root source objects (state g.S.Store old).now db
    (c.in_ok-objects.ensures.inspects.read (omega (arith, clean, c.rewrite.ensures.crash.clean)))
    registered rewritten) written in
    writes_failed g.S.Store old new (IsMigrated root source) (IsMigrated root source)
    c.rewrite.result c.from_residual-in_err-rewrite.result (rw c.in_err-rewrite.was refl)
    c.from_residual-in_err-rewrite.ensures.0 done

pub returns-in_err-objects-clause-cause : goal.returns-in_err-objects-clause-cause
returns-in_err-objects-clause-cause g c =
    let exit = err_from_is_err_and c.from_residual.result c.from_residual.ensures.1 in
    rw (exit.1, exit.2) (λ error is tidy clean.
    inl (c.in_err-objects.ensures.inspects.cause error (unread_store c.in_err-objects.field-0.0
    error
    is) tidy clean))

pub returns-in_err-objects-clause-why : goal.returns-in_err-objects-clause-why
returns-in_err-objects-clause-why g c clean =
    let exit = err_from_is_err_and c.from_residual.result c.from_residual.ensures.1 in
    rw (exit.1, exit.2) (unread_refuses c.args.root.now c.args.source.now
    (state g.S.Store c.args.conn.now).now c.in_err-objects.field-0.0
    (c.in_err-objects.ensures.inspects.why clean))
