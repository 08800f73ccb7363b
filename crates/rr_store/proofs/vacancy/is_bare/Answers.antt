use Rattle.std.proofs.Common.{inl, inr, refl}
use Rattle.std.proofs.lemmas.Result.{err_from_is_err_and}
use Rattle.rr_store.specs.LookParts.{IsTabled}
use Rattle.rr_store.proofs.InspectLemmas.{seen_then, selects_bare, selects_then, unselected_as}
use Rattle.rr_store.proofs.vacancy.is_bare.Goals as goal
use Rattle.rr_store.proofs.vacancy.is_bare.Goals.{then-meta, else-meta}

pub returns-then-object : goal.returns-then-object
returns-then-object g c =
    let meta = c.in_ok-meta.ensures c.requires in
    let first = seen_then g.S.Store c.args.conn.now c.meta_is_empty.new.conn meta.looks.rests
    meta.looks.same IsTabled c.requires in
    let object = c.in_ok-object.ensures first in
    let second = seen_then g.S.Store c.meta_is_empty.new.conn c.object_is_empty.new.conn
    object.looks.rests object.looks.same IsTabled first in
    selects_bare g.S.Store c.args.conn.now c.meta_is_empty.new.conn c.object_is_empty.new.conn
    c.named_is_empty.new.conn c.in_ok-meta.meta c.in_ok-object.object c.in_ok-named.named
    c.in_ok-named.named c.requires meta object (c.in_ok-named.ensures second)
    (rw (c.if-object.true.0, c.if-object.true.1) refl)

pub returns-else-object : goal.returns-else-object
returns-else-object g c =
    let meta = c.in_ok-meta.ensures c.requires in
    let first = seen_then g.S.Store c.args.conn.now c.meta_is_empty.new.conn meta.looks.rests
    meta.looks.same IsTabled c.requires in
    let object = c.in_ok-object.ensures first in
    let second = seen_then g.S.Store c.meta_is_empty.new.conn c.object_is_empty.new.conn
    object.looks.rests object.looks.same IsTabled first in
    selects_bare g.S.Store c.args.conn.now c.meta_is_empty.new.conn c.object_is_empty.new.conn
    c.named_is_empty.new.conn c.in_ok-meta.meta c.in_ok-object.object c.in_ok-named.named _
    c.requires meta object (c.in_ok-named.ensures second)
    (elim c.if-meta.branch [
      | then-meta w ↦ elim c.if-object.either [
        | inl off ↦ rw (w.if-meta.true, off.1) (cc)
        | inr off ↦ absurd (cc)
      ]
      | else-meta w ↦ rw w.if-meta.false (cc)
    ])

pub returns-in_err-meta : goal.returns-in_err-meta
returns-in_err-meta g c =
    let exit = err_from_is_err_and c.from_residual.result c.from_residual.ensures.1 in
    rw (exit.1, exit.2) (unselected_as g.S.Store c.args.conn.now
    c.meta_is_empty.new.conn _ c.in_err-meta.field-0.0 _ (c.in_err-meta.ensures c.requires))

pub returns-in_err-object : goal.returns-in_err-object
returns-in_err-object g c =
    let exit = err_from_is_err_and c.from_residual-in_err-object.result
    c.from_residual-in_err-object.ensures.1 in
    rw (exit.1, exit.2) (
    let meta = c.in_ok-meta.ensures c.requires in
    let first = seen_then g.S.Store c.args.conn.now c.meta_is_empty.new.conn meta.looks.rests
    meta.looks.same IsTabled c.requires in
    unselected_as g.S.Store c.args.conn.now c.object_is_empty.new.conn _
    c.in_err-object.field-0.0 _ (selects_then g.S.Store c.args.conn.now c.meta_is_empty.new.conn
    meta.looks.rests meta.looks.same c.object_is_empty.new.conn _ _
    (c.in_err-object.ensures first)))

pub returns-in_err-named : goal.returns-in_err-named
returns-in_err-named g c =
    let exit = err_from_is_err_and c.from_residual-in_err-named.result
    c.from_residual-in_err-named.ensures.1 in
    rw (exit.1, exit.2) (
    let meta = c.in_ok-meta.ensures c.requires in
    let first = seen_then g.S.Store c.args.conn.now c.meta_is_empty.new.conn meta.looks.rests
    meta.looks.same IsTabled c.requires in
    let object = c.in_ok-object.ensures first in
    let second = seen_then g.S.Store c.meta_is_empty.new.conn c.object_is_empty.new.conn
    object.looks.rests object.looks.same IsTabled first in
    unselected_as g.S.Store c.args.conn.now c.named_is_empty.new.conn _
    c.in_err-named.field-0.0 _ (selects_then g.S.Store c.args.conn.now c.meta_is_empty.new.conn
    meta.looks.rests meta.looks.same c.named_is_empty.new.conn _ _
    (selects_then g.S.Store c.meta_is_empty.new.conn c.object_is_empty.new.conn
    object.looks.rests object.looks.same c.named_is_empty.new.conn _ _
    (c.in_err-named.ensures second))))
