use Rattle.std.proofs.Common.{◌≡◌, ◌+◌, ◌<◌, ◌++◌, ◌∷◌, [], None, length, map, flat_map, take, sym}
use Rattle.std.proofs.Common.{ap, subst, ◌∙◌, arith}
use Rattle.std.specs.Prelude.{option_copied}
use Rattle.std.proofs.Math.Seq.{take-length}
use Rattle.std.proofs.lemmas.List.{map-append, take_more}
use Rattle.rr_store.proofs.AddedLemmas.{append_none, flat_map-append}
use Rattle.sqlite.specs.Given.{Advances, row_if}
use Rattle.rr_object.specs.Objects.{Obj}
use Rattle.rr_store.specs.Contents.{columns, contents}
use Rattle.rr_store.specs.Entries.{StoredEntry, named_rows}
use Rattle.rr_store.specs.Maps.{entry_in}
use Rattle.rr_store.specs.Versions.{form_of}
use Rattle.rr_store.proofs.StreamLemmas.{read_all, read_then}
use Rattle.std.proofs.lemmas.Result.{err_from_is_err_and}
use Rattle.rr_store.specs.StreamParts.{FailsAfterRows}
use Rattle.rr_store.proofs.FailureLemmas.{is_store, failed_after, failed_within}
use Rattle.rr_store.proofs.row_streams.take_all_names.Goals as goal

pub loop-object-preserved : goal.loop-object-preserved
loop-object-preserved g c =
    let object = c.object-item.result in
    let objects = c.args.objects.now in
    let at = c.loop-object.object-index in
    let entry : Obj → StoredEntry = entry_in (form_of c.args.version) in
    let within : at < length objects = omega arith in
    let grown : flat_map named_rows (map entry (take (at + 1) objects)) ≡ flat_map named_rows
    (map entry (take at objects)) ++ named_rows (entry object) =
    ap (λ os. flat_map named_rows (map entry os)) (take_more objects at object within
    ∙ ap (λ o. take at objects ++ o ∷ []) (sym c.object-item.is))
    ∙ (ap (flat_map named_rows) (map-append entry (take at objects) (object ∷ []))
    ∙ (flat_map-append named_rows (map entry (take at objects)) (entry object ∷ [])
    ∙ ap (λ l. flat_map named_rows (map entry (take at objects)) ++ l)
    (append_none (named_rows (entry object))))) in (
      c.in_ok-take_names_of.ensures.streams.same_reference ∙ c.loop-object.invariant.0,
      read_then g.S.Store c.args.rows.now.conn.now c.loop-object.rows.conn.now
          c.take_names_of.new.rows.conn.now (λ rows. contents rows ≡ flat_map named_rows
          (map entry (take at objects))) c.loop-object.invariant.1
          c.in_ok-take_names_of.ensures.streams.left.autocommit
          c.in_ok-take_names_of.ensures.streams.left.survives
          (λ more. contents more ≡ named_rows (entry object))
          (λ rows. contents rows ≡ flat_map named_rows (map entry (take (at + 1) objects)))
          c.in_ok-take_names_of.ensures.streams.left.same
          (λ clean. c.in_ok-take_names_of.ensures.are clean c.if-not-branch.false)
          (λ rows more told last. map-append columns rows more
          ∙ ((λ i. told i ++ last i) ∙ sym grown)),
    )

pub returns-in-None-clause-are : goal.returns-in-None-clause-are
returns-in-None-clause-are g c clean on =
    let objects = c.args.objects.now in
    let entry : Obj → StoredEntry = entry_in (form_of c.args.version) in
    let last : c.loop-object.object-index ≡ length objects =
    omega (arith, c.loop-object-test.false, c.loop-object.auto.object-index-end) in
    let none : row_if c.advance.new.self.has_row c.advance.new.self.conn.now ≡ None =
    sym c.get.ensures ∙ ap option_copied c.in-None.is in
    let all = read_all g.S.Store c.args.rows.now.conn.now c.loop-object.rows.conn.now
    c.advance.new.self.conn.now (λ rows. contents rows ≡ flat_map named_rows
    (map entry (take c.loop-object.object-index objects))) c.loop-object.invariant.1
    c.advance.ensures.mode c.advance.ensures.survives clean
    (subst (Advances g.S.Store c.loop-object.rows.conn.now c.advance.new.self.conn.now) none
    (c.in_ok-advance.ensures.ok clean)) in (
      all.0,
      all.1,
      all.2 ∙ ap (λ os. flat_map named_rows (map entry os))
          (ap (λ n. take n objects) last ∙ take-length objects),
    )

pub returns-in_err-take_names_of-clause-fails : goal.returns-in_err-take_names_of-clause-fails
returns-in_err-take_names_of-clause-fails g c =
    let exit = err_from_is_err_and c.from_residual.result c.from_residual.ensures.1 in
    rw (exit.1, exit.2) (record {
      no_other = c.in_err-take_names_of.ensures.fails.no_other;
      fails = λ clean error is. failed_within g.S.Store c.args.rows.now.conn.now
          c.loop-object.rows.conn.now c.take_names_of.new.rows.conn.now
          (λ rows. contents rows ≡ flat_map named_rows (map (entry_in (form_of c.args.version))
          (take c.loop-object.object-index c.args.objects.now))) c.loop-object.invariant.1
          (omega (arith, clean, c.in_err-take_names_of.ensures.streams.left.survives.clean)) error
          (c.in_err-take_names_of.ensures.fails.fails clean error is);
    })

pub returns-in_err-advance-clause-fails : goal.returns-in_err-advance-clause-fails
returns-in_err-advance-clause-fails g c =
    let old = c.args.rows.now.conn.now in
    let new = c.advance.new.self.conn.now in
    let exit = err_from_is_err_and c.from_residual-in_err-advance.result
    c.from_residual-in_err-advance.ensures.1 in
    rw (exit.1, exit.2) (record {
      no_other = λ n is. absurd (cc);
      fails = λ clean. is_store (FailsAfterRows g.S.Store old new) c.in_err-advance.field-0.0
          (failed_after g.S.Store old c.loop-object.rows.conn.now new
          (λ rows. contents rows ≡ flat_map named_rows (map (entry_in (form_of c.args.version))
          (take c.loop-object.object-index c.args.objects.now))) c.loop-object.invariant.1
          (omega (arith, clean, c.advance.ensures.survives.clean)) c.in_err-advance.field-0.0
          (c.in_err-advance.ensures.err clean));
    })
