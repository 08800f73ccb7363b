use Rattle.std.proofs.Common.{◌≡◌, ℕ, ◌+◌, ◌<◌, ◌++◌, ◌∷◌, [], List, Some, length, map, take, sym}
use Rattle.std.proofs.Common.{ap, subst, ◌∙◌, arith}
use Rattle.std.specs.Prelude.{option_copied}
use Rattle.std.proofs.lemmas.List.{map-append, take_more}
use Rattle.sqlite_value.specs.Order.{Row}
use Rattle.sqlite.specs.Given.{Advances, row_if}
use Rattle.rr_store.specs.Contents.{columns, contents, named_values}
use Rattle.rr_store.proofs.StreamLemmas.{read_more}
use Rattle.std.proofs.lemmas.Result.{err_from_is_err_and}
use Rattle.rr_store.proofs.FailureLemmas.{failed_after}
use Rattle.rr_store.proofs.row_streams.take_names.Goals as goal

pub loop-name-preserved : goal.loop-name-preserved
loop-name-preserved g c =
    let name = c.name-item.result in
    let names = c.args.names.now in
    let at = c.loop-name.name-index in
    let values = c.in-Some.row.now in
    let row : List ℕ → Row = λ n. named_values n c.args.class c.args.key.now in
    let within : at < length names = omega arith in
    let grown : map row (take (at + 1) names) ≡ map row (take at names) ++ row name ∷ [] =
    ap (map row) (take_more names at name within ∙ ap (λ n. take at names ++ n ∷ [])
    (sym c.name-item.is)) ∙ map-append row (take at names) (name ∷ []) in
    let is : columns values ≡ row name = c.is_named_row.ensures.is c.if-not-is_named_row.false
    ∙ ap row c.as_bytes.ensures.value in
    let moved : row_if c.advance.new.self.has_row c.advance.new.self.conn.now ≡ Some values =
    sym c.get.ensures ∙ ap option_copied c.in-Some.is in (
      c.in_ok-advance.ensures.same_reference ∙ c.loop-name.invariant.0,
      read_more g.S.Store c.args.rows.now.conn.now c.loop-name.rows.conn.now
          c.advance.new.self.conn.now (λ rows. contents rows ≡ map row (take at names))
          c.loop-name.invariant.1 c.advance.ensures.mode c.advance.ensures.survives
          (λ rows. contents rows ≡ map row (take (at + 1) names)) values
          c.in_ok-advance.ensures.same
          (λ clean.
          subst (Advances g.S.Store c.loop-name.rows.conn.now c.advance.new.self.conn.now)
          moved (c.in_ok-advance.ensures.ok clean))
          (λ rows told. map-append columns rows (values ∷ [])
          ∙ ((λ i. told i ++ is i ∷ []) ∙ sym grown)),
    )

pub returns-in_err-advance-clause-fails : goal.returns-in_err-advance-clause-fails
returns-in_err-advance-clause-fails g c clean =
    let exit = err_from_is_err_and c.from_residual.result c.from_residual.ensures.1 in
    rw (exit.1, exit.2) (failed_after g.S.Store c.args.rows.now.conn.now c.loop-name.rows.conn.now
    c.advance.new.self.conn.now
    (λ rows. contents rows ≡ map (λ n. named_values n c.args.class c.args.key.now)
    (take c.loop-name.name-index c.args.names.now)) c.loop-name.invariant.1
    (omega (arith, clean, c.advance.ensures.survives.clean)) c.in_err-advance.field-0.0
    (c.in_err-advance.ensures.err clean))
