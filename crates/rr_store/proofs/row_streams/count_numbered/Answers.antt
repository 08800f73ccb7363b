use Rattle.std.proofs.Common.{rules, ◌≡◌, ◌+◌, inl, inr, length, length-append, ◌++◌, ◌∷◌, [], List}
use Rattle.std.proofs.Common.{Some, None, refl, sym, ap, subst, ◌∙◌, w64, arith}
use Rattle.std.specs.Prelude.{option_copied}
use mir.Val.{to_z, of_z}
use Rattle.std.proofs.lemmas.Int.{to_z-of_z}
use Rattle.rr_store.proofs.NumberLemmas.{IsRun, run_keyed, run_more}
use Rattle.sqlite.specs.Given.{Advances, row_if}
use Rattle.std.proofs.lemmas.Result.{err_from_is_err_and}
use Rattle.sqlite_value.specs.Order.{Row}
use Rattle.rr_store.specs.Contents.{AreNumbered, by_one}
use Rattle.std.proofs.Common.{IsSorted}
use Rattle.rr_store.proofs.NextLemmas.{IsLast, none_next}
use Rattle.rr_store.proofs.FailureLemmas.{failed_after}
use Rattle.rr_store.proofs.StreamLemmas.{HasRead, none_read, read_all, read_more}
use Rattle.rr_store.proofs.row_streams.count_numbered.Goals as goal

pub rows-init : goal.rows-init
rows-init g c = (
  search rules,
  none_read g.S.Store c.args.rows.now.conn.now (λ rows. IsRun None rows
      × IsLast None rows × (0 ≡ length rows)) c.requires (refl, tt, refl),
)

pub rows-preserved : goal.rows-preserved
rows-preserved g c =
    let n = c.in_ok-next_number.field-0 in
    let same : to_z w64 (of_z w64 n) ≡ n = to_z-of_z w64 n (search rules) in
    let row : row_if c.advance.new.self.has_row c.advance.new.self.conn.now
    ≡ Some c.in-Some.row.now = sym c.get.ensures ∙ ap option_copied c.in-Some.is in (
      c.in_ok-advance.ensures.same_reference ∙ c.rows.invariant.0,
      read_more g.S.Store c.args.rows.now.conn.now c.rows.rows.conn.now c.advance.new.self.conn.now
          (λ rows. IsRun c.rows.last rows × IsLast c.rows.last rows × (c.rows.count ≡ length rows))
          c.rows.invariant.1 c.advance.ensures.mode c.advance.ensures.survives
          (λ rows. IsRun (Some (to_z w64 (of_z w64 n))) rows
          × IsLast (Some (to_z w64 (of_z w64 n))) rows × (c.rows.count + 1 ≡ length rows))
          c.in-Some.row.now c.in_ok-advance.ensures.same
          (λ clean. subst (Advances g.S.Store c.rows.rows.conn.now c.advance.new.self.conn.now) row
          (c.in_ok-advance.ensures.ok clean))
          (λ rows run. subst (λ m. IsRun (Some m) (rows ++ c.in-Some.row.now ∷ [])
          × IsLast (Some m) (rows ++ c.in-Some.row.now ∷ [])
          × (c.rows.count + 1 ≡ length (rows ++ c.in-Some.row.now ∷ []))) (sym same) (
            run_more c.rows.last rows c.in-Some.row.now n run.0 c.in_ok-next_number.ensures.number
                c.in_ok-next_number.ensures.past,
            (rows, c.in-Some.row.now, refl, c.in_ok-next_number.ensures.number),
            ap (λ k. k + 1) run.2 ∙ sym (length-append rows (c.in-Some.row.now ∷ [])),
          )),
    )

pub returns-in_default-clause-numbered : goal.returns-in_default-clause-numbered
returns-in_default-clause-numbered g c clean =
    let none : row_if c.advance.new.self.has_row c.advance.new.self.conn.now ≡ None =
    sym c.get.ensures ∙ ap option_copied c.in_default.is in
    let all = read_all g.S.Store c.args.rows.now.conn.now c.rows.rows.conn.now
    c.advance.new.self.conn.now (λ rows. IsRun c.rows.last rows × IsLast c.rows.last rows
    × (c.rows.count ≡ length rows)) c.rows.invariant.1 c.advance.ensures.mode
    c.advance.ensures.survives clean
    (subst (Advances g.S.Store c.rows.rows.conn.now c.advance.new.self.conn.now) none
    (c.in_ok-advance.ensures.ok clean)) in
    (all.0, all.1, run_keyed c.rows.last all.0 all.2.0, all.2.2)

pub returns-in_err-advance-clause-fails : goal.returns-in_err-advance-clause-fails
returns-in_err-advance-clause-fails g c clean =
    let exit = err_from_is_err_and c.from_residual.result c.from_residual.ensures.1 in
    rw (exit.1, exit.2)
    (inr (inl (failed_after g.S.Store c.args.rows.now.conn.now c.rows.rows.conn.now
    c.advance.new.self.conn.now (λ rows. IsRun c.rows.last rows × IsLast c.rows.last rows
    × (c.rows.count ≡ length rows)) c.rows.invariant.1
    (omega (arith, clean, c.advance.ensures.survives.clean)) c.in_err-advance.field-0.0
    (c.in_err-advance.ensures.err clean))))

pub returns-in_err-next_number-clause-fails : goal.returns-in_err-next_number-clause-fails
returns-in_err-next_number-clause-fails g c clean =
    let values = c.in-Some.row.now in
    let last = c.rows.last in
    let exit = err_from_is_err_and c.from_residual-in_err-next_number.result
    c.from_residual-in_err-next_number.ensures.1 in
    let row : row_if c.advance.new.self.has_row c.advance.new.self.conn.now ≡ Some values =
    sym c.get.ensures ∙ ap option_copied c.in-Some.is in
    let now : HasRead g.S.Store c.args.rows.now.conn.now c.advance.new.self.conn.now
    (λ rows. (before : List Row) × (rows ≡ before ++ values ∷ []) × IsLast last before) =
    read_more g.S.Store c.args.rows.now.conn.now c.rows.rows.conn.now c.advance.new.self.conn.now
    (λ rows. IsRun last rows × IsLast last rows × (c.rows.count ≡ length rows))
    c.rows.invariant.1 c.advance.ensures.mode c.advance.ensures.survives
    (λ rows. (before : List Row) × (rows ≡ before ++ values ∷ []) × IsLast last before) values
    c.in_ok-advance.ensures.same
    (λ clean. subst (Advances g.S.Store c.rows.rows.conn.now c.advance.new.self.conn.now) row
    (c.in_ok-advance.ensures.ok clean)) (λ rows run. (rows, refl, run.1)) in
    let given = now.rows clean in
    rw (exit.1, exit.2) (elim c.in_err-next_number.ensures.not_next [
      | inl memory ↦ inl memory
      | inr none ↦ inr (inr (record {
        same = now.same clean;
        more = given.0;
        gives = given.1;
        none = λ rest keyed sorted. none_next rest given.2.0 values last given.2.2 none
            (subst (λ xs. AreNumbered (xs ++ rest)) given.2.1 keyed)
            (subst (λ xs. IsSorted by_one (xs ++ rest)) given.2.1 sorted);
      }))
    ])
