use Rattle.std.proofs.Common.{rules, ◌≡◌, ◌++◌, ◌∷◌, [], List, Some, None, refl, sym, ap, subst}
use Rattle.std.proofs.Common.{subst₂, ◌∙◌, append_assoc, arith}
use Rattle.std.specs.Prelude.{option_copied}
use Rattle.std.specs.List.{AllByRecursion}
use Rattle.std.proofs.lemmas.List.{map-append}
use Rattle.std.proofs.lemmas.Result.{err_from_is_err_and}
use Rattle.sqlite_trees.proofs.ListLemmas.{all-append}
use Rattle.rr_store.specs.Contents.{columns, contents}
use Rattle.rr_store.specs.Maps.{IsObjectOf}
use Rattle.rr_store.specs.ReadingParts.{AreRead}
use Rattle.rr_store.specs.Versions.{form_of}
use Rattle.rr_store.proofs.ObjectLemmas as objects
use Rattle.sqlite_value.specs.Order.{Row}
use Rattle.sqlite.specs.Given.{Advances, row_if}
use Rattle.rr_store.proofs.StreamLemmas.{HasRead, none_read, read_all, read_more}
use Rattle.rr_store.specs.StreamParts.{FailsAfterRows}
use Rattle.rr_store.proofs.FailureLemmas.{is_store, failed_after}
use Rattle.rr_store.proofs.row_streams.take_objects.Goals as goal

pub rows-init : goal.rows-init
rows-init g c = (
  search rules,
  none_read g.S.Store c.args.rows.now.conn.now
      (λ rows. AreRead (form_of c.args.version) c.args.source.now (contents rows)
      c.in_ok-objects.objects.items) c.requires (rw c.in_ok-objects.ensures.items tt),
  rw c.in_ok-objects.ensures.items tt,
)

pub rows-preserved : goal.rows-preserved
rows-preserved g c =
    let form = form_of c.args.version in
    let source = c.args.source.now in
    let it = c.in_ok-take_object.ensures.read in
    let row : row_if c.advance.new.self.has_row c.advance.new.self.conn.now
    ≡ Some c.in-Some.row.now = sym c.get.ensures ∙ ap option_copied c.in-Some.is in (
      c.in_ok-advance.ensures.same_reference ∙ c.rows.invariant.0,
      read_more g.S.Store c.args.rows.now.conn.now c.rows.rows.conn.now c.advance.new.self.conn.now
          (λ rows. AreRead form source (contents rows) c.rows.objects.items) c.rows.invariant.1
          c.advance.ensures.mode c.advance.ensures.survives
          (λ rows. AreRead form source (contents rows) c.take_object.new.objects.items)
          c.in-Some.row.now c.in_ok-advance.ensures.same
          (λ clean. subst (Advances g.S.Store c.rows.rows.conn.now c.advance.new.self.conn.now) row
          (c.in_ok-advance.ensures.ok clean))
          (λ rows read. subst₂ (AreRead form source)
          (sym (map-append columns rows (c.in-Some.row.now ∷ []))) (sym it.3)
          (objects.read_more form source (contents rows) c.rows.objects.items
          (columns c.in-Some.row.now) it.0 read it.1 it.2)),
      subst (AllByRecursion (IsObjectOf source)) (sym it.3)
          (all-append (IsObjectOf source) c.rows.objects.items (it.0 ∷ []) c.rows.invariant.2
          (it.1, tt)),
    )

pub returns-in_default-clause-read : goal.returns-in_default-clause-read
returns-in_default-clause-read g c clean =
    let none : row_if c.advance.new.self.has_row c.advance.new.self.conn.now ≡ None =
    sym c.get.ensures ∙ ap option_copied c.in_default.is in
    read_all g.S.Store c.args.rows.now.conn.now c.rows.rows.conn.now c.advance.new.self.conn.now
    (λ rows. AreRead (form_of c.args.version) c.args.source.now (contents rows)
    c.rows.objects.items) c.rows.invariant.1 c.advance.ensures.mode c.advance.ensures.survives
    clean
    (subst (Advances g.S.Store c.rows.rows.conn.now c.advance.new.self.conn.now) none
    (c.in_ok-advance.ensures.ok clean))

pub returns-in_err-take_object-clause-refuses : goal.returns-in_err-take_object-clause-refuses
returns-in_err-take_object-clause-refuses g c clean =
    let form = form_of c.args.version in
    let source = c.args.source.now in
    let values = c.in-Some.row.now in
    let exit = err_from_is_err_and c.from_residual-in_err-take_object.result
    c.from_residual-in_err-take_object.ensures.1 in
    let row : row_if c.advance.new.self.has_row c.advance.new.self.conn.now
    ≡ Some c.in-Some.row.now = sym c.get.ensures ∙ ap option_copied c.in-Some.is in
    let now : HasRead g.S.Store c.args.rows.now.conn.now c.advance.new.self.conn.now
    (λ rows. (before : List Row) × (rows ≡ before ++ values ∷ [])) =
    read_more g.S.Store c.args.rows.now.conn.now c.rows.rows.conn.now c.advance.new.self.conn.now
    (λ rows. AreRead form source (contents rows) c.rows.objects.items) c.rows.invariant.1
    c.advance.ensures.mode c.advance.ensures.survives
    (λ rows. (before : List Row) × (rows ≡ before ++ values ∷ [])) values
    c.in_ok-advance.ensures.same
    (λ clean. subst (Advances g.S.Store c.rows.rows.conn.now c.advance.new.self.conn.now) row
    (c.in_ok-advance.ensures.ok clean)) (λ rows read. (rows, refl)) in
    let given = now.rows clean in
    rw (exit.1, exit.2) (record {
      bad_row = λ bad. (
        given.0,
        given.1,
        λ rest others read.
            let whole : contents (given.0 ++ rest) ≡ contents given.2.0 ++ columns values
            ∷ contents rest =
            ap (λ xs. contents (xs ++ rest)) given.2.1
            ∙ (ap contents (append_assoc given.2.0 (values ∷ []) rest) ∙ map-append columns
            given.2.0 (values ∷ rest)) in
            let it = objects.read_between form source (contents given.2.0) (columns values)
            (contents rest) others (subst (λ xs. AreRead form source xs others) whole read) in
            c.in_err-take_object.ensures.bad_row bad it.0 it.1 it.2,
      );
      unchanged = λ none. now.same clean;
    })

pub returns-in_err-advance-clause-refuses : goal.returns-in_err-advance-clause-refuses
returns-in_err-advance-clause-refuses g c clean =
    let exit = err_from_is_err_and c.from_residual-in_err-advance.result
    c.from_residual-in_err-advance.ensures.1 in
    rw (exit.1, exit.2) (record {
      bad_row = λ bad. absurd (cc);
      unchanged = λ none. absurd (none c.in_err-advance.field-0.0 refl);
    })

pub returns-in_err-advance-clause-fails : goal.returns-in_err-advance-clause-fails
returns-in_err-advance-clause-fails g c =
    let old = c.args.rows.now.conn.now in
    let new = c.advance.new.self.conn.now in
    let exit = err_from_is_err_and c.from_residual-in_err-advance.result
    c.from_residual-in_err-advance.ensures.1 in
    rw (exit.1, exit.2) (record {
      no_other = λ n is. absurd (cc);
      fails = λ clean. is_store (FailsAfterRows g.S.Store old new) c.in_err-advance.field-0.0
          (failed_after g.S.Store old c.rows.rows.conn.now new
          (λ rows. AreRead (form_of c.args.version) c.args.source.now (contents rows)
          c.rows.objects.items) c.rows.invariant.1
          (omega (arith, clean, c.advance.ensures.survives.clean)) c.in_err-advance.field-0.0
          (c.in_err-advance.ensures.err clean));
    })
