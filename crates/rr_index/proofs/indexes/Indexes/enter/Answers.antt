use Rattle.std.proofs.Common.{◌≡◌, ℕ, List, sym, subst}
use Rattle.std.specs.Prelude.{◌+◌, None}
use Rattle.std.specs.FinMap.{get}
use Rattle.rr_auth.specs.Registries.{Reg}
use Rattle.rr_book.proofs.KeysUnderSets.{on_err}
use Rattle.rr_index.specs.Indexes.{HasIndexes}
use Rattle.rr_index.proofs.Namings.{namings_added, namings_back, namings_same}
use Rattle.rr_index.specs.NamingIndexes.{count_at, namings_by}
use Rattle.rr_index.specs.declared.naming_index.NamingIndex.{NamingIndex}
use Rattle.rr_index.proofs.indexes.Indexes.enter.Goals as goal

pub returns-in_err-add-clause-err : goal.returns-in_err-add-clause-err
returns-in_err-add-clause-err c =
    let now = c.args.self.now in
    let kept : (r : Reg) → HasIndexes r now → get r c.args.object.now.key ≡ None →
    HasIndexes r (record {
      spans = now.spans;
      origins = now.origins;
      names = now.names;
      referrers = now.referrers;
      namings = c.add.new.self;
    }) =
    λ r has free. record {
      keys = has.keys;
      namings = namings_same r now.namings.counts has.namings c.add.new.self.counts
          c.in_err-add.ensures.err;
    } in
    on_err c.from_residual.result kept

pub returns-in-Ok-clause-ok : goal.returns-in-Ok-clause-ok
returns-in-Ok-clause-ok c = λ r has free.
    let o = c.args.object.now in
    let was = c.args.self.now.namings.counts in
    record {
      keys = c.in-Ok.ensures.ok r has.keys free;
      namings = namings_added r was has.namings o c.enter_keys.new.self.namings.counts free
          (subst (λ (x : NamingIndex). (n : List ℕ) → count_at x.counts n ≡ count_at was n +
          namings_by n o) (sym c.enter_keys.ensures.namings) c.in_ok-add.ensures.ok);
    }

pub returns-in-Err-clause-err : goal.returns-in-Err-clause-err
returns-in-Err-clause-err c = λ r has free.
    let o = c.args.object.now in
    let was = c.args.self.now.namings.counts in
    record {
      keys = c.in-Err.ensures.err r has.keys free;
      namings = namings_back r was has.namings o c.enter_keys.new.self.namings.counts
          c.take.new.self.counts
          (subst (λ (x : NamingIndex). (n : List ℕ) → count_at x.counts n ≡ count_at was n +
          namings_by n o) (sym c.enter_keys.ensures.namings) c.in_ok-add.ensures.ok)
          c.take.ensures;
    }
