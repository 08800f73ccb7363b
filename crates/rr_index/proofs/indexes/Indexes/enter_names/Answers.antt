use Rattle.std.proofs.Common.{◌≡◌, false, not, IsTrue, refl, subst, ap, ◌∙◌}
use Rattle.std.specs.Prelude.{◌&&◌, ◌||◌}
use Rattle.std.specs.BTreeSet.{contains}
use Rattle.std.specs.Cmp.Lexicographic.{slice_cmp}
use Rattle.std.specs.FinMap.{get}
use Rattle.std.specs.Option.{option_copied, option_map_or}
use Rattle.std.specs.Ordering.{eq_by_cmp, nat_cmp}
use Rattle.rr_object.specs.KeyOrders.{key_cmp}
use Rattle.rr_auth.specs.Registries.{Reg}
use Rattle.rr_book.proofs.KeysUnderSets.{on_err}
use Rattle.rr_book.specs.SetIndexes.{stands_under}
use Rattle.rr_book.specs.SetLists.{names_set}
use Rattle.rr_index.specs.Indexes.{HasIndexes}
use Rattle.rr_index.proofs.Namings.{namings_same}
use Rattle.rr_index.proofs.Referrers.{taken_back}
use Rattle.rr_index.proofs.indexes.Indexes.enter_names.Goals as goal

pub add-requires : goal.add-requires
add-requires c = λ n k meant.
    let o = c.args.object.now in
    c.requires n k (subst (λ b. IsTrue (eq_by_cmp key_cmp o.key k && (names_set n o && not b)))
    (c.in_ok-before.ensures n) meant)

pub returns-in_err-add-clause-err : goal.returns-in_err-add-clause-err
returns-in_err-add-clause-err c =
    let now = c.args.self.now in
    let kept : (r : Reg) → HasIndexes r now → option_copied c.args.standing
    ≡ get r c.args.object.now.key
    → HasIndexes r (record {
      spans = now.spans;
      origins = now.origins;
      names = now.names;
      referrers = c.add.new.self;
      namings = now.namings;
    }) =
    λ r has stood. record {
      keys = record {
        spans = has.keys.spans;
        origins = has.keys.origins;
        names = has.keys.names;
        referrers = λ n k. c.in_err-add.ensures.err n k ∙ has.keys.referrers n k;
      };
      namings = has.namings;
    } in
    on_err c.from_residual-in_err-add.result kept

pub returns-in-Ok-clause-ok : goal.returns-in-Ok-clause-ok
returns-in-Ok-clause-ok c =
    let o = c.args.object.now in
    record {
      under = λ n k. c.in_ok-add.ensures.ok n k
          ∙ ap (λ b. stands_under c.args.self.now.referrers.keys n k ||
          (eq_by_cmp key_cmp o.key k && (names_set n o && not b))) (c.in_ok-before.ensures n);
      counts = c.in-Ok.ensures.ok;
      spans = refl;
      origins = refl;
      names = refl;
    }

pub returns-clause-err : goal.returns-clause-err
returns-clause-err c = λ r has stood.
    let o = c.args.object.now in
    let before = contains (slice_cmp nat_cmp) c.in_ok-before.before in
    record {
      keys = record {
        spans = has.keys.spans;
        origins = has.keys.origins;
        names = has.keys.names;
        referrers = taken_back r c.args.self.now.referrers.keys has.keys.referrers o before before
            c.add.new.self.keys c.take.new.self.keys
            (λ n. c.in_ok-before.ensures n ∙ ap (λ y. option_map_or (names_set n) y false) stood)
            (λ n. refl) c.in_ok-add.ensures.ok c.take.ensures;
      };
      namings = namings_same r c.args.self.now.namings.counts has.namings c.add-2.new.self.counts
          c.in-Err.ensures.err;
    }
