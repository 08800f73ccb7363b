use Rattle.std.proofs.Common.{◌≡◌, ℕ, List, false, not, IsTrue, sym, subst, ap, ◌∙◌}
use Rattle.std.specs.Prelude.{◌&&◌, None}
use Rattle.std.specs.BTreeMap.{is_at}
use Rattle.std.specs.BTreeSet.{contains}
use Rattle.std.specs.Cmp.Lexicographic.{slice_cmp}
use Rattle.std.specs.FinMap.{get, insert}
use Rattle.std.specs.List.{list_any}
use Rattle.std.specs.Option.{option_map_or}
use Rattle.std.specs.Ordering.{eq_by_cmp, nat_cmp}
use Rattle.rr_object.specs.KeyOrders.{key_cmp}
use Rattle.rr_auth.specs.Registries.{Reg}
use Rattle.rr_book.proofs.KeysUnderSets.{on_err}
use Rattle.rr_book.specs.declared.set_index.SetIndex.{SetIndex}
use Rattle.rr_book.specs.SetIndexes.{HasReferrers, stands_under}
use Rattle.rr_book.specs.SetLists.{names_set}
use Rattle.rr_index.specs.Indexes.{HasKeys}
use Rattle.rr_index.proofs.Referrers.{referrers_first, taken_back}
use Rattle.rr_index.proofs.indexes.Indexes.enter_keys.Goals as goal

pub add-requires : goal.add-requires
add-requires c = λ n k meant.
    let o = c.args.object.now in
    c.requires.fresh n k
    (subst (λ b. IsTrue (eq_by_cmp key_cmp o.key k && (names_set n o && not b)))
    (ap (list_any (is_at (slice_cmp nat_cmp n))) c.new-none.ensures.empty) meant)

pub returns-in-Ok-clause-ok : goal.returns-in-Ok-clause-ok
returns-in-Ok-clause-ok c = λ r has free.
    let o = c.args.object.now in
    let entered = c.in-Ok.ensures.ok r (has.spans, has.origins) has.names in
    record {
      spans = entered.0.0;
      origins = entered.0.1;
      names = entered.1;
      referrers = subst (λ (s : SetIndex). HasReferrers (insert r o.key o) s.keys)
          (sym c.enter_key.ensures.own_keys.referrers)
          (referrers_first r c.args.self.now.referrers.keys has.referrers o
          (contains (slice_cmp nat_cmp) c.new-none.result) c.add.new.self.keys free
          (λ n. ap (list_any (is_at (slice_cmp nat_cmp n))) c.new-none.ensures.empty)
          c.in_ok-add.ensures.ok);
    }

pub returns-in_err-add-clause-err : goal.returns-in_err-add-clause-err
returns-in_err-add-clause-err c =
    let now = c.args.self.now in
    let kept : (r : Reg) → HasKeys r now.spans now.origins now.names now.referrers →
    get r c.args.object.now.key ≡ None → HasKeys r now.spans now.origins now.names
    c.add.new.self =
    λ r has free. record {
      spans = has.spans;
      origins = has.origins;
      names = has.names;
      referrers = λ n k. c.in_err-add.ensures.err n k ∙ has.referrers n k;
    } in
    on_err c.from_residual.result kept

pub returns-clause-err : goal.returns-clause-err
returns-clause-err c = λ r has free.
    let o = c.args.object.now in
    let left = c.in-Err.ensures.err r (has.spans, has.origins) has.names free in
    let empty : (n : List ℕ) → contains (slice_cmp nat_cmp) c.new-none.result n ≡ false = λ n.
    ap (list_any (is_at (slice_cmp nat_cmp n))) c.new-none.ensures.empty in
    record {
      spans = left.0.0;
      origins = left.0.1;
      names = left.1;
      referrers = taken_back r c.args.self.now.referrers.keys has.referrers o
          (contains (slice_cmp nat_cmp) c.new-none.result) (λ other. false)
          c.enter_key.new.self.referrers.keys c.take_all.new.self.keys
          (λ n. empty n ∙ sym (ap (λ v. option_map_or (names_set n) v false) free))
          (λ n. sym (empty n))
          (λ n k. ap (λ (s : SetIndex). stands_under s.keys n k)
          c.enter_key.ensures.own_keys.referrers
          ∙ c.in_ok-add.ensures.ok n k)
          c.take_all.ensures;
    }
