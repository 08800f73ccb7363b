use Rattle.std.proofs.Common.{◌≡◌, ◌&&◌, ℕ, List, false, not, sym, ap, subst, ◌∙◌}
use Rattle.std.specs.Prelude.{find}
use Rattle.std.specs.BTreeSet.{contains}
use Rattle.std.specs.Cmp.Lexicographic.{slice_cmp}
use Rattle.std.specs.FinMap.{insert}
use Rattle.std.specs.Option.{option_copied, option_map_or}
use Rattle.std.specs.Ordering.{eq_by_cmp, nat_cmp}
use Rattle.rr_auth.specs.Registries.{Sound}
use Rattle.rr_object.specs.declared.key.Key.{Key}
use Rattle.rr_object.specs.KeyOrders.{key_cmp}
use Rattle.rr_object.specs.Objects.{Obj}
use Rattle.rr_book.specs.Books.{book_of}
use Rattle.rr_book.specs.SetIndexes.{IsIndexed, is_meant, stands_under}
use Rattle.rr_book.specs.SetLists.{names_set}
use Rattle.rr_book.proofs.KeysUnderSets.{fresh, indexed_change, indexed_first, indexed_same}
use Rattle.rr_book.proofs.KeysUnderSets.{indexed_undone}
use Rattle.rr_book.proofs.Order.{book_put}
use Rattle.rr_book.proofs.plain_book.PlainBookKeeper.insert.Goals as goal

pub enter-requires : goal.enter-requires
enter-requires c =
    let found = rw (c.deref.ensures.value, c.key.ensures.value) at c.find_by_key-standing.ensures in
    fresh c.self.inside.objects.items c.self.inside.referrers.keys c.self.invariant c.args.object
    (λ n. option_map_or (names_set n) (option_copied c.find_by_key-standing.result) false)
    (λ n. ap (λ x. option_map_or (names_set n) x false) found)

pub invariant_of-self : goal.invariant_of-self
invariant_of-self c = indexed_same c.self.inside.objects.items c.self.inside.referrers.keys
    c.self.invariant c.enter.new.self.keys c.in_err-sets.ensures.err

pub invariant_of-self-in-Ok-Some : goal.invariant_of-self-in-Ok-Some
invariant_of-self-in-Ok-Some c =
    let o = c.args.object in
    let found = rw (c.deref.ensures.value, c.key.ensures.value) at c.find_by_key-standing.ensures in
    let before : (n : List ℕ) → contains (slice_cmp nat_cmp) c.in_ok-sets.sets.before n
    ≡ option_map_or (names_set n) (find (λ x. eq_by_cmp key_cmp o.key x.key)
    c.self.inside.objects.items) false =
    λ n. c.in_ok-sets.ensures.before n ∙ ap (λ x. option_map_or (names_set n) x false) found in
    indexed_change c.self.inside.objects.items c.self.inside.referrers.keys c.self.invariant
    c.put.new.objects.items o c.in-Ok-Some.old
    (contains (slice_cmp nat_cmp) c.in_ok-sets.sets.before)
    (contains (slice_cmp nat_cmp) c.in_ok-sets.sets.after) c.enter.new.self.keys
    c.take_and_free.new.self.keys
    (subst (λ r. Sound (insert r o.key o)) (sym c.self.view_is) c.requires) c.in-Ok-Some.ensures.ok
    (sym c.in-Ok-Some.field-0-is ∙ c.in-Ok-Some.ensures.old)
    before c.in_ok-sets.ensures.after c.in_ok-sets.ensures.ok c.take_and_free.ensures

pub returns-in-Ok-Some-clause-ok : goal.returns-in-Ok-Some-clause-ok
returns-in-Ok-Some-clause-ok c =
    let o = c.args.object in
    ap book_of c.in-Ok-Some.ensures.ok
    ∙ book_put o c.self.inside.objects.items c.self.invariant.book.ordered
    ∙ ap (λ r. insert r o.key o) c.self.view_is

pub invariant_of-self-in-Ok-None : goal.invariant_of-self-in-Ok-None
invariant_of-self-in-Ok-None c =
    let o = c.args.object in
    let found = rw (c.deref.ensures.value, c.key.ensures.value) at c.find_by_key-standing.ensures in
    let before : (n : List ℕ) → contains (slice_cmp nat_cmp) c.in_ok-sets.sets.before n
    ≡ option_map_or (names_set n) (find (λ x. eq_by_cmp key_cmp o.key x.key)
    c.self.inside.objects.items) false =
    λ n. c.in_ok-sets.ensures.before n ∙ ap (λ x. option_map_or (names_set n) x false) found in
    indexed_first c.self.inside.objects.items c.self.inside.referrers.keys c.self.invariant
    c.put.new.objects.items o
    (contains (slice_cmp nat_cmp) c.in_ok-sets.sets.before) c.enter.new.self.keys
    (subst (λ r. Sound (insert r o.key o)) (sym c.self.view_is) c.requires) c.in-Ok-None.ensures.ok
    (sym c.in-Ok-None.field-0-is ∙ c.in-Ok-None.ensures.old)
    before c.in_ok-sets.ensures.ok

pub returns-in-Ok-None-clause-ok : goal.returns-in-Ok-None-clause-ok
returns-in-Ok-None-clause-ok c =
    let o = c.args.object in
    ap book_of c.in-Ok-None.ensures.ok
    ∙ book_put o c.self.inside.objects.items c.self.invariant.book.ordered
    ∙ ap (λ r. insert r o.key o) c.self.view_is

pub invariant_of-self-in-Err : goal.invariant_of-self-in-Err
invariant_of-self-in-Err c =
    let o = c.args.object in
    let found = rw (c.deref.ensures.value, c.key.ensures.value) at c.find_by_key-standing.ensures in
    let before : (n : List ℕ) → contains (slice_cmp nat_cmp) c.in_ok-sets.sets.before n
    ≡ option_map_or (names_set n) (find (λ x. eq_by_cmp key_cmp o.key x.key)
    c.self.inside.objects.items) false =
    λ n. c.in_ok-sets.ensures.before n ∙ ap (λ x. option_map_or (names_set n) x false) found in
    subst (λ (os : List Obj). IsIndexed os c.take_and_free-in-Err.new.self.keys)
    (sym c.in-Err.ensures.err)
    (indexed_undone c.self.inside.objects.items c.self.inside.referrers.keys c.self.invariant o
    (contains (slice_cmp nat_cmp) c.in_ok-sets.sets.before) c.enter.new.self.keys
    c.take_and_free-in-Err.new.self.keys
    before c.in_ok-sets.ensures.ok
    (subst (λ (x : Obj). (n : List ℕ) (k : Key) → stands_under c.take_and_free-in-Err.new.self.keys
    n k ≡ (stands_under c.enter.new.self.keys n k && not
    (is_meant x (contains (slice_cmp nat_cmp) c.in_ok-sets.sets.before) n k)))
    c.in-Err.ensures.returned c.take_and_free-in-Err.ensures))
