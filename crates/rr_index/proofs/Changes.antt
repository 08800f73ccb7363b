-- What is kept beside the objects, where an object takes the place of another.
use Rattle.std.proofs.Common.{◌≡◌, ◌||◌, ℕ, List, true, false, cond, refl, sym, ap, ◌∙◌}
use Rattle.std.specs.Prelude.{None, Some, is_some}
use Rattle.std.specs.BTreeMap.{BTreeMap}
use Rattle.std.specs.FinMap.{contains_key, get, get-insert, insert}
use Rattle.std.specs.Ordering.{eq_by_cmp}
use Rattle.rr_object.specs.declared.key.Key.{Key}
use Rattle.rr_object.specs.declared.key.Key.TheVariants.{AsBlock, Inetnum, Mntner, Route}
use Rattle.rr_object.specs.KeyOrders.{key_cmp}
use Rattle.rr_object.specs.Objects.{Obj}
use Rattle.rr_object.proofs.KeyLaws.{keys_total, same_key}
use Rattle.rr_auth.specs.Registries.{Reg, Sound, keys_cross}
use Rattle.rr_cover.specs.SpanMaps.{SpanMap}
use Rattle.rr_index.proofs.Referrers.{put_there}
use Rattle.rr_index.proofs.Spans.{keys_in}
use Rattle.rr_index.specs.NameIndexes.{HasNames}
use Rattle.rr_index.specs.Private.{IsCrossedByNone}
use Rattle.rr_index.specs.SpanIndexes.{HasSpans}

-- the keys stay
pub keys_stay : (r : Reg) (o x : Obj) → get r o.key ≡ Some x → (q : Key) →
    contains_key (insert r o.key o) q ≡ contains_key r q
keys_stay r o x stood q =
    keys_in r o.key o q
    ∙ elim (eq_by_cmp key_cmp q o.key) as (λ b. eq_by_cmp key_cmp q o.key ≡ b →
    (b || contains_key r q) ≡ contains_key r q) [
      | true ↦ λ e. sym (ap is_some (ap (λ k. get r k) (same_key q o.key e) ∙ stood))
      | false ↦ λ e. refl
    ] refl

module _ (r s : Reg) (same : (q : Key) → contains_key s q ≡ contains_key r q) where
  -- spans and names depend on the keys alone
  pub spans_stay : (inetnums blocks routes : SpanMap (Unit {0})) → HasSpans r inetnums blocks
      routes → HasSpans s inetnums blocks routes
  spans_stay inetnums blocks routes has = record {
    inetnums_are = λ t. has.inetnums_are t ∙ sym (same (Inetnum t));
    blocks_are = λ t. has.blocks_are t ∙ sym (same (AsBlock t));
    routed = λ t at.
        let is = has.routed t at in
        record {
          prefix = is.prefix;
          span_is = is.span_is;
          origin = is.origin;
          there =
              same (Route is.prefix is.origin) ∙ is.there;
        };
    routes_are = λ p n there. has.routes_are p n (sym (same (Route p n)) ∙ there);
    masked = λ p n there. has.masked p n (sym (same (Route p n)) ∙ there);
  }

  pub names_stay : (keys : BTreeMap (List ℕ) Key) → HasNames r keys → HasNames s keys
  names_stay keys has = λ n. has n ∙ ap (λ b. cond b (Some (Mntner n)) None) (sym (same (Mntner n)))

-- no object of a registry crosses one that it stays sound with
pub apart_of : (r : Reg) (o : Obj) → Sound (insert r o.key o) → IsCrossedByNone r o.key
apart_of r o sound = record {
  apart = λ l x at.
      let own = put_there r o.key o in
      elim (eq_by_cmp key_cmp l o.key) as (λ b. get (insert r o.key o) l ≡ cond b (Some o)
      (get r l) → keys_cross l o.key ≡ false) [
        | true ↦ λ e. sound.apart l o.key o o e own
        | false ↦ λ e. sound.apart l o.key x o (e ∙ at) own
      ] (get-insert keys_total r o.key o l);
}
