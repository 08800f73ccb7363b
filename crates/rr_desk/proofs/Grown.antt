-- The block of the other AS numbers, put after the objects of a registry of version 1, leaves them
-- a registry.
use Rattle.std.proofs.Common.{◌≡◌, ◌≢◌, ℕ, Bool, true, false, not, ◌&&◌, ◌||◌, List, [], ◌∷◌, ◌++◌}
use Rattle.std.proofs.Common.{Result, Ok, arith, codes, refl, sym, ap, subst, ◌∙◌}
use Rattle.std.proofs.lemmas.Bool.{true≢false}
use Rattle.std.proofs.lemmas.Bool.Decides.{nat_tests}
use Rattle.std.proofs.lemmas.Slice.Eq.{bytes_eq-Decides}
use Rattle.std.specs.Prelude.{None, Some, is_none, is_some, nat_le, if◌then◌else◌}
use Rattle.std.specs.List.{AllByRecursion}
use Rattle.std.specs.FinMap.{empty, get, insert}
use Rattle.sqlite_trees.proofs.ListLemmas.{all_weaker, ascending-append}
use Rattle.rr_number.specs.Spans.{covers}
use Rattle.rr_object.specs.declared.object_fault.ObjectFault.{ObjectFault}
use Rattle.rr_object.specs.declared.key.Key.{Key}
use Rattle.rr_object.specs.declared.key.Key.TheVariants.{Mntner, AsBlock, AutNum, Inetnum, Route}
use Rattle.rr_object.specs.declared.key.Key.TheVariants.{AsSet, RouteSet}
use Rattle.rr_object.specs.Objects.{Obj, names_of}
use Rattle.rr_object.specs.OldKeys.{old_key_bytes}
use Rattle.rr_object.specs.Readings.{ReadsAs, obj_at}
use Rattle.rr_object.proofs.KeyBounds.{object_key_formed}
use Rattle.rr_auth.specs.Registries.{Reg, Sound, keys_cross, some_is_unknown}
use Rattle.rr_auth.proofs.Keeping.{kept_names, sound_insert}
use Rattle.rr_registry.specs.Loading.{IsTaken, load_fault}
use Rattle.rr_store.specs.Maps.{AreApart}
use Rattle.rr_store.proofs.MapLists.{put_all}
use Rattle.rr_store.specs.Migrating.{has_mntner, is_mntner_of, upper_block}
use Rattle.rr_desk.specs.MigratingParts.{HasLoadFault}
use Rattle.rr_desk.specs.Settings.{IsSettings, SettingsParts}
use Rattle.rr_desk.proofs.ListRows.{gathered_is}
use Rattle.rr_desk.proofs.TakenApart.{taken_apart}
use Rattle.rr_desk.proofs.SoundLists.{sound_list, stands}
use Rattle.rr_desk.proofs.Opens.{block_named, upper_read, upper_span}
use Rattle.rr_desk.proofs.OpeningRegistry.{upper_object}
use Rattle.rr_desk.proofs.Sources.{taken_each}

-- keys of tables of version 1
abbrev pub HasOldKey : Obj → Type 0
HasOldKey o = is_some (old_key_bytes o.key) ≡ true

-- the block has none
no_old_key : old_key_bytes (AsBlock upper_span) ≡ None
no_old_key = refl

pub other_key : (k : Key) → is_some (old_key_bytes k) ≡ true → k ≢ AsBlock upper_span
other_key k formed same = true≢false (sym formed ∙ ap is_some (ap old_key_bytes same ∙ no_old_key))

-- a block of AS numbers of two octets crosses none of the others
last_small : (a b : Bool) (bytes : List ℕ) →
    is_some (if (a && (b && true)) then Some bytes else None) ≡ true → b ≡ true
last_small true true bytes is = refl
last_small true false bytes is = absurd (true≢false (sym is))
last_small false b bytes is = absurd (true≢false (sym is))

too_small : (n : ℕ) → nat_le n 65535 ≡ true → nat_le 65536 n ≡ false
too_small n is = grind (arith, nat_tests)

unmet : (a b c : Bool) → b ≡ false → ((a && b) && c) ≡ false
unmet true true c is = absurd (true≢false is)
unmet true false c is = refl
unmet false b c is = refl

old_uncrossed : (k : Key) → is_some (old_key_bytes k) ≡ true → keys_cross k (AsBlock upper_span)
    ≡ false
old_uncrossed (Mntner n) formed = refl
old_uncrossed (AsBlock s) formed =
    unmet (nat_le s.first 4294967295) (nat_le 65536 s.last)
    (not (covers s upper_span) && not (covers upper_span s))
    (too_small s.last (last_small (nat_le s.first 65535) (nat_le s.last 65535) _ formed))
old_uncrossed (AutNum n) formed = refl
old_uncrossed (Inetnum s) formed = refl
old_uncrossed (Route p n) formed = refl
old_uncrossed (AsSet n) formed = refl
old_uncrossed (RouteSet n) formed = refl

put_after : (r : Reg) (os : List Obj) (b : Obj) → put_all r (os ++ b ∷ []) ≡ insert (put_all r os)
    b.key b
put_after r [] b = refl
put_after r (o ∷ os) b = put_after (insert r o.key o) os b

-- a mntner of the list stands in its registry
mntner_key : (root : List ℕ) (k : Key) → is_mntner_of root k ≡ true → k ≡ Mntner root
mntner_key root (Mntner n) is = ap Mntner ((bytes_eq-Decides n root).0 is)
mntner_key root (AsBlock s) is = absurd (true≢false (sym is))
mntner_key root (AutNum n) is = absurd (true≢false (sym is))
mntner_key root (Inetnum s) is = absurd (true≢false (sym is))
mntner_key root (Route p n) is = absurd (true≢false (sym is))
mntner_key root (AsSet n) is = absurd (true≢false (sym is))
mntner_key root (RouteSet n) is = absurd (true≢false (sym is))

root_stands : (root : List ℕ) (r : Reg) (os : List Obj) →
    AllByRecursion (λ o. get r o.key ≡ Some o) os → has_mntner root os ≡ true →
    is_none (get r (Mntner root)) ≡ false
root_stands root r [] all has = absurd (true≢false (sym has))
root_stands root r (o ∷ os) all has =
    elim (is_mntner_of root o.key) as (λ b. is_mntner_of root o.key ≡ b → (b || has_mntner root os)
    ≡ true → is_none (get r (Mntner root)) ≡ false) [
      | true ↦ λ is some. ap is_none (ap (get r) (sym (mntner_key root o.key is)) ∙ all.0)
      | false ↦ λ is some. root_stands root r os all.1 some
    ] refl has

-- the block is the object of its paragraph
upper_key : (s : SettingsParts) → (upper_object s).key ≡ AsBlock upper_span
unfolding obj_at
upper_key s = refl

pub the_upper_object : (s : SettingsParts) (b : Obj) → IsSettings s →
    ReadsAs s.source (upper_block s.root s.source) b → b ≡ upper_object s
the_upper_object s b is read =
    let both : ◌≡◌ {A = Result Obj ObjectFault} (Ok b) (Ok (upper_object s)) =
    sym read ∙ upper_read s is in
    cc

module _ (s : SettingsParts) (is : IsSettings s) (os : List Obj) (r : Reg) (taken : IsTaken os r)
    (sound : Sound r) (formed : AllByRecursion HasOldKey os) (b : Obj)
    (read : ReadsAs s.source (upper_block s.root s.source) b) where
  key_is : b.key ≡ AsBlock upper_span
  key_is = ap (λ o. o.key) (the_upper_object s b is read) ∙ upper_key s

  names_are : names_of b ≡ s.root ∷ []
  names_are = ap names_of (the_upper_object s b is read) ∙ block_named upper_span
      (codes "AS65536 - AS4294967295") s is

  whole : put_all empty os ≡ r
  whole = sym (taken.whole ∙ gathered_is empty os)

  joined : put_all empty (os ++ b ∷ []) ≡ insert r b.key b
  joined = put_after empty os b ∙ ap (λ m. insert m b.key b) whole

  apart : AreApart (os ++ b ∷ [])
  apart = ascending-append (λ x y. x.key ≢ y.key) os (b ∷ []) (taken_apart os r taken) (tt, tt)
      (all_weaker HasOldKey (λ o. AllByRecursion (λ x. o.key ≢ x.key) (b ∷ []))
      (λ o old. ((λ same. other_key o.key old (same ∙ key_is)), tt)) os formed)

  uncrossed : (l : Key) (x : Obj) → get r l ≡ Some x → keys_cross l b.key ≡ false
  uncrossed l x found =
      (λ i. keys_cross (sym (sound.keyed l x found) i) (key_is i)) ∙ old_uncrossed x.key
      (taken_each HasOldKey os r taken formed l x found)

  module _ (has : has_mntner s.root os ≡ true) where
    known : some_is_unknown r (names_of b) ≡ false
    known =
        let there = subst (λ m. AllByRecursion (λ o. get m o.key ≡ Some o) os) (sym taken.whole)
        (stands empty os (taken_apart os r taken)) in
        ap (some_is_unknown r) names_are ∙ ap (λ v. v || false) (root_stands s.root r os there has)

    grown_sound : Sound (insert r b.key b)
    grown_sound = sound_insert r b sound (object_key_formed (upper_block s.root s.source) s.source
        b read) (kept_names r b.key b (names_of b) known) uncrossed

    grown_faultless : load_fault (os ++ b ∷ []) ≡ None
    grown_faultless = sound_list (os ++ b ∷ []) (insert r b.key b) apart grown_sound
        (gathered_is empty (os ++ b ∷ []) ∙ joined)

  -- so only a missing root can be the matter
  pub rootless : HasLoadFault (os ++ b ∷ []) → has_mntner s.root os ≡ false
  rootless bad =
      elim (has_mntner s.root os) as (λ v. has_mntner s.root os ≡ v → v ≡ false) [
        | true ↦ λ has.
            let none = grown_faultless has in
            let fault = bad.is_fault in
            absurd (cc)
        | false ↦ λ has. refl
      ] refl
