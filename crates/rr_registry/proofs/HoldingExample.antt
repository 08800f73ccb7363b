-- The registry of the worked example is sound, and the prefix is held in it.
use Rattle.std.proofs.Common.{◌≡◌, ℕ, Bool, true, false, cond, not, ◌||◌, inl, inr, List, [], ◌∷◌}
use Rattle.std.proofs.Common.{refl, sym, ap, subst, ◌∙◌, lit≤, lit<}
use Rattle.std.specs.Prelude.{Option, None, Some, is_none, is_some, map, ◌==◌}
use Rattle.std.specs.List.{list_all}
use Rattle.std.specs.Ordering.{eq_by_cmp}
use Rattle.std.specs.Str.{bytes_eq}
use Rattle.std.specs.FinMap.{find, get, from_entries, get-from_entries}
use Rattle.std.proofs.lemmas.Bool.{eqb-true, not-true}
use Rattle.std.proofs.lemmas.Slice.Eq.{bytes_eq-Decides}
use Rattle.rr_object.specs.declared.key.Key.{Key}
use Rattle.rr_object.specs.declared.key.Key.TheVariants.{Mntner, AutNum, Inetnum, Route}
use Rattle.rr_object.specs.KeyOrders.{IsKeyValue, key_cmp}
use Rattle.rr_object.specs.Objects.{Obj, names_of}
use Rattle.rr_auth.specs.Registries.{Sound, keys_cross, maintainer, some_is_unknown}
use Rattle.rr_object.proofs.KeyLaws.{keys_total, same_key}
use Rattle.rr_auth.specs.Elements.{IsIn}
use Rattle.rr_auth.proofs.Members.{all_fail, each_passes}
use Rattle.rr_bytes.specs.LetterCase.{upper as upper_of}
use Rattle.rr_bytes.specs.NameBytes.{is_name}
use Rattle.rr_number.specs.Names.{IsUpperName}
use Rattle.rr_registry.specs.HoldingExample.{a_mnt, b_mnt, root_mnt, example_holding}
use Rattle.rr_registry.specs.HoldingExample.{example_objects}
use Rattle.rr_registry.specs.HoldingExample.{example_registry}
use Rattle.rr_registry.specs.Holdings.{Holding, IsHeld, is_held, names_holders, space_of}

-- what stands in the registry of a list is an entry of it
record IsEntry (es : List (Key × Obj)) (k : Key) (o : Obj) : Type 0 where
  entry : Key × Obj
  member : IsIn entry es
  key_is : k ≡ entry.0
  object_is : o ≡ entry.1

found_entry : (k : Key) (o : Obj) (es : List (Key × Obj)) → find key_cmp k es ≡ Some o →
    IsEntry es k o
found_entry k o [] f = cc
found_entry k o (e ∷ es) f =
    elim (eq_by_cmp key_cmp k e.0) as (λ b. eq_by_cmp key_cmp k e.0 ≡ b →
    cond b (Some e.1) (find key_cmp k es) ≡ Some o → IsEntry (e ∷ es) k o) [
      | true ↦ λ t g. record {
        entry = e;
        member = inl refl;
        key_is = same_key k e.0 t;
        object_is =
            cc;
      }
      | false ↦ λ t g.
          let rest = found_entry k o es g in
          record {
            entry = rest.entry;
            member = inr rest.member;
            key_is = rest.key_is;
            object_is =
                rest.object_is;
          }
    ] refl f

-- an object stands under its own key
own_key : (e : Key × Obj) (os : List Obj) → IsIn e (map (λ o. (o.key, o)) os) → e.1.key ≡ e.0
own_key e [] i = absurd i
own_key e (o ∷ os) (inl same) = ap (λ (x : Key × Obj). x.1.key) same
    ∙ sym (ap (λ (x : Key × Obj). x.0) same)
own_key e (o ∷ os) (inr i) = own_key e os i

-- the keys of a list are well formed
abbrev AllFormed : List Obj → Type 0
AllFormed [] = Unit {0}
AllFormed (o ∷ os) = IsKeyValue o.key × AllFormed os

formed_key : (e : Key × Obj) (os : List Obj) → AllFormed os → IsIn e (map (λ o. (o.key, o)) os) →
    IsKeyValue e.0
formed_key e [] all i = absurd i
formed_key e (o ∷ os) all (inl same) = subst IsKeyValue (sym (ap (λ (x : Key × Obj). x.0) same))
    all.0
formed_key e (o ∷ os) all (inr i) = formed_key e os all.1 i

-- what is there is not nothing
there : {A : Type 0} (o : Option A) → is_some o ≡ true → is_none o ≡ false
there None e = cc
there (Some x) e = refl

either : (a b : Bool) → (not a || b) ≡ true → a ≡ true → b ≡ true
either true b e f = e
either false b e f = cc

-- a list of objects whose names are known to it and whose spans do not cross
abbrev are_named : List (Key × Obj) → Bool
are_named es = list_all (λ e. list_all (λ n. is_some (find key_cmp (Mntner n) es)) (names_of e.1))
    es

abbrev are_apart : List (Key × Obj) → Bool
are_apart es = list_all (λ e. list_all (λ f. not (keys_cross e.0 f.0)) es) es

abbrev are_theirs : Holding → List (Key × Obj) → Bool
are_theirs h es = list_all (λ e. not (is_held h e.0) || names_holders h e.0 e.1) es

module _ (os : List Obj) (named : are_named (map (λ o. (o.key, o)) os) ≡ true)
    (apart : are_apart (map (λ o. (o.key, o)) os) ≡ true) (formed : AllFormed os) where
  entry_at : (k : Key) (o : Obj) → get (from_entries {R = key_cmp} (map (λ o. (o.key, o)) os)) k
      ≡ Some o → IsEntry (map (λ o. (o.key, o)) os) k o
  entry_at k o f = found_entry k o (map (λ o. (o.key, o)) os)
      (sym (get-from_entries keys_total (map (λ o. (o.key, o)) os) k) ∙ f)

  known : (e : Key × Obj) → IsIn e (map (λ o. (o.key, o)) os) →
      some_is_unknown (from_entries (map (λ o. (o.key, o)) os)) (names_of e.1) ≡ false
  known e i =
      all_fail (λ n. is_none (maintainer (from_entries (map (λ o. (o.key, o)) os)) n))
      (names_of e.1) (λ n m.
      let found = each_passes (λ n. is_some (find key_cmp (Mntner n) (map (λ o. (o.key, o)) os))) n
      (names_of e.1)
      (each_passes
      (λ e. list_all (λ n. is_some (find key_cmp (Mntner n) (map (λ o. (o.key, o)) os)))
      (names_of e.1)) e (map (λ o. (o.key, o)) os) named i) m in
      ap is_none (get-from_entries keys_total (map (λ o. (o.key, o)) os) (Mntner n))
      ∙ there (find key_cmp (Mntner n) (map (λ o. (o.key, o)) os)) found)

  -- the registry of such a list is sound
  sound_list : Sound (from_entries (map (λ o. (o.key, o)) os))
  sound_list = record {
    keyed = λ k o f.
        let e = entry_at k o f in
        ap (λ (x : Obj). x.key) e.object_is ∙ own_key e.entry os e.member ∙ sym e.key_is;
    formed = λ k o f. let e = entry_at k o f in subst IsKeyValue (sym e.key_is)
        (formed_key e.entry os formed e.member);
    named = λ k o f.
        let e = entry_at k o f in
        ap (λ (x : Obj). some_is_unknown (from_entries (map (λ o. (o.key, o)) os)) (names_of x))
        e.object_is ∙ known e.entry e.member;
    apart = λ k l o x f g.
        let e = entry_at k o f in
        let d = entry_at l x g in
        (λ i. keys_cross (e.key_is i) (d.key_is i))
        ∙ not-true _ (each_passes (λ d. not (keys_cross e.entry.0 d.0)) d.entry
        (map (λ o. (o.key, o)) os)
        (each_passes (λ e. list_all (λ d. not (keys_cross e.0 d.0)) (map (λ o. (o.key, o)) os))
        e.entry (map (λ o. (o.key, o)) os) apart e.member) d.member);
  }

  -- what of it is held names holders
  theirs_list : (h : Holding) → are_theirs h (map (λ o. (o.key, o)) os) ≡ true →
      (k : Key) (o : Obj) → is_held h k ≡ true
      → get (from_entries {R = key_cmp} (map (λ o. (o.key, o)) os)) k ≡ Some o →
      names_holders h k o ≡ true
  theirs_list h all k o held f =
      let e = entry_at k o f in
      (λ i. names_holders h (e.key_is i) (e.object_is i))
      ∙ either _ _ (each_passes (λ e. not (is_held h e.0) || names_holders h e.0 e.1) e.entry
      (map (λ o. (o.key, o)) os) all e.member)
      (ap (is_held h) (sym e.key_is) ∙ held)

upper : (name : List ℕ) → is_name name ≡ true → upper_of name ≡ name → IsUpperName name
upper name e f = record { spelled = e; upper_case = f }

all_formed : AllFormed example_objects
unfolding is_name
all_formed = (
  upper a_mnt refl refl,
  (
    upper b_mnt refl refl,
    (
      upper root_mnt refl refl,
      (
        record { ordered = lit≤ tt; bound = lit≤ tt },
        (
          record { ordered = lit≤ tt; bound = lit≤ tt },
          (
            lit≤ tt,
            (
              lit≤ tt,
              (
                record { ordered = lit≤ tt; fits = lit< tt },
                (
                  record { ordered = lit≤ tt; fits = lit< tt },
                  (
                    record { ordered = lit≤ tt; fits = lit< tt },
                    (
                      record {
                        masked = record { short = lit≤ tt; fits = lit< tt; aligned = refl };
                        numbered = lit≤ tt;
                      },
                      tt,
                    ),
                  ),
                ),
              ),
            ),
          ),
        ),
      ),
    ),
  ),
)

-- what is found in the list stands in the registry
stands : (k : Key) → is_some (find key_cmp k (map (λ o. (o.key, o)) example_objects)) ≡ true →
    is_some (get example_registry k) ≡ true
stands k e = ap is_some (get-from_entries keys_total (map (λ o. (o.key, o)) example_objects) k) ∙ e

one_of : (a : Bool) → (a || false) ≡ true → a ≡ true
one_of true e = refl
one_of false e = e

pub example_is_sound : Sound example_registry
example_is_sound = sound_list example_objects refl refl all_formed

pub example_is_held : IsHeld example_holding example_registry
example_is_held = record {
  registered = λ name e.
      let same : name ≡ a_mnt = (bytes_eq-Decides name a_mnt).0 (one_of (bytes_eq name a_mnt) e) in
      ap (λ n. is_some (get example_registry (Mntner n))) same ∙ stands (Mntner a_mnt) refl;
  space = stands (Inetnum (space_of example_holding)) refl;
  origin = 1;
  routed = stands (Route example_holding.prefix 1) refl;
  numbered = λ n e.
      let same : n ≡ 1 = eqb-true n 1 (one_of (n == 1) e) in
      ap (λ m. is_some (get example_registry (AutNum m))) same ∙ stands (AutNum 1) refl;
  theirs = theirs_list example_objects refl refl all_formed example_holding refl;
}
