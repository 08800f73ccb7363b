-- The AS numbers in a set itself, from the lists of a registry.
use Rattle.std.proofs.Common.{◌≡◌, ℕ, ◌⊎◌, ◌↔◌, List, [], Contains, IsTrue, None, Some, Bor, refl}
use Rattle.std.proofs.Common.{sym, ap, ◌∙◌, subst, inl, inr}
use Rattle.std.specs.FinMap.{get}
use Rattle.std.specs.List.{filter_map}
use Rattle.rr_auth.specs.Registries.{Reg, Sound}
use Rattle.rr_graph.proofs.Lists.{Contains-filter_map, Contains-map, Contains-nil}
use Rattle.rr_object.specs.Objects.{Obj}
use Rattle.rr_object.specs.declared.key.Key.{Key}
use Rattle.rr_object.specs.declared.key.Key.TheVariants.{Mntner, AsBlock, AutNum, Inetnum, Route}
use Rattle.rr_object.specs.declared.key.Key.TheVariants.{AsSet, RouteSet}
use Rattle.rr_object.specs.declared.member.Member.{Member}
use Rattle.std.proofs.Common.{◌++◌, ◌+◌, ◌<◌, Bool, true, false, cond, ◌∷◌, length, get_or, take}
use Rattle.std.specs.List.{filter}
use Rattle.std.specs.Prelude.{not}
use Rattle.rr_graph.proofs.Backwards.{Contains-take, Contains-take_cases}
use Rattle.std.proofs.lemmas.List.Elements.{Contains-append_cases, Contains-append_left}
use Rattle.std.proofs.lemmas.List.Elements.{Contains-append_right, filter_more}
use Rattle.std.proofs.lemmas.List.{append-nil}
use Rattle.rr_sets.specs.AsSets.{BelongsTo, IsAnyNumber, IsDirect, ListsNumber, ListsSet}
use Rattle.rr_sets.specs.AsSets.{has_as_set}
use Rattle.rr_sets.specs.Lists.{IsAutNum, IsReferrer, ListsOnce, lent}
use Rattle.rr_sets.specs.KeyParts.{number_of_key}
use Rattle.rr_sets.specs.SetObjects.{number_listed, set_listed, takes}

-- what two lists have one after the other
pub Contains-both : {X : Type 0} (xs ys all : List X) (P Q : X → Type 0) → all ≡ xs ++ ys →
    ((x : X) → Contains xs x ↔ P x) → ((x : X) → Contains ys x ↔ Q x) → (x : X) → Contains all x
    ↔ (P x ⊎ Q x)
Contains-both {X} xs ys all P Q is first second x = (
  λ has. elim (Contains-append_cases xs ys x (subst (λ (l : List X). Contains l x) is has))
      [ inl early ↦ inl ((first x).0 early) | inr late ↦ inr ((second x).0 late) ],
  λ holds. rw is (elim holds [
    | inl p ↦ Contains-append_left xs ys x ((first x).1 p)
    | inr q ↦
        Contains-append_right xs ys x ((second x).1 q)
  ]),
)

-- the direct numbers, of a registered set and of `AS-ANY`
pub IsDirect-from : (r : Reg) (name : List ℕ) (numbers registered any : List ℕ) →
    numbers ≡ registered ++ any →
    ((n : ℕ) → Contains registered n ↔ (ListsNumber r name n ⊎ BelongsTo r name n)) →
    ((n : ℕ) → Contains any n ↔ IsAnyNumber r name n) → (n : ℕ) → Contains numbers n
    ↔ IsDirect r name n
IsDirect-from r name numbers registered any is first second n = (
  λ has.
      elim ((Contains-both registered any numbers (λ m. ListsNumber r name m ⊎ BelongsTo r name m)
      (IsAnyNumber r name) is first second n).0 has) [
        | inl early ↦ elim early [ inl listed ↦ inl listed | inr belongs ↦ inr (inl belongs) ]
        | inr late ↦ inr (inr late)
      ],
  λ direct. (Contains-both registered any numbers (λ m. ListsNumber r name m ⊎ BelongsTo r name m)
      (IsAnyNumber r name) is first second n).1 (elim direct [
        | inl listed ↦ inl (inl listed)
        | inr other ↦ elim other [ inl belongs ↦ inl (inr belongs) | inr late ↦ inr late ]
      ]),
)

-- a key of an AS number is an aut-num's
key_of_number : (key : Key) (n : ℕ) → number_of_key key ≡ Some n → key ≡ AutNum n
key_of_number (Mntner name) n is = cc
key_of_number (AsBlock span) n is = cc
key_of_number (AutNum m) n is = cc
key_of_number (Inetnum span) n is = cc
key_of_number (Route prefix origin) n is = cc
key_of_number (AsSet name) n is = cc
key_of_number (RouteSet name) n is = cc

module _ (r : Reg) (sound : Sound r) where
  -- the aut-num of a number has its key
  number_of_aut_num : (o : Obj) (n : ℕ) → get r (AutNum n) ≡ Some o → number_of_key o.key ≡ Some n
  number_of_aut_num o n is = ap number_of_key (sound.keyed (AutNum n) o is)

  -- an object whose key is of a number is the aut-num of it
  aut_num_of_number : (key : Key) (o : Obj) (n : ℕ) → get r key ≡ Some o → number_of_key o.key
      ≡ Some n → get r (AutNum n) ≡ Some o
  aut_num_of_number key o n is number = subst (λ (k : Key). get r k ≡ Some o)
      (sym (sound.keyed key o is) ∙ key_of_number o.key n number) is

  -- the numbers of all aut-nums
  pub numbers_of_aut_nums : (objects : List (Bor Obj)) → ListsOnce (IsAutNum r) objects → (n : ℕ) →
      Contains (filter_map (λ o. number_of_key o.now.key) objects) n
      ↔ ((a : Obj) × (get r (AutNum n) ≡ Some a))
  numbers_of_aut_nums objects lists n = (
    λ has.
        let f = (Contains-filter_map (λ (o : Bor Obj). number_of_key o.now.key) objects n).0 has in
        let found : IsAutNum r f.0.now = (lists.same f.0.now).0
        ((Contains-map (λ (o : Bor Obj). o.now) objects f.0.now).1 (f.0, f.1, refl)) in
        (f.0.now, aut_num_of_number (AutNum found.0) f.0.now n found.1 f.2),
    λ (a, is).
        let b = (Contains-map (λ (o : Bor Obj). o.now) objects a).0 ((lists.same a).1 (n, is)) in
        (Contains-filter_map (λ (o : Bor Obj). number_of_key o.now.key) objects n).1
        (b.0, b.1, ap (λ (o : Obj). number_of_key o.key) b.2 ∙ number_of_aut_num a n is),
  )

  -- the numbers of the aut-nums that belong to a registered set by their own word
  pub numbers_that_belong : (name : List ℕ) (set : Obj) (objects : List (Bor Obj)) →
      get r (AsSet name) ≡ Some set →
      ((o : Obj) → Contains (lent objects) o ↔ (IsReferrer r name o × IsTrue (takes set.by_ref o)))
      → (n : ℕ) → Contains (filter_map (λ o. number_of_key o.now.key) objects) n ↔ BelongsTo r name
      n
  numbers_that_belong name set objects registered belong n = (on, from) where
    on : Contains (filter_map (λ o. number_of_key o.now.key) objects) n → BelongsTo r name n
    on has =
        let f = (Contains-filter_map (λ (o : Bor Obj). number_of_key o.now.key) objects n).0 has in
        let found = (belong f.0.now).0 ((Contains-map (λ (o : Bor Obj). o.now) objects f.0.now).1
        (f.0, f.1, refl)) in (
          set,
          registered,
          (
            f.0.now,
            aut_num_of_number found.0.0 f.0.now n found.0.1 f.2,
            found.0.2,
            found.1,
          ),
        )

    from : BelongsTo r name n → Contains (filter_map (λ o. number_of_key o.now.key) objects) n
    from (o, is, (a, aut, member, taken)) =
        let same : o ≡ set = cc in
        let taken' : IsTrue (takes set.by_ref a) = subst (λ (x : Obj). IsTrue (takes x.by_ref a))
        same taken in
        let b = (Contains-map (λ (x : Bor Obj). x.now) objects a).0
        ((belong a).1 ((AutNum n, aut, member), taken')) in
        (Contains-filter_map (λ (x : Bor Obj). number_of_key x.now.key) objects n).1
        (b.0, b.1, ap (λ (x : Obj). number_of_key x.key) b.2 ∙ number_of_aut_num a n aut)

  -- the numbers that a registered set lists
  pub numbers_that_are_listed : (name : List ℕ) (set : Obj) → get r (AsSet name) ≡ Some set →
      (n : ℕ) → Contains (filter_map number_listed set.members) n ↔ ListsNumber r name n
  numbers_that_are_listed name set registered n = (
    λ has. (set, registered, (Contains-filter_map number_listed set.members n).0 has),
    λ (o, is, listed). let same : o ≡ set = cc in
        (Contains-filter_map number_listed set.members n).1
        (subst (λ (x : Obj). (m : Member) × Contains x.members m × (number_listed m ≡ Some n)) same
        listed),
  )

  -- the numbers that a registered set lists and those that belong to it
  pub numbers_of_set : (name : List ℕ) (set : Obj) (objects : List (Bor Obj))
      (members : List Member) (numbers : List ℕ) → get r (AsSet name) ≡ Some set →
      members ≡ set.members
      → ((o : Obj) → Contains (lent objects) o
      ↔ (IsReferrer r name o × IsTrue (takes set.by_ref o))) → numbers ≡ filter_map number_listed
      members ++ filter_map (λ o. number_of_key o.now.key)
      objects → (n : ℕ) → Contains numbers n ↔ (ListsNumber r name n ⊎ BelongsTo r name n)
  numbers_of_set name set objects members numbers registered is_members belong is =
      Contains-both (filter_map number_listed set.members)
      (filter_map (λ o. number_of_key o.now.key) objects) numbers (ListsNumber r name)
      (BelongsTo r name)
      (is ∙ ap (λ (l : List Member). filter_map number_listed l ++ filter_map
      (λ (o : Bor Obj). number_of_key o.now.key) objects) is_members)
      (numbers_that_are_listed name set registered)
      (numbers_that_belong name set objects registered belong)

  -- no set of the name is registered, so nothing is listed and nothing belongs
  pub numbers_of_none : (name : List ℕ) (numbers : List ℕ) → get r (AsSet name) ≡ None →
      numbers ≡ [] → (n : ℕ) → Contains numbers n ↔ (ListsNumber r name n ⊎ BelongsTo r name n)
  numbers_of_none name numbers none empty n = (
    λ has. absurd (Contains-nil n (subst (λ (l : List ℕ). Contains l n) empty has)),
    λ holds. elim holds [
      | inl listed ↦ let wrong : Some listed.0 ≡ None = sym listed.1 ∙ none in cc
      | inr belongs ↦ let wrong : Some belongs.0 ≡ None = sym belongs.1 ∙ none in cc
    ],
  )

-- one more set, with its direct numbers
pub numbers_in_more : {S : Type 0} (direct : S → ℕ → Type 0) (names : List S) (i : ℕ) (name : S)
    (old own new : List ℕ) → i < length names → name ≡ get_or names i name →
    ((n : ℕ) → Contains old n ↔ ((s : S) × Contains (take i names) s × direct s n)) →
    ((n : ℕ) → Contains own n ↔ direct name n) → new ≡ old ++ own → (n : ℕ) → Contains new n
    ↔ ((s : S) × Contains (take (i + 1) names) s × direct s n)
numbers_in_more {S} direct names i name old own new inside is before here added n = (
  λ has.
      elim ((Contains-both old own new (λ m. (s : S) × Contains (take i names) s × direct s m)
      (direct name) added before here n).0 has) [
        | inl (s, among, holds) ↦ (s, Contains-take names i name s inside is (inl among), holds)
        | inr holds ↦ (name, Contains-take names i name name inside is (inr refl), holds)
      ],
  λ (s, among, holds).
      (Contains-both old own new (λ m. (s : S) × Contains (take i names) s × direct s m)
      (direct name) added before here n).1
      (elim (Contains-take_cases names i name s inside is among) [
        | inl earlier ↦ inl (s, earlier, holds)
        | inr same ↦ inr (subst (λ (x : S). direct x n) (sym same) holds)
      ]),
)

-- the names of sets that a registered set lists
pub names_that_are_listed : (r : Reg) (name : List ℕ) (set : Obj) (members : List Member)
    (names : List (List ℕ)) → get r (AsSet name) ≡ Some set → members ≡ set.members →
    names ≡ filter_map set_listed members → (next : List ℕ) → Contains names next ↔ ListsSet r name
    next
names_that_are_listed r name set members names registered is_members is next = (
  λ has. (
    set,
    registered,
    subst (λ (l : List Member). (m : Member) × Contains l m
        × (set_listed m ≡ Some next)) is_members ((Contains-filter_map set_listed members next).0
        (subst (λ (l : List (List ℕ)). Contains l next) is has)),
  ),
  λ (o, found, listed).
      let same : o ≡ set = cc in
      rw is ((Contains-filter_map set_listed members next).1
      (subst (λ (l : List Member). (m : Member) × Contains l m × (set_listed m ≡ Some next))
      (sym is_members)
      (subst (λ (x : Obj). (m : Member) × Contains x.members m × (set_listed m ≡ Some next))
      same listed))),
)

-- a name is missing where there is no as-set of it
pub missing_kept : (r : Reg) (name : List ℕ) (before : List (List ℕ)) → has_as_set r name ≡ true →
    before ≡ before ++ filter (λ s. not (has_as_set r s)) (name ∷ [])
missing_kept r name before known = sym (ap (λ b. before ++ cond (not b) (name ∷ []) []) known
    ∙ append-nil before)

pub missing_added : (r : Reg) (name : List ℕ) (before : List (List ℕ)) → has_as_set r name ≡ false
    → before ++ name ∷ [] ≡ before ++ filter (λ s. not (has_as_set r s)) (name ∷ [])
missing_added r name before none = sym (ap (λ b. before ++ cond (not b) (name ∷ []) []) none)

pub missing_more : (r : Reg) (names : List (List ℕ)) (i : ℕ) (name : List ℕ)
    (before after : List (List ℕ)) → i < length names → name ≡ get_or names i name →
    before ≡ filter (λ s. not (has_as_set r s)) (take i names) →
    after ≡ before ++ filter (λ s. not (has_as_set r s)) (name ∷ [])
    → after ≡ filter (λ s. not (has_as_set r s)) (take (i + 1) names)
missing_more r names i name before after inside is so_far added =
    let test : List ℕ → Bool = λ s. not (has_as_set r s) in
    added ∙ ap (λ (l : List (List ℕ)). l ++ filter test (name ∷ [])) so_far
    ∙ ap (λ (s : List ℕ). filter test (take i names) ++ filter test (s ∷ [])) is
    ∙ sym (filter_more test names i name inside)
