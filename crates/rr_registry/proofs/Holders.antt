-- Names of holders: they are known, pass alike in registries that agree on what is held, and pass
-- for no foreign item.
use Rattle.std.proofs.Common.{◌≡◌, ℕ, true, false, not, ◌&&◌, ◌||◌, List, [], ◌∷◌, ◌++◌, refl, sym}
use Rattle.std.proofs.Common.{ap, ◌∙◌}
use Rattle.std.specs.Prelude.{Option, None, Some, ◌==◌, is_none, is_some, length, map, filter}
use Rattle.std.specs.Prelude.{if◌then◌else◌}
use Rattle.std.specs.List.{list_all}
use Rattle.std.specs.Option.{option_map_or}
use Rattle.std.specs.Str.{bytes_eq}
use Rattle.std.specs.FinMap.{get}
use Rattle.std.proofs.lemmas.Bool.{and_from, and_parts, not-true}
use Rattle.std.proofs.lemmas.List.Folds.{list_all-append, list_all-map}
use Rattle.std.proofs.lemmas.Slice.Eq.{bytes_eq-Decides}
use Rattle.rr_number.specs.Prefixes.{PrefixParts}
use Rattle.rr_object.specs.declared.key.Key.{Key}
use Rattle.rr_object.specs.declared.key.Key.TheVariants.{Mntner}
use Rattle.rr_object.specs.Objects.{Obj, names_of}
use Rattle.rr_object.specs.Parts.{GrantParts}
use Rattle.rr_auth.specs.Authority.{grants, is_aut_num, lower_of, lower_passes, routes_of}
use Rattle.rr_auth.specs.Authority.{routes_pass}
use Rattle.rr_auth.specs.Passing.{name_passes, names_pass, passes}
use Rattle.rr_auth.specs.Registries.{Reg, maintainer, some_is_unknown}
use Rattle.rr_auth.proofs.Members.{all_fail, all_pass, each_passes, none_passes, passing_one}
use Rattle.rr_auth.proofs.Members.{same_tests, some_passes}
use Rattle.rr_registry.specs.Holdings.{Agree, Holding, IsHeld, is_foreign, is_holder, is_mntner}
use Rattle.rr_registry.specs.Holdings.{names_holders}

-- what is there is not nothing
there_not_none : {A : Type 0} (o : Option A) → is_some o ≡ true → is_none o ≡ false
there_not_none None e = cc
there_not_none (Some x) e = refl

-- the holders are registered
pub holders_known : (h : Holding) (r : Reg) (names : List (List ℕ)) → IsHeld h r →
    list_all (is_holder h) names ≡ true → some_is_unknown r names ≡ false
holders_known h r names held e =
    all_fail (λ n. is_none (maintainer r n)) names (λ n i. there_not_none (get r (Mntner n))
    (held.registered n (each_passes (is_holder h) n names e i)))

-- names of holders pass alike where the holders' mntners are the same
pub passes_where : (h : Holding) (r q : Reg) (secrets names : List (List ℕ)) →
    ((name : List ℕ) → is_holder h name ≡ true → get r (Mntner name) ≡ get q (Mntner name))
    → list_all (is_holder h) names ≡ true → names_pass r secrets names ≡ names_pass q secrets names
passes_where h r q secrets names same e =
    same_tests (name_passes r secrets) (name_passes q secrets) names (λ n i.
    ap (λ o. option_map_or (passes secrets) o false)
    (same n (each_passes (is_holder h) n names e i)))

-- so they do in registries that agree on what is held
pub passes_alike : (h : Holding) (r q : Reg) (secrets names : List (List ℕ)) → Agree h r q →
    list_all (is_holder h) names ≡ true
    → names_pass r secrets names ≡ names_pass q secrets names
passes_alike h r q secrets names agree e = passes_where h r q secrets names
    (λ n i. agree (Mntner n) i) e

-- each holder is one
each_holder : (h : Holding) → list_all (is_holder h) h.holders ≡ true
each_holder h = all_pass (is_holder h) h.holders (λ n i. some_passes (bytes_eq n) n h.holders i
    ((bytes_eq-Decides n n).1 refl))

-- an item is foreign in registries with the same mntners of the holders, or in neither
pub foreign_alike : (h : Holding) (r q : Reg) (secrets : List (List ℕ)) →
    ((name : List ℕ) → is_holder h name ≡ true → get r (Mntner name) ≡ get q (Mntner name))
    → is_foreign h r secrets ≡ is_foreign h q secrets
foreign_alike h r q secrets same =
    ap not (passes_where h r q secrets h.holders same (each_holder h))

-- names of holders do not pass for a foreign item
pub holders_fail : (h : Holding) (r : Reg) (secrets names : List (List ℕ)) → is_foreign h r secrets
    ≡ true → list_all (is_holder h) names ≡ true
    → names_pass r secrets names ≡ false
holders_fail h r secrets names foreign e =
    all_fail (name_passes r secrets) names (λ n i.
    let one = passing_one (bytes_eq n) h.holders (each_passes (is_holder h) n names e i) in
    let same : n ≡ one.0 = (bytes_eq-Decides n one.0).0 one.1.1 in
    ap (name_passes r secrets) same ∙ none_passes (name_passes r secrets) one.0 h.holders
    (not-true _ foreign) one.1.0)

-- what an object that names holders says
pub record NamesHolders (h : Holding) (o : Obj) : Type 0 where
  pub maintainers : list_all (is_holder h) o.maintainers ≡ true
  pub lower : list_all (is_holder h) o.lower ≡ true
  pub routes : list_all (λ g. is_holder h g.name) o.routes ≡ true

pub maintainers_theirs : (h : Holding) (k : Key) (o : Obj) → names_holders h k o ≡ true →
    list_all (is_holder h) o.maintainers ≡ true
maintainers_theirs h k o e = (and_parts _ _ e).0

pub all_theirs : (h : Holding) (k : Key) (o : Obj) → is_mntner k ≡ false → names_holders h k o
    ≡ true → NamesHolders h o
all_theirs h k o other e =
    let parts = and_parts _ _ e in
    let below : (list_all (is_holder h) o.lower && list_all (λ g. is_holder h g.name) o.routes)
    ≡ true =
    ap (λ b. b || (list_all (is_holder h) o.lower && list_all (λ g. is_holder h g.name) o.routes))
    (sym other) ∙ parts.1 in
    let both = and_parts _ _ below in
    record { maintainers = parts.0; lower = both.0; routes = both.1 }

pub said_theirs : (h : Holding) (k : Key) (o : Obj) → NamesHolders h o → names_holders h k o ≡ true
said_theirs h k o n =
    and_from _ _ n.maintainers
    (elim (is_mntner k) as
    (λ b.
    (b || (list_all (is_holder h) o.lower && list_all (λ g. is_holder h g.name) o.routes))
    ≡ true) [
      | true ↦ refl
      | false ↦ and_from _ _ n.lower n.routes
    ])

-- the names that decide below an object of the holders are theirs
pub lower_theirs : (h : Holding) (o : Obj) → NamesHolders h o → list_all (is_holder h) (lower_of o)
    ≡ true
lower_theirs h o n =
    elim (length o.lower == 0) as
    (λ b. list_all (is_holder h) (if b then o.maintainers else o.lower) ≡ true)
    [ true ↦ n.maintainers | false ↦ n.lower ]

granted_theirs : (h : Holding) (p : PrefixParts) (gs : List GrantParts) →
    list_all (λ g. is_holder h g.name) gs ≡ true
    → list_all (is_holder h) (map (λ g. g.name) (filter (grants p) gs)) ≡ true
granted_theirs h p [] e = refl
granted_theirs h p (g ∷ gs) e =
    let parts = and_parts (is_holder h g.name) _ e in
    let rest = granted_theirs h p gs parts.1 in
    elim (grants p g) as
    (λ b. list_all (is_holder h)
    (map (λ g. g.name) (if b then g ∷ filter (grants p) gs else filter (grants p) gs)) ≡ true) [
      | true ↦ and_from _ _ parts.0 rest
      | false ↦ rest
    ]

-- and so are those that decide about routes
pub routes_theirs : (h : Holding) (p : PrefixParts) (o : Obj) → NamesHolders h o →
    list_all (is_holder h) (routes_of o p) ≡ true
routes_theirs h p o n =
    elim (length o.routes == 0) as
    (λ b. list_all (is_holder h)
    (if b then (if is_aut_num o.key then o.maintainers else lower_of o) else map (λ g. g.name)
    (filter (grants p) o.routes)) ≡ true) [
      | true ↦ elim (is_aut_num o.key) as
          (λ b. list_all (is_holder h) (if b then o.maintainers else lower_of o) ≡ true)
          [ true ↦ n.maintainers | false ↦ lower_theirs h o n ]
      | false ↦ granted_theirs h p o.routes n.routes
    ]

-- an object all of whose names are holders'
pub names_theirs : (h : Holding) (o : Obj) → list_all (is_holder h) (names_of o) ≡ true →
    NamesHolders h o
names_theirs h o e =
    let first =
    and_parts _ _
    (sym (list_all-append (is_holder h) ((o.maintainers ++ o.lower) ++ map (λ g. g.name)
    o.routes) o.by_ref.names) ∙ e) in
    let second =
    and_parts _ _
    (sym (list_all-append (is_holder h) (o.maintainers ++ o.lower)
    (map (λ g. g.name) o.routes)) ∙ first.0) in
    let third = and_parts _ _ (sym (list_all-append (is_holder h) o.maintainers o.lower)
    ∙ second.0) in
    record {
      maintainers = third.0;
      lower = third.1;
      routes =
          sym (list_all-map (is_holder h) (λ (g : GrantParts). g.name) o.routes) ∙ second.1;
    }

-- what an object of the holders answers, alike and for a foreign item
pub lower_alike : (h : Holding) (r q : Reg) (secrets : List (List ℕ)) (o : Obj) → Agree h r q →
    NamesHolders h o → lower_passes r secrets o ≡ lower_passes q secrets o
lower_alike h r q secrets o agree n = passes_alike h r q secrets (lower_of o) agree
    (lower_theirs h o n)

pub route_names_alike : (h : Holding) (r q : Reg) (secrets : List (List ℕ)) (p : PrefixParts)
    (o : Obj) → Agree h r q → NamesHolders h o
    → routes_pass r secrets p o ≡ routes_pass q secrets p o
route_names_alike h r q secrets p o agree n = passes_alike h r q secrets (routes_of o p) agree
    (routes_theirs h p o n)

pub lower_fails : (h : Holding) (r : Reg) (secrets : List (List ℕ)) (o : Obj) →
    is_foreign h r secrets ≡ true → NamesHolders h o → lower_passes r secrets o ≡ false
lower_fails h r secrets o foreign n = holders_fail h r secrets (lower_of o) foreign
    (lower_theirs h o n)

pub route_names_fail : (h : Holding) (r : Reg) (secrets : List (List ℕ)) (p : PrefixParts)
    (o : Obj) → is_foreign h r secrets ≡ true → NamesHolders h o
    → routes_pass r secrets p o ≡ false
route_names_fail h r secrets p o foreign n = holders_fail h r secrets (routes_of o p) foreign
    (routes_theirs h p o n)
