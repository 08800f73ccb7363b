-- The references of a set, from what it lists.
use Rattle.std.proofs.Common.{◌≡◌, ℕ, ◌⊎◌, ◌↔◌, Bool, true, false, cond, List, [], ◌++◌, map}
use Rattle.std.proofs.Common.{Contains, None, Option, Some, refl, sym, ap, ◌∙◌, subst, inl, inr}
use Rattle.std.specs.FinMap.{get}
use Rattle.std.specs.List.{filter_map}
use Rattle.std.proofs.lemmas.List.Elements.{Contains-append_cases, Contains-append_left}
use Rattle.std.proofs.lemmas.List.Elements.{Contains-append_right}
use Rattle.rr_auth.specs.Registries.{LooksUp, Reg}
use Rattle.rr_graph.specs.declared.labels.Edge.{Edge}
use Rattle.rr_graph.proofs.Lists.{Contains-filter_map, Contains-map, Contains-nil}
use Rattle.rr_number.specs.declared.operator.Operator.{Operator}
use Rattle.rr_number.specs.declared.operator.Operator.TheVariants.{Plain}
use Rattle.rr_object.specs.Keys.{key_of_kind}
use Rattle.rr_object.specs.Objects.{Obj}
use Rattle.rr_object.specs.declared.key.Key.TheVariants.{RouteSet}
use Rattle.rr_object.specs.declared.member.Member.{Member}
use Rattle.rr_object.specs.declared.member.Member.TheVariants as member
use Rattle.rr_object.specs.declared.member.MemberSet.{MemberSet}
use Rattle.rr_object.specs.declared.member.MemberSet.TheVariants.{AutNum, Set}
use Rattle.rr_sets.specs.AsSets.{IsDirect, ListsSet}
use Rattle.rr_sets.specs.MemberParts.{missing_name, number_reference, reference_of, set_reference}
use Rattle.rr_number.specs.SetNames.{kind_of}
use Rattle.rr_number.specs.declared.set_kind.SetKind.{SetKind}
use Rattle.rr_sets.specs.RouteSets.{AsSetRefers, FindsSet, Refers, RefersAs, RouteSetRefers}
use Rattle.rr_sets.specs.RouteSets.{has_set}

-- a reference to a set under an operator
abbrev reference : MemberSet → Operator → Edge MemberSet Operator
reference other operator = record { to = other; label = operator }

-- a member with a reference is it
member_of_reference : (m : Member) (other : MemberSet) (operator : Operator) → reference_of m
    ≡ Some (reference other operator) → m ≡ member.Set other operator
member_of_reference (member.Range x) other operator is = cc
member_of_reference (member.Set set o) other operator is =
    let same : reference set o ≡ reference other operator = cc in
    λ i. member.Set (same i).to (same i).label

-- the references among members
references_among : (members : List Member) (other : MemberSet) (operator : Operator) →
    Contains (filter_map reference_of members) (reference other operator) ↔ Contains members
    (member.Set other operator)
references_among members other operator = (
  λ has. let f = (Contains-filter_map reference_of members (reference other operator)).0 has in
      subst (Contains members) (member_of_reference f.0 other operator f.2) f.1,
  λ has. (Contains-filter_map reference_of members (reference other operator)).1
      (member.Set other operator, has, refl),
)

-- the references of a registered route-set
pub references_of_set : (r : Reg) (name : List ℕ) (set : Obj) (members : List Member)
    (references : List (Edge MemberSet Operator)) → get r (RouteSet name) ≡ Some set →
    members ≡ set.members → references ≡ filter_map reference_of members → (other : MemberSet)
    (operator : Operator) → Contains references (record { to = other; label = operator })
    ↔ RouteSetRefers r name other operator
references_of_set r name set members references registered is_members is other operator = (
  λ has. (
    set,
    registered,
    subst (λ (l : List Member). Contains l (member.Set other operator))
        is_members ((references_among members other operator).0
        (subst (λ (l : List (Edge MemberSet Operator)). Contains l (reference other operator)) is
        has)),
  ),
  λ (o, found, has). let same : o ≡ set = cc in
      rw is ((references_among members other operator).1
      (rw is_members (subst (λ (x : Obj). Contains x.members (member.Set other operator)) same
      has))),
)

-- no route-set of the name is registered, so it refers to nothing
pub references_of_none : (r : Reg) (name : List ℕ) (references : List (Edge MemberSet Operator)) →
    get r (RouteSet name) ≡ None → references ≡ [] → (other : MemberSet) (operator : Operator) →
    Contains references (record { to = other; label = operator }) ↔ RouteSetRefers r name other
    operator
references_of_none r name references none empty other operator = (
  λ has.
      absurd (Contains-nil (reference other operator)
      (subst (λ (l : List (Edge MemberSet Operator)). Contains l (reference other operator)) empty
      has)),
  λ (o, found, has). let wrong : Some o ≡ None = sym found ∙ none in cc,
)

-- a reference without operator is one of an AS
is_number : (m : ℕ) (other : MemberSet) (operator : Operator) → number_reference m ≡ reference
    other operator → (other ≡ AutNum m) × (operator ≡ Plain)
is_number m other operator is = (
  sym (ap (λ (e : Edge MemberSet Operator). e.to) is),
  sym (ap (λ (e : Edge MemberSet Operator). e.label) is),
)

-- or of a set
is_set : (name : List ℕ) (other : MemberSet) (operator : Operator) → set_reference name ≡ reference
    other operator → (other ≡ Set name) × (operator ≡ Plain)
is_set name other operator is = (
  sym (ap (λ (e : Edge MemberSet Operator). e.to) is),
  sym (ap (λ (e : Edge MemberSet Operator). e.label) is),
)

-- the references of an as-set
pub references_of_as_set : (r : Reg) (name : List ℕ) (numbers : List ℕ) (names : List (List ℕ))
    (references : List (Edge MemberSet Operator)) →
    ((n : ℕ) → Contains numbers n ↔ IsDirect r name n) →
    ((listed : List ℕ) → Contains names listed ↔ ListsSet r name listed) → references
    ≡ map number_reference numbers ++ map set_reference names → (other : MemberSet)
    (operator : Operator) → Contains references (record { to = other; label = operator })
    ↔ AsSetRefers r name other operator
references_of_as_set r name numbers names references direct lists is other operator = (
  λ has. on other (Contains-append_cases (map number_reference numbers)
      (map set_reference names) (reference other operator)
      (subst (λ (l : List (Edge MemberSet Operator)). Contains l (reference other operator)) is
      has)),
  λ refers. rw is (from other refers),
) where
  on : (x : MemberSet) → Contains (map number_reference numbers) (reference x operator)
      ⊎ Contains (map set_reference names) (reference x operator) → AsSetRefers r name x operator
  on (AutNum n) (inl has) =
      let f = (Contains-map number_reference numbers (reference (AutNum n) operator)).0 has in
      let same = is_number f.0 (AutNum n) operator f.2 in
      let number : f.0 ≡ n = cc in
      ((direct n).0 (subst (Contains numbers) number f.1), same.1)
  on (AutNum n) (inr has) =
      let f = (Contains-map set_reference names (reference (AutNum n) operator)).0 has in
      let same = is_set f.0 (AutNum n) operator f.2 in
      let wrong : AutNum n ≡ Set f.0 = same.0 in
      cc
  on (Set listed) (inl has) =
      let f = (Contains-map number_reference numbers (reference (Set listed) operator)).0 has in
      let same = is_number f.0 (Set listed) operator f.2 in
      let wrong : Set listed ≡ AutNum f.0 = same.0 in
      cc
  on (Set listed) (inr has) =
      let f = (Contains-map set_reference names (reference (Set listed) operator)).0 has in
      let same = is_set f.0 (Set listed) operator f.2 in
      let name_ : f.0 ≡ listed = cc in
      ((lists listed).0 (subst (Contains names) name_ f.1), same.1)

  from : (x : MemberSet) → AsSetRefers r name x operator →
      Contains (map number_reference numbers ++ map set_reference names) (reference x operator)
  from (AutNum n) (holds, plain) = Contains-append_left (map number_reference numbers)
      (map set_reference names) (reference (AutNum n) operator)
      ((Contains-map number_reference numbers (reference (AutNum n) operator)).1
      (n, (direct n).1 holds, ap (reference (AutNum n)) (sym plain)))
  from (Set listed) (holds, plain) = Contains-append_right (map number_reference numbers)
      (map set_reference names) (reference (Set listed) operator)
      ((Contains-map set_reference names (reference (Set listed) operator)).1
      (listed, (lists listed).1 holds, ap (reference (Set listed)) (sym plain)))

-- a set with a name in vain has that name, and there is none of it
name_of_missing : (r : Reg) (set : MemberSet) (name : List ℕ) → missing_name r set ≡ Some name →
    (set ≡ Set name) × (has_set r name ≡ false)
name_of_missing r (AutNum n) name is = cc
name_of_missing r (Set s) name is = go (has_set r s) refl is where
  go : (b : Bool) → has_set r s ≡ b → cond b None (Some s) ≡ Some name → (Set s ≡ Set name)
      × (has_set r name ≡ false)
  go true known none = cc
  go false known some = let same : s ≡ name = cc in
      (ap Set same, subst (λ (x : List ℕ). has_set r x ≡ false) same known)

-- the names of the sets that there are not
pub missing_among : (r : Reg) (sets : List MemberSet) (name : List ℕ) →
    Contains (filter_map (missing_name r) sets) name
    ↔ (Contains sets (Set name) × (has_set r name ≡ false))
missing_among r sets name = (
  λ has.
      let f = (Contains-filter_map (missing_name r) sets name).0 has in
      let g = name_of_missing r f.0 name f.2 in
      (subst (Contains sets) g.0 f.1, g.1),
  λ (has, none). (Contains-filter_map (missing_name r) sets name).1
      (Set name, has, ap (λ b. cond b None (Some name)) none),
)

-- what is found of a named set is the registered set of its kind
pub found_of_kind : (r : Reg) (set : MemberSet) (name : List ℕ) (kind : SetKind)
    (object : Option Obj) → set ≡ Set name → kind_of name ≡ kind → FindsSet r set object →
    LooksUp r (key_of_kind kind name) object
found_of_kind r set name kind object is told found =
    subst (λ (k : SetKind). LooksUp r (key_of_kind k name) object) told
    (subst (λ (x : MemberSet). FindsSet r x object) is found)

-- the references of a named set are those of its kind
pub refers_by_kind : (r : Reg) (set : MemberSet) (name : List ℕ) (kind : SetKind)
    (references : List (Edge MemberSet Operator)) → set ≡ Set name → kind_of name ≡ kind →
    ((other : MemberSet) (operator : Operator) → Contains references
    (record { to = other; label = operator }) ↔ RefersAs kind r name other operator) →
    (other : MemberSet) (operator : Operator) → Contains references
    (record { to = other; label = operator }) ↔ Refers r set other operator
refers_by_kind r set name kind references is told are other operator =
    subst (λ (x : MemberSet). Contains references (reference other operator) ↔ Refers r x other
    operator) (sym is)
    (subst (λ (k : SetKind). Contains references (reference other operator) ↔ RefersAs k r name
    other operator) (sym told) (are other operator))

-- an AS refers to nothing
pub refers_of_number : (r : Reg) (set : MemberSet) (n : ℕ)
    (references : List (Edge MemberSet Operator)) → set ≡ AutNum n → references ≡ [] →
    (other : MemberSet) (operator : Operator) → Contains references
    (record { to = other; label = operator }) ↔ Refers r set other operator
refers_of_number r set n references is empty other operator =
    subst (λ (x : MemberSet). Contains references (reference other operator) ↔ Refers r x other
    operator) (sym is) (
      λ has. Contains-nil (reference other operator)
          (subst (λ (l : List (Edge MemberSet Operator)). Contains l (reference other operator))
          empty has),
      λ refers. absurd refers,
    )
