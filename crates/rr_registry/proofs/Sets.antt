-- The parent of a set under an AS of the holders is held too.
use Rattle.std.proofs.Common.{◌≡◌, ℕ, Bool, true, false, List, [], ◌∷◌, ◌++◌, take, drop, refl, sym}
use Rattle.std.proofs.Common.{ap, ◌∙◌}
use Rattle.std.specs.Prelude.{Option, None, Some, if◌then◌else◌}
use Rattle.std.specs.List.{join_with_byte, list_all}
use Rattle.std.proofs.lemmas.List.{take-append-drop}
use Rattle.std.proofs.lemmas.List.Splits.{join_with_byte-slice_split}
use Rattle.std.specs.Option.{option_map, option_map_or}
use Rattle.rr_number.specs.AsNumbers.{IsAsNumber, as_number_of}
use Rattle.rr_number.specs.Parents.{but_last, parent_text_by, parent_text, named_by, parent_of}
use Rattle.rr_number.specs.SetNames.{components, is_as_number}
use Rattle.rr_number.specs.declared.set_kind.SetKind.{SetKind}
use Rattle.rr_number.specs.declared.set_name.parent.Parent.{Parent}
use Rattle.rr_number.specs.declared.set_name.parent.Parent.TheVariants.{Number, Set, Bare}
use Rattle.rr_number.proofs.Components.{components-alone, lacks-upper, some_component}
use Rattle.rr_bytes.proofs.CutLemmas.{lacks, lacks-append, lacks-digits}
use Rattle.rr_number.proofs.AsNumberLemmas.{as_number_of-spelled}
use Rattle.rr_number.proofs.ParentLemmas.{parent_parts}
use Rattle.rr_object.specs.Keys.{key_of_kind}
use Rattle.rr_object.specs.declared.key.Key.{Key}
use Rattle.rr_object.specs.declared.key.Key.TheVariants.{AutNum}
use Rattle.rr_auth.specs.SetParents.{parent_key}
use Rattle.rr_registry.specs.Holdings.{Holding, begins_with_number, has_number, is_held}
use Rattle.rr_registry.specs.Holdings.{is_mntner, is_under}

some_same : {A : Type 0} {x y : A} → Some x ≡ Some y → x ≡ y
some_same e = cc

one_not_two : (text c d : List ℕ) (ds : List (List ℕ)) → text ∷ [] ≡ c ∷ (d ∷ ds) → ⊥
one_not_two text c d ds e = cc

-- what a map of a prefix gives, it gives of one that is there
mapped : (o : Option (List ℕ)) (parent : Parent) → option_map named_by o ≡ Some parent →
    (prefix : List ℕ) × ((o ≡ Some prefix) × (named_by prefix ≡ parent))
mapped None parent e = cc
mapped (Some prefix) parent e = (prefix, (refl, some_same e))

-- the spelling of an AS number has no colon
number_lacks : (text : List ℕ) (n : ℕ) → IsAsNumber text n → lacks 58 text ≡ true
number_lacks text n is =
    let prefix : lacks 58 (take 2 text) ≡ true = sym (lacks-upper (take 2 text)) ∙ ap (lacks 58)
    is.begins in
    let back : lacks 58 (drop 2 text) ≡ true = lacks-digits 58 (drop 2 text) refl
    is.number.digits in
    ap (lacks 58) (sym (take-append-drop 2 text)) ∙ lacks-append 58 (take 2 text) (drop 2 text)
    prefix back

-- a text of several components spells no AS number
no_number : (text c d : List ℕ) (ds : List (List ℕ)) → components text ≡ c ∷ (d ∷ ds) →
    as_number_of text ≡ None
no_number text c d ds several =
    elim (as_number_of text) as (λ v. as_number_of text ≡ v → v ≡ None) [
      | None ↦ λ e. refl
      | Some n ↦ λ e.
          let one = components-alone text (number_lacks text n (as_number_of-spelled text n e)) in
          absurd (one_not_two text c d ds (sym one ∙ several))
    ] refl

-- a number that a text spells, where its numbers are the holders', is theirs
number_theirs : (h : Holding) (o : Option ℕ) → option_map_or (has_number h) o false ≡ true →
    (n : ℕ) × ((o ≡ Some n) × (has_number h n ≡ true))
number_theirs h None e = cc
number_theirs h (Some n) e = (n, (refl, e))

-- what is said of a set under an AS of the holders: its first component is one of their AS numbers
begins_so : (h : Holding) (c : List ℕ) (cs : List (List ℕ)) → begins_with_number h (c ∷ cs)
    ≡ true → option_map_or (has_number h) (as_number_of c) false ≡ true
begins_so h c [] e = cc
begins_so h c (d ∷ ds) e = e

-- a set that what precedes the last component names
set_under : (h : Holding) (kind : SetKind) (prefix : List ℕ) (b : Bool) (k : Key) →
    ((name : List ℕ) → is_held h (key_of_kind kind name) ≡ is_under h name)
    → is_under h prefix ≡ true → parent_key kind (if b then Bare else Set prefix) ≡ Some k →
    is_held h k ≡ true
set_under h kind prefix true k of_sets under e = cc
set_under h kind prefix false k of_sets under e = ap (is_held h) (some_same (sym e))
    ∙ of_sets prefix ∙ under

-- the parent by its components
by_components : (h : Holding) (kind : SetKind) (prefix c : List ℕ) (cs : List (List ℕ)) (k : Key) →
    ((name : List ℕ) → is_held h (key_of_kind kind name) ≡ is_under h name)
    → components prefix ≡ c ∷ cs → option_map_or (has_number h) (as_number_of c) false ≡ true →
    parent_key kind (named_by prefix) ≡ Some k → is_held h k ≡ true
by_components h kind prefix c [] k of_sets parts number e =
    let whole : prefix ≡ c = sym (join_with_byte-slice_split 58 prefix) ∙ ap (join_with_byte 58)
    parts in
    let theirs = number_theirs h (as_number_of c) number in
    let read : as_number_of prefix ≡ Some theirs.0 = ap as_number_of whole ∙ theirs.1.0 in
    let key : AutNum theirs.0 ≡ k =
    some_same
    (sym
    (ap
    (λ v.
    parent_key kind (option_map_or Number v (if list_all is_as_number (components prefix) then
    Bare else Set prefix))) read) ∙ e) in
    ap (is_held h) (sym key) ∙ theirs.1.1
by_components h kind prefix c (d ∷ ds) k of_sets parts number e =
    let under : is_under h prefix ≡ true = ap (begins_with_number h) parts ∙ number in
    let other : parent_key kind (if list_all is_as_number (components prefix) then Bare else Set
    prefix) ≡ Some k =
    sym
    (ap
    (λ v.
    parent_key kind (option_map_or Number v (if list_all is_as_number (components prefix) then
    Bare else Set prefix))) (no_number prefix c d ds parts)) ∙ e in
    set_under h kind prefix (list_all is_as_number (components prefix)) k of_sets under other

-- the parent of a set under an AS of the holders is held
pub parent_held : (h : Holding) (kind : SetKind) (name : List ℕ) (parent : Parent) (k : Key) →
    ((name : List ℕ) → is_held h (key_of_kind kind name) ≡ is_under h name)
    → is_under h name ≡ true → parent_of name ≡ Some parent → parent_key kind parent ≡ Some k →
    is_held h k ≡ true
parent_held h kind name parent k of_sets under has key =
    let prefix = mapped (parent_text name) parent has in
    let parts = parent_parts name prefix.0 prefix.1.0 in
    let some = some_component prefix.0 in
    let first : components name ≡ some.0 ∷ (some.1 ++ (parts.0 ∷ [])) =
    parts.1 ∙ ap (λ cs. cs ++ (parts.0 ∷ [])) some.2 in
    let number = begins_so h some.0 (some.1 ++ (parts.0 ∷ []))
    (sym (ap (begins_with_number h) first) ∙ under) in
    by_components h kind prefix.0 some.0 some.1 k of_sets some.2 number
    (ap (parent_key kind) prefix.1.1 ∙ key)

-- and it is no mntner
pub parent_no_mntner : (kind : SetKind) (parent : Parent) (k : Key) →
    ((name : List ℕ) → is_mntner (key_of_kind kind name) ≡ false) → parent_key kind parent
    ≡ Some k → is_mntner k ≡ false
parent_no_mntner kind (Number n) k of_sets e = ap is_mntner (some_same (sym e))
parent_no_mntner kind (Set name) k of_sets e = ap is_mntner (some_same (sym e)) ∙ of_sets name
parent_no_mntner kind Bare k of_sets e = cc

head_there : (name c d : List ℕ) (ds : List (List ℕ)) → components name ≡ c ∷ (d ∷ ds) →
    (prefix : List ℕ) × (parent_text name ≡ Some prefix)
unfolding parent_text
head_there name c d ds parts = (
  join_with_byte 58 (c ∷ but_last (d ∷ ds)),
  ap (λ cs. parent_text_by (but_last cs)) parts,
)

several : (h : Holding) (cs : List (List ℕ)) → begins_with_number h cs ≡ true → (c : List ℕ)
    × ((d : List ℕ) × ((ds : List (List ℕ)) × (cs ≡ c ∷ (d ∷ ds))))
several h [] e = cc
several h (c ∷ []) e = cc
several h (c ∷ d ∷ ds) e = (c, (d, (ds, refl)))

-- a set under an AS of the holders has a parent
pub has_parent : (h : Holding) (name : List ℕ) → is_under h name ≡ true → (parent : Parent)
    × (parent_of name ≡ Some parent)
has_parent h name under =
    let parts = several h (components name) under in
    let prefix = head_there name parts.0 parts.1.0 parts.1.1.0 parts.1.1.1 in
    (named_by prefix.0, ap (option_map named_by) prefix.1)
