-- The opening objects are a sound registry.
use Rattle.std.proofs.Common.{◌≡◌, ℕ, List, [], ◌∷◌, false, not, Result, Ok, refl, sym, ap, ◌∙◌}
use Rattle.std.proofs.Common.{codes, map}
use Rattle.std.specs.Prelude.{None, position}
use Rattle.std.specs.List.{list_any}
use Rattle.rr_object.specs.declared.object_fault.ObjectFault.{ObjectFault}
use Rattle.rr_object.specs.declared.key.Key.TheVariants.{Mntner}
use Rattle.rr_object.specs.Objects.{Obj, names_of}
use Rattle.rr_object.specs.Readings.{obj_at, object_of}
use Rattle.rr_object.specs.Keys.{is_mntner_of}
use Rattle.rr_registry.specs.Loading.{clash, load_fault}
use Rattle.rr_registry.proofs.Gathering.{found_fault}
use Rattle.rr_desk.specs.Opening.{AreOpening, opening_paragraphs}
use Rattle.rr_desk.specs.Settings.{IsSettings, SettingsParts}
use Rattle.rr_desk.proofs.OpeningLines.{equal_texts}
use Rattle.rr_desk.proofs.Opens.{addresses_named, addresses_object, addresses_read, block_named}
use Rattle.rr_desk.proofs.Opens.{block_object, numbers, numbers_read, root_named, root_object}
use Rattle.rr_desk.proofs.Opens.{root_read, upper_read, upper_span}

abbrev pub numbers_object : SettingsParts → Obj
numbers_object s = block_object numbers (codes "AS0 - AS65535") s

abbrev pub upper_object : SettingsParts → Obj
upper_object s = block_object upper_span (codes "AS65536 - AS4294967295") s

-- the opening objects in order
abbrev pub opening_objects : SettingsParts → List Obj
opening_objects s = root_object s
    ∷ (numbers_object s ∷ (upper_object s ∷ (addresses_object s ∷ [])))

-- a list is told by its results
same_objects : (xs ys : List Obj) → map {A = Obj} {B = Result Obj ObjectFault} Ok xs ≡ map Ok ys →
    xs ≡ ys
same_objects [] [] e = refl
same_objects [] (y ∷ ys) e = cc
same_objects (x ∷ xs) [] e = cc
same_objects (x ∷ xs) (y ∷ ys) e =
    let rest : map {A = Obj} {B = Result Obj ObjectFault} Ok xs ≡ map Ok ys = cc in
    let same = same_objects xs ys rest in
    cc

paragraphs_read : (s : SettingsParts) → IsSettings s → map (λ fields. object_of fields s.source)
    (opening_paragraphs s) ≡ map Ok (opening_objects s)
paragraphs_read s is = rw (root_read s is, numbers_read s is, upper_read s is, addresses_read s is)
    refl

-- which the opening objects are
pub are_these : (s : SettingsParts) (objects : List Obj) → IsSettings s → AreOpening s objects →
    objects ≡ opening_objects s
are_these s objects is opening = same_objects objects (opening_objects s)
    (sym opening.read ∙ paragraphs_read s is)

pub these_open : (s : SettingsParts) → IsSettings s → AreOpening s (opening_objects s)
these_open s is = record { read = paragraphs_read s is }

-- no key stands twice, and none crosses another
unclashed : (s : SettingsParts) → clash [] 1 (opening_objects s) ≡ None
unfolding obj_at
unclashed s = refl

-- each names the root alone, which is there
found_root : (name : List ℕ) (a b c d : Obj) → a.key ≡ Mntner name →
    list_any (λ n. not (list_any (λ x. is_mntner_of n x.key) (a ∷ (b ∷ (c ∷ (d ∷ []))))))
    (name ∷ []) ≡ false
found_root name a b c d key = rw (key, equal_texts name) refl

named_by_root : (name : List ℕ) (a b c d : Obj) → a.key ≡ Mntner name → names_of a ≡ name ∷ [] →
    names_of b ≡ name ∷ [] → names_of c ≡ name ∷ [] → names_of d ≡ name ∷ []
    →
    position
    (λ o. list_any (λ n. not (list_any (λ x. is_mntner_of n x.key) (a ∷ (b ∷ (c ∷ (d ∷ []))))))
    (names_of o)) (a ∷ (b ∷ (c ∷ (d ∷ [])))) ≡ None
named_by_root name a b c d key na nb nc nd = rw (na, nb, nc, nd, found_root name a b c d key) refl

root_key_is : (s : SettingsParts) → (root_object s).key ≡ Mntner s.root
unfolding obj_at
root_key_is s = refl

all_named : (s : SettingsParts) → IsSettings s
    → position (λ o. list_any (λ n. not (list_any (λ x. is_mntner_of n x.key) (opening_objects s)))
    (names_of o)) (opening_objects s) ≡ None
all_named s is =
    named_by_root s.root (root_object s) (numbers_object s) (upper_object s) (addresses_object s)
    (root_key_is s) (root_named s is)
    (block_named numbers (codes "AS0 - AS65535") s is)
    (block_named upper_span (codes "AS65536 - AS4294967295") s is) (addresses_named s is)

opening_is_sound : (s : SettingsParts) → IsSettings s → load_fault (opening_objects s) ≡ None
opening_is_sound s is =
    rw (unclashed s, found_fault (opening_objects s) None (sym (all_named s is)))

-- so nothing is the matter with them
pub opening_faultless : (s : SettingsParts) (objects : List Obj) → IsSettings s →
    AreOpening s objects → load_fault objects ≡ None
opening_faultless s objects is opening = ap load_fault (are_these s objects is opening)
    ∙ opening_is_sound s is
