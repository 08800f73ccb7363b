-- The registry of a dump is of the source in which the dump is read.
use Rattle.std.proofs.Common.{◌≡◌, ℕ, ◌+◌, Bool, true, false, cond, List, [], ◌∷◌, Ok, Err, Result}
use Rattle.std.proofs.Common.{refl, sym, ap, subst, ◌∙◌}
use Rattle.std.specs.Prelude.{None, Option, Some}
use Rattle.std.specs.List.{AllByRecursion}
use Rattle.std.specs.Ordering.{eq_by_cmp}
use Rattle.std.specs.FinMap.{empty, get, insert, get-empty, get-insert}
use Rattle.rr_text.specs.Fields.{Field}
use Rattle.rr_text.specs.ParagraphReaders.{Entry}
use Rattle.rr_object.specs.declared.object_fault.ObjectFault.{ObjectFault}
use Rattle.rr_object.specs.declared.key.Key.{Key}
use Rattle.rr_object.specs.KeyOrders.{key_cmp}
use Rattle.rr_object.specs.Objects.{Obj}
use Rattle.rr_object.specs.Readings.{object_of}
use Rattle.rr_object.proofs.Parsed.{kept_paragraph, of_any_source}
use Rattle.rr_auth.specs.Registries.{Reg}
use Rattle.rr_object.proofs.KeyLaws.{keys_total}
use Rattle.rr_registry.specs.Loading.{gathered}
use Rattle.rr_desk.specs.Dumps.{entry_object, object_result, objects_from, with_first}
use Rattle.rr_desk.specs.DumpLaws.{DumpsAreOfTheirSource}
use Rattle.rr_desk.specs.declared.dump_read_fault.DumpReadFault.{DumpReadFault}

-- an object is what its paragraph reads as in the source
abbrev pub IsOf : List ℕ → Obj → Type 0
IsOf source o = object_of o.paragraph source ≡ Ok o

of_paragraph : (source : List ℕ) (fields : List Field) (o : Obj) → object_of fields source ≡ Ok o →
    IsOf source o
of_paragraph source fields o is = ap (λ f. object_of f source)
    (kept_paragraph fields o (of_any_source fields source o is)) ∙ is

of_result : (source : List ℕ) (n : ℕ) (fields : List Field) (read : Result Obj ObjectFault)
    (o : Obj) → object_of fields source ≡ read → object_result n read ≡ Ok o → IsOf source o
of_result source n fields (Ok x) o is e =
    let same : x ≡ o = cc in
    of_paragraph source fields o (is ∙ ap Ok same)
of_result source n fields (Err fault) o is e = absurd (cc)

of_entry : (source : List ℕ) (n : ℕ) (entry : Entry) (o : Obj) → entry_object source n entry
    ≡ Ok o → IsOf source o
of_entry source n (Ok fields) o e = of_result source n fields (object_of fields source) o refl e
of_entry source n (Err fault) o e = absurd (cc)

of_both : (source : List ℕ) (first : Result Obj DumpReadFault)
    (later : Result (List Obj) DumpReadFault) (os : List Obj) →
    ((o : Obj) → first ≡ Ok o → IsOf source o)
    → ((xs : List Obj) → later ≡ Ok xs → AllByRecursion (IsOf source) xs) → with_first first later
    ≡ Ok os → AllByRecursion (IsOf source) os
of_both source (Ok o) (Ok xs) os one all e =
    let same : o ∷ xs ≡ os = cc in
    subst (AllByRecursion (IsOf source)) same (one o refl, all xs refl)
of_both source (Ok o) (Err fault) os one all e = absurd (cc)
of_both source (Err fault) later os one all e = absurd (cc)

-- the objects of entries are of the source
pub objects_of_source : (source : List ℕ) (n : ℕ) (es : List Entry) (os : List Obj) →
    objects_from source n es ≡ Ok os → AllByRecursion (IsOf source) os
objects_of_source source n [] os e =
    let same : [] ≡ os = cc in
    subst (AllByRecursion (IsOf source)) same tt
objects_of_source source n (entry ∷ es) os e =
    of_both source (entry_object source n entry) (objects_from source (n + 1) es) os
    (of_entry source n entry) (objects_of_source source (n + 1) es) e

-- an object that is found is the new one, or was found before
pub one_found : (P : Obj → Type 0) (b : Bool) (x o : Obj) (found : Option Obj) → P x →
    (found ≡ Some o → P o) → cond b (Some x) found ≡ Some o → P o
one_found P true x o found here there e =
    let same : x ≡ o = cc in
    subst P same here
one_found P false x o found here there e = there e

-- what holds of each object that is put in holds of each that is found
pub gathered_each : (P : Obj → Type 0) (r : Reg) (os : List Obj) →
    ((k : Key) (o : Obj) → get r k ≡ Some o → P o) → AllByRecursion P os → (k : Key) (o : Obj) →
    get (gathered r os) k ≡ Some o → P o
gathered_each P r [] found all k o is = found k o is
gathered_each P r (x ∷ os) found all k o is =
    gathered_each P (insert r x.key x) os
    (λ l y there. one_found P (eq_by_cmp key_cmp l x.key) x y (get r l) all.0 (found l y)
    (sym (get-insert keys_total r x.key x l) ∙ there)) all.1 k o is

none_found : (P : Obj → Type 0) (k : Key) (o : Obj) → get (empty {X = Obj} {R = key_cmp}) k
    ≡ Some o → P o
none_found P k o is =
    let never : None ≡ Some o = sym (get-empty key_cmp k) ∙ is in
    absurd (cc)

pub dumps_of_source : DumpsAreOfTheirSource
dumps_of_source source text r dump sound = record {
  sound = sound;
  read = λ k o found.
      gathered_each (IsOf source) empty dump.objects (none_found (IsOf source))
      (objects_of_source source 1 _ dump.objects dump.are) k o
      (ap (λ m. get m k) (sym dump.taken.whole) ∙ found);
}
