-- The objects of entries, with one entry more after them.
use Rattle.std.proofs.Common.{◌≡◌, ℕ, ◌+◌, List, [], ◌∷◌, ◌++◌, length, Ok, Err, Result, inl, inr}
use Rattle.std.proofs.Common.{refl, ap, subst, ◌∙◌, arith}
use Rattle.std.specs.Prelude.{◌⊎◌}
use Rattle.rr_text.specs.ParagraphReaders.{Entry}
use Rattle.rr_object.specs.Objects.{Obj}
use Rattle.rr_object.specs.declared.object_fault.ObjectFault.{ObjectFault}
use Rattle.rr_object.specs.Faults.{code_of}
use Rattle.rr_object.specs.Readings.{object_of}
use Rattle.rr_desk.specs.Dumps.{entry_object, object_result, objects_from, with_first}
use Rattle.rr_desk.specs.DumpParts.{IsFaultSoFar}
use Rattle.rr_desk.specs.declared.dump_read_fault.DumpReadFault.{DumpReadFault}
use Rattle.rr_desk.specs.declared.dump_read_fault.DumpReadFault.TheVariants.{Read, Endless, Text}
use Rattle.rr_desk.specs.declared.dump_read_fault.DumpReadFault.TheVariants.{Object}
use Rattle.rr_desk.specs.declared.dump_read_fault.DumpReadFault.TheVariants.{Memory}

-- objects with one after them; the fault that comes first is that of all of them
abbrev after : Result (List Obj) DumpReadFault → Result Obj DumpReadFault →
    Result (List Obj) DumpReadFault
after (Ok objects) (Ok object) = Ok (objects ++ object ∷ [])
after (Ok objects) (Err fault) = Err fault
after (Err fault) later = Err fault

one_alone : (r : Result Obj DumpReadFault) → with_first r (Ok []) ≡ after (Ok []) r
one_alone (Ok object) = refl
one_alone (Err fault) = refl

one_between : (first : Result Obj DumpReadFault) (objects : Result (List Obj) DumpReadFault)
    (last : Result Obj DumpReadFault) → with_first first (after objects last)
    ≡ after (with_first first objects) last
one_between (Ok object) (Ok objects) (Ok last) = refl
one_between (Ok object) (Ok objects) (Err fault) = refl
one_between (Ok object) (Err fault) last = refl
one_between (Err fault) objects last = refl

with_last : (source : List ℕ) (n k : ℕ) (es : List Entry) (last : Entry) → k ≡ n + length es →
    objects_from source n (es ++ last ∷ []) ≡ after (objects_from source n es)
    (entry_object source k last)
with_last source n k [] last at =
    let same : n ≡ k = omega arith in
    one_alone (entry_object source n last) ∙ ap (λ m. after (Ok []) (entry_object source m last))
    same
with_last source n k (e ∷ es) last at =
    ap (with_first (entry_object source n e)) (with_last source (n + 1) k es last (omega arith))
    ∙ one_between (entry_object source n e) (objects_from source (n + 1) es)
    (entry_object source k last)

-- one object more
pub one_more : (source : List ℕ) (n : ℕ) (given : List Entry) (next : Entry) (objects : List Obj)
    (object : Obj) → n ≡ length given + 1 → objects_from source 1 given ≡ Ok objects
    → entry_object source n next ≡ Ok object → objects_from source 1 (given ++ next ∷ [])
    ≡ Ok (objects ++ object ∷ [])
one_more source n given next objects object at so is = with_last source 1 n given next
    (omega arith) ∙ (λ i. after (so i) (is i))

-- the first fault
pub first_fault : (source : List ℕ) (n : ℕ) (given : List Entry) (next : Entry)
    (objects : List Obj) (fault : DumpReadFault) → n ≡ length given + 1 → objects_from source 1
    given ≡ Ok objects
    → (fault ≡ Memory) ⊎ (entry_object source n next ≡ Err fault) → IsFaultSoFar source
    (given ++ next ∷ []) fault
first_fault source n given next objects fault at so (inl memory) = inl memory
first_fault source n given next objects fault at so (inr is) =
    inr (with_last source 1 n given next (omega arith) ∙ (λ i. after (so i) (is i)))

-- which stays the first
pub fault_stays : (source : List ℕ) (given : List Entry) (next : Entry) (fault : DumpReadFault) →
    IsFaultSoFar source given fault → IsFaultSoFar source (given ++ next ∷ []) fault
fault_stays source given next fault (inl memory) = inl memory
fault_stays source given next fault (inr is) =
    inr (with_last source 1 (length given + 1) given next (omega arith)
    ∙ ap (λ r. after r (entry_object source (length given + 1) next)) is)

-- the faults of entries are those of their texts and of objects
abbrev pub IsOfEntry : DumpReadFault → Type 0
IsOfEntry Read = ⊥
IsOfEntry Endless = ⊥
IsOfEntry (Text n) = Unit {0}
IsOfEntry (Object n code) = Unit {0}
IsOfEntry Memory = ⊥

fault_of_object : (n : ℕ) (read : Result Obj ObjectFault) (fault : DumpReadFault) →
    object_result n read ≡ Err fault → IsOfEntry fault
fault_of_object n (Ok object) fault is = absurd (cc)
fault_of_object n (Err why) fault is =
    let same : Object n (code_of why) ≡ fault = cc in
    subst IsOfEntry same tt

fault_of_entry : (source : List ℕ) (n : ℕ) (entry : Entry) (fault : DumpReadFault) →
    entry_object source n entry ≡ Err fault → IsOfEntry fault
fault_of_entry source n (Ok fields) fault is = fault_of_object n (object_of fields source) fault is
fault_of_entry source n (Err why) fault is =
    let same : Text n ≡ fault = cc in
    subst IsOfEntry same tt

fault_of_both : (first : Result Obj DumpReadFault) (later : Result (List Obj) DumpReadFault)
    (fault : DumpReadFault) → ((f : DumpReadFault) → first ≡ Err f → IsOfEntry f) →
    ((f : DumpReadFault) → later ≡ Err f → IsOfEntry f)
    → with_first first later ≡ Err fault → IsOfEntry fault
fault_of_both (Ok object) (Ok objects) fault one all is = absurd (cc)
fault_of_both (Ok object) (Err f) fault one all is = all fault (cc)
fault_of_both (Err f) later fault one all is = one fault (cc)

pub faults_of_entries : (source : List ℕ) (n : ℕ) (es : List Entry) (fault : DumpReadFault) →
    objects_from source n es ≡ Err fault → IsOfEntry fault
faults_of_entries source n [] fault is = absurd (cc)
faults_of_entries source n (e ∷ es) fault is =
    fault_of_both (entry_object source n e) (objects_from source (n + 1) es) fault
    (fault_of_entry source n e) (faults_of_entries source (n + 1) es) is
