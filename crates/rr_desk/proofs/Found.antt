-- What a reader of paragraphs answers, as an entry or as an end.
use Rattle.std.proofs.Common.{◌≡◌, ◌≢◌, ℕ, ◌+◌, ◌<◌, ◌≤◌, List, [], ◌∷◌, ◌++◌, length}
use Rattle.std.proofs.Common.{length-append, Ok, Err, inl, inr, refl, ap, ◌∙◌, arith}
use Rattle.std.specs.Prelude.{◌^◌, MatchResult, Result}
use Rattle.rr_io.specs.Told.{Told}
use Rattle.rr_io.specs.declared.receiving.ReadEnd.TheVariants as end
use Rattle.rr_text.specs.declared.text_fault.TextFault.{TextFault}
use Rattle.rr_text.specs.declared.text_fault.TextFault.TheVariants as text
use Rattle.rr_text.specs.declared.paragraphs.Paragraphs.{Paragraphs}
use Rattle.rr_text.specs.Fields.{Field}
use Rattle.rr_text.specs.ParagraphReaders.{Entry, GivesNext, HasEnded, HasGiven, Nearer, held}
use Rattle.rr_object.specs.Objects.{Obj}
use Rattle.rr_desk.specs.Dumps.{entry_object, objects_from}
use Rattle.rr_desk.specs.DumpParts.{FindsEntry, FindsOne, IsEntryOf, IsFaultSoFar}
use Rattle.rr_desk.specs.DumpReadings.{FailsToRead, HasRead}
use Rattle.rr_desk.specs.declared.dump_read_fault.DumpReadFault.{DumpReadFault}
use Rattle.rr_desk.specs.declared.dump_read_fault.DumpReadFault.TheVariants as dump
use Rattle.rr_desk.proofs.EntryLists.{faults_of_entries}

-- a fault that does not end the reading is that of an entry
pub found_fault : (start now : Told) (p : Paragraphs) (given : List Entry) (fault : TextFault) →
    fault ≢ text.Read → fault ≢ text.Endless → GivesNext start now p given (Err fault) →
    FindsOne start now p given (Err fault)
found_fault start now p given text.TooLarge r e next = record {
  entry = Err text.TooLarge;
  is =
      inr refl;
  has = next;
}
found_fault start now p given text.BadByte r e next =
    record { entry = Err text.BadByte; is = inr refl; has = next }
found_fault start now p given text.FirstContinues r e next =
    record { entry = Err text.FirstContinues; is = inr refl; has = next }
found_fault start now p given text.NoColon r e next =
    record { entry = Err text.NoColon; is = inr refl; has = next }
found_fault start now p given text.BadName r e next =
    record { entry = Err text.BadName; is = inr refl; has = next }
found_fault start now p given text.Memory r e next = record {
  entry = next.0;
  is = inl refl;
  has =
      next.1;
}
found_fault start now p given text.Read r e next = absurd (r refl)
found_fault start now p given text.Endless r e next = absurd (e refl)

-- and leaves fewer answers
pub found_nearer : (before after : ℕ) (fault : TextFault) → fault ≢ text.Read →
    fault ≢ text.Endless → Nearer before after (Err fault) → after < before
found_nearer before after text.TooLarge r e nearer = nearer
found_nearer before after text.BadByte r e nearer = nearer
found_nearer before after text.FirstContinues r e nearer = nearer
found_nearer before after text.NoColon r e nearer = nearer
found_nearer before after text.BadName r e nearer = nearer
found_nearer before after text.Memory r e nearer = nearer
found_nearer before after text.Read r e nearer = absurd (r refl)
found_nearer before after text.Endless r e nearer = absurd (e refl)

-- a paragraph is an entry
pub found_paragraph : (start now : Told) (p : Paragraphs) (given : List Entry)
    (fields : List Field) → HasGiven start now p (given ++ Ok fields ∷ []) → FindsOne start now p
    given (Ok fields)
found_paragraph start now p given fields has = record { entry = Ok fields; is = refl; has = has }

-- so many entries are given at most
pub given_few : (start now : Told) (p : Paragraphs) (given : List Entry) → HasGiven start now p
    given → length given ≤ 2 ^ 36
given_few start now p given has =
    let all : length has.text ≡ length has.prefix + length (held p) = ap length has.cut
    ∙ length-append has.prefix (held p) in
    omega (arith, all, has.few, has.bounded, p.few)

-- the reading failed or did not end
pub unended : (source : List ℕ) (start now : Told) (p : Paragraphs) (given : List Entry)
    (fault : DumpReadFault) → FindsEntry start now p given (Err fault) → FailsToRead source start
    now fault
unended source start now p given dump.Read ends = record { text = ends.text; reads = ends.reads }
unended source start now p given dump.Endless ends = record { text = ends.text; reads = ends.reads }
unended source start now p given (dump.Text n) ends = absurd ends
unended source start now p given (dump.Object n code) ends = absurd ends
unended source start now p given dump.Memory ends = absurd ends

-- all was read, and some entry is no object
ended_faulty : (source : List ℕ) (start now : Told) (given : List Entry) (fault : DumpReadFault) →
    HasEnded start now end.Whole given → IsFaultSoFar source given fault → FailsToRead source start
    now fault
ended_faulty source start now given dump.Read ended (inl memory) = absurd (cc)
ended_faulty source start now given dump.Read ended (inr is) =
    absurd (faults_of_entries source 1 given dump.Read is)
ended_faulty source start now given dump.Endless ended (inl memory) = absurd (cc)
ended_faulty source start now given dump.Endless ended (inr is) =
    absurd (faults_of_entries source 1 given dump.Endless is)
ended_faulty source start now given (dump.Text n) ended (inl memory) = absurd (cc)
ended_faulty source start now given (dump.Text n) ended (inr is) =
    record {
      text = ended.text;
      reads = ended.reads;
      first = ap (objects_from source 1)
          ended.spelled ∙ is;
    }
ended_faulty source start now given (dump.Object n code) ended (inl memory) = absurd (cc)
ended_faulty source start now given (dump.Object n code) ended (inr is) =
    record {
      text = ended.text;
      reads = ended.reads;
      first = ap (objects_from source 1)
          ended.spelled ∙ is;
    }
ended_faulty source start now given dump.Memory ended so =
    inr (record { text = ended.text; reads = ended.reads })

-- all was read: the objects of the dump, or its first fault
pub found_whole : {V : Type 0} (items : V → List Obj) (source : List ℕ) (start now : Told)
    (given : List Entry) (read : Result V DumpReadFault) → HasEnded start now end.Whole given
    → MatchResult read (λ v. objects_from source 1 given ≡ Ok (items v))
    (IsFaultSoFar source given) → MatchResult read (λ v. HasRead source start now (items v))
    (FailsToRead source start now)
found_whole items source start now given (Ok v) ended so =
    record {
      text = ended.text;
      reads = ended.reads;
      are = ap (objects_from source 1) ended.spelled
          ∙ so;
    }
found_whole items source start now given (Err fault) ended so = ended_faulty source start now given
    fault ended so

-- a fault of an entry's text is that of the dump
pub faulty_entry : (source : List ℕ) (n : ℕ) (fault : TextFault) (entry : Entry) →
    fault ≢ text.Memory → IsEntryOf (Err fault) entry → entry_object source n entry
    ≡ Err (dump.Text n)
faulty_entry source n fault entry not (inl memory) = absurd (not memory)
faulty_entry source n fault entry not (inr is) = ap (entry_object source n) is
