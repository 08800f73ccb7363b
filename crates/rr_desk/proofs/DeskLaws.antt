-- Full dumps that are loaded.
use Rattle.std.proofs.Common.{◌≡◌, ◌≢◌, true, ℕ, List, ◌++◌, None, Some, Result, Ok, Err, inl, inr}
use Rattle.std.proofs.Common.{sym, ap, subst, ◌∙◌}
use Rattle.std.proofs.lemmas.List.{append-nil}
use Rattle.rr_io.specs.Told.{Told}
use Rattle.rr_io.specs.Receiving.{Reads}
use Rattle.rr_io.specs.declared.receiving.ReadEnd.TheVariants.{Whole}
use Rattle.rr_object.specs.Objects.{Obj}
use Rattle.rr_auth.specs.Registries.{Reg}
use Rattle.rr_registry.specs.declared.load.LoadFault.{LoadFault}
use Rattle.rr_registry.specs.declared.load.LoadFault.TheVariants as list
use Rattle.rr_registry.specs.Loading.{IsFaultOf, load_fault}
use Rattle.rr_answer.specs.Dumps.{dump}
use Rattle.rr_desk.specs.Dumps.{IsDumpOf, dump_objects}
use Rattle.rr_desk.specs.DumpLaws.{IsReadAgain}
use Rattle.rr_desk.specs.DumpReadings.{HasFault}
use Rattle.rr_desk.specs.declared.dump_read_fault.DumpReadFault.{DumpReadFault}
use Rattle.rr_desk.specs.declared.dump_read_fault.DumpReadFault.TheVariants as unread
use Rattle.rr_desk.proofs.ReadAgain.{full_dumps_read}
use Rattle.rr_desk.specs.declared.loading.DeskLoadFault.{DeskLoadFault}
use Rattle.rr_desk.specs.declared.loading.DeskLoadFault.TheVariants.{Unread, Untaken, Unmade}
use Rattle.rr_desk.specs.Loaded.{FailsToLoad, IsLoaded, IsUntaken}
use Rattle.rr_desk.specs.Laws.{FullDumpsAreLoaded, IsNotOfText, RowsAreDumpable}

-- what was read to its end is what the reader had
whole_is : (start now : Told) (text bytes : List ℕ) → Reads start now text Whole → start.bytes
    ≡ Some bytes → text ≡ bytes
whole_is start now text bytes reads had =
    let left = reads.0.consumed bytes had in
    sym (left.2 ∙ (ap (λ rest. text ++ rest) (reads.1.none_left left.0 left.1) ∙ append-nil text))

-- a list without a fault has none but that memory ran out
no_fault : (objects : List Obj) (fault : LoadFault) → load_fault objects ≡ None → fault
    ≢ list.Memory → IsFaultOf objects fault → ⊥
no_fault objects fault none not (inl memory) = absurd (not memory)
no_fault objects fault none not (inr some) = absurd (cc)

module _ (source : List ℕ) (registry : Reg) (start now : Told)
    (again : IsReadAgain source registry) (had : start.bytes ≡ Some (dump true registry)) where
  is_dump : (text : List ℕ) → Reads start now text Whole → text ≡ dump true registry
  is_dump text reads = whole_is start now text (dump true registry) reads had

  only_itself : (other : Reg) → IsLoaded source start now other → other ≡ registry
  only_itself other loaded = again.alone other (subst (λ text. IsDumpOf source text other)
      (is_dump loaded.text loaded.reads) loaded.dump)

  -- none of its entries has a fault
  no_entry : (fault : DumpReadFault) → HasFault source start now fault → ⊥
  no_entry fault has =
      let first : dump_objects source (dump true registry) ≡ Err fault =
      subst (λ text. dump_objects source text ≡ Err fault) (is_dump has.text has.reads)
      has.first in
      let whole = again.objects in
      absurd (cc)

  -- nor have its objects
  no_list : (fault : LoadFault) → fault ≢ list.Memory → IsUntaken source start now fault → ⊥
  no_list fault not has =
      let are : dump_objects source (dump true registry) ≡ Ok has.objects =
      subst (λ text. dump_objects source text ≡ Ok has.objects)
      (is_dump has.read.text has.read.reads) has.read.are in
      let both : ◌≡◌ {A = Result (List Obj) DumpReadFault} (Ok has.objects) (Ok again.same.objects)
      = sym are ∙ again.same.are in
      let same : has.objects ≡ again.same.objects = cc in
      no_fault has.objects fault (ap load_fault same ∙ again.same.taken.faultless) not has.is_fault

  not_of_text : (fault : DeskLoadFault) → FailsToLoad source start now fault → IsNotOfText fault
  not_of_text (Unread unread.Read) fails = tt
  not_of_text (Unread unread.Endless) fails = tt
  not_of_text (Unread (unread.Text n)) fails = no_entry (unread.Text n) fails
  not_of_text (Unread (unread.Object n code)) fails = no_entry (unread.Object n code) fails
  not_of_text (Unread unread.Memory) fails = tt
  not_of_text (Untaken (list.Duplicate n)) fails = no_list (list.Duplicate n) (λ e. cc) fails
  not_of_text (Untaken (list.Overlap n)) fails = no_list (list.Overlap n) (λ e. cc) fails
  not_of_text (Untaken (list.Unnamed n)) fails = no_list (list.Unnamed n) (λ e. cc) fails
  not_of_text (Untaken list.Memory) fails = tt
  not_of_text (Unmade fault) fails = tt

pub full_dumps_load : FullDumpsAreLoaded
full_dumps_load source registry start now dumpable had =
    let again = full_dumps_read source registry dumpable in
    record {
      loaded = only_itself source registry start now again had;
      fails =
          not_of_text source registry start now again had;
    }

pub rows_dumpable : RowsAreDumpable
rows_dumpable source registry db of rows small = record {
  of_source = of;
  fields = λ k o found. (rows.keyed.read k o found).fields;
  small = small;
}
