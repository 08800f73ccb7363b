-- Lemmas on the places of troubles.
use Rattle.std.proofs.Common.{◌≡◌, ℕ, Some, refl}
use Rattle.rr_registry.specs.declared.load.LoadFault.TheVariants as list
use Rattle.rr_desk.specs.declared.dump_read_fault.DumpReadFault.TheVariants as dump
use Rattle.rr_commands.specs.Troubles.{paragraph_in, place_of}
use Rattle.rr_commands.specs.declared.trouble.TroublePlace.TheVariants as place
use Rattle.rr_commands.specs.declared.trouble.Trouble.{Trouble}
use Rattle.rr_commands.specs.declared.trouble.Trouble.TheVariants as trouble

-- trouble with a paragraph of a dump is about the file
pub paragraph-place : (t : Trouble) (number : ℕ) → paragraph_in t ≡ Some number → place_of t
    ≡ place.File
paragraph-place (trouble.DumpUnread (dump.Text n)) number is = refl
paragraph-place (trouble.DumpUnread (dump.Object n code)) number is = refl
paragraph-place (trouble.DumpUntaken (list.Duplicate n)) number is = refl
paragraph-place (trouble.DumpUntaken (list.Overlap n)) number is = refl
paragraph-place (trouble.DumpUntaken (list.Unnamed n)) number is = refl
paragraph-place _ number is = cc
