use Rattle.std.proofs.Common.{◌≡◌, ℕ, List, ◌++◌, drop, map}
use Rattle.rr_io.specs.Sending.{Takes}
use Rattle.rr_commands.specs.Faults.{byte_on_line}
use Rattle.rr_commands.proofs.command_fault.write_on_line.Given as goal

abbrev pub invariant-bytes : goal.invariant-bytes
invariant-bytes g l =
    (taken : List ℕ) × (map byte_on_line l.text ≡ taken ++ map byte_on_line
    (drop l.byte-index l.text))
    × Takes (g.E.Writer.told l.initial.errors) (g.E.Writer.told l.errors) taken
