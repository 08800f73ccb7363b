use Rattle.std.proofs.Common.{◌≡◌, ◌++◌, take}
use Rattle.std.specs.Io.{StartsWith}
use Rattle.rr_bytes.specs.LetterCase.{lowered}
use Rattle.rr_text.proofs.printing.push_lowered.Given as goal

abbrev pub invariant-loop-byte : goal.invariant-loop-byte
invariant-loop-byte l =
    (l.out.items ≡ l.initial.out.items ++ lowered (take l.byte-index l.name))
    × StartsWith l.out.items l.initial.out.items
