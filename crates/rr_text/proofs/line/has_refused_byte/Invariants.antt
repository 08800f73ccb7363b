use Rattle.std.proofs.Common.{◌≡◌, take}
use Rattle.std.specs.List.{list_any}
use Rattle.rr_text.specs.Bytes.{is_refused}
use Rattle.rr_text.proofs.line.has_refused_byte.Given as goal

abbrev pub invariant-loop-byte : goal.invariant-loop-byte
invariant-loop-byte l = l.found ≡ list_any is_refused (take l.byte-index l.line)
