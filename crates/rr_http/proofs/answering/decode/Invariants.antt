use Rattle.std.proofs.Common.{◌≡◌, ◌≤◌, ◌+◌, ◌++◌, length, take}
use Rattle.percent_encoding.specs.Iter.{decoded_bytes}
use Rattle.percent_encoding.specs.Percent.{percent_decode}
use Rattle.rr_http.proofs.answering.decode.Given as goal

-- what was decoded so far, and what is left, which has room
abbrev pub invariant-loop-byte : goal.invariant-loop-byte
invariant-loop-byte l =
    (take l.count l.decoded ++ decoded_bytes l.byte-iterator ≡ percent_decode l.escaped)
    × (l.count + length (decoded_bytes l.byte-iterator) ≤ length l.decoded)
