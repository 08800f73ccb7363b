use Rattle.std.proofs.Common.{◌≡◌, ◌+◌, length}
use Rattle.std.specs.Option.{option_map}
use Rattle.rr_http.specs.Heads.{head_length}
use Rattle.rr_http.proofs.heads.head_length.Given as goal

-- the head of the text ends where that of the rest does
abbrev pub invariant-bytes : goal.invariant-bytes
invariant-bytes l =
    record {
      place : l.place + length l.rest ≡ length l.text;
      value : head_length l.text
          ≡ option_map (λ n. l.place + n) (head_length l.rest);
    }

abbrev pub decreases-bytes : goal.decreases-bytes
decreases-bytes l = length l.rest
