use Rattle.std.proofs.Common.{◌≡◌, map, string_bytes, take}
use Rattle.rr_arguments.proofs.command_reading.words_of.Given as goal

abbrev pub invariant-loop-text : goal.invariant-loop-text
invariant-loop-text l = map string_bytes l.words.items ≡ map (λ t. t.now)
    (take l.text-index l.texts)
