-- That connections over memory tell all of their turns: a proof that a ghost item of
-- `src/memory_peers.rt` names.
use Rattle.std.specs.Prelude.{◌≡◌, ℕ, ◌+◌, List, ◌++◌, length, map, replicate, Some}
use Rattle.std.proofs.Common.{ap, ◌∙◌, length-append}
use Rattle.std.proofs.lemmas.List.{length-map, length-replicate}
use Rattle.rr_service_tests.specs.declared.memory_peers.MemoryTurn.{MemoryTurn}
use Rattle.rr_service_tests.specs.MemoryTurns.{memory_turn}
use Rattle.rr_desk.specs.Turns.{Turn, unaccepted}

-- the connections that are closed, and the accepts that found none, are the turns (profile)
pub told_in_all : (kept : List MemoryTurn) (failed : ℕ) (turns : List Turn) →
    Some (map memory_turn kept ++ replicate failed unaccepted) ≡ Some turns
    → length turns ≡ length kept + failed
told_in_all kept failed turns is =
    let same : turns ≡ map memory_turn kept ++ replicate failed unaccepted = cc in
    ap length same ∙ (length-append (map memory_turn kept) (replicate failed unaccepted)
    ∙ (ap (λ n. n + length (replicate failed unaccepted)) (length-map kept memory_turn)
    ∙ ap (λ n. length kept + n) (length-replicate failed unaccepted)))
