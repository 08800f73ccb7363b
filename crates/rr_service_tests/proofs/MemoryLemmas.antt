-- Lemmas on connections over memory.
use Rattle.std.proofs.Common.{◌≡◌, ℕ, zero, suc, ◌+◌, List, [], ◌∷◌, ◌++◌, map, replicate, arith}
use Rattle.std.proofs.Common.{refl, ap, sym, ◌∙◌, subst, append_assoc}
use Rattle.std.proofs.lemmas.List.{append-nil, map-append}
use Rattle.std.specs.Prelude.{Option, None, Some}
use Rattle.rr_service_tests.specs.declared.memory_peers.MemoryInput.{MemoryInput}
use Rattle.rr_service_tests.specs.declared.memory_peers.MemoryTurn.{MemoryTurn}
use Rattle.rr_service_tests.specs.MemoryTurns.{memory_turn}
use Rattle.rr_desk.specs.Turns.{IsNextTurn, Turn, unaccepted}

replicate_more : (n : ℕ) (turn : Turn) → replicate (n + 1) turn ≡ replicate n turn ++ turn ∷ []
replicate_more zero turn = refl
replicate_more (suc n) turn =
    ap (λ k. replicate k turn) (let e : suc n + 1 ≡ suc (n + 1) = omega arith in e)
    ∙ ap (λ turns. turn ∷ turns) (replicate_more n turn)

-- one more accept found no connection
pub failed_told : (kept : List Turn) (failed : ℕ) → kept ++ replicate (failed + 1) unaccepted
    ≡ (kept ++ replicate failed unaccepted) ++ unaccepted ∷ []
failed_told kept failed = ap (λ more. kept ++ more) (replicate_more failed unaccepted)
    ∙ sym (append_assoc kept (replicate failed unaccepted) (unaccepted ∷ []))

-- one more connection was closed
pub closed_told : (kept : List MemoryTurn) (turn : MemoryTurn) (failed : ℕ) → failed ≡ 0 →
    map memory_turn (kept ++ turn ∷ []) ++ replicate failed unaccepted
    ≡ (map memory_turn kept ++ replicate failed unaccepted) ++ memory_turn turn ∷ []
closed_told kept turn failed none =
    subst (λ n. map memory_turn (kept ++ turn ∷ []) ++ replicate n unaccepted
    ≡ (map memory_turn kept ++ replicate n unaccepted) ++ memory_turn turn ∷ []) (sym none)
    (append-nil _ ∙ (map-append memory_turn kept (turn ∷ [])
    ∙ ap (λ turns. turns ++ memory_turn turn ∷ []) (sym (append-nil (map memory_turn kept)))))

-- the bytes of an input
abbrev pub given : MemoryInput → List ℕ
given input = input.bytes.now

-- the next input is accepted, and the others wait
pub next_waits : (inputs rest : List MemoryInput) (input : MemoryInput) (told : Option (List ℕ)) →
    inputs ≡ input ∷ rest → told ≡ Some (given input) →
    IsNextTurn (Some told) (Some (map given inputs)) (Some (map given rest))
next_waits inputs rest input told split is =
    subst (λ xs. IsNextTurn (Some told) (Some (map given xs)) (Some (map given rest))) (sym split)
    (is, refl)

-- and none where none waits
pub none_waits : (inputs : List MemoryInput) → inputs ≡ [] →
    IsNextTurn None (Some (map given inputs))
    (Some (map given inputs))
none_waits inputs none = subst (λ xs. IsNextTurn None (Some (map given xs)) (Some (map given xs)))
    (sym none) refl
