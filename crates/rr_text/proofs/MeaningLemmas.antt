-- Lemmas on what values say: for `meaning`.
use Rattle.std.proofs.Common.{◌≡◌, ℕ, List, [], ◌∷◌}
use Rattle.rr_text.specs.Meanings.{uncommented, value_meaning}
use Rattle.rr_text.proofs.SoundLemmas.{trim-trim}
use Rattle.rr_text.specs.Bytes.{is_hash}
use Rattle.std.specs.List.{before_first}

-- a value of one line says that line less its comment, which is trimmed by then
pub of_one_line : (line : List ℕ) → value_meaning (line ∷ []) ≡ uncommented line
unfolding value_meaning
of_one_line line = trim-trim (before_first is_hash line)
