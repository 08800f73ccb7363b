-- Texts less the blanks round them, for all that reads text; which bytes are blank, a test says.
use Rattle.std.specs.Prelude.{ℕ, Bool, List, [], ◌∷◌, if◌then◌else◌}

-- A text less the bytes that it begins with and that pass the test (RFC 2622, 2).
unfoldable pub trim_start : (ℕ → Bool) → List ℕ → List ℕ
trim_start test [] = []
trim_start test (b ∷ bs) = if test b then trim_start test bs else b ∷ bs

-- A byte before a text that is trimmed at its end, left out where it passes the test and nothing
-- follows.
abbrev pub before_trimmed : (ℕ → Bool) → ℕ → List ℕ → List ℕ
before_trimmed test b [] = if test b then [] else b ∷ []
before_trimmed test b (c ∷ cs) = b ∷ (c ∷ cs)

-- A text less the bytes that it ends with and that pass the test (RFC 2622, 2).
unfoldable pub trim_end : (ℕ → Bool) → List ℕ → List ℕ
trim_end test [] = []
trim_end test (b ∷ bs) = before_trimmed test b (trim_end test bs)

-- A text less the bytes that it begins and ends with and that pass the test (RFC 2622, 2).
abbrev pub trim : (ℕ → Bool) → List ℕ → List ℕ
trim test text = trim_end test (trim_start test text)
