-- Lemmas on texts less the bytes that they begin and end with and that pass a test: for `trims`,
-- and for canonical text.
use Rattle.std.proofs.Common.{◌≡◌, ℕ, Bool, true, false, List, [], ◌∷◌, ◌++◌, length, arith, refl}
use Rattle.std.proofs.Common.{ap, ◌∙◌}
use Rattle.rr_bytes.specs.Trims.{trim_start, trim_end, before_trimmed}

pub trim_start_blank : (p : ℕ → Bool) (b : ℕ) (bs : List ℕ) → p b ≡ true → trim_start p (b ∷ bs)
    ≡ trim_start p bs
unfolding trim_start
trim_start_blank p b bs h = rw h refl

pub trim_start_kept : (p : ℕ → Bool) (b : ℕ) (bs : List ℕ) → p b ≡ false → trim_start p (b ∷ bs)
    ≡ b ∷ bs
unfolding trim_start
trim_start_kept p b bs h = rw h refl

pub trim_start_none : (p : ℕ → Bool) (bs : List ℕ) → length bs ≡ 0 → trim_start p bs ≡ bs
unfolding trim_start
trim_start_none p [] h = refl
trim_start_none p (b ∷ bs) h = absurd (omega arith)

pub trim_end_none : (p : ℕ → Bool) (bs : List ℕ) → length bs ≡ 0 → trim_end p bs ≡ bs
unfolding trim_end
trim_end_none p [] h = refl
trim_end_none p (b ∷ bs) h = absurd (omega arith)

pub trim_end_blank : (p : ℕ → Bool) (b : ℕ) (bs : List ℕ) → p b ≡ true → trim_end p (bs ++ b ∷ [])
    ≡ trim_end p bs
unfolding trim_end
trim_end_blank p b [] h = rw h refl
trim_end_blank p b (c ∷ cs) h = ap (before_trimmed p c) (trim_end_blank p b cs h)

before_some : (p : ℕ → Bool) (c b : ℕ) (cs : List ℕ) → before_trimmed p c (cs ++ b ∷ []) ≡ c
    ∷ (cs ++ b ∷ [])
before_some p c b [] = refl
before_some p c b (d ∷ ds) = refl

pub trim_end_kept : (p : ℕ → Bool) (b : ℕ) (bs : List ℕ) → p b ≡ false → trim_end p (bs ++ b ∷ [])
    ≡ bs ++ b ∷ []
unfolding trim_end
trim_end_kept p b [] h = rw h refl
trim_end_kept p b (c ∷ cs) h = ap (before_trimmed p c) (trim_end_kept p b cs h) ∙ before_some p c b
    cs

pub ruleset start_trimmed = (trim_start_blank, trim_start_kept, trim_start_none)

pub ruleset end_trimmed = (trim_end_blank, trim_end_kept, trim_end_none)
