-- What a ledger keeps whatever it decides (profile): for the trait `Ledger` and for `submit`.

-- what lasts of a ledger through any items has lasted, and what is so of it between items is so
-- (profile)
pub record Keeps {L : Type 0} (Lasts : L → L → Type 0) (Kept : L → Type 0) (old new : L)
    : Type 0 where
  pub lasts : Lasts old new
  pub kept : Kept new
