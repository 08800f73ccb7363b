-- What a cut reader or writer has inside, how it is cut, and what its calls do: for `Cut`.
use Rattle.std.specs.Prelude.{◌≡◌, ℕ, ◌+◌, ◌-◌, ◌^◌, ◌<◌, ◌≤◌}
use Rattle.std.specs.Prelude.{◌⊎◌, min, Result, Ok, Err}
use Rattle.rr_io.specs.Told.{Told, Counts, Fails}
use Rattle.rr_io.specs.declared.cutting.Cut.{Cut}

-- the reader or writer that is cut short
abbrev pub cut_inner : {T : Type 0} → Cut T → T
cut_inner c = c.inner

-- how many reads failed because the reader is cut, up to 2^64 - 1 (profile)
abbrev pub reads_cut : {T : Type 0} → Cut T → ℕ
reads_cut c = c.failed_reads

-- how many writes failed because the writer is cut, up to 2^64 - 1 (profile)
abbrev pub writes_cut : {T : Type 0} → Cut T → ℕ
writes_cut c = c.failed_writes

-- how many bytes pass in a call at most (profile)
abbrev pub cut_step : {T : Type 0} → Cut T → ℕ
cut_step c = c.step

-- how many bytes may still pass, after which each call fails (profile)
abbrev pub cut_left : {T : Type 0} → Cut T → ℕ
cut_left c = c.left

-- a cut reader or writer tells what the one inside tells, but as faults its own failed calls and
-- those inside together, up to 2^64 - 1 (profile)
abbrev pub cut_told : {T : Type 0} → (T → Told) → (Cut T → ℕ) → Cut T → Told
cut_told told own c = record {
  bytes = (told c.inner).bytes;
  faults = min ((told c.inner).faults + own c) (2 ^ 64 - 1);
  reads = (told c.inner).reads;
  aside = (told c.inner).aside;
}

-- a call before the cut did not fail, and passed so many bytes, at most a step: so many fewer may
-- still pass. The step, and the count of calls that failed at the cut, stay
pub record Passes {T : Type 0} (own : Cut T → ℕ) (old new : Cut T) (count : ℕ) : Type 0 where
  pub uncut : 0 < cut_left old
  pub step : count ≤ cut_step old
  pub left : cut_left new + count ≡ cut_left old
  pub same_step : cut_step new ≡ cut_step old
  pub no_fault : own new ≡ own old

-- a call failed because it is cut, and was counted as such: what is inside was not called
pub record FailsAtCut {T : Type 0} (own : Cut T → ℕ) (old new : Cut T) : Type 0 where
  pub none_left : cut_left old ≡ 0
  pub same_inner : cut_inner new ≡ cut_inner old
  pub counted : Counts (own old) (own new) 1

-- a call before the cut failed because that of what is inside did, and was counted there alone
pub record FailsInside {T : Type 0} (told : T → Told) (own : Cut T → ℕ)
    (old new : Cut T) : Type 0 where
  pub some_left : 0 < cut_left old
  pub fails : Fails (told (cut_inner old)) (told (cut_inner new))
  pub no_fault : own new ≡ own old

-- a call failed, at the cut or inside; what may still pass, and the step, stay as they were
abbrev pub FailsSomewhere : {T : Type 0} → (T → Told) → (Cut T → ℕ) → Cut T → Cut T
    → Type 0
FailsSomewhere told own old new =
    (FailsAtCut own old new ⊎ FailsInside told own old new)
    × (cut_left new ≡ cut_left old) × (cut_step new ≡ cut_step old)

-- one call of a cut reader or writer. Where it is `Ok`, so many bytes passed before the cut; where
-- it is `Err`, it failed at the cut, or the call of what is inside failed (profile)
abbrev pub PassesUntilCut : {T E : Type 0} → (T → Told) → (Cut T → ℕ) → Cut T → Cut T
    → Result ℕ E → Type 0
PassesUntilCut told own old new (Ok count) = Passes own old new count
PassesUntilCut told own old new (Err _) = FailsSomewhere told own old new
