-- Who passes with a set of secrets: a secret fits a line, a maintainer passes where some secret
-- fits one of its lines, and a list of names passes where one of them is that of a maintainer that
-- passes.
use Rattle.std.specs.Prelude.{◌≡◌, ℕ, Bool, false, ◌++◌, List, Result, IfOk, OnErr, OnOk}
use Rattle.std.specs.List.{list_any}
use Rattle.std.specs.Option.{option_map_or}
use Rattle.std.specs.Str.{bytes_eq}
use Rattle.sha2.specs.Sha256.{sha256}
use Rattle.rr_object.specs.Parts.{AuthParts}
use Rattle.rr_object.specs.Objects.{Obj}
use Rattle.rr_auth.specs.Registries.{Reg, maintainer}

-- A secret fits a line where the line's digest is SHA-256 of its salt and then the secret (profile;
-- FIPS 180-4).
abbrev pub fits_line : AuthParts → List ℕ → Bool
fits_line line secret = bytes_eq (sha256 (line.salt ++ secret)) line.digest

-- A maintainer passes where some secret fits one of its lines (profile).
abbrev pub passes : List (List ℕ) → Obj → Bool
passes secrets o = list_any (λ line. list_any (fits_line line) secrets) o.auths

-- The name is that of a maintainer that passes.
abbrev pub name_passes : Reg → List (List ℕ) → List ℕ → Bool
name_passes r secrets name = option_map_or (passes secrets) (maintainer r name) false

-- A list of names passes where one of them does: some secret fits one of the maintainers named
-- (RFC 2622, 3).
abbrev pub names_pass : Reg → List (List ℕ) → List (List ℕ) → Bool
names_pass r secrets names = list_any (name_passes r secrets) names

-- Trying secrets answers this, and leaves the secrets as they were (profile).
abbrev pub Tries : {X : Type 0} → X → List (List ℕ) → List (List ℕ) → X → Type 0
Tries expected before after result = (result ≡ expected) × (after ≡ before)

-- Trying secrets answers this, unless memory runs out; in either case it leaves the secrets as they
-- were (profile).
abbrev pub MayTry : {X E : Type 0} → X → List (List ℕ) → List (List ℕ) → Result X E → Type 0
MayTry expected before after result = IfOk result (λ made. made ≡ expected) × (after ≡ before)

-- These secrets are added after those that there were; or none of them is, where memory runs out
-- (profile).
abbrev pub AddsAllOrNone : {X E : Type 0} → List (List ℕ) → List (List ℕ) → List (List ℕ)
    → Result X E → Type 0
AddsAllOrNone more before after result =
    OnOk result (after ≡ before ++ more) × OnErr result (after ≡ before)
