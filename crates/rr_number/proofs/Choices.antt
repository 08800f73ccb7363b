-- Lemmas on optional values: for all that reads numbers, and for `rr_index`.
use Rattle.std.proofs.Common.{◌≡◌, Option, Some, None, IfSome, refl}
use Rattle.std.specs.Option.{option_map}

-- a fact of the value in an option, from what holds where the option is that value
pub IfSome-each : {A : Type 0} (o : Option A) (P : A → Type 0) → ((x : A) → o ≡ Some x → P x) →
    IfSome o P
IfSome-each None P each = tt
IfSome-each (Some x) P each = each x refl

-- what stands after a value that was mapped
pub option_map-some : {A B P : Type 0} (f : A → B) (o : Option A) (y : B) → option_map f o
    ≡ Some y → ((x : A) → o ≡ Some x → f x ≡ y → P) → P
option_map-some f None y is goal = cc
option_map-some f (Some x) y is goal = goal x refl (cc)
