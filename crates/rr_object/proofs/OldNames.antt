-- The AS numbers among the components of a set's name.
use Rattle.std.proofs.Common.{◌≡◌, ℕ, Bool, true, ◌&&◌, List, [], ◌∷◌, Option, Some, None, refl, ap}
use Rattle.std.specs.List.{filter_map, list_all}
use Rattle.std.specs.Option.{option_map_or}
use Rattle.rr_number.specs.AsNumbers.{as_number_of}
use Rattle.rr_number.specs.SetNames.{components}
use Rattle.rr_object.specs.KeyParts.{is_old_component}
use Rattle.rr_object.specs.OldKeys.{has_two_octets, numbers_among}

-- a test of all numbers is one of each component
each_step : (test : ℕ → Bool) (c : List ℕ) (cs : List (List ℕ)) (o : Option ℕ) → as_number_of c ≡ o
    → list_all (λ d. option_map_or test (as_number_of d) true) cs ≡ list_all test
    (filter_map as_number_of cs)
    → list_all (λ d. option_map_or test (as_number_of d) true) (c ∷ cs) ≡ list_all test
    (filter_map as_number_of (c ∷ cs))
each_step test c cs None is rest = rw is rest
each_step test c cs (Some n) is rest = rw is (ap (λ t. test n && t) rest)

each : (test : ℕ → Bool) (cs : List (List ℕ))
    → list_all (λ d. option_map_or test (as_number_of d) true) cs ≡ list_all test
    (filter_map as_number_of cs)
each test [] = refl
each test (c ∷ cs) = each_step test c cs (as_number_of c) refl (each test cs)

pub each_number : (name : List ℕ) → list_all is_old_component (components name) ≡ list_all
    has_two_octets (numbers_among name)
each_number name = each has_two_octets (components name)
