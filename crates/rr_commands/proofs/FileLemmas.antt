-- Lemmas on files that are read up to a most.
use Rattle.std.proofs.Common.{◌≡◌, ◌∙◌, ap, ℕ, List, [], ◌++◌, take, Option, None, Some, option_map}
use Rattle.std.proofs.Common.{Result, Ok, Err, IfErr, IfOk, IfSome, OnOk}

prefix_of : (given : Option (List ℕ)) (most : ℕ) (start read : List ℕ) → start ≡ [] →
    IfSome (option_map (take most) given) (λ bytes. read ≡ start ++ bytes) →
    IfSome given (λ bytes. read ≡ take most bytes)
prefix_of None most start read empty h = tt
prefix_of (Some bytes) most start read empty h = h ∙ ap (λ first. first ++ take most bytes) empty

-- what was read of a reader up to a most is a prefix of what it has
pub limited : {T : Type 0} (remaining : T → Option (List ℕ)) (reader inner : T) (most limit : ℕ)
    (start read : List ℕ) → inner ≡ reader → limit ≡ most → start ≡ []
    → IfSome (option_map (take limit) (remaining inner)) (λ bytes. read ≡ start ++ bytes) →
    IfSome (remaining reader) (λ bytes. read ≡ take most bytes)
limited remaining reader inner most limit start read same_reader same_limit empty h =
    rw (← same_reader, ← same_limit) (prefix_of (remaining inner) limit start read empty h)

-- what is known of a value, and of its being one
pub of_ok : {X E : Type 0} (r : Result X E) (P Q : X → Type 0) (R : Type 0) → IfOk r P → OnOk r R →
    ((x : X) → P x → R → Q x) → IfOk r Q
of_ok (Ok x) P Q R p q f = f x p q
of_ok (Err e) P Q R p q f = tt

-- what is known of a fault
pub of_err : {X E : Type 0} (r : Result X E) (P Q : E → Type 0) → IfErr r P → ((e : E) → P e → Q e)
    → IfErr r Q
of_err (Ok x) P Q p f = tt
of_err (Err e) P Q p f = f e p
