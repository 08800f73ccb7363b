-- What is said of a connection that tells all of its bytes: for laws in `src/laws.rt`.
use Rattle.std.specs.Prelude.{◌≡◌, ℕ, ◌<◌, ◌≤◌, Bool, IsTrue, List, [], ◌++◌}
use Rattle.std.specs.Prelude.{length, take, drop}
use Rattle.std.specs.Prelude.{Some}
use Rattle.rr_io.specs.Told.{Told}
use Rattle.rr_io.specs.Receiving.{Gives}
use Rattle.rr_http.specs.declared.body_reading.BodyEnd.{BodyEnd}
use Rattle.rr_http.specs.declared.body_reading.BodyEnd.TheVariants.{Whole, Short, Broken}
use Rattle.rr_http.specs.Bodies.{ReadsBody}
use Rattle.rr_http.specs.Wants.{IsWanted, ReadsHead, Wants}

-- what a connection that tells its bytes is found to want by the head that was read, whatever may
-- follow, is what all of its bytes want
abbrev pub WantsByItsBytes : Type 0
WantsByItsBytes =
    (old between : Told) (bytes head : List ℕ) (at_end : Bool) (wants : Wants)
    → old.bytes ≡ Some bytes → ReadsHead old between head at_end
    → ((more : List ℕ) → (IsTrue at_end → more ≡ []) → IsWanted (head ++ more) wants)
    → IsWanted bytes wants

-- a body of so many bytes, by what is given after the head: the first of these bytes, all of them
-- where they are too few, or as many as came where a read failed (RFC 9112, 6.2)
abbrev pub IsBodyOf : BodyEnd → ℕ → List ℕ → List ℕ → Type 0
IsBodyOf Whole size given body = (body ≡ take size given) × (length body ≡ size)
IsBodyOf Short size given body = (body ≡ given) × (length given < size)
IsBodyOf Broken size given body =
    (rest : List ℕ) × (given ≡ body ++ rest) × (length body < size)

-- a body that was read after the head of a connection that tells its bytes is the body of what
-- stands after that head (`IsBodyOf`)
abbrev pub BodyFollowsItsHead : Type 0
BodyFollowsItsHead =
    (old between new : Told) (bytes head body : List ℕ) (place size : ℕ) (end : BodyEnd)
    → old.bytes ≡ Some bytes → Gives old between head → place ≤ length head
    → ReadsBody between new (drop place head) size body end
    → IsBodyOf end size (drop place bytes) body
