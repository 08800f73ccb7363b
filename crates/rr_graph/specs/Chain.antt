-- What a graph's edges reach: for `reach` and `gather`, and for the sets of `rr_sets`. An edge is a
-- relation between nodes: nothing here says how nodes are found.
use Rattle.std.specs.Prelude.{◌≡◌, ◌≢◌, ◌↔◌, ℕ, ◌+◌, List, [], ◌∷◌, length}
use Rattle.std.specs.Prelude.{Contains, All, AllPairs}

-- Edges lead from `a` through each node of the list in turn, the last of which is `b`. The empty
-- chain leads from a node to itself. (profile)
abbrev pub IsChain : {N : Type 0} → (N → N → Type 0) → N → List N → N → Type 0
IsChain edge a [] b = a ≡ b
IsChain edge a (c ∷ cs) b = edge a c × IsChain edge c cs b

-- Some chain leads from a start to `b`. (profile)
abbrev pub IsReached : {N : Type 0} → (N → N → Type 0) → List N → N → Type 0
IsReached {N} edge starts b =
    (a : N) × (chain : List N) × Contains starts a × IsChain edge a chain b

-- Each thing is listed once. (profile)
abbrev pub HasNoRepeats : {X : Type 0} → List X → Type 0
HasNoRepeats xs = AllPairs (λ x y. x ≢ y) xs

-- The nodes are those to which chains lead from the starts, each listed once. (profile)
pub record AreReached {N : Type 0} (edge : N → N → Type 0) (starts nodes : List N) : Type 0 where
  pub all : (node : N) → Contains nodes node ↔ IsReached edge starts node
  pub once : HasNoRepeats nodes

-- More than `limit` things have the property: a list without repeats of `limit + 1` of them exists.
-- (profile)
abbrev pub MoreThan : {X : Type 0} → ℕ → (X → Type 0) → Type 0
MoreThan {X} limit P = (xs : List X) × (length xs ≡ limit + 1) × HasNoRepeats xs × All P xs
