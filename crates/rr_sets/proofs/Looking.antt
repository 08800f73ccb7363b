-- A node of a walk and the look at it, which stand at one place.
use Rattle.std.proofs.Common.{◌≡◌, ℕ, ◌<◌, List, length, get_or, sym, subst}
use Rattle.rr_graph.specs.Looks.{AreLooks}

-- what stands at the place of a node is the look at it
pub look_at : {N K : Type 0} (Shows : N → K → Type 0) (nodes : List N) (looks : List K) (place : ℕ)
    (node : N) (look : K) → AreLooks Shows nodes looks → place < length nodes →
    node ≡ get_or nodes place node → look ≡ get_or looks place look → Shows node look
look_at {N} {K} Shows nodes looks place node look all inside is shown =
    subst (λ (n : N). Shows n look) (sym is)
    (subst (λ (k : K). Shows (get_or nodes place node) k) (sym shown)
    (all.each place node look inside))

-- looks in lists that are lent
pub looks_lent : {N K : Type 0} (Shows : N → K → Type 0) (nodes others : List N)
    (looks ones : List K) → others ≡ nodes → ones ≡ looks → AreLooks Shows nodes looks →
    AreLooks Shows others ones
looks_lent {N} {K} Shows nodes others looks ones is are all =
    subst (λ (l : List N). AreLooks Shows l ones) (sym is)
    (subst (λ (l : List K). AreLooks Shows nodes l) (sym are) all)
