-- What a walk keeps as copies of lent nodes are added.
use Rattle.std.proofs.Common.{◌≡◌, ℕ, ◌+◌, ◌<◌, ◌⊎◌, List, [], ◌∷◌, ◌++◌, length, get_or, take, map}
use Rattle.std.proofs.Common.{Contains, refl, ap, ◌∙◌, subst, inl, inr, append_assoc}
use Rattle.rr_graph.specs.ListingParts.{Lists}
use Rattle.rr_graph.proofs.Backwards.{Contains-take, Contains-take_cases}
use Rattle.rr_graph.proofs.Listings.{Contains-Lists, Contains-single}
use Rattle.rr_graph.proofs.Lists.{Contains-head, Contains-map}
use Rattle.rr_graph.proofs.Runs.{Contains-whole}

module _ {N X : Type 0} (f : X → N) (xs : List X) (i : ℕ) (x : X) (inside : i < length xs)
    (is : x ≡ get_or xs i x) where
  -- one more thing of a list
  more_mapped : (y : N) → Contains (map f (take i xs)) y → Contains (map f (take (i + 1) xs)) y
  more_mapped y has =
      let r = (Contains-map f (take i xs) y).0 has in
      (Contains-map f (take (i + 1) xs) y).1
      (r.0, Contains-take xs i x r.0 inside is (inl r.1), r.2)

  -- that thing
  last_mapped : (y : N) → f x ≡ y → Contains (map f (take (i + 1) xs)) y
  last_mapped y same = (Contains-map f (take (i + 1) xs) y).1
      (x, Contains-take xs i x x inside is (inr refl), same)

  -- one more of a list of nodes is added
  pub Lists-next : (old now new : List N) → Lists old (map f (take i xs)) now →
      Lists now (f x ∷ []) new → Lists old (map f (take (i + 1) xs)) new
  Lists-next old now new before step = record {
    more = before.more ++ step.more;
    after = step.after ∙ ap (λ (l : List N). l ++ step.more) before.after ∙ append_assoc old
        before.more step.more;
    all = λ other has.
        let r = (Contains-map f (take (i + 1) xs) other).0 has in
        elim (Contains-take_cases xs i x r.0 inside is r.1) [
          | inl earlier ↦ Contains-Lists now (f x ∷ []) new other step
              (before.all other ((Contains-map f (take i xs) other).1 (r.0, earlier, r.2)))
          | inr same ↦ step.all other (subst (Contains (f x ∷ [])) (ap f same ∙ r.2)
              (Contains-head (f x) []))
        ];
    only = λ other has. elim (step.only other has) [
      | inl earlier ↦ elim (before.only other earlier) [
        | inl at_first ↦ inl at_first
        | inr among ↦ inr (more_mapped other among)
      ]
      | inr last ↦ inr (last_mapped other (Contains-single (f x) other last))
    ];
  }

  -- what the walk had and the node are among what it began with and the nodes
  pub among_mapped : (old now : List N) → Lists old (map f (take i xs)) now → (other : N) →
      Contains now other ⊎ Contains (f x ∷ []) other → Contains old other ⊎ Contains (map f xs)
      other
  among_mapped old now added other has =
      let whole : Contains (map f (take (i + 1) xs)) other → Contains (map f xs) other = λ some.
      let r = (Contains-map f (take (i + 1) xs) other).0 some in
      (Contains-map f xs other).1 (r.0, Contains-whole (i + 1) xs r.0 r.1, r.2) in
      elim has [
        | inl there ↦ elim (added.only other there) [
          | inl at_first ↦ inl at_first
          | inr later ↦ inr (whole (more_mapped other later))
        ]
        | inr here ↦ inr (whole (last_mapped other (Contains-single (f x) other here)))
      ]
