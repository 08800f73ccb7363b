use Rattle.std.proofs.Common.{◌≡◌, ℕ, ◌++◌, ◌∷◌, [], ap, length, ◌∙◌, subst, arith}
use Rattle.rr_graph.specs.NumberedParts.{AreAllPlaces}
use Rattle.rr_graph.proofs.Numbers.{places_more, places_none}
use Rattle.rr_graph.proofs.numbered.Numbered.all.Goals as goal

pub loop-place-init : goal.loop-place-init
loop-place-init g c = places_none c.new-places.result.items c.new-places.ensures.items

pub loop-place-preserved : goal.loop-place-preserved
loop-place-preserved g c = places_more c.loop-place.place c.loop-place.places.items
    c.push.new.self.items
    (c.in_ok-push.ensures.items ∙ ap (λ (n : ℕ). c.loop-place.places.items ++ n ∷ [])
    c.in_ok-narrow.ensures) c.loop-place.invariant

pub returns : goal.returns
returns g c =
    let all : c.loop-place.place ≡ length c.args.self.now.nodes.now = omega arith in
    subst (λ (n : ℕ). AreAllPlaces n c.loop-place.places.items) all c.loop-place.invariant
