use Rattle.std.proofs.Common.{◌≡◌, ℕ, ◌≤◌, List, [], ◌∷◌, ◌++◌, refl, sym, subst, ap, ◌∙◌}
use Rattle.rr_auth.specs.Elements.{IsIn}
use Rattle.rr_registry.proofs.Open.{passed}
use Rattle.rr_registry.specs.OpenSpanParts.{NeverRises, AreKeptSpans}
use Rattle.rr_registry.proofs.open_spans.OpenSpans.go_over.Goals as goal

pub returns : goal.returns
returns c = λ gone more held rises joined free.
    let span = c.args.span in
    let now = c.move_on.new.self in
    let here : span.first ≡ now.first = sym (c.in_ok-move_on.ensures.first ∙ c.first.ensures) in
    let up = subst (λ n. c.args.self.now.first ≤ n) (sym c.first.ensures)
    (held.within span.first (λ t is. (rises t is).0)) in
    let on = subst (λ n. AreKeptSpans gone n now.outer.items now.level.items)
    (sym c.in_ok-move_on.ensures.first) (c.in_ok-move_on.ensures.kept gone up held.kept) in
    let reached = subst (λ (xs : List ℕ). NeverRises xs → (x : ℕ) → IsIn x xs → span.last ≤ x)
    c.deref.ensures.value (rw c.last.ensures.value at c.if-not-reach.ensures refl) in
    let level = c.in_ok-push.ensures.items ∙ ap (λ n. now.level.items ++ n ∷ [])
    c.last-2.ensures.value in
    let p = passed gone more span now.first now.outer.items now.level.items here on rises joined
    (reached on.falling) in
    record {
      free = p.free;
      passed =
          record {
            kept = subst (λ (xs : List ℕ). AreKeptSpans more now.first now.outer.items xs)
                (sym level) p.kept;
            within = p.within;
          };
    }
