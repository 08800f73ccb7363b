use Rattle.std.proofs.Common.{[], ◌∷◌, ◌++◌, sym, ap, ◌∙◌, append_assoc}
use Rattle.std.proofs.lemmas.List.{append-nil}
use Rattle.rr_store.proofs.names.named.Goals as goal

pub loop-name-init : goal.loop-name-init
loop-name-init c =
    (λ i. c.new-all.ensures.items i ++ (c.into_iter-name-iterator.ensures.into_iter_gives
    ∙ c.maintainers_named-name-items.ensures) i)

pub loop-name-preserved : goal.loop-name-preserved
loop-name-preserved c =
    (λ i. (c.in_ok-push.ensures.items ∙ ap (λ name. c.loop-name.all.items ++ name ∷ [])
    c.in_ok-copy.ensures) i ++ c.next.new.self)
    ∙ append_assoc c.loop-name.all.items (c.in-Some.name.now ∷ []) c.next.new.self
    ∙ ap (λ names. c.loop-name.all.items ++ names) (sym c.in-Some.ensures.steps)
    ∙ c.loop-name.invariant

pub returns : goal.returns
returns c = sym (append-nil c.loop-name.all.items) ∙ ap (λ names. c.loop-name.all.items ++ names)
    (sym c.in-None.ensures.steps.0) ∙ c.loop-name.invariant
