use Rattle.std.proofs.Common.{◌≡◌, [], ◌∷◌, ◌++◌, subst, subst₂, sym, ap, ◌∙◌, reverse}
use Rattle.std.proofs.lemmas.List.{reverse-reverse}
use Rattle.std.proofs.lemmas.Iterator.Adapters.{YieldsList-from_rev_slice}
use Rattle.std.proofs.lemmas.Iterator.Consumers.{YieldsList-end}
use Rattle.rr_store.specs.Entries.{once}
use Rattle.rr_store.proofs.OnceLemmas.{IsOnce, kept_more, none_yet, passed_over, turned}
use Rattle.rr_store.proofs.names.each_once.Goals as goal

pub loop-name-init : goal.loop-name-init
loop-name-init c = none_yet _ _ c.new-kept.ensures.items c.new-seen.ensures.empty

pub loop-name-preserved-in_ok-push : goal.loop-name-preserved-in_ok-push
loop-name-preserved-in_ok-push c =
    let pushed : c.push.new.self.items ≡ c.loop-name.kept.items ++ c.in-Some.name.now ∷ [] =
    c.in_ok-push.ensures.items ∙ ap (λ name. c.loop-name.kept.items ++ name ∷ [])
    c.in_ok-copy.ensures in
    subst₂ (λ done kept. IsOnce done kept c.insert.new.self)
    (sym (turned c.loop-name.yielded c.in-Some.name)) (sym pushed)
    (kept_more _ _ c.in-Some.name c.loop-name.seen c.insert.new.self c.loop-name.invariant
    c.in_ok-insert.ensures.updates (sym c.if-branch.true ∙ c.in_ok-insert.ensures.added))

pub loop-name-preserved : goal.loop-name-preserved
loop-name-preserved c =
    subst (λ done. IsOnce done c.loop-name.kept.items c.insert.new.self)
    (sym (turned c.loop-name.yielded c.in-Some.name))
    (passed_over _ _ c.in-Some.name c.loop-name.seen c.insert.new.self c.loop-name.invariant
    c.in_ok-insert.ensures.updates (sym c.if-branch.false ∙ c.in_ok-insert.ensures.added))

pub returns : goal.returns
returns c =
    let all = (YieldsList-end (YieldsList-from_rev_slice c.args.names.now cc) c.loop-name.yielded _
    c.loop-name.yielded_by _ _ c.in-None.is c.next.ensures.steps).0 in
    c.reverse.ensures.items ∙ c.loop-name.invariant.same ∙ ap once
    (ap reverse all ∙ reverse-reverse c.args.names.now)
