use Rattle.std.proofs.Common.{◌≡◌, ◌⊎◌, true, inl, inr, sym, ap, ◌∙◌}
use Rattle.std.specs.BTreeMap.{values}
use Rattle.std.proofs.lemmas.Result.{err_from_is_err_and}
use Rattle.rr_registry.proofs.Gathering.{is_duplicate}
use Rattle.rr_registry.proofs.Held.{faulty, stands}
use Rattle.rr_registry.specs.declared.load.LoadFault.TheVariants.{Memory, Overlap}
use Rattle.rr_auth.specs.Registries.{is_crossed_by_some}
use Rattle.rr_registry.specs.Loading.{is_key_of_some}
use Rattle.rr_registry.proofs.gathered.Gathered.enter.Goals as goal

pub returns-then-contains_key-clause-err : goal.returns-then-contains_key-clause-err
returns-then-contains_key-clause-err c =
    let os = values c.args.self.now.objects in
    let known = c.contains_key.ensures ∙ stands c.args.self.now.objects.entries os c.args.key.now
    c.requires.keyed in
    inr (λ o own. is_duplicate os c.args.n o (ap (λ k. is_key_of_some k os) own ∙ sym known
    ∙ c.if-contains_key.true))

pub returns-in_err-enter-clause-err : goal.returns-in_err-enter-clause-err
returns-in_err-enter-clause-err c =
    let os = values c.args.self.now.objects in
    let known = c.contains_key.ensures ∙ stands c.args.self.now.objects.entries os c.args.key.now
    c.requires.keyed in
    let p = err_from_is_err_and c.from_residual.result c.from_residual.ensures.1 in
    rw (p.1, p.2) (faulty os c.args.n c.args.key.now c.in_err-enter.field-0.0
    (sym known ∙ c.if-contains_key.false)
    (elim c.in_err-enter.ensures.err as (λ _. (c.in_err-enter.field-0.0 ≡ Memory)
    ⊎ ((c.in_err-enter.field-0.0 ≡ Overlap c.args.n)
    × (is_crossed_by_some c.args.key.now os ≡ true))) [
      | inl memory ↦ inl memory
      | inr crossed ↦ inr (crossed os c.requires.spans)
    ]))

pub returns-clause-new : goal.returns-clause-new
returns-clause-new c =
    let os = values c.args.self.now.objects in
    sym (c.contains_key.ensures ∙ stands c.args.self.now.objects.entries os c.args.key.now
    c.requires.keyed) ∙ c.if-contains_key.false

pub returns-clause-entered : goal.returns-clause-entered
returns-clause-entered c = c.in_ok-enter.ensures.ok (values c.args.self.now.objects)
    c.requires.spans
