use Rattle.std.proofs.Common.{◌≡◌, ◌⊎◌, inl, inr, refl, sym, ap, ◌∙◌}
use Rattle.std.specs.BTreeMap.{insert_entry, values}
use Rattle.std.specs.Prelude.{Some}
use Rattle.std.proofs.lemmas.Result.{err_from_is_err_and}
use Rattle.rr_object.specs.contracts.key.KeyOrd.TheImpl as derived
use Rattle.rr_registry.proofs.Held.{entered_is_taken, grown_entries}
use Rattle.rr_registry.specs.declared.load.LoadFault.TheVariants.{Memory}
use Rattle.rr_registry.specs.Loading.{clash_of}
use Rattle.rr_registry.proofs.gathered.Gathered.take_in.Goals as goal

pub returns-clause-ok : goal.returns-clause-ok
returns-clause-ok c =
    let os = values c.args.self.now.objects in
    let o = c.args.object in
    (entered_is_taken c.args.self.now
    (record { objects = c.put.new.objects; spans = c.enter.new.self.spans }) c.args.n o
    c.requires c.key.ensures.formed
    (rw c.key.ensures.value at c.in_ok-key.ensures.new)
    (rw c.key.ensures.value at c.in_ok-key.ensures.entered)
    (grown_entries c.args.self.now.objects.entries c.put.new.objects.entries os c.in_ok-key.key o
    c.requires.keyed (c.in_ok-key.ensures.copy ∙ c.key.ensures.value)
    (c.in_ok-put.ensures
    ∙ ap (λ held. insert_entry (derived.ghosts).cmp held.entries c.in_ok-key.key o)
    c.enter.ensures.same))).0

pub returns-clause-consistent : goal.returns-clause-consistent
returns-clause-consistent c =
    let os = values c.args.self.now.objects in
    let o = c.args.object in
    (entered_is_taken c.args.self.now
    (record { objects = c.put.new.objects; spans = c.enter.new.self.spans }) c.args.n o
    c.requires c.key.ensures.formed
    (rw c.key.ensures.value at c.in_ok-key.ensures.new)
    (rw c.key.ensures.value at c.in_ok-key.ensures.entered)
    (grown_entries c.args.self.now.objects.entries c.put.new.objects.entries os c.in_ok-key.key o
    c.requires.keyed (c.in_ok-key.ensures.copy ∙ c.key.ensures.value)
    (c.in_ok-put.ensures
    ∙ ap (λ held. insert_entry (derived.ghosts).cmp held.entries c.in_ok-key.key o)
    c.enter.ensures.same))).1

pub returns-in_err-key-clause-err : goal.returns-in_err-key-clause-err
returns-in_err-key-clause-err c =
    let os = values c.args.self.now.objects in
    let exit = err_from_is_err_and c.from_residual.result c.from_residual.ensures.1 in
    rw (exit.1, exit.2)
    (elim c.in_err-key.ensures.err as (λ _. (c.in_err-key.field-0.0 ≡ Memory)
    ⊎ (clash_of os c.args.n c.args.object ≡ Some c.in_err-key.field-0.0)) [
      | inl memory ↦ inl memory
      | inr clash ↦ inr (clash c.args.object (sym c.key.ensures.value))
    ])

pub returns-in_err-put-clause-err : goal.returns-in_err-put-clause-err
returns-in_err-put-clause-err c =
    let exit = err_from_is_err_and c.from_residual-in_err-put.result
    c.from_residual-in_err-put.ensures.1 in
    rw (exit.1, exit.2) (inl refl)
