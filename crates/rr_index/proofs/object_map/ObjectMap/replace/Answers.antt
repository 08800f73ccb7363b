use Rattle.std.proofs.Common.{◌≡◌, Some, None, refl, ap, sym, subst, ◌∙◌}
use Rattle.std.specs.Prelude.{IsSome, OnErr, IfErr, IfOk, Result}
use Rattle.std.specs.BTreeMap.{BTreeMap, get as at_key}
use Rattle.std.specs.FinMap.{get, insert, is_sorted}
use Rattle.rr_object.specs.contracts.key.KeyOrd.TheImpl as derived
use Rattle.rr_object.specs.declared.key.Key.{Key}
use Rattle.rr_object.specs.KeyOrders.{key_cmp}
use Rattle.rr_object.specs.Objects.{Obj}
use Rattle.rr_index.specs.declared.object_map.ObjectMap.TheInside.{Inside}
use Rattle.rr_index.specs.ObjectMaps.{registry_of}
use Rattle.rr_index.specs.Private.{PutsObject}
use Rattle.rr_index.proofs.Kept.{looked_up, registry_replaced, rising}
use Rattle.rr_index.proofs.object_map.ObjectMap.replace.Goals as goal
use Rattle.rr_index.proofs.object_map.ObjectMap.replace.Goals.{in-Some, in-None}

pub invariant_of-self : goal.invariant_of-self
invariant_of-self c = elim c.match-get_mut.branch [
  | in-Some w ↦
      ap (λ (x : Inside). is_sorted key_cmp x.entries.entries) w.self-inside-is
      ∙ rising (c.get_mut.follows.lender w.replace.new.dest)
      (c.get_mut.follows.holds w.replace.new.dest).4
  | in-None w ↦
      ap (λ (x : Inside). is_sorted key_cmp x.entries.entries) w.self-inside-is
      ∙ ap (λ (m : BTreeMap Key Obj). is_sorted key_cmp m.entries) c.get_mut.follows.holds-at-none
      ∙ c.self.invariant
]

pub returns-clause-puts : goal.returns-clause-puts
returns-clause-puts c = elim c.match-get_mut.branch [
  | in-Some w ↦
      let o = c.args.object in
      let after = c.get_mut.follows.lender w.replace.new.dest in
      subst (λ (r : Result Obj Obj). PutsObject c.args.self.now o
      (registry_of c.match-get_mut.self-inside.entries) r) (sym w.result-is)
      (record {
        ok = ap (λ (x : Inside). registry_of x.entries) w.self-inside-is
            ∙ registry_replaced c.self.inside.entries after c.key.result.now o.key
            w.replace.new.dest o c.self.invariant
            (rising after (c.get_mut.follows.holds w.replace.new.dest).4)
            c.key.ensures.value w.replace.ensures.after
            ((c.get_mut.follows.holds w.replace.new.dest).3
            (subst IsSome w.in-Some.ensures.value refl)).0
            ∙ ap (λ r. insert r o.key o) c.self.view_is;
        err = tt;
      })
  | in-None w ↦
      let o = c.args.object in
      subst (λ (r : Result Obj Obj). PutsObject c.args.self.now o
      (registry_of c.match-get_mut.self-inside.entries) r) (sym w.result-is)
      (record {
        ok = tt;
        err = ap (λ (x : Inside). registry_of x.entries) w.self-inside-is
            ∙ ap registry_of c.get_mut.follows.holds-at-none ∙ c.self.view_is;
      })
]

pub returns-clause-old : goal.returns-clause-old
returns-clause-old c = elim c.match-get_mut.branch [
  | in-Some w ↦
      let o = c.args.object in
      subst (λ (r : Result Obj Obj). IfOk r (λ old. get c.args.self.now o.key ≡ Some old))
      (sym w.result-is)
      (ap (λ r. get r o.key) (sym c.self.view_is)
      ∙ sym (looked_up c.self.inside.entries o.key c.self.invariant)
      ∙ sym (ap (λ (k : Key). at_key (derived.ghosts).cmp c.self.inside.entries k)
      c.key.ensures.value)
      ∙ sym w.in-Some.ensures.value
      ∙ ap Some (sym w.replace.ensures.value))
  | in-None w ↦
      let o = c.args.object in
      subst (λ (r : Result Obj Obj). IfOk r (λ old. get c.args.self.now o.key ≡ Some old))
      (sym w.result-is) tt
]

pub returns-clause-none : goal.returns-clause-none
returns-clause-none c = elim c.match-get_mut.branch [
  | in-Some w ↦
      let o = c.args.object in
      subst (λ (r : Result Obj Obj). OnErr r (get c.args.self.now o.key ≡ None)) (sym w.result-is)
      tt
  | in-None w ↦
      let o = c.args.object in
      subst (λ (r : Result Obj Obj). OnErr r (get c.args.self.now o.key ≡ None)) (sym w.result-is)
      (ap (λ r. get r o.key) (sym c.self.view_is)
      ∙ sym (looked_up c.self.inside.entries o.key c.self.invariant)
      ∙ sym (ap (λ (k : Key). at_key (derived.ghosts).cmp c.self.inside.entries k)
      c.key.ensures.value)
      ∙ sym w.in-None.ensures.value)
]

pub returns-clause-back : goal.returns-clause-back
returns-clause-back c = elim c.match-get_mut.branch [
  | in-Some w ↦ subst (λ (r : Result Obj Obj). IfErr r (λ back. back ≡ c.args.object))
      (sym w.result-is) tt
  | in-None w ↦ subst (λ (r : Result Obj Obj). IfErr r (λ back. back ≡ c.args.object))
      (sym w.result-is) refl
]
