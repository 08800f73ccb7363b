use Rattle.std.proofs.Common.{◌∙◌, ap, sym, subst, true}
use Rattle.std.specs.Prelude.{is_some}
use Rattle.std.proofs.lemmas.Bool.{true≢false}
use Rattle.sqlite.specs.Held.{state}
use Rattle.rr_desk.specs.Stops.{LeavesStopped}
use Rattle.rr_desk.specs.Stocks.{DatabaseLasts}
use Rattle.rr_desk.proofs.Following.{stops_there, leads_at, stands_after, still_held, item_lasts}
use Rattle.rr_desk.proofs.stock.StockLedger.decide.Goals as goal

pub invariant_of-self : goal.invariant_of-self
invariant_of-self g c = λ running.
    still_held g.S.Store c.self.inside.store c.follow.new.store c.self.inside.registry
    c.apply-outcome.new.self c.parts-item.result.0.now c.apply-outcome.result _
    (c.self.invariant running)
    (leads_at _ _ _ _ _ _ c.parts-item.ensures.key
    (rw c.parts-item.ensures.item at c.apply-outcome.ensures.step))
    c.in-Ok.ensures.follows

pub follow-requires : goal.follow-requires
follow-requires g c =
    stands_after c.self.inside.registry c.parts-item.result.0.now c.apply-outcome.result
    c.apply-outcome.new.self
    (leads_at _ _ _ _ _ _ c.parts-item.ensures.key
    (rw c.parts-item.ensures.item at c.apply-outcome.ensures.step))

pub returns-in-Err-clause-stops : goal.returns-in-Err-clause-stops
returns-in-Err-clause-stops g c =
    let running = rw (← c.self.view_is) at c.requires.running in
    subst (λ cause. LeavesStopped c.args.self.now.registry c.args.secrets.now c.args.item
    c.apply-outcome.new.self (is_some cause) (state g.S.Store c.args.self.now.store)
    (state g.S.Store c.follow.new.store)) (sym c.keep_cause.ensures)
    (subst (λ s. LeavesStopped s.registry c.args.secrets.now c.args.item c.apply-outcome.new.self
    true (state g.S.Store s.store) (state g.S.Store c.follow.new.store)) c.self.view_is
    (stops_there g.S.Store c.self.inside.store c.follow.new.store c.self.inside.registry
    c.apply-outcome.new.self c.args.secrets.now c.args.item c.parts-item.result.0.now
    c.apply-outcome.result _
    c.parts-item.ensures.key (rw c.parts-item.ensures.item at c.apply-outcome.ensures.step)
    c.apply-outcome.ensures.leaves c.in-Err.ensures.changing (c.self.invariant running)
    c.in-Err.ensures.follows c.follow.ensures.others))

pub returns-in-Ok-clause-keeps : goal.returns-in-Ok-clause-keeps
returns-in-Ok-clause-keeps g c =
    let running = rw (← c.self.view_is) at c.requires.running in
    record {
      lasts = subst (λ s. DatabaseLasts (state g.S.Store s.store)
          (state g.S.Store c.follow.new.store)) c.self.view_is
          (item_lasts g.S.Store _ c.self.inside.store c.follow.new.store c.self.inside.registry _
          (c.self.invariant running) c.in-Ok.ensures.follows c.follow.ensures.others);
      kept = λ still. still_held g.S.Store c.self.inside.store c.follow.new.store
          c.self.inside.registry c.apply-outcome.new.self c.parts-item.result.0.now
          c.apply-outcome.result _ (c.self.invariant still)
          (leads_at _ _ _ _ _ _ c.parts-item.ensures.key
          (rw c.parts-item.ensures.item at c.apply-outcome.ensures.step))
          c.in-Ok.ensures.follows;
    }

pub returns-in-Err-clause-keeps : goal.returns-in-Err-clause-keeps
returns-in-Err-clause-keeps g c =
    let running = rw (← c.self.view_is) at c.requires.running in
    record {
      lasts = subst (λ s. DatabaseLasts (state g.S.Store s.store)
          (state g.S.Store c.follow.new.store)) c.self.view_is
          (item_lasts g.S.Store _ c.self.inside.store c.follow.new.store c.self.inside.registry _
          (c.self.invariant running) c.in-Err.ensures.follows c.follow.ensures.others);
      kept = λ still. absurd (true≢false (sym (ap is_some c.keep_cause.ensures) ∙ still));
    }
