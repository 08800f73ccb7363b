use Rattle.std.proofs.Common.{ℕ, List, sym, subst, ◌∙◌}
use Rattle.rr_object.specs.declared.key.Key.{Key}
use Rattle.rr_auth.specs.Known.{IsSeen}
use Rattle.rr_auth.proofs.Knowing.{known_put}
use Rattle.rr_auth.proofs.known.Known.put.Goals as goal

pub returns : goal.returns
returns c = λ r seen known.
    known_put r c.turn_to.new.self.secrets.items c.in_ok-key.key c.args.passes
    c.turn_to.new.self.answers c.insert.new.self c.in_ok-insert.ensures.updates
    (subst (λ (s : List (List ℕ)). IsSeen r s c.in_ok-key.key c.args.passes)
    (sym (c.in_ok-turn_to.ensures.ok ∙ c.as_slice.ensures))
    (subst (λ (k : Key). IsSeen r c.args.secrets.now k c.args.passes) (sym c.in_ok-key.ensures)
    seen))
    (c.turn_to.ensures.known r known)
