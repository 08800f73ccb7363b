use Rattle.std.proofs.Common.{None, refl, sym, ◌∙◌}
use Rattle.rr_index.proofs.Namings.{same_under}
use Rattle.rr_index.proofs.naming_index.NamingIndex.count_down.Goals as goal

pub returns-then-lessen : goal.returns-then-lessen
returns-then-lessen c = λ other.
    same_under c.lessen.new.self.counts c.remove.new.self c.args.name.now None
    c.remove.ensures.updates.0 (sym (c.if-lessen.ensures.none refl)) other
    ∙ c.lessen.ensures.lowered other
