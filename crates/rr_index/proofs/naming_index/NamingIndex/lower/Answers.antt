use Rattle.std.proofs.Common.{sym, ◌∙◌}
use Rattle.rr_index.proofs.Namings.{other_down, own_down}
use Rattle.rr_index.proofs.naming_index.NamingIndex.lower.Goals as goal

pub returns-then-not-is_mntner_of : goal.returns-then-not-is_mntner_of
returns-then-not-is_mntner_of c =
    other_down c.args.self.now.counts c.count_down.new.self.counts c.args.name.now c.args.key.now
    (sym c.is_mntner_of.ensures ∙ c.if-not-is_mntner_of.true) c.count_down.ensures

pub returns-else-not-is_mntner_of : goal.returns-else-not-is_mntner_of
returns-else-not-is_mntner_of c = own_down c.args.self.now.counts c.args.name.now c.args.key.now
    (sym c.is_mntner_of.ensures ∙ c.if-not-is_mntner_of.false)
