use Rattle.std.proofs.Common.{sym, ◌∙◌}
use Rattle.std.proofs.lemmas.Result.{on_ok_weaker}
use Rattle.rr_index.proofs.Namings.{other_up, own_up}
use Rattle.rr_index.proofs.naming_index.NamingIndex.raise.Goals as goal

pub returns-then-is_mntner_of-clause-ok : goal.returns-then-is_mntner_of-clause-ok
returns-then-is_mntner_of-clause-ok c = own_up c.args.self.now.counts c.args.name.now
    c.args.key.now (sym c.is_mntner_of.ensures ∙ c.if-is_mntner_of.true)

pub returns-else-is_mntner_of-clause-ok : goal.returns-else-is_mntner_of-clause-ok
returns-else-is_mntner_of-clause-ok c =
    on_ok_weaker c.count_up.result
    (other_up c.args.self.now.counts c.count_up.new.self.counts c.args.name.now c.args.key.now
    (sym c.is_mntner_of.ensures ∙ c.if-is_mntner_of.false))
    c.count_up.ensures.ok
