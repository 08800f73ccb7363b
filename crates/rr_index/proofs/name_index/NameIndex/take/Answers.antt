use Rattle.std.proofs.Common.{sym, subst}
use Rattle.std.specs.FinMap.{remove}
use Rattle.rr_object.specs.declared.key.Key.{Key}
use Rattle.rr_index.proofs.MntnerNames.{names_out, rest_out}
use Rattle.rr_index.specs.NameIndexes.{HasNames}
use Rattle.rr_index.proofs.name_index.NameIndex.take.Goals as goal

pub returns-in-Mntner : goal.returns-in-Mntner
returns-in-Mntner c = λ r has.
    subst (λ (k : Key). HasNames (remove r k) c.remove.new.self) (sym c.in-Mntner.is)
    (names_out r c.in-Mntner.name c.args.self.now.keys c.remove.new.self has
    c.remove.ensures.updates.0)

pub returns-in_default : goal.returns-in_default
returns-in_default c = λ r has. rest_out r c.args.self.now.keys has c.args.key.now
    c.in_default.not-Mntner
