use Rattle.rr_registry.proofs.Mntners.{no_more, one_more}
use Rattle.rr_registry.proofs.load.add_mntner.Goals as goal

pub returns-in_ok-insert-in-Mntner : goal.returns-in_ok-insert-in-Mntner
returns-in_ok-insert-in-Mntner c =
    one_more c.args.mntners.now c.insert.new.self c.in-Mntner.name c.in_ok-copy-in-Mntner.field-0
    c.args.key.now c.in_ok-copy-in-Mntner.ensures c.in-Mntner.is
    c.in_ok-insert-in-Mntner.ensures.updates.0

pub returns-in_default : goal.returns-in_default
returns-in_default c = λ name. no_more c.args.key.now c.in_default.not-Mntner _ name
