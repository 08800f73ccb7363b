use Rattle.std.proofs.Common.{sym}
use Rattle.std.specs.Option.{option_copied}
use Rattle.rr_desk.proofs.GoodSettings.{good_settings}
use Rattle.rr_desk.proofs.settings.Settings.read.Goals as goal

pub invariant_of-result : goal.invariant_of-result
invariant_of-result c =
    good_settings (option_copied c.args.source) (option_copied c.args.root)
    (option_copied c.args.auth) c.args.limit _
    c.in_ok-source.ensures.ok c.in_ok-root.ensures.ok c.in_ok-auth.ensures.ok
    (sym c.in_ok-limit.ensures)
