use Rattle.rr_auth.proofs.Knowing.{known_of_others, nothing_known}
use Rattle.rr_auth.proofs.known.Known.forget.Goals as goal

pub returns-in-Mntner : goal.returns-in-Mntner
returns-in-Mntner c = λ before after same were. nothing_known after c.args.self.now.secrets.items
    c.clear.new.self c.clear.ensures.empty

pub returns-in_default : goal.returns-in_default
returns-in_default c = λ before after same were.
    known_of_others c.args.key.now before after same c.in_default.not-Mntner
    c.args.self.now.secrets.items c.args.self.now.answers c.remove.new.self
    c.remove.ensures.updates were
