use Rattle.std.proofs.Common.{refl, ◌∙◌}
use Rattle.rr_book.proofs.KeysUnderSets.{none_under}
use Rattle.rr_book.proofs.set_index.SetIndex.take_from.Goals as goal

pub returns-then-take_key : goal.returns-then-take_key
returns-then-take_key c = λ other k.
    none_under c.take_key.new.self.keys c.remove.new.self c.args.name.now
    c.remove.ensures.updates.0 (c.if-take_key.ensures.empty refl) other k
    ∙ c.take_key.ensures.taken other k
