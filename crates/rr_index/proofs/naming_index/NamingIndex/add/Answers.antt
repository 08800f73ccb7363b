use Rattle.std.proofs.Common.{take}
use Rattle.rr_object.specs.Objects.{names_of}
use Rattle.rr_index.proofs.Namings.{counts_back}
use Rattle.rr_index.proofs.naming_index.NamingIndex.add.Goals as goal

pub returns-in-Err-clause-err : goal.returns-in-Err-clause-err
returns-in-Err-clause-err c =
    let o = c.args.object.now in
    counts_back (take c.in-Err.counted (names_of o)) o.key c.args.self.now.counts
    c.add_each.new.self.counts c.take_first.new.self.counts
    c.in-Err.ensures.some c.take_first.ensures
