use Rattle.std.proofs.Common.{◌∙◌}
use Rattle.rr_index.proofs.MntnerNames.{names_in}
use Rattle.rr_index.proofs.name_index.NameIndex.put.Goals as goal

pub returns : goal.returns
returns c = record {
  ok = λ r o has.
      names_in r o c.args.name.now c.in_ok-under.under c.in_ok-kept.kept c.args.self.now.keys
      c.insert.new.self has
      c.in_ok-under.ensures (c.in_ok-kept.ensures ∙ c.requires) c.in_ok-insert.ensures.updates.0;
  err = tt;
}
