use Rattle.rr_index.proofs.MntnerNames.{rest_in}
use Rattle.rr_index.proofs.name_index.NameIndex.add.Goals as goal

pub returns-in_default : goal.returns-in_default
returns-in_default c = record {
  ok = λ r o has. rest_in r c.args.self.now.keys has c.args.key.now o
      c.in_default.not-Mntner;
  err = tt;
}
