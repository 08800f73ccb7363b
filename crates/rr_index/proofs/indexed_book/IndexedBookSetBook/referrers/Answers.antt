use Rattle.std.proofs.Common.{subst}
use Rattle.std.proofs.lemmas.Result.{IfOk-weaker}
use Rattle.rr_auth.specs.Registries.{Sound}
use Rattle.rr_sets.specs.Lists.{IsReferrer, ListsOnce}
use Rattle.rr_index.proofs.Listed.{no_referrers, referrers_listed}
use Rattle.rr_index.proofs.indexed_book.IndexedBookSetBook.referrers.Goals as goal

pub returns-in-Some : goal.returns-in-Some
returns-in-Some c = record {
  all = IfOk-weaker c.at_keys.result _ _
      (λ found is. subst (λ r. ListsOnce (IsReferrer r c.args.name.now) found.items) c.self.view_is
      (referrers_listed c.self.inside.objects c.self.invariant.sound
      c.self.inside.indexes.referrers.keys c.self.invariant.indexes.keys.referrers
      c.args.name.now c.in-Some.keys.now found.items
      c.in-Some.ensures is c.at_keys.ensures.ordered))
      c.at_keys.ensures.found;
  sound = subst Sound c.self.view_is c.self.invariant.sound;
}

pub returns-in-None : goal.returns-in-None
returns-in-None c = record {
  all = subst (λ r. ListsOnce (IsReferrer r c.args.name.now) c.new.result.items) c.self.view_is
      (no_referrers c.self.inside.objects c.self.invariant.sound
      c.self.inside.indexes.referrers.keys c.self.invariant.indexes.keys.referrers
      c.args.name.now c.new.result.items c.in-None.ensures c.new.ensures.items);
  sound = subst Sound c.self.view_is c.self.invariant.sound;
}
