use Rattle.std.proofs.Common.{subst}
use Rattle.std.proofs.lemmas.Result.{IfOk-weaker}
use Rattle.rr_auth.specs.Registries.{Sound}
use Rattle.rr_book.proofs.IndexedObjects.{lists_named, lists_none}
use Rattle.rr_book.proofs.plain_book.PlainBook.objects_that_name.Goals as goal

pub returns-in-Some : goal.returns-in-Some
returns-in-Some c = record {
  all = IfOk-weaker c.objects_of.result _ _
      (λ found is. lists_named c.self.inside.objects.items c.self.inside.referrers.keys
      c.self.invariant c.args.self.now c.self.view_is c.args.name.now c.in-Some.keys.now
      found.items
      c.in-Some.ensures is c.objects_of.ensures.ordered)
      (rw c.deref.ensures.value at c.objects_of.ensures.found);
  sound = subst Sound c.self.view_is c.self.invariant.book.sound;
}

pub returns-in-None : goal.returns-in-None
returns-in-None c = record {
  all = lists_none c.self.inside.objects.items c.self.inside.referrers.keys c.self.invariant
      c.args.self.now c.self.view_is c.args.name.now c.new.result.items c.in-None.ensures
      c.new.ensures.items;
  sound = subst Sound c.self.view_is c.self.invariant.book.sound;
}
