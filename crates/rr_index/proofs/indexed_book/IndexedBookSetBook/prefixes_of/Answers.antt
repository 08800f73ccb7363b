use Rattle.std.proofs.Common.{ap, subst, ◌∙◌}
use Rattle.std.specs.FinMap.{values}
use Rattle.std.specs.List.{filter_map}
use Rattle.std.proofs.lemmas.Result.{IfOk-weaker}
use Rattle.rr_auth.specs.Registries.{Sound}
use Rattle.rr_sets.specs.KeyParts.{prefix_from}
use Rattle.rr_index.proofs.Originated.{prefixes_listed}
use Rattle.rr_index.proofs.indexed_book.IndexedBookSetBook.prefixes_of.Goals as goal

pub returns : goal.returns
returns c = record {
  all = IfOk-weaker c.prefixes_of.result _ _
      (λ found is. is
      ∙ prefixes_listed c.self.inside.objects c.self.invariant.sound
      c.self.inside.indexes.origins.routes c.self.invariant.indexes.keys.origins c.args.origin
      c.prefixes_of.ensures.ordered
      ∙ ap (λ s. filter_map (λ o. prefix_from c.args.origin o.key) (values s)) c.self.view_is)
      c.prefixes_of.ensures.found;
  sound = subst Sound c.self.view_is c.self.invariant.sound;
}
