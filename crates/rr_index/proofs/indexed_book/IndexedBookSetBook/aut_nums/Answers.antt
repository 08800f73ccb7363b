use Rattle.std.proofs.Common.{◌∙◌, ap, subst}
use Rattle.std.specs.FinMap.{values}
use Rattle.std.specs.List.{filter}
use Rattle.std.proofs.lemmas.Result.{IfOk-weaker}
use Rattle.rr_object.specs.declared.class.Class.TheVariants.{AutNum}
use Rattle.rr_auth.specs.Registries.{Sound}
use Rattle.rr_book.specs.SetLists.{is_of_class}
use Rattle.rr_book.proofs.SetLists.{lists_aut_nums}
use Rattle.rr_index.proofs.indexed_book.IndexedBookSetBook.aut_nums.Goals as goal

pub returns : goal.returns
returns c =
    let sound : Sound c.args.self.now = subst Sound c.self.view_is c.self.invariant.sound in
    record {
      all = IfOk-weaker c.aut_nums.result _ _
          (λ found is. lists_aut_nums c.args.self.now sound found.items
          (is ∙ ap (λ r. filter (is_of_class AutNum) (values r)) c.self.view_is))
          c.aut_nums.ensures;
      sound = sound;
    }
