use Rattle.std.proofs.Common.{◌∙◌, ap}
use Rattle.std.specs.List.{filter}
use Rattle.std.proofs.lemmas.Result.{IfOk-weaker}
use Rattle.rr_object.specs.declared.class.Class.TheVariants.{AutNum}
use Rattle.rr_book.specs.SetLists.{is_of_class}
use Rattle.rr_book.proofs.SetLists.{lists_aut_nums}
use Rattle.rr_book.proofs.set_book.PlainBookSetBook.aut_nums.Goals as goal

pub returns : goal.returns
returns c = record {
  all = IfOk-weaker c.objects_of_class.result _ _
      (λ found is. lists_aut_nums c.args.self.now c.as_slice.ensures.sound found.items
      (is ∙ ap (filter (is_of_class AutNum)) c.as_slice.ensures.objects))
      c.objects_of_class.ensures;
  sound = c.as_slice.ensures.sound;
}
