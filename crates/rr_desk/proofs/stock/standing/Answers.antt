use Rattle.std.proofs.Common.{◌∙◌, ap, sym}
use Rattle.std.specs.FinMap.{get}
use Rattle.std.specs.Option.{option_copied}
use Rattle.std.specs.Prelude.{is_some}
use Rattle.rr_desk.proofs.Following.{some_there}
use Rattle.rr_desk.proofs.stock.standing.Goals as goal

pub unwrap-requires : goal.unwrap-requires
unwrap-requires c =
    some_there c.get.result
    (ap is_some (c.get.ensures.found ∙ ap (λ r. get r c.args.key.now) c.book.ensures.same)
    ∙ c.requires)

pub returns : goal.returns
returns c =
    ap (λ r. get r c.args.key.now) (sym c.book.ensures.same) ∙ sym c.get.ensures.found
    ∙ ap option_copied c.unwrap.ensures
