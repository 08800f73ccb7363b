use Rattle.rr_desk.proofs.Opens.{upper_told}
use Rattle.rr_desk.proofs.opening.upper_object.Goals as goal

pub unwrap-requires : goal.unwrap-requires
unwrap-requires c =
    c.in_ok-object.ensures.only _ (upper_told c.args.settings.now c.root.result.now
    c.source.result.now c.root.ensures.good c.root.ensures.root c.source.ensures.source)
