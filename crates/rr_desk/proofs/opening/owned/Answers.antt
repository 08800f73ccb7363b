use Rattle.std.proofs.Common.{◌≡◌, ◌∙◌, ◌++◌, arith, subst, sym}
use Rattle.std.proofs.lemmas.Grind.{common_steps}
use Rattle.rr_text.specs.Fields.{AreFields}
use Rattle.rr_desk.specs.Opening.{owner_fields}
use Rattle.rr_desk.proofs.Opens.{owned_good}
use Rattle.rr_desk.proofs.opening.owned.Goals as goal

pub new-requires : goal.new-requires
new-requires c =
    let same : c.in_ok-attributes-2.attributes.items ≡ c.args.attributes.items ++ owner_fields
    c.args.settings.now = grind (arith, common_steps) in
    subst AreFields (sym (c.deref.ensures.value ∙ same))
    (owned_good c.args.attributes.items c.args.settings.now c.requires c.root.ensures.good)
