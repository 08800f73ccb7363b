use Rattle.std.proofs.Common.{◌≡◌, ◌∷◌, [], codes, rules, subst, sym}
use Rattle.rr_text.specs.Fields.{AreFields, one_line}
use Rattle.rr_desk.specs.Opening.{auth_line}
use Rattle.rr_desk.proofs.Opens.{root_good}
use Rattle.rr_desk.proofs.opening.root_paragraph.Goals as goal

pub owned-requires : goal.owned-requires
owned-requires c =
    let same : c.in_ok-attributes-3.attributes.items ≡ one_line (codes "mntner")
    c.args.settings.now.root ∷ (one_line (codes "auth") (auth_line c.args.settings.now.auth)
    ∷ []) = search rules in
    subst AreFields (sym same) (root_good c.args.settings.now c.root.ensures.good)
