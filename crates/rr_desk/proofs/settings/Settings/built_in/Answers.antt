use Rattle.std.proofs.Common.{◌≡◌, ◌∙◌, Some, refl, sym, subst}
use Rattle.std.specs.Prelude.{IsSome}
use Rattle.rr_desk.specs.Settings.{built_in}
use Rattle.rr_desk.proofs.GoodSettings.{built_in_read}
use Rattle.rr_desk.proofs.settings.Settings.built_in.Goals as goal

pub unwrap-requires : goal.unwrap-requires
unwrap-requires c = subst IsSome (sym (c.in_ok-settings.ensures ∙ built_in_read)) refl

pub returns : goal.returns
returns c =
    let read : Some c.unwrap.result ≡ Some built_in =
    sym c.unwrap.ensures ∙ c.in_ok-settings.ensures ∙ built_in_read in
    cc
