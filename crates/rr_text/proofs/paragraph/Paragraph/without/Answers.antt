use Rattle.std.proofs.Common.{◌∙◌, sym, subst, not, filter}
use Rattle.rr_text.specs.Fields.{AreFields, has_name}
use Rattle.rr_text.proofs.FieldLemmas.{AreFields-filter}
use Rattle.rr_text.proofs.KeptLemmas.{kept_of, none_left_out}
use Rattle.rr_text.proofs.paragraph.Paragraph.without.Goals as goal

pub returns-then-not-has : goal.returns-then-not-has
returns-then-not-has c =
    sym (none_left_out (has_name c.args.name.now) c.args.self
    (sym c.has.ensures ∙ c.if-not-has.true))

pub kept-requires : goal.kept-requires
kept-requires c =
    let left = filter (λ field. not (has_name c.args.name.now field)) c.args.self in
    (kept_of left _
    (AreFields-filter _ c.args.self (subst AreFields c.self.view_is c.self.invariant.good))
    c.in_ok-printed_without.ensures).1

pub returns : goal.returns
returns c =
    let left = filter (λ field. not (has_name c.args.name.now field)) c.args.self in
    c.kept.ensures
    ∙
    (kept_of left _
    (AreFields-filter _ c.args.self (subst AreFields c.self.view_is c.self.invariant.good))
    c.in_ok-printed_without.ensures).0
