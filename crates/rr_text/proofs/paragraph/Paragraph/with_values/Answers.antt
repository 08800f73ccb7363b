use Rattle.std.proofs.Common.{◌≡◌, ◌∙◌, ◌++◌, ap, map}
use Rattle.rr_text.specs.CanonicalText.{canonical}
use Rattle.rr_text.specs.Fields.{with_value}
use Rattle.rr_text.proofs.FieldLemmas.{AreFields-with_value}
use Rattle.rr_text.proofs.KeptLemmas.{kept_of}
use Rattle.rr_text.proofs.paragraph.Paragraph.with_values.Goals as goal

pub kept-requires : goal.kept-requires
kept-requires c =
    let made = map (with_value c.args.name.now c.args.line.now) c.args.self.now in
    let text : c.print_onto_with_values.new.out.items ≡ canonical made =
    c.in_ok-print_onto_with_values.ensures.ok ∙ ap (λ old. old ++ canonical made)
    c.new-text.ensures.items in
    (kept_of made _ (AreFields-with_value c.args.name.now c.args.line.now c.args.self.now
    c.requires c.attributes-attributes.ensures.fields) text).1

pub returns : goal.returns
returns c =
    let made = map (with_value c.args.name.now c.args.line.now) c.args.self.now in
    let text : c.print_onto_with_values.new.out.items ≡ canonical made =
    c.in_ok-print_onto_with_values.ensures.ok ∙ ap (λ old. old ++ canonical made)
    c.new-text.ensures.items in
    c.kept.ensures
    ∙ (kept_of made _ (AreFields-with_value c.args.name.now c.args.line.now c.args.self.now
    c.requires c.attributes-attributes.ensures.fields) text).0
