use Rattle.std.proofs.Common.{◌≡◌, ◌++◌, ◌∙◌, List, ℕ, ap, sym, subst}
use Rattle.std.specs.Prelude.{codes}
use Rattle.std.specs.List.{flat_map}
use Rattle.rr_io.specs.Sending.{Writes}
use Rattle.rr_text.specs.CanonicalText.{ended}
use Rattle.rr_answer.specs.Founds.{found_text}
use Rattle.rr_answer.specs.Texts.{members_text, missing_line, number_line, or_else, range_line}
use Rattle.rr_answer.proofs.found.Findings.write.Goals as goal

pub returns-in-Numbers : goal.returns-in-Numbers
unfolding members_text
returns-in-Numbers g c =
    let found = c.deref-in-Numbers in
    let missing = c.deref-in-Numbers-2 in
    let nothing = ended (codes "% empty") in
    let whole : or_else nothing (flat_map number_line found.result.now ++ flat_map missing_line
    missing.result.now) ≡ found_text c.args.self.now =
    (λ i. or_else nothing (flat_map number_line (found.ensures.value i) ++ flat_map missing_line
    (missing.ensures.value i))) ∙ sym (ap found_text c.in-Numbers.is) in
    subst (λ (text : List ℕ). Writes (g.W.Writer.told c.args.writer.now)
    (g.W.Writer.told c.write_members-in-Numbers.new.writer) text
    c.write_members-in-Numbers.result)
    whole c.write_members-in-Numbers.ensures

pub returns-in-Ranges : goal.returns-in-Ranges
unfolding members_text
returns-in-Ranges g c =
    let found = c.deref-in-Ranges in
    let missing = c.deref-in-Ranges-2 in
    let nothing = ended (codes "% empty") in
    let whole : or_else nothing (flat_map range_line found.result.now ++ flat_map missing_line
    missing.result.now) ≡ found_text c.args.self.now =
    (λ i. or_else nothing (flat_map range_line (found.ensures.value i) ++ flat_map missing_line
    (missing.ensures.value i))) ∙ sym (ap found_text c.in-Ranges.is) in
    subst (λ (text : List ℕ). Writes (g.W.Writer.told c.args.writer.now)
    (g.W.Writer.told c.write_members-in-Ranges.new.writer) text c.write_members-in-Ranges.result)
    whole c.write_members-in-Ranges.ensures
