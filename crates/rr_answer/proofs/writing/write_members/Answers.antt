use Rattle.std.proofs.Common.{List, ℕ, sym, subst}
use Rattle.std.specs.List.{flat_map}
use Rattle.rr_io.specs.Sending.{Writes}
use Rattle.rr_answer.specs.Texts.{missing_line}
use Rattle.rr_answer.proofs.Parts.{members_bytes, writes_then}
use Rattle.rr_answer.proofs.writing.write_members.Goals as goal

pub returns : goal.returns
returns g c =
    let bytes = g.T.Part.bytes in
    let found = c.args.found.now in
    let missing = c.args.missing.now in
    subst (λ (text : List ℕ). Writes (g.W.Writer.told c.args.writer.now)
    (g.W.Writer.told c.write_parts-2.new.writer) text c.write_parts-2.result)
    (sym (members_bytes bytes g.met.T.Part.has_bytes found missing c.args.nothing.now
    (c.are_none.ensures.no c.if-are_none.false)))
    (writes_then _ _ _ (flat_map bytes found) (flat_map missing_line missing)
    c.write_parts-2.result c.in_ok-write_parts.ensures c.write_parts-2.ensures)
