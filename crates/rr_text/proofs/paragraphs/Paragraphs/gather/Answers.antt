-- All that is held is gathered before each read.
use Rattle.std.proofs.Common.{◌<◌, arith}
use Rattle.rr_text.specs.ParagraphReaders.{reads_of}
use Rattle.rr_text.proofs.DraftLemmas.{unclosed_none}
use Rattle.rr_text.proofs.ReaderLemmas.{gathering_none, gathered_rest, gathering_more, gathers_end}
use Rattle.rr_text.proofs.paragraphs.Paragraphs.gather.Goals as goal

pub reads-init : goal.reads-init
reads-init g c = gathering_none _ _ (unclosed_none _ c.restart.ensures)

pub returns-in-Some : goal.returns-in-Some
returns-in-Some g c =
    let rest = gathered_rest _ _ _ _ _ c.take_held.new.self c.reads.invariant
    c.take_held.ensures.reads (λ past unclosed. c.take_held.ensures.unclosed past unclosed
    c.if-take_held.false) in
    let more : reads_of c.take_held.new.self < 16777216 = omega (arith, c.take_held.new.self.few) in
    gathers_end _ _ _ _ _ _ _ _ rest more c.in-Some.ensures.fills c.in-Some.ensures.draft

pub reads-preserved : goal.reads-preserved
reads-preserved g c =
    let rest = gathered_rest _ _ _ _ _ c.take_held.new.self c.reads.invariant
    c.take_held.ensures.reads (λ past unclosed. c.take_held.ensures.unclosed past unclosed
    c.if-take_held.false) in
    gathering_more _ _ _ _ _ _ _ rest c.in_default.ensures.fills c.in_default.ensures.draft
