-- The entry is that of the block, which is kept unless it is too large.
use Rattle.std.proofs.Common.{◌≡◌, ◌≤◌, ◌∙◌, ◌∷◌, [], take, sym, ap, arith}
use Rattle.rr_text.specs.Lines.{text_lines}
use Rattle.rr_text.specs.Entries.{entries, block_entry, size_limit}
use Rattle.rr_text.proofs.EntryLemmas.{entry_large}
use Rattle.rr_text.proofs.EntryFaults.{gives_one}
use Rattle.rr_text.proofs.draft.Draft.entry.Goals as goal

pub returns-then-self-gt-SIZE_LIMIT : goal.returns-then-self-gt-SIZE_LIMIT
returns-then-self-gt-SIZE_LIMIT c = λ text has. has.one ∙ ap (λ entry. entry ∷ [])
    (entry_large has.block (has.too_large (omega arith)))

pub returns : goal.returns
returns c = λ text has.
    let within : c.args.self.now.whole ≤ size_limit = omega arith in
    let block : c.split_at.result.0.now ≡ has.block = c.split_at.ensures.front
    ∙ (ap (take c.args.self.now.whole) c.deref.ensures.value ∙ (has.kept_whole within).1) in
    let one : entries text ≡ block_entry (text_lines c.split_at.result.0.now) ∷ [] =
    has.one ∙ ap (λ b. block_entry (text_lines b) ∷ []) (sym block) in
    gives_one text (text_lines c.split_at.result.0.now) c.read_entry.result one
    c.read_entry.ensures.found c.read_entry.ensures.fault
