-- The entry of a block, by its size and its first fault.
use Rattle.std.proofs.Common.{◌≡◌, ◌∙◌, Ok, sym, ap, subst, length, arith}
use Rattle.rr_text.specs.Lines.{text_lines}
use Rattle.rr_text.specs.Entries.{block_fields}
use Rattle.rr_text.specs.Fields.{AreFields}
use Rattle.rr_text.proofs.EntryLemmas.{entry_large, entry_small}
use Rattle.rr_text.proofs.KeptLemmas.{block_kept}
use Rattle.rr_text.proofs.SoundLemmas.{opens_block, some_fields, sound}
use Rattle.rr_text.proofs.entry.read_entry.Goals as goal

pub returns-then-size-gt-SIZE_LIMIT-clause-fault : goal.returns-then-size-gt-SIZE_LIMIT-clause-fault
returns-then-size-gt-SIZE_LIMIT-clause-fault c = λ _. entry_large _ (omega arith)

pub returns-in-Some-clause-fault : goal.returns-in-Some-clause-fault
returns-in-Some-clause-fault c = λ _. entry_small _ _ (omega arith) c.in-Some.ensures

pub kept-requires : goal.kept-requires
kept-requires c =
    let none = sym c.in-None.ensures in
    (block_kept c.args.block.now _ (opens_block (text_lines c.args.block.now) c.requires none) none
    c.in_ok-text-in-None.ensures).1

pub returns-in_ok-text-in-None-clause-found : goal.returns-in_ok-text-in-None-clause-found
returns-in_ok-text-in-None-clause-found c =
    let none = sym c.in-None.ensures in
    let lines = text_lines c.args.block.now in
    let value : c.kept.result ≡ block_fields lines = c.kept.ensures
    ∙ (block_kept c.args.block.now _ (opens_block lines c.requires none) none
    c.in_ok-text-in-None.ensures).0 in (
      omega (arith, ap length value, some_fields lines c.requires none),
      subst AreFields (sym value) (sound c.args.block.now none),
      entry_small _ _ (omega arith) c.in-None.ensures ∙ ap (λ fields. Ok fields) (sym value),
    )
