-- The place after the line that closes is as far after the first byte held as that line's end.
use Rattle.std.proofs.Common.{◌≡◌, ◌∙◌, ◌++◌, take, drop, sym, ap}
use Rattle.std.proofs.lemmas.List.{drop-drop, take-append-drop}
use Rattle.rr_text.specs.ParagraphReaders.{held}
use Rattle.rr_text.proofs.paragraphs.Paragraphs.take_held.Goals as goal

pub returns-in-Some-clause-closed : goal.returns-in-Some-clause-closed
returns-in-Some-clause-closed c = λ past unclosed closed.
    let text : c.part.result.now ≡ held c.args.self.now = c.part.ensures in
    record {
      prefix = take c.in-Some.taken c.part.result.now;
      cut = sym text ∙ (sym (take-append-drop c.in-Some.taken c.part.result.now)
          ∙ ap (λ t. take c.in-Some.taken c.part.result.now ++ t) (ap (drop c.in-Some.taken) text
          ∙ drop-drop c.in-Some.taken c.args.self.now.from
          (take c.args.self.now.to c.args.self.now.block)));
      closed = c.in-Some.ensures.adds past unclosed;
    }
