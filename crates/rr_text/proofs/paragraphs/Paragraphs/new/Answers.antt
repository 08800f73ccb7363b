use Rattle.std.proofs.Common.{refl}
use Rattle.rr_text.proofs.ReaderLemmas.{given_none}
use Rattle.rr_text.proofs.paragraphs.Paragraphs.new.Goals as goal

pub returns-clause-given : goal.returns-clause-given
returns-clause-given c = λ start.
    given_none start _ (record { state = refl; no_read = refl; none_held = refl })
