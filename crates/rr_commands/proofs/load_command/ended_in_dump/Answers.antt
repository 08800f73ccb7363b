use Rattle.std.proofs.Common.{inl, inr}
use Rattle.rr_commands.proofs.FileLemmas.{of_err}
use Rattle.rr_commands.proofs.PlaceLemmas.{paragraph-place}
use Rattle.rr_commands.proofs.load_command.ended_in_dump.Goals as goal

pub returns-in-Some-clause-about : goal.returns-in-Some-clause-about
returns-in-Some-clause-about g c =
    let fault = c.about_paragraph.ensures in
    let of_file = paragraph-place c.in-Err.trouble c.in-Some.number (cc) in
    inr (rw fault.trouble of_file, fault.shows)

pub returns-in-None-clause-about : goal.returns-in-None-clause-about
returns-in-None-clause-about g c =
    of_err c.ended.result _ _ c.ended.ensures.about (λ fault about. inl about)
