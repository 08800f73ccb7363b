use Rattle.rr_commands.proofs.diagnosis.judge_together.Goals as goal

pub returns-in-Ok : goal.returns-in-Ok
returns-in-Ok g c = c.judge_names-trouble.ensures _
