use Rattle.rr_http.proofs.BodyLemmas.{body_submitted}
use Rattle.rr_http.proofs.answering.submit_body.Goals as goal

pub returns-clause-submits : goal.returns-clause-submits
returns-clause-submits g c =
    body_submitted _ _ _ _ _ _ _ _ _ c.new-body.result c.submit.new.reader c.requires.small
    c.new-body.ensures.rest c.new-body.ensures.missing c.new-body.ensures.failed
    c.new-body.ensures.reads (c.submit.ensures.submits c.requires.running)

pub returns-clause-leaves : goal.returns-clause-leaves
returns-clause-leaves g c = c.submit.ensures.leaves c.requires.running
