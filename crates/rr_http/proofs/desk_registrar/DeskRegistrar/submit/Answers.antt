use Rattle.rr_http.proofs.DeskLemmas.{submits_whole, unless_always}
use Rattle.rr_http.proofs.desk_registrar.DeskRegistrar.submit.Goals as goal

pub returns-clause-submits : goal.returns-clause-submits
returns-clause-submits g c = λ running. submits_whole g.S.Store _ _ _ _ _
    (c.submit.ensures.submits running)

pub returns-clause-leaves : goal.returns-clause-leaves
returns-clause-leaves g c = λ running. record {
  running = c.submit.ensures.leaves.runs_on running;
  kept = unless_always _ _ c.submit.ensures.leaves.rows;
  leaves = record {
    lasts = c.submit.ensures.leaves.lasts;
    same_settings = c.submit.ensures.leaves.settings;
  };
  of_source = c.submit.ensures.leaves.of_source;
}
