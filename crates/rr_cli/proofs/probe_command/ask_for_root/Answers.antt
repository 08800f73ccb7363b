use Rattle.std.proofs.Common.{Err, IfErr, Ok, Result, inr, rules}
use Rattle.rr_cli.proofs.probe_command.ask_for_root.Goals as goal

-- what holds of an error, and so of another fact of it
of_err : {T E : Type 0} (Q R : E → Type 0) (r : Result T E) → IfErr r Q
    → ((e : E) → Q e → R e) → IfErr r R
of_err Q R (Ok x) q says = tt
of_err Q R (Err e) q says = says e q

pub returns-in-Ok-ask-clause-unread : goal.returns-in-Ok-ask-clause-unread
returns-in-Ok-ask-clause-unread g c =
    of_err _ _ c.serve_asked.result c.serve_asked.ensures.unread
    (λ trouble fails. inr (record {
      tally = _;
      listened = c.in-Ok.ensures.listens;
      fails = inr (record {
        given = g.N.Peer.Read.remaining c.in-Ok-ask.peer;
        asked = search rules;
        fails = fails;
      });
    }))
