use Rattle.std.proofs.Common.{sym, subst}
use Rattle.std.specs.Prelude.{IfErr, IfOk, Ok, Err, ◌≢◌}
use Rattle.rr_auth.specs.Registries.{Reg}
use Rattle.rr_answer.specs.declared.query_fault.QueryFault.TheVariants.{Memory}
use Rattle.rr_answer.specs.declared.query.Query.{Query}
use Rattle.rr_answer.specs.Answers.{IsAnswer, IsRangeAnswer}
use Rattle.rr_answer.specs.Founds.{found_text}
use Rattle.rr_answer.proofs.answering.find.Goals as goal

pub returns-in-Prefixes-clause-ok : goal.returns-in-Prefixes-clause-ok
returns-in-Prefixes-clause-ok g c =
    subst (λ (q : Query). IfOk c.ranges-in-Prefixes.result (λ found. IsAnswer c.args.registry.now
    c.args.limit q (Ok (found_text found)))) (sym c.in-Prefixes.is)
    (subst (λ (r : Reg). IfOk c.ranges-in-Prefixes.result (λ found. IsRangeAnswer r c.args.limit
    c.in-Prefixes.name (Ok (found_text found))))
    c.book-in-Prefixes.ensures.same c.ranges-in-Prefixes.ensures.ok)

pub returns-in-Prefixes-clause-fault : goal.returns-in-Prefixes-clause-fault
returns-in-Prefixes-clause-fault g c =
    subst (λ (q : Query). IfErr c.ranges-in-Prefixes.result (λ fault. fault ≢ Memory →
    IsAnswer c.args.registry.now c.args.limit q (Err fault))) (sym c.in-Prefixes.is)
    (subst (λ (r : Reg). IfErr c.ranges-in-Prefixes.result (λ fault. fault ≢ Memory →
    IsRangeAnswer r c.args.limit c.in-Prefixes.name (Err fault)))
    c.book-in-Prefixes.ensures.same c.ranges-in-Prefixes.ensures.fault)
