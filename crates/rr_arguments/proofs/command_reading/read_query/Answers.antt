use Rattle.std.proofs.Common.{◌∙◌, sym, ap}
use Rattle.std.proofs.lemmas.Result.{err_from_is_err_and}
use Rattle.rr_arguments.specs.CommandLine.{query}
use Rattle.rr_arguments.proofs.CommandLines.{joined_texts}
use Rattle.rr_arguments.proofs.command_reading.read_query.Goals as goal

pub returns-in_err-query : goal.returns-in_err-query
returns-in_err-query g c = let p = err_from_is_err_and c.from_residual.result
    c.from_residual.ensures.1 in rw (p.1, p.2) tt

pub returns : goal.returns
returns g c = ap (query c.args.settings.now) (joined_texts g.S.AsStr.text c.args.words.now
    ∙ sym c.in_ok-query.ensures.ok)
