use Rattle.std.proofs.Common.{Ok, inl, ap, refl, sym, ◌∙◌}
use Rattle.std.proofs.lemmas.Result.{MatchResult-at_err, MatchResult-at_ok, err_from_is_err_and}
use Rattle.rr_desk.proofs.EntryLists.{fault_stays, first_fault, one_more}
use Rattle.rr_desk.proofs.dump_reading.with_entry.Goals as goal

pub returns-in_err-objects : goal.returns-in_err-objects
returns-in_err-objects c = λ given next at is so.
    let exit = err_from_is_err_and c.from_residual.result c.from_residual.ensures.1 in
    rw (exit.1, exit.2)
    (fault_stays _ given next _ (MatchResult-at_err _ _ _ c.in_err-objects.was so))

pub returns-in_err-object : goal.returns-in_err-object
returns-in_err-object c = λ given next at is so.
    let exit = err_from_is_err_and c.from_residual-in_err-object.result
    c.from_residual-in_err-object.ensures.1 in
    rw (exit.1, exit.2) (first_fault _ c.args.n given next _ _ at
    (MatchResult-at_ok _ _ _ c.in_ok-objects.was so) (c.in_err-object.ensures next is))

pub returns-in_err-with_object : goal.returns-in_err-with_object
returns-in_err-with_object c = λ given next at is so.
    let exit = err_from_is_err_and c.from_residual-in_err-with_object.result
    c.from_residual-in_err-with_object.ensures.1 in
    rw (exit.1, exit.2) (inl refl)

pub returns : goal.returns
returns c = λ given next at is so.
    one_more _ c.args.n given next _ _ at (MatchResult-at_ok _ _ _ c.in_ok-objects.was so)
    (c.in_ok-object.ensures next is) ∙ ap Ok (sym c.in_ok-with_object.ensures)
