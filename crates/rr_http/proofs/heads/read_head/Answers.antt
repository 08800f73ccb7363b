use Rattle.std.proofs.Common.{sym, ◌∙◌, subst, take}
use Rattle.rr_http.specs.Wants.{FindsHead}
use Rattle.rr_http.proofs.HeadReading.{head_broken, head_found, line_broken, line_found, no_feed}
use Rattle.rr_http.proofs.HeadReading.{none_in_line, on_err}
use Rattle.rr_http.proofs.heads.read_head.Goals as goal

pub returns-in_err-count-clause-breaks : goal.returns-in_err-count-clause-breaks
returns-in_err-count-clause-breaks g c =
    on_err c.from_residual.result _ (line_broken _ _ _ (c.read_on.auto.buf ∙ c.requires)
    c.in_err-count.ensures.breaks)

pub lone_line-requires : goal.lone_line-requires
lone_line-requires g c = no_feed (take c.in_ok-count.count c.read_on.new.buf)
    (sym c.in_ok-count.ensures.reads.is_place ∙ c.in_default.is)

pub returns-then-not-speaks_http-clause-finds : goal.returns-then-not-speaks_http-clause-finds
returns-then-not-speaks_http-clause-finds g c =
    line_found _ _ _ _ _ _ _ _ (c.read_on.auto.buf ∙ c.requires) c.in-Some.is
    c.in_ok-count.ensures.reads c.in_ok-count.ensures.within
    (sym c.speaks_http.ensures ∙ c.if-not-speaks_http.true) c.query_length.ensures.within
    c.query_length.ensures.value

pub read_on-requires-2-clause-unreached : goal.read_on-requires-2-clause-unreached
read_on-requires-2-clause-unreached g c =
    none_in_line _ _ _ (sym c.in-Some.is ∙ c.in_ok-count.ensures.reads.is_place)

pub returns-in_err-count-2-clause-breaks : goal.returns-in_err-count-2-clause-breaks
returns-in_err-count-2-clause-breaks g c =
    let room = c.read_on.auto.buf ∙ c.requires in
    on_err c.from_residual-in_err-count-2.result _
    (head_broken _ _ _ _ _ _ _ _ _ room (c.read_on-2.auto.buf ∙ room) c.in-Some.is
    c.in_ok-count.ensures.reads
    (sym c.speaks_http.ensures ∙ c.if-not-speaks_http.false) c.in_err-count-2.ensures.breaks)

pub returns-clause-finds : goal.returns-clause-finds
returns-clause-finds g c =
    let room = c.read_on.auto.buf ∙ c.requires in
    subst (λ head. FindsHead (g.R.Reader.told c.args.reader.now)
    (g.R.Reader.told c.read_on-2.new.reader) (take c.in_ok-count-2.count c.read_on-2.new.buf)
    head) (sym c.request_head.ensures)
    (head_found _ _ _ _ _ _ _ _ _ _ _ _ room (c.read_on-2.auto.buf ∙ room) c.in-Some.is
    c.in_ok-count.ensures.reads
    (sym c.speaks_http.ensures ∙ c.if-not-speaks_http.false) c.in_ok-count-2.ensures.reads
    c.in_ok-count-2.ensures.within c.in_ok-count-2.ensures.within)
