use Rattle.std.proofs.Common.{rules}
use Rattle.rr_http.proofs.HeadLemmas.{head_found, head_passed, head_none}
use Rattle.rr_http.proofs.heads.head_length.Goals as goal

pub returns-then-end-gt0-clause-value : goal.returns-then-end-gt0-clause-value
returns-then-end-gt0-clause-value c =
    head_found _ _ _ _ _ _ c.bytes.invariant.value c.in-Some.ensures.cases.0 c.if-first-eq10.true
    c.line_end-end.ensures.value c.if-end-gt0.true

pub bytes-preserved : goal.bytes-preserved
bytes-preserved c = record {
  place = search rules;
  value = head_passed _ _ _ _ _ _ c.bytes.invariant.value c.in-Some.ensures.cases.0
      c.line_end-end.ensures.value c.else-first-eq10.either;
}

pub returns-clause-value : goal.returns-clause-value
returns-clause-value c = head_none _ _ _ c.bytes.invariant.value c.in_default.ensures.cases
