use Rattle.std.proofs.Common.{◌∙◌, ◌++◌, ap}
use Rattle.http.specs.StatusCode.{code_digits}
use Rattle.rr_http.proofs.ReplyLemmas.{words_joined}
use Rattle.rr_http.proofs.replying.push_words.Goals as goal

pub returns-clause-value : goal.returns-clause-value
returns-clause-value c =
    words_joined c.args.refusal c.args.reply.now _ _ _
    (c.push.ensures.value ∙ ap (λ xs. c.args.reply.now ++ xs)
    (c.as_bytes.ensures.value ∙ (c.as_str.ensures ∙ ap code_digits c.status.ensures)))
    c.push-2.ensures.value
    (c.push-3.ensures.value ∙ ap (λ xs. c.push-2.new.self ++ xs)
    (c.as_bytes-2.ensures.value ∙ c.reason.ensures))
