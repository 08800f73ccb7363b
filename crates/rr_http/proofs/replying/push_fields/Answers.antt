use Rattle.std.proofs.Common.{◌∙◌, ◌++◌, ap}
use Rattle.std.specs.Prelude.{codes, decimal}
use Rattle.rr_http.specs.Replies.{allow_line}
use Rattle.rr_http.proofs.ReplyLemmas.{five_joined}
use Rattle.rr_http.proofs.replying.push_fields.Goals as goal

pub returns-clause-value : goal.returns-clause-value
returns-clause-value c =
    let number = c.push_number.ensures.value ∙ ap (λ n. c.push.new.self ++ decimal n)
    c.body_length.ensures in
    let allow = c.push-3.ensures.value ∙ ap (λ line. c.push-2.new.self ++ line)
    (c.as_bytes.ensures.value ∙ c.allow_line.ensures) in
    five_joined c.args.reply.now (codes "\r\nContent-Type: text/plain\r\nContent-Length: ") _
    (codes "\r\nConnection: close\r\n") (allow_line c.args.refusal) (codes "\r\n")
    _ _ _ _ _ c.push.ensures.value number c.push-2.ensures.value allow c.push-4.ensures.value
