use Rattle.std.proofs.Common.{◌≡◌, ◌∙◌, rules}
use Rattle.rr_auth.proofs.Knowing.{answer_seen}
use Rattle.rr_auth.proofs.known.Known.answer.Goals as goal

pub returns : goal.returns
returns c = λ r holds.
    let same : c.args.self.now.secrets.items ≡ c.args.secrets.now = search rules in
    answer_seen r c.args.self.now c.args.secrets.now c.args.key.now c.copied.result same
    (c.copied.ensures ∙ c.get.ensures.value) holds
