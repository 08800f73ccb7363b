use Rattle.std.proofs.Common.{◌∙◌, ap, sym}
use Rattle.std.proofs.lemmas.Result.{IfOk-weaker}
use Rattle.rr_object.specs.declared.key.Key.TheVariants.{AsBlock}
use Rattle.rr_registry.proofs.Rising.{block_passed, inetnum_passed, rest_passed}
use Rattle.rr_registry.proofs.key_order.GoneOver.go_over.Goals as goal

pub returns-in-Inetnum : goal.returns-in-Inetnum
returns-in-Inetnum c =
    IfOk-weaker c.go_over.result _ _ (λ free told os o own rise held is.
    inetnum_passed os o c.args.self.now.inetnums c.args.self.now.blocks held c.in-Inetnum.span
    c.go_over.new.self (own ∙ c.in-Inetnum.is) rise
    (λ gone more passed rises joined. told gone more passed rises joined is)) c.go_over.ensures

pub returns-in-AsBlock : goal.returns-in-AsBlock
returns-in-AsBlock c =
    IfOk-weaker c.go_over-in-AsBlock.result _ _ (λ free told os o own rise held is.
    block_passed os o c.args.self.now.inetnums c.args.self.now.blocks held c.span.result
    c.go_over-in-AsBlock.new.self (own ∙ c.in-AsBlock.is ∙ ap AsBlock (sym c.span.ensures.value))
    rise
    (λ gone more passed rises joined. told gone more passed rises joined is))
    c.go_over-in-AsBlock.ensures

pub returns-in_default : goal.returns-in_default
returns-in_default c = λ os o own rise held is. rest_passed os o c.args.self.now.inetnums
    c.args.self.now.blocks held c.args.key.now own c.in_default.not-Inetnum c.in_default.not-AsBlock
