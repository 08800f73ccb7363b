use Rattle.std.proofs.Common.{sym, ◌∙◌}
use Rattle.rr_object.proofs.Parsed.{obj_read}
use Rattle.rr_object.proofs.object.read_said.Goals as goal

pub returns-clause-ok : goal.returns-clause-ok
returns-clause-ok c =
    obj_read c.args.paragraph.now c.args.key.now _ _ _ _ _ _ _ c.requires
    (rw (← c.class-class.ensures) (sym c.in_ok-is_miscounted.ensures ∙ c.if-branch.false))
    c.in_ok-source.ensures.good
    (rw (← c.class-class.ensures) c.in_ok-authority.ensures.good)
    (rw (← c.class-class.ensures) c.in_ok-membership.ensures.good)
    (rw (← c.class-class.ensures) c.in_ok-authority.ensures.value.maintainers)
    (rw (← c.class-class.ensures) c.in_ok-authority.ensures.value.lower)
    (rw (← c.class-class.ensures) c.in_ok-authority.ensures.value.routes)
    (rw (← c.class-class.ensures) c.in_ok-authority.ensures.value.auths)
    (rw (← c.class-class.ensures) c.in_ok-membership.ensures.value.members)
    (rw (← c.class-class.ensures) c.in_ok-membership.ensures.value.by_ref)
    (rw (← c.class-class.ensures) c.in_ok-membership.ensures.value.member_of)
