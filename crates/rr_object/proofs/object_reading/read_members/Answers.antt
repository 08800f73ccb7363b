use Rattle.rr_object.proofs.ClassMembers.{as_set_members, other_members}
use Rattle.rr_object.proofs.object_reading.read_members.Goals as goal

pub returns-in-AsSet-clause-good : goal.returns-in-AsSet-clause-good
returns-in-AsSet-clause-good c = rw (as_set_members c.args.class (cc)) c.read_listed.ensures.good

pub returns-in-AsSet-clause-value : goal.returns-in-AsSet-clause-value
returns-in-AsSet-clause-value c = rw (as_set_members c.args.class (cc)) c.read_listed.ensures.value

pub returns-in-AsSet-clause-bad : goal.returns-in-AsSet-clause-bad
returns-in-AsSet-clause-bad c = rw (as_set_members c.args.class (cc)) c.read_listed.ensures.bad

pub returns-in_default-clause-good : goal.returns-in_default-clause-good
returns-in_default-clause-good c = rw (other_members c.args.class c.in_default.not-AsSet)
    c.read_listed-in_default.ensures.good

pub returns-in_default-clause-value : goal.returns-in_default-clause-value
returns-in_default-clause-value c = rw (other_members c.args.class c.in_default.not-AsSet)
    c.read_listed-in_default.ensures.value

pub returns-in_default-clause-bad : goal.returns-in_default-clause-bad
returns-in_default-clause-bad c = rw (other_members c.args.class c.in_default.not-AsSet)
    c.read_listed-in_default.ensures.bad
