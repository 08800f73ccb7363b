use Rattle.std.proofs.Common.{inl}
use Rattle.rr_http.proofs.Asides.{broken, head_read}
use Rattle.rr_http.proofs.LeavingLemmas.{still_leaves, wants_leave}
use Rattle.rr_http.proofs.serving.serve_one.Goals as goal

pub returns-in-Ok-clause-serves : goal.returns-in-Ok-clause-serves
returns-in-Ok-clause-serves g c =
    let law = g.met.C.Connection in
    head_read g.C.Reader g.C.Writer law.read_leaves_writer law.write_leaves_reader g.D.Registrar _
    _ _ _
    c.args.conn.now c.read_head.new.reader c.serve_head.new.conn _ c.in-Ok.ensures.finds.1
    c.serve_head.ensures

pub returns-in-Err-clause-serves : goal.returns-in-Err-clause-serves
returns-in-Err-clause-serves g c =
    let law = g.met.C.Connection in
    inl (broken g.C.Reader g.C.Writer law.read_leaves_writer law.write_leaves_reader _
    c.args.conn.now
    c.read_head.new.reader c.in-Err.ensures.breaks)

pub returns-in-Ok-clause-leaves : goal.returns-in-Ok-clause-leaves
returns-in-Ok-clause-leaves g c =
    let law = g.met.D.Registrar in
    wants_leave g.D.Registrar law.lasts_still law.answer_leaves _ _ _ _ _
    c.serve_head.ensures.serves

pub returns-in-Err-clause-leaves : goal.returns-in-Err-clause-leaves
returns-in-Err-clause-leaves g c = still_leaves g.D.Registrar g.met.D.Registrar.lasts_still
    c.args.desk.now
