use Rattle.std.proofs.Common.{inl, inr, refl, sym, ◌∙◌}
use Rattle.rr_http.proofs.Asides.{replied, taken_in}
use Rattle.rr_http.proofs.serving.serve_submission.Goals as goal

pub returns-then-stopped : goal.returns-then-stopped
returns-then-stopped g c =
    let law = g.met.C.Connection in
    let told = replied g.C.Reader g.C.Writer law.read_leaves_writer law.write_leaves_reader
    c.args.desk.now _ c.args.conn.now c.refuse.new.writer _ c.refuse.ensures in
    inl (inl (record {
      stopped = sym c.stopped.ensures ∙ c.if-stopped.true;
      unread = told.0.unread;
      unavailable = record { replies = told.1; same = refl };
    }))

pub returns-in-Ok : goal.returns-in-Ok
returns-in-Ok g c =
    let law = g.met.C.Connection in
    rw c.end_by.ensures (inr (taken_in g.C.Reader g.C.Writer law.read_leaves_writer
    law.write_leaves_reader g.D.Registrar _ _ _ _ _ _ c.args.conn.now c.read_body.new.reader
    c.submit_read-failed.new.writer _ (sym c.stopped.ensures ∙ c.if-stopped.false)
    c.in-Ok.ensures.reads (rw c.deref.ensures.value at (c.submit_read-failed.ensures c.in-Ok.end))))

pub returns-in-Err : goal.returns-in-Err
returns-in-Err g c =
    let law = g.met.C.Connection in
    let told = replied g.C.Reader g.C.Writer law.read_leaves_writer law.write_leaves_reader
    c.args.desk.now _ c.args.conn.now c.refuse-in-Err.new.writer _
    (rw c.in-Err.ensures.unread at c.refuse-in-Err.ensures) in
    inl (inr (record {
      running = sym c.stopped.ensures ∙ c.if-stopped.false;
      some = c.in-Err.ensures.some;
      unread = told.0.unread;
      unavailable = record { replies = told.1; same = refl };
    }))
