use Rattle.rr_http.proofs.Asides.{dumped, queried, replied}
use Rattle.rr_http.proofs.serving.serve_asked.Goals as goal

pub returns-in-Refused : goal.returns-in-Refused
returns-in-Refused g c =
    let law = g.met.C.Connection in
    rw c.in-Refused.is (replied g.C.Reader g.C.Writer law.read_leaves_writer law.write_leaves_reader
    c.args.desk.now _ c.args.conn.now c.refuse.new.writer _ c.refuse.ensures)

pub returns-in-Query : goal.returns-in-Query
returns-in-Query g c =
    let law = g.met.C.Connection in
    rw c.in-Query.is (queried g.C.Reader g.C.Writer law.read_leaves_writer law.write_leaves_reader
    _ _ _ _ _ c.args.conn.now c.answer_query.new.writer _ c.answer_query.ensures)

pub returns-in-Dump : goal.returns-in-Dump
returns-in-Dump g c =
    let law = g.met.C.Connection in
    rw c.in-Dump.is (dumped g.C.Reader g.C.Writer law.read_leaves_writer law.write_leaves_reader
    c.args.desk.now _ _ c.args.conn.now c.give_dump.new.writer _ c.give_dump.ensures)
