use Rattle.rr_http.proofs.Asides.{answered, replied}
use Rattle.rr_http.proofs.ServingLemmas.{http_served, refusal_served, whois_served}
use Rattle.rr_http.proofs.serving.serve_head.Goals as goal

pub returns-in-Whois : goal.returns-in-Whois
returns-in-Whois g c =
    let law = g.met.C.Connection in
    let told = answered g.C.Reader g.C.Writer law.read_leaves_writer law.write_leaves_reader _ _ _ _
    c.args.conn.now c.write_answer.new.writer _ c.write_answer.ensures in
    whois_served _ _ _ _ _ _ (rw c.in-Whois.is at c.requires.head) told.0 told.1

pub returns-in-Http : goal.returns-in-Http
returns-in-Http g c =
    http_served _ _ _ _ _ _ _ (rw c.in-Http.is at c.requires.head)
    c.read_request-asked.ensures.asks c.serve_asked.ensures

pub returns-in-Refused : goal.returns-in-Refused
returns-in-Refused g c =
    let law = g.met.C.Connection in
    let told = replied g.C.Reader g.C.Writer law.read_leaves_writer law.write_leaves_reader
    c.args.desk.now _ c.args.conn.now c.refuse.new.writer _ c.refuse.ensures in
    refusal_served _ _ _ _ _ _ (rw c.in-Refused.is at c.requires.head) told.0 told.1
