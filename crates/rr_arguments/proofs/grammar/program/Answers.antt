use Rattle.rr_arguments.proofs.grammar.program.Goals as goal

pub returns : goal.returns
returns c =
    let one = c.in_ok-program.ensures _ _ c.in_ok-bare.ensures c.init.ensures in
    let two = c.in_ok-program-2.ensures _ _ one c.submit.ensures in
    let three = c.in_ok-program-3.ensures _ _ two c.query.ensures in
    let four = c.in_ok-program-4.ensures _ _ three c.serve.ensures in
    let five = c.in_ok-program-5.ensures _ _ four c.dump.ensures in
    let six = c.in_ok-program-6.ensures _ _ five c.load.ensures in
    let seven = c.in_ok-program-7.ensures _ _ six c.migrate.ensures in
    c.with-8.ensures _ _ seven c.probe.ensures
