use Rattle.std.proofs.Common.{◌<◌, arith}
use Rattle.ref_run.specs.States.{state_of}
use Rattle.ref_run.proofs.EntryLaws.{tick_made}
use Rattle.ref_run.proofs.entries.tick.Goals as goal

pub returns-clause-typed : goal.returns-clause-typed
returns-clause-typed c =
    let later : c.args.state.now.time < c.args.now = omega arith in
    c.time_keeps.ensures c.args.program.now (state_of c.args.state.now) (state_of c.pass_time.new.state) c.args.now c.requires.typed
    (tick_made (state_of c.args.state.now) (state_of c.pass_time.new.state) c.args.now later c.pass_time.ensures)
