use Rattle.std.proofs.Common.{refl}
use Rattle.program_state.specs.declared.state.ProgramState.{ProgramState}
use Rattle.machine.proofs.BeginLaws.{first_is}
use Rattle.machine.proofs.begin.first_state.Goals as goal

pub returns-clause-state : goal.returns-clause-state
returns-clause-state c =
    let a : ProgramState = record {
      memory = c.first_memory.result;
      threads = c.in_ok-first_threads.field-0;
      frozen = c.in_ok-first_frozen.field-0;
      wakes = c.in_ok-first_wakes.field-0;
      monitors = c.in_ok-first_monitors.field-0;
      wheel = c.in_ok-new.field-0;
      keys = c.in_ok-first_keys.field-0;
      time = 0;
      most_threads = c.args.limits.threads;
      unnamed = 0;
    } in
    first_is a c.args.limits c.args.opened c.in_ok-first_frozen.ensures c.requires c.first_memory.ensures.status c.first_memory.ensures.memory
    c.first_memory.ensures.main c.in_ok-first_threads.ensures c.in_ok-first_wakes.ensures c.in_ok-first_monitors.ensures c.in_ok-new.ensures c.in_ok-first_keys.ensures refl refl refl

pub returns-clause-monitors : goal.returns-clause-monitors
returns-clause-monitors c = c.in_ok-first_monitors.ensures
