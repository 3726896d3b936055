use Rattle.std.proofs.Common.{Option, ℕ, ap, sym, ◌∙◌}
use Rattle.vthread_state.specs.declared.phase.Phase.TheVariants.{Run, Entering}
use Rattle.vthread_state.specs.declared.thread.Status.TheVariants.{Live}
use Rattle.vthread_state.specs.Threads.{Threads, with_status}
use Rattle.program_state.specs.Starting.{begin_phase}
use Rattle.program_state.proofs.StartLaws.{started_lives, status_twice}
use Rattle.program_state.proofs.starting.start_in.Goals as goal

pub set_phase-requires-clause-live : goal.set_phase-requires-clause-live
set_phase-requires-clause-live c = started_lives c.args.threads.now c.start.new.self c.args.u c.requires c.in-Ok.ensures.ok

pub returns : goal.returns
returns c =
    c.set_phase.ensures ∙ ap (λ (ts : Threads). with_status ts c.args.u (Live (Entering c.in-Some.o))) c.in-Ok.ensures.ok
    ∙ status_twice c.args.threads.now c.args.u (Live Run) (Live (Entering c.in-Some.o)) c.requires
    ∙ ap (λ (m : Option ℕ). with_status c.args.threads.now c.args.u (Live (begin_phase m))) (sym c.in-Some.is)
