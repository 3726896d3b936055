use Rattle.std.proofs.Common.{Err, arith, sym, subst}
use Rattle.ref_run.specs.declared.replaying.ReplayError.{ReplayError}
use Rattle.ref_run.specs.Replays.{IsRunOf}
use Rattle.ref_run.specs.States.{state_of}
use Rattle.ref_run.proofs.ReplayLaws.{replay_begins, replay_ends, replay_errs, replay_goes}
use Rattle.ref_run.proofs.replaying.run_list.Goals as goal

pub loop-i-init : goal.loop-i-init
loop-i-init c =
    record {
      runs = λ p world begins. replay_begins p c.args.list.now (state_of c.args.state.now) begins;
      typed = c.requires.typed;
      selected = c.in_ok-cache.ensures c.args.program.now;
    }

pub loop-i-preserved : goal.loop-i-preserved
loop-i-preserved c =
    let list = c.args.list.now in
    record {
      runs = λ p world begins. replay_goes p c.args.program.now list c.loop-i.i _ (state_of c.loop-i.state) (state_of c.make_entry.new.state) world
          c.loop-i-test.true (c.loop-i.invariant.runs p world begins) c.in-Ok.ensures.entry;
      typed = c.in-Ok.ensures.typed;
      selected = c.make_entry.ensures.cache;
    }

pub returns-in-Err : goal.returns-in-Err
returns-in-Err c = λ p world begins.
    let list = c.args.list.now in
    subst (λ (x : ReplayError). IsRunOf p list (Err x) c.make_entry.new.state) (sym c.stop_at.ensures)
    (replay_errs p c.args.program.now list c.loop-i.i _ (state_of c.loop-i.state) c.in-Err.fault c.make_entry.new.state c.make_entry.new.state world c.loop-i-test.true
    (c.loop-i.invariant.runs p world begins) c.in-Err.ensures.entry)

pub returns : goal.returns
returns c = λ p world begins. replay_ends p c.args.list.now c.loop-i.i (state_of c.loop-i.state) (omega arith) (c.loop-i.invariant.runs p world begins)
