use Rattle.native_methods.proofs.answers.on_reference.Goals as goal

pub returns-in-ObjectWait-clause-answer : goal.returns-in-ObjectWait-clause-answer
returns-in-ObjectWait-clause-answer g c = c.monitor_asked.ensures (g.W.EventWorld.world c.args.world.now) c.args.state.now

pub returns-in-ThreadStart-clause-answer : goal.returns-in-ThreadStart-clause-answer
returns-in-ThreadStart-clause-answer g c = c.thread_asked.ensures (g.W.EventWorld.world c.args.world.now)
