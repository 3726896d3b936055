use Rattle.std.proofs.Common.{ap, sym, subst, ◌∙◌}
use Rattle.thread_lists.specs.Lists.{Lists}
use Rattle.machine.specs.declared.made.Others.{Others}
use Rattle.machine.specs.Puts.{HasPut}
use Rattle.machine.proofs.PutFacts.{put_freed, put_nobody, put_started}
use Rattle.machine.proofs.puts.put_by_step.Goals as goal

pub returns-then-is_quiet-clause-put : goal.returns-then-is_quiet-clause-put
returns-then-is_quiet-clause-put c =
    put_nobody c.args.state.now c.args.t c.args.c c.args.others c.args.deques.now.lists (sym c.is_quiet.ensures ∙ c.if-is_quiet.true) c.requires.goes

pub returns-in-Starts-clause-put : goal.returns-in-Starts-clause-put
returns-in-Starts-clause-put c =
    let old = c.args.deques.now.lists in
    let new = c.put.new.self.lists in
    subst (λ (o : Others). HasPut c.args.state.now c.args.t o c.args.c old new) (sym c.in-Starts.is)
    (put_started c.args.state.now c.args.t c.args.c c.in-Starts.u old new c.requires.goes (ap (λ (d : Lists). d.lists) c.put.ensures))

pub returns-in-Frees-clause-put : goal.returns-in-Frees-clause-put
returns-in-Frees-clause-put c =
    let old = c.args.deques.now.lists in
    let new = c.put_first.new.deques.lists in
    subst (λ (o : Others). HasPut c.args.state.now c.args.t o c.args.c old new) (sym c.in-Frees.is)
    (put_freed c.args.state.now c.args.t c.args.c c.in-Frees.first old new c.requires.goes c.put_first.ensures.lists)
