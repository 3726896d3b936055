use Rattle.std.proofs.Common.{ap, refl, subst, sym, ◌∙◌}
use Rattle.vthread_state.specs.declared.phase.Phase.TheVariants.{Run}
use Rattle.program_state.specs.declared.requests.RequestOutcome.{RequestOutcome}
use Rattle.program_state.specs.Requests.{IsRequestMade}
use Rattle.ref_model.specs.State.{is_interrupted}
use Rattle.machine.specs.declared.made.Others.TheVariants as moves
use Rattle.machine.proofs.MoveLaws.{lacks_room, moves_by, pending_yields}
use Rattle.machine.proofs.moves.request_move.Goals as goal

pub returns-in-Done-clause-made : goal.returns-in-Done-clause-made
returns-in-Done-clause-made c =
    let w = c.args.program.now in
    let m = c.args.mounted.now in
    let n = c.make_request.new.mounted in
    let old = c.args.state.now in
    let new = c.make_request.new.state in
    let steps = subst (λ (o : RequestOutcome). IsRequestMade w c.args.pending o old m new n) c.in-Done.is c.in_ok-make_request.ensures.made in
    moves_by w (record { others = moves.Quiet; yields = c.is_yield-yields.result }) m.thread Run old new m.stack.frames n.stack.frames c.requires.runs refl
    c.in_ok-make_request.ensures.lists steps
    (λ r out is h.
    pending_yields w c.args.pending old r out m.thread m.stack.frames c.is_interrupted-interrupted.result is h c.requires.asks
    (c.is_interrupted-interrupted.ensures r out is ∙ ap (is_interrupted r) c.thread.ensures) ∙ sym c.is_yield-yields.ensures)

pub returns-in-Starts-clause-made : goal.returns-in-Starts-clause-made
returns-in-Starts-clause-made c =
    let w = c.args.program.now in
    let m = c.args.mounted.now in
    let n = c.make_request.new.mounted in
    let old = c.args.state.now in
    let new = c.make_request.new.state in
    let steps = subst (λ (o : RequestOutcome). IsRequestMade w c.args.pending o old m new n) c.in-Starts.is c.in_ok-make_request.ensures.made in
    moves_by w (record { others = moves.Starts c.in-Starts.thread; yields = c.is_yield-yields.result }) m.thread Run old new m.stack.frames n.stack.frames c.requires.runs refl
    c.in_ok-make_request.ensures.lists steps
    (λ r out is h.
    pending_yields w c.args.pending old r out m.thread m.stack.frames c.is_interrupted-interrupted.result is h c.requires.asks
    (c.is_interrupted-interrupted.ensures r out is ∙ ap (is_interrupted r) c.thread.ensures) ∙ sym c.is_yield-yields.ensures)

pub returns-in-Wakes-clause-made : goal.returns-in-Wakes-clause-made
returns-in-Wakes-clause-made c =
    let w = c.args.program.now in
    let m = c.args.mounted.now in
    let n = c.make_request.new.mounted in
    let old = c.args.state.now in
    let new = c.make_request.new.state in
    let steps = subst (λ (o : RequestOutcome). IsRequestMade w c.args.pending o old m new n) c.in-Wakes.is c.in_ok-make_request.ensures.made in
    moves_by w (record { others = moves.Wakes c.in-Wakes.thread; yields = c.is_yield-yields.result }) m.thread Run old new m.stack.frames n.stack.frames c.requires.runs refl
    c.in_ok-make_request.ensures.lists steps
    (λ r out is h.
    pending_yields w c.args.pending old r out m.thread m.stack.frames c.is_interrupted-interrupted.result is h c.requires.asks
    (c.is_interrupted-interrupted.ensures r out is ∙ ap (is_interrupted r) c.thread.ensures) ∙ sym c.is_yield-yields.ensures)

pub returns-in-LacksThreads-clause-made : goal.returns-in-LacksThreads-clause-made
returns-in-LacksThreads-clause-made c =
    let w = c.args.program.now in
    let m = c.args.mounted.now in
    let n = c.make_request.new.mounted in
    let old = c.args.state.now in
    let new = c.make_request.new.state in
    lacks_room w c.args.pending m.thread old new m n c.requires.runs c.requires.asks
    (subst (λ (o : RequestOutcome). IsRequestMade w c.args.pending o old m new n) c.in-LacksThreads.is c.in_ok-make_request.ensures.made)
