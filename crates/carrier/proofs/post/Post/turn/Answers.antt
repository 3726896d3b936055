use Rattle.carrier.specs.Shared.{shared_run}
use Rattle.std.proofs.Common.{◌∙◌}
use Rattle.carrier.proofs.PostLaws.{is_post, ready_program}
use Rattle.carrier.proofs.post.Post.turn.Goals as goal

pub do_asked-requires-clause-ready : goal.do_asked-requires-clause-ready
do_asked-requires-clause-ready g c =
    ready_program (shared_run g.C.Clock.gives c.args.lock.now) c.args.program.now c.turn_in_lock-answer.new.seat.number c.turn_in_lock-answer.new.seat.seen c.turn_in_lock-answer.new.hand
    c.turn_in_lock-answer.result.0 c.turn_in_lock-answer.ensures.turned c.requires.program

pub returns-clause-post : goal.returns-clause-post
returns-clause-post g c =
    is_post (shared_run g.C.Clock.gives c.args.lock.now) c.args.program.now _ c.turn_in_lock-answer.new.hand c.turn_in_lock-answer.result.0 (c.turn_in_lock-answer.ensures.lock ∙ c.requires.post.idle.this)
    c.turn_in_lock-answer.ensures.idle c.turn_in_lock-answer.ensures.turned c.turn_in_lock-answer.ensures.met c.requires.program c.do_asked.ensures.fits c.do_asked.ensures.done c.turn_in_lock-answer.ensures.over
