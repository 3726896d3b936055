use Rattle.std.proofs.Common.{◌∙◌, sym, subst}
use Rattle.carrier.specs.Runs.{IsTimed}
use Rattle.carrier.proofs.PostLaws.{clock_of}
use Rattle.carrier.proofs.ThreadLaws.{as_many, clock_is, all_new}
use Rattle.carrier.proofs.program_run.run_machine.Goals as goal

pub new_posts-requires-clause-seats : goal.new_posts-requires-clause-seats
new_posts-requires-clause-seats g c =
    all_new c.in_ok-lock.lock.initial c.in_ok-timed.timed c.args.machine c.args.clock.now c.in_ok-lock.ensures.initial c.in_ok-timed.ensures c.in_ok-lock.lock.id c.carriers-carriers.result
    c.in_ok-lock.seats.items c.in_ok-lock.ensures.seats c.carriers-carriers.ensures

pub close-requires-clause-count : goal.close-requires-clause-count
close-requires-clause-count g c =
    c.in_ok-seats.ensures.count ∙ c.in_ok-posts.ensures.count ∙ as_many c.in_ok-lock.lock.id c.carriers-carriers.result c.in_ok-lock.seats.items c.in_ok-lock.ensures.seats
    ∙ sym c.in_ok-lock.ensures.count

pub returns-clause-timed : goal.returns-clause-timed
returns-clause-timed g c =
    subst (λ k. IsTimed (g.C.Clock.gives k) c.into_machine.result)
    (clock_of c.close.result c.in_ok-lock.lock.initial c.close.ensures.setting
    ∙ clock_is c.in_ok-lock.lock.initial c.in_ok-timed.timed c.args.machine c.args.clock.now c.in_ok-lock.ensures.initial c.in_ok-timed.ensures) c.into_machine.ensures.timed
