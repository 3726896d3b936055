use Rattle.std.proofs.Common.{sym, ◌∙◌}
use Rattle.verify_frames.proofs.PathFitLaws.{one_in_front, one_else}
use Rattle.verify_frames.proofs.path_fits.in_front_of_one.Goals as goal

pub returns-then-assignable : goal.returns-then-assignable
returns-then-assignable g c =
    one_in_front (g.L.Lookups.world c.args.w.now) c.args.slots.now c.in-Some.front.now c.in-Some.last.now c.args.t c.in-Some.ensures.cases.0 (sym c.assignable.ensures ∙ c.if-assignable.true)

pub returns-else-assignable : goal.returns-else-assignable
returns-else-assignable g c =
    one_else (g.L.Lookups.world c.args.w.now) c.args.slots.now c.in-Some.front.now c.in-Some.last.now c.args.t c.in-Some.ensures.cases.0 (sym c.assignable.ensures ∙ c.if-assignable.false)
