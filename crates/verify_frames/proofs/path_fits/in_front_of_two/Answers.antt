use Rattle.stack_maps.specs.declared.types.VType.TheVariants as types
use Rattle.verify_frames.proofs.PathFitLaws.{two, two_else_first}
use Rattle.verify_frames.proofs.path_fits.in_front_of_two.Goals as goal

pub returns : goal.returns
returns g c = two (g.L.Lookups.world c.args.w.now) c.args.slots.now c.in-Some.middle.now c.args.t types.Top _ c.in-Some.ensures c.in_front_of_one-2.ensures

pub returns-in_default : goal.returns-in_default
returns-in_default g c = two_else_first (g.L.Lookups.world c.args.w.now) c.args.slots.now c.args.t types.Top c.in_default.ensures
