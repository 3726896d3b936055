use Rattle.std.proofs.Common.{◌≡◌, length}
use Rattle.type_paths.specs.Paths.{path}
use Rattle.verify_frames.specs.PathFits.{fit_path}
use Rattle.verify_frames.proofs.path_fits.fit_path.Given as goal

abbrev pub invariant-loop-top : goal.invariant-loop-top
invariant-loop-top g l =
    fit_path (g.L.Lookups.world l.w) l.left (path l.paths l.node) ≡ fit_path (g.L.Lookups.world l.w) l.slots (path l.paths l.from)

abbrev pub decreases-loop-top : goal.decreases-loop-top
decreases-loop-top g l = length (path l.paths l.node)
