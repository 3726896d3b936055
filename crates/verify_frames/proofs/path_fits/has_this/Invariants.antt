use Rattle.std.proofs.Common.{◌≡◌, length}
use Rattle.std.specs.List.{list_any}
use Rattle.type_paths.specs.Paths.{path}
use Rattle.verify_frames.specs.PathFits.{is_this_item}
use Rattle.verify_frames.proofs.path_fits.has_this.Given as goal

abbrev pub invariant-loop-top : goal.invariant-loop-top
invariant-loop-top l = list_any is_this_item (path l.paths l.node) ≡ list_any is_this_item (path l.paths l.from)

abbrev pub decreases-loop-top : goal.decreases-loop-top
decreases-loop-top l = length (path l.paths l.node)
