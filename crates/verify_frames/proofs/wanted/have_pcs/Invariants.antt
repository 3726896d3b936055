-- So it is of the rows up to this one.
use Rattle.std.proofs.Common.{ℕ, ◌<◌, get_or}
use Rattle.class_model.specs.declared.attribute.Row.{Row}
use Rattle.verify_frames.specs.Wanted.{HasPcs}
use Rattle.verify_frames.proofs.wanted.have_pcs.Given as goal

abbrev pub invariant-loop-row : goal.invariant-loop-row
invariant-loop-row l = (k : ℕ) (d : Row) → k < l.row-index → HasPcs l.sets l.nodes l.entries (get_or l.rows k d)
