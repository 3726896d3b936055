use Rattle.std.proofs.Common.{◌≡◌, ◌++◌}
use Rattle.link_resolution.proofs.classes.joined.Given as goal

abbrev pub invariant-loop-file : goal.invariant-loop-file
invariant-loop-file l = l.all.items ≡ l.fn.front.items ++ l.yielded
