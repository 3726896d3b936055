use Rattle.std.proofs.Common.{◌≡◌, length}
use Rattle.program_files.specs.Linking.{method_text}
use Rattle.program_files.proofs.fault_names.method_text.Given as goal

abbrev pub invariant-loop-file : goal.invariant-loop-file
invariant-loop-file l = method_text l.rest l.index ≡ method_text l.classes l.n

abbrev pub decreases-loop-file : goal.decreases-loop-file
decreases-loop-file l = length l.rest
