use Rattle.std.proofs.Common.{◌≡◌, ◌+◌, length}
use Rattle.jvm_utf8.proofs.TextLaws.{IsRead}
use Rattle.jvm_utf8.proofs.decoder.units_by_form.Given as goal

abbrev pub invariant-loop-rest : goal.invariant-loop-rest
invariant-loop-rest g l = record { read : IsRead l.bytes l.units.items l.rest; spent : l.steps + length l.rest ≡ l.fn.steps + length l.bytes }

abbrev pub decreases-loop-rest : goal.decreases-loop-rest
decreases-loop-rest g l = length l.rest
