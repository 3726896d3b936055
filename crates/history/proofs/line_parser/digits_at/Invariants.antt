use Rattle.std.proofs.Common.{◌≡◌, ◌≤◌, length}
use Rattle.history.specs.Parsing.{digits_from}
use Rattle.history.proofs.line_parser.digits_at.Given as goal

abbrev pub invariant-loop-digit : goal.invariant-loop-digit
invariant-loop-digit l = (digits_from l.most l.number l.rest ≡ digits_from l.most 0 l.bytes) × (l.number ≤ l.most)

abbrev pub decreases-loop-digit : goal.decreases-loop-digit
decreases-loop-digit l = length l.rest
