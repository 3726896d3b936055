use Rattle.std.proofs.Common.{rules, to_z, of_z, ◌∙◌}
use Rattle.std.specs.Int.{w64}
use Rattle.std.proofs.lemmas.Int.{to_z-of_z}
use Rattle.program_state.proofs.TimeRequestLaws.{millis_told}
use Rattle.program_state.proofs.time_requests.tell_millis.Goals as goal

pub returns : goal.returns
returns c w t = millis_told w t c.args.state.now (to_z w64 (of_z w64 c.time_millis.result)) (to_z-of_z w64 c.time_millis.result (search rules) ∙ c.time_millis.ensures)
