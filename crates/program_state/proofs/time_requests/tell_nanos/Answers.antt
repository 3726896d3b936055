use Rattle.std.proofs.Common.{rules, to_z, of_z, ◌∙◌}
use Rattle.std.specs.Int.{w64}
use Rattle.std.proofs.lemmas.Int.{to_z-of_z}
use Rattle.program_state.proofs.TimeRequestLaws.{nanos_told}
use Rattle.program_state.proofs.time_requests.tell_nanos.Goals as goal

pub returns : goal.returns
returns c w t = nanos_told w t c.args.state.now (to_z w64 (of_z w64 c.nano_time.result)) (to_z-of_z w64 c.nano_time.result (search rules) ∙ c.nano_time.ensures)
