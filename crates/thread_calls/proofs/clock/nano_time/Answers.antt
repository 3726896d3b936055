use Rattle.std.proofs.Common.{rules, ◌∙◌}
use Rattle.std.specs.Int.{w64}
use Rattle.std.proofs.lemmas.Int.{to_z-of_z}
use Rattle.thread_calls.proofs.TimeLaws.{nanos_are}
use Rattle.thread_calls.proofs.clock.nano_time.Goals as goal

pub returns : goal.returns
returns c = to_z-of_z w64 c.cast_signed.result (search rules) ∙ c.cast_signed.ensures ∙ nanos_are c.args.now c.ranges.now.fits
