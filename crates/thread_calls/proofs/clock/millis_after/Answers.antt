use Rattle.std.proofs.Common.{ℕ, ℤ, ◌*◌, ap, ◌∙◌}
use Rattle.std.specs.Int.{w64}
use Rattle.std.proofs.lemmas.Int.{to_z-of_z}
use Rattle.ref_model.specs.Waiting.{deadline_after, millis_after, nanos_in_milli}
use Rattle.thread_calls.proofs.TimeLaws.{millis_are}
use Rattle.thread_calls.proofs.clock.millis_after.Goals as goal

pub returns : goal.returns
returns c =
    millis_are c.args.now c.unsigned_abs.result c.saturating_mul-nanos.result c.saturating_add.result c.saturating_mul-nanos.ensures c.saturating_add.ensures
    ∙ ap (λ (n : ℕ). deadline_after c.args.now (n * nanos_in_milli)) c.unsigned_abs.ensures.value
    ∙ ap (λ (z : ℤ). millis_after c.args.now z) (to_z-of_z w64 c.args.millis c.ranges.millis)
