use Rattle.std.proofs.Common.{◌≡◌, ◌==◌, ℤ, Bool, true, false, Some, FitsSigned, to_z, of_z, ap, subst, sym, ◌∙◌}
use Rattle.std.specs.Prelude.{unsigned_abs}
use Rattle.std.specs.Int.{w64}
use Rattle.std.proofs.lemmas.Int.{to_z-of_z}
use Rattle.ref_model.specs.Waiting.{is_negative, millis_after}
use Rattle.program_state.specs.Waking.{IsInterruptTaken}
use Rattle.program_state.proofs.WaitRequestLaws.{sleep_goes, sleep_interrupted, sleep_throws, sleep_waits}
use Rattle.program_state.proofs.wait_requests.sleep.Goals as goal

negative : (millis : ℤ) (told b : Bool) → FitsSigned w64 millis → told ≡ is_negative (Some (to_z w64 (of_z w64 millis))) → told ≡ b → is_negative (Some millis) ≡ b
negative millis told b fits is e = ap (λ (z : ℤ). is_negative (Some z)) (sym (to_z-of_z w64 millis fits)) ∙ sym is ∙ e

zero : (millis : ℤ) (told b : Bool) → FitsSigned w64 millis → told ≡ (unsigned_abs (to_z w64 (of_z w64 millis)) == 0) → told ≡ b → (unsigned_abs millis == 0) ≡ b
zero millis told b fits is e = ap (λ (z : ℤ). unsigned_abs z == 0) (sym (to_z-of_z w64 millis fits)) ∙ sym is ∙ e

pub returns-then-is_negative-clause-answers : goal.returns-then-is_negative-clause-answers
returns-then-is_negative-clause-answers c w = sleep_throws w c.args.t c.args.state.now c.args.millis (negative c.args.millis c.is_negative.result true c.ranges.millis c.is_negative.ensures c.if-is_negative.true)

pub returns-then-interrupted-clause-answers : goal.returns-then-interrupted-clause-answers
returns-then-interrupted-clause-answers c w =
    sleep_interrupted w c.args.t c.args.state.now c.take_interrupt.new.wakes c.args.millis (negative c.args.millis c.is_negative.result false c.ranges.millis c.is_negative.ensures c.if-is_negative.false)
    (subst (λ (b : Bool). IsInterruptTaken c.args.t b c.args.state.now.wakes c.take_interrupt.new.wakes) c.if-interrupted.true c.in_ok-interrupted.ensures)

pub returns-then-is_zero-clause-answers : goal.returns-then-is_zero-clause-answers
returns-then-is_zero-clause-answers c w =
    sleep_goes w c.args.t c.args.state.now c.take_interrupt.new.wakes c.args.millis (negative c.args.millis c.is_negative.result false c.ranges.millis c.is_negative.ensures c.if-is_negative.false)
    (subst (λ (b : Bool). IsInterruptTaken c.args.t b c.args.state.now.wakes c.take_interrupt.new.wakes) c.if-interrupted.false c.in_ok-interrupted.ensures)
    (zero c.args.millis c.is_zero.result true c.ranges.millis c.is_zero.ensures c.if-is_zero.true)

pub returns-clause-answers : goal.returns-clause-answers
returns-clause-answers c w =
    sleep_waits w c.args.t c.args.state.now c.take_interrupt.new.wakes c.args.millis c.millis_after.result (negative c.args.millis c.is_negative.result false c.ranges.millis c.is_negative.ensures c.if-is_negative.false)
    (subst (λ (b : Bool). IsInterruptTaken c.args.t b c.args.state.now.wakes c.take_interrupt.new.wakes) c.if-interrupted.false c.in_ok-interrupted.ensures)
    (zero c.args.millis c.is_zero.result false c.ranges.millis c.is_zero.ensures c.if-is_zero.false)
    (c.millis_after.ensures ∙ ap (λ (z : ℤ). millis_after c.args.state.now.time z) (to_z-of_z w64 c.args.millis c.ranges.millis))
