use Rattle.std.proofs.Common.{inl, refl, sym, subst, ◌∙◌}
use Rattle.machine.specs.Hands.{Holds}
use Rattle.machine.specs.Turns.{IsStepReady}
use Rattle.carrier_turns.specs.LocalRuns.{steps_of}
use Rattle.carrier_turns.proofs.StepLaws.{by_kept, has_gone, held_free, held_ready, held_steps, needs_clock}
use Rattle.carrier_turns.proofs.mounted_steps.make_step.Goals as goal

pub slice-requires-clause-hand : goal.slice-requires-clause-hand
slice-requires-clause-hand c =
    let m = c.args.machine.now in
    let k = c.in-Some.mounted in
    subst (λ n. Holds m c.args.carrier k.thread n k.stack.frames) (sym (c.steps_ahead-steps.ensures) ∙ c.if-steps-eq-MOST_STEPS.true)
    (held_steps m c.args.carrier c.args.hand.now k (by_kept m c.args.carrier c.args.hand.now c.args.thread k c.requires c.in-Some.is))

pub step-after-requires-clause-hand : goal.step-after-requires-clause-hand
step-after-requires-clause-hand c =
    let m = c.args.machine.now in
    let k = c.in-Some.mounted in
    subst (λ n. Holds m c.args.carrier k.thread n k.stack.frames) (sym (c.steps_ahead-steps.ensures))
    (held_steps m c.args.carrier c.args.hand.now k (by_kept m c.args.carrier c.args.hand.now c.args.thread k c.requires c.in-Some.is))

pub step-after-requires-clause-ready : goal.step-after-requires-clause-ready
step-after-requires-clause-ready c =
    let m = c.args.machine.now in
    let k = c.in-Some.mounted in
    let steps = c.steps_ahead-steps.ensures in
    subst (λ n. IsStepReady m k.thread n k.stack.frames c.next_of-next.result) (sym steps)
    (subst (IsStepReady m k.thread (steps_of c.args.hand.now.local) k.stack.frames) (sym (c.next_of-next.ensures))
    (held_ready m c.args.carrier c.args.hand.now k (by_kept m c.args.carrier c.args.hand.now c.args.thread k c.requires c.in-Some.is) (λ e. c.if-steps-eq-MOST_STEPS.false (steps ∙ e))))

pub step-after-requires-clause-free : goal.step-after-requires-clause-free
step-after-requires-clause-free c =
    let m = c.args.machine.now in
    let k = c.in-Some.mounted in
    held_free m c.args.carrier c.args.hand.now k (by_kept m c.args.carrier c.args.hand.now c.args.thread k c.requires c.in-Some.is)

pub slice-requires-clause-free : goal.slice-requires-clause-free
slice-requires-clause-free c =
    let m = c.args.machine.now in
    let k = c.in-Some.mounted in
    held_free m c.args.carrier c.args.hand.now k (by_kept m c.args.carrier c.args.hand.now c.args.thread k c.requires c.in-Some.is)

pub returns-in_default-after-clause-gone : goal.returns-in_default-after-clause-gone
returns-in_default-after-clause-gone c =
    has_gone c.step-after.result c.args.machine.now c.step-after.new.self c.args.carrier c.args.thread c.args.least c.steps_ahead-steps.result c.args.hand.now _ c.in-Some.mounted
    c.step-after.new.mounted c.requires c.in-Some.is c.in_default-after.not-ReadsClock c.step-after.ensures.thread
    (record { mounted_is = refl; frozen_is = refl; local_is = refl; asked_is = refl }) refl c.step-after.ensures.cache (inl c.steps_ahead-steps.ensures)
    (λ few. c.step-after.ensures.in_time) c.step-after.ensures.step

pub returns-in-ReadsClock-clause-none : goal.returns-in-ReadsClock-clause-none
returns-in-ReadsClock-clause-none c =
    needs_clock c.step-after.result c.args.machine.now c.step-after.new.self c.args.carrier c.args.least c.steps_ahead-steps.result c.args.hand.now _ c.in-Some.mounted
    c.step-after.new.mounted c.step-after.new.cache c.in-ReadsClock.is c.in-Some.is (λ e. c.if-steps-eq-MOST_STEPS.false (c.steps_ahead-steps.ensures ∙ e)) c.step-after.ensures.step
    (c.step-after.ensures.kept c.in-ReadsClock.is) c.step-after.ensures.cache refl
