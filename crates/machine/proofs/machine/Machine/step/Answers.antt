use Rattle.std.proofs.Common.{◌≡◌, ◌-◌, ◌+◌, ◌<◌, suc, ap, arith, length, refl, subst, sym, vec_capacity, ◌∙◌, ℕ}
use Rattle.std.specs.Prelude.{IfOk}
use Rattle.history.specs.declared.entry.What.{What}
use Rattle.history.specs.declared.entry.What.TheVariants as whats
use Rattle.machine.specs.Hands.{Holds, MayStep, OwesNothing}
use Rattle.machine.specs.Insides.{setting_in}
use Rattle.machine.specs.Machines.{Known}
use Rattle.machine.specs.Steps.{IsEntered, picked_by, told_of}
use Rattle.machine.specs.Turns.{IsInTime, IsStepReady, Steps}
use Rattle.machine.proofs.NextLaws.{known_of}
use Rattle.machine.proofs.StepCallLaws.{few_local, may_be_made, next_at, steps_from, typed_at}
use Rattle.machine.specs.Pins.{NotesOwn}
use Rattle.machine.proofs.StepPinLaws.{carrier_there, step_knows, thread_there}
use Rattle.machine.proofs.StepEndLaws.{made_in_time, made_kept, made_stays, made_steps, on_step}
use Rattle.machine.proofs.machine.Machine.step.Goals as goal

pub make_step-tried-requires-clause-from : goal.make_step-tried-requires-clause-from
make_step-tried-requires-clause-from c =
    let a = c.self.inside in
    let m = c.args.mounted.now in
    let none = ap (λ (k : Known). k.told) c.self.view_is ∙ c.requires.going.told in
    let holds = subst (λ (k : Known). Holds k c.args.c m.thread c.args.n m.stack.frames) (sym c.self.view_is) c.requires.hand in
    let free = subst (λ (k : Known). OwesNothing k m.thread) (sym c.self.view_is) c.requires.free in
    let may = subst (λ (k : Known). MayStep k m.thread) (sym c.self.view_is) c.requires.enabled in
    let ready = subst (λ (k : Known). IsStepReady k m.thread c.args.n m.stack.frames c.args.next) (sym c.self.view_is) c.requires.ready in
    may_be_made (setting_in a) a.carriers a.state a.deques a.mounted.items a.history.items a.told (vec_capacity a.history - length a.history.items) c.self.invariant.sound
    c.args.c m.thread c.args.n m.stack.frames c.args.next none holds free may ready

pub make_step-tried-requires-clause-typed : goal.make_step-tried-requires-clause-typed
make_step-tried-requires-clause-typed c =
    let a = c.self.inside in
    let m = c.args.mounted.now in
    let none = ap (λ (k : Known). k.told) c.self.view_is ∙ c.requires.going.told in
    let holds = subst (λ (k : Known). Holds k c.args.c m.thread c.args.n m.stack.frames) (sym c.self.view_is) c.requires.hand in
    let free = subst (λ (k : Known). OwesNothing k m.thread) (sym c.self.view_is) c.requires.free in
    let may = subst (λ (k : Known). MayStep k m.thread) (sym c.self.view_is) c.requires.enabled in
    let ready = subst (λ (k : Known). IsStepReady k m.thread c.args.n m.stack.frames c.args.next) (sym c.self.view_is) c.requires.ready in
    typed_at (setting_in a) a.carriers a.state a.deques a.mounted.items a.history.items a.told (vec_capacity a.history - length a.history.items) c.self.invariant.sound
    c.args.c m.thread c.args.n m.stack.frames c.args.next none holds free may ready

pub make_step-tried-requires-clause-next : goal.make_step-tried-requires-clause-next
make_step-tried-requires-clause-next c =
    let a = c.self.inside in
    let m = c.args.mounted.now in
    let none = ap (λ (k : Known). k.told) c.self.view_is ∙ c.requires.going.told in
    let holds = subst (λ (k : Known). Holds k c.args.c m.thread c.args.n m.stack.frames) (sym c.self.view_is) c.requires.hand in
    let free = subst (λ (k : Known). OwesNothing k m.thread) (sym c.self.view_is) c.requires.free in
    let may = subst (λ (k : Known). MayStep k m.thread) (sym c.self.view_is) c.requires.enabled in
    let ready = subst (λ (k : Known). IsStepReady k m.thread c.args.n m.stack.frames c.args.next) (sym c.self.view_is) c.requires.ready in
    next_at (setting_in a) a.carriers a.state a.deques a.mounted.items a.history.items a.told (vec_capacity a.history - length a.history.items) c.self.invariant.sound
    c.args.c m.thread c.args.n m.stack.frames c.args.next none holds free may ready

pub overflow_add-step : goal.overflow_add-step
overflow_add-step c =
    let a = c.self.inside in
    let m = c.args.mounted.now in
    let none = ap (λ (k : Known). k.told) c.self.view_is ∙ c.requires.going.told in
    let holds = subst (λ (k : Known). Holds k c.args.c m.thread c.args.n m.stack.frames) (sym c.self.view_is) c.requires.hand in
    let free = subst (λ (k : Known). OwesNothing k m.thread) (sym c.self.view_is) c.requires.free in
    let may = subst (λ (k : Known). MayStep k m.thread) (sym c.self.view_is) c.requires.enabled in
    let ready = subst (λ (k : Known). IsStepReady k m.thread c.args.n m.stack.frames c.args.next) (sym c.self.view_is) c.requires.ready in
    let few = few_local (setting_in a) a.carriers a.state a.deques a.mounted.items a.history.items a.told (vec_capacity a.history - length a.history.items) c.self.invariant.sound
    c.args.c m.thread c.args.n m.stack.frames c.args.next none holds free may ready in
    omega arith

pub note_pins-requires-clause-carrier : goal.note_pins-requires-clause-carrier
note_pins-requires-clause-carrier c =
    let a = c.self.inside in
    let m = c.args.mounted.now in
    let none = ap (λ (k : Known). k.told) c.self.view_is ∙ c.requires.going.told in
    let holds = subst (λ (k : Known). Holds k c.args.c m.thread c.args.n m.stack.frames) (sym c.self.view_is) c.requires.hand in
    let free = subst (λ (k : Known). OwesNothing k m.thread) (sym c.self.view_is) c.requires.free in
    let may = subst (λ (k : Known). MayStep k m.thread) (sym c.self.view_is) c.requires.enabled in
    let ready = subst (λ (k : Known). IsStepReady k m.thread c.args.n m.stack.frames c.args.next) (sym c.self.view_is) c.requires.ready in
    carrier_there (setting_in a) a.carriers a.state a.deques a.mounted.items a.history.items a.told (vec_capacity a.history - length a.history.items) c.self.invariant.sound
    c.args.c m.thread c.args.n c.args.now m.stack.frames c.args.next none holds free may ready
    a.pins.items c.self.invariant.pins

pub note_pins-requires-clause-thread : goal.note_pins-requires-clause-thread
note_pins-requires-clause-thread c =
    let a = c.self.inside in
    let m = c.args.mounted.now in
    let none = ap (λ (k : Known). k.told) c.self.view_is ∙ c.requires.going.told in
    let holds = subst (λ (k : Known). Holds k c.args.c m.thread c.args.n m.stack.frames) (sym c.self.view_is) c.requires.hand in
    let free = subst (λ (k : Known). OwesNothing k m.thread) (sym c.self.view_is) c.requires.free in
    let may = subst (λ (k : Known). MayStep k m.thread) (sym c.self.view_is) c.requires.enabled in
    let ready = subst (λ (k : Known). IsStepReady k m.thread c.args.n m.stack.frames c.args.next) (sym c.self.view_is) c.requires.ready in
    let made = told_of c.make_step-tried.result in
    let says = c.make_step-tried.ensures.made a.carriers c.args.n a.mounted.items (steps_from (setting_in a) a.carriers a.state a.deques a.mounted.items a.history.items a.told (vec_capacity a.history - length a.history.items) c.self.invariant.sound
    c.args.c m.thread c.args.n m.stack.frames c.args.next none holds free may ready) in
    subst (λ (u : ℕ). IfOk made (λ o. u < length c.make_step-tried.new.state.threads.threads)) (sym c.thread-t.ensures)
    (thread_there (setting_in a) a.carriers a.state a.deques a.mounted.items a.history.items a.told (vec_capacity a.history - length a.history.items) c.self.invariant.sound
    c.args.c m.thread c.args.n c.args.now m.stack.frames c.args.next none holds free may ready
    made (picked_by c.make_step-tried.result) c.make_step-tried.new.state c.make_step-tried.new.deques c.make_step-tried.new.mounted.stack.frames says)

pub invariant_of-self : goal.invariant_of-self
invariant_of-self c =
    let a = c.self.inside in
    let m = c.args.mounted.now in
    let none = ap (λ (k : Known). k.told) c.self.view_is ∙ c.requires.going.told in
    let holds = subst (λ (k : Known). Holds k c.args.c m.thread c.args.n m.stack.frames) (sym c.self.view_is) c.requires.hand in
    let free = subst (λ (k : Known). OwesNothing k m.thread) (sym c.self.view_is) c.requires.free in
    let may = subst (λ (k : Known). MayStep k m.thread) (sym c.self.view_is) c.requires.enabled in
    let ready = subst (λ (k : Known). IsStepReady k m.thread c.args.n m.stack.frames c.args.next) (sym c.self.view_is) c.requires.ready in
    let t : c.thread-t.result ≡ m.thread = c.thread-t.ensures in
    let more : c.args.n + 1 ≡ suc c.args.n = omega arith in
    let step : ◌≡◌ {A = What} (whats.Step c.thread-t.result (c.args.n + 1) c.pick_of.result) (whats.Step m.thread (suc c.args.n) (picked_by c.make_step-tried.result)) =
    ap (λ u. whats.Step u (c.args.n + 1) c.pick_of.result) t ∙ ap (λ i. whats.Step m.thread i c.pick_of.result) more
    ∙ ap (λ p. whats.Step m.thread (suc c.args.n) p) c.pick_of.ensures in
    let made = told_of c.make_step-tried.result in
    let entered = subst (λ (s : What). IsEntered made a.history.items a.told c.args.c s a.limits.threads c.enter_step.new.history.items c.enter_step.new.told c.enter_step.result)
    step c.enter_step.ensures.entered in
    let says = c.make_step-tried.ensures.made a.carriers c.args.n a.mounted.items (steps_from (setting_in a) a.carriers a.state a.deques a.mounted.items a.history.items a.told (vec_capacity a.history - length a.history.items) c.self.invariant.sound
    c.args.c m.thread c.args.n m.stack.frames c.args.next none holds free may ready) in
    let sound =
    made_kept (setting_in a) a.carriers a.state a.deques a.mounted.items a.history.items a.told (vec_capacity a.history - length a.history.items) c.self.invariant.sound
    c.args.c m.thread c.args.n c.args.now m.stack.frames c.args.next none holds free may ready
    made (picked_by c.make_step-tried.result) c.make_step-tried.new.state c.make_step-tried.new.deques c.make_step-tried.new.mounted.stack.frames c.enter_step.new.history.items c.enter_step.new.told c.enter_step.result
    (subst (λ (k : Known). length k.history < k.setting.limits.events) (sym c.self.view_is) c.requires.left) says entered in
    record {
      sound = sound;
      pins = step_knows (setting_in a) a.carriers a.state a.deques a.mounted.items a.history.items a.told (vec_capacity a.history - length a.history.items) c.self.invariant.sound
          c.args.c m.thread c.args.n c.args.now m.stack.frames c.args.next none holds free may ready
          c.make_step-tried.new.state c.make_step-tried.new.deques c.make_step-tried.new.mounted.stack.frames c.enter_step.new.history.items c.enter_step.new.told c.enter_step.result
          (picked_by c.make_step-tried.result) _ sound a.pins.items c.note_pins.new.pins.items c.self.invariant.pins c.note_pins.ensures.sizes c.note_pins.ensures.others
          c.make_step-tried.result says entered
          (subst (λ (u : ℕ). NotesOwn c.self.inside.program.now c.make_step-tried.new.state u c.make_step-tried.new.mounted.stack.frames c.make_step-tried.result c.args.c
          a.pins.items c.note_pins.new.pins.items) t c.note_pins.ensures.own);
    }

pub returns-clause-step : goal.returns-clause-step
returns-clause-step c =
    let a = c.self.inside in
    let m = c.args.mounted.now in
    let none = ap (λ (k : Known). k.told) c.self.view_is ∙ c.requires.going.told in
    let holds = subst (λ (k : Known). Holds k c.args.c m.thread c.args.n m.stack.frames) (sym c.self.view_is) c.requires.hand in
    let free = subst (λ (k : Known). OwesNothing k m.thread) (sym c.self.view_is) c.requires.free in
    let may = subst (λ (k : Known). MayStep k m.thread) (sym c.self.view_is) c.requires.enabled in
    let ready = subst (λ (k : Known). IsStepReady k m.thread c.args.n m.stack.frames c.args.next) (sym c.self.view_is) c.requires.ready in
    let t : c.thread-t.result ≡ m.thread = c.thread-t.ensures in
    let more : c.args.n + 1 ≡ suc c.args.n = omega arith in
    let step : ◌≡◌ {A = What} (whats.Step c.thread-t.result (c.args.n + 1) c.pick_of.result) (whats.Step m.thread (suc c.args.n) (picked_by c.make_step-tried.result)) =
    ap (λ u. whats.Step u (c.args.n + 1) c.pick_of.result) t ∙ ap (λ i. whats.Step m.thread i c.pick_of.result) more
    ∙ ap (λ p. whats.Step m.thread (suc c.args.n) p) c.pick_of.ensures in
    let made = told_of c.make_step-tried.result in
    let entered = subst (λ (s : What). IsEntered made a.history.items a.told c.args.c s a.limits.threads c.enter_step.new.history.items c.enter_step.new.told c.enter_step.result)
    step c.enter_step.ensures.entered in
    let says = c.make_step-tried.ensures.made a.carriers c.args.n a.mounted.items (steps_from (setting_in a) a.carriers a.state a.deques a.mounted.items a.history.items a.told (vec_capacity a.history - length a.history.items) c.self.invariant.sound
    c.args.c m.thread c.args.n m.stack.frames c.args.next none holds free may ready) in
    let room = vec_capacity c.enter_step.new.history - length c.enter_step.new.history.items in
    let capacity = c.enter_step.ensures.capacity in
    subst (λ (k : Known). Steps c.enter_step.result k (known_of (setting_in a) a.carriers c.enter_step.new.history.items room c.enter_step.new.told) c.args.c m.thread c.args.n c.args.now
    m.stack.frames c.make_step-tried.new.mounted.stack.frames) c.self.view_is
    (made_steps (setting_in a) a.carriers a.state a.deques a.mounted.items a.history.items a.told (vec_capacity a.history - length a.history.items) c.self.invariant.sound
    c.args.c m.thread c.args.n c.args.now m.stack.frames c.args.next none holds free may ready
    made (picked_by c.make_step-tried.result) c.make_step-tried.new.state c.make_step-tried.new.deques c.make_step-tried.new.mounted.stack.frames c.enter_step.new.history.items c.enter_step.new.told c.enter_step.result
    room (vec_capacity a.history) says entered (ap (λ i. i - length c.enter_step.new.history.items) capacity) refl)

pub returns-clause-thread : goal.returns-clause-thread
returns-clause-thread c =
    let made = told_of c.make_step-tried.result in
    on_step made c.enter_step.result c.make_step-tried.new.mounted.thread c.args.mounted.now.thread c.self.inside.history.items c.enter_step.new.history.items
    c.self.inside.told c.enter_step.new.told c.args.c c.self.inside.limits.threads _ c.make_step-tried.ensures.thread c.enter_step.ensures.entered

pub returns-clause-in_time : goal.returns-clause-in_time
returns-clause-in_time c =
    let a = c.self.inside in
    let m = c.args.mounted.now in
    let none = ap (λ (k : Known). k.told) c.self.view_is ∙ c.requires.going.told in
    let holds = subst (λ (k : Known). Holds k c.args.c m.thread c.args.n m.stack.frames) (sym c.self.view_is) c.requires.hand in
    let free = subst (λ (k : Known). OwesNothing k m.thread) (sym c.self.view_is) c.requires.free in
    let may = subst (λ (k : Known). MayStep k m.thread) (sym c.self.view_is) c.requires.enabled in
    let ready = subst (λ (k : Known). IsStepReady k m.thread c.args.n m.stack.frames c.args.next) (sym c.self.view_is) c.requires.ready in
    let t : c.thread-t.result ≡ m.thread = c.thread-t.ensures in
    let more : c.args.n + 1 ≡ suc c.args.n = omega arith in
    let step : ◌≡◌ {A = What} (whats.Step c.thread-t.result (c.args.n + 1) c.pick_of.result) (whats.Step m.thread (suc c.args.n) (picked_by c.make_step-tried.result)) =
    ap (λ u. whats.Step u (c.args.n + 1) c.pick_of.result) t ∙ ap (λ i. whats.Step m.thread i c.pick_of.result) more
    ∙ ap (λ p. whats.Step m.thread (suc c.args.n) p) c.pick_of.ensures in
    let made = told_of c.make_step-tried.result in
    let entered = subst (λ (s : What). IsEntered made a.history.items a.told c.args.c s a.limits.threads c.enter_step.new.history.items c.enter_step.new.told c.enter_step.result)
    step c.enter_step.ensures.entered in
    let says = c.make_step-tried.ensures.made a.carriers c.args.n a.mounted.items (steps_from (setting_in a) a.carriers a.state a.deques a.mounted.items a.history.items a.told (vec_capacity a.history - length a.history.items) c.self.invariant.sound
    c.args.c m.thread c.args.n m.stack.frames c.args.next none holds free may ready) in
    subst (λ (k : Known). IsInTime c.enter_step.result k m.thread c.args.now m.stack.frames) c.self.view_is
    (made_in_time (setting_in a) a.carriers a.state a.deques a.mounted.items a.history.items a.told (vec_capacity a.history - length a.history.items) c.self.invariant.sound
    c.args.c m.thread c.args.n c.args.now m.stack.frames c.args.next none holds free may ready
    made (picked_by c.make_step-tried.result) c.make_step-tried.new.state c.make_step-tried.new.deques c.make_step-tried.new.mounted.stack.frames c.enter_step.new.history.items c.enter_step.new.told c.enter_step.result
    says entered)

pub returns-clause-kept : goal.returns-clause-kept
returns-clause-kept c = λ reads.
    let a = c.self.inside in
    let m = c.args.mounted.now in
    let none = ap (λ (k : Known). k.told) c.self.view_is ∙ c.requires.going.told in
    let holds = subst (λ (k : Known). Holds k c.args.c m.thread c.args.n m.stack.frames) (sym c.self.view_is) c.requires.hand in
    let free = subst (λ (k : Known). OwesNothing k m.thread) (sym c.self.view_is) c.requires.free in
    let may = subst (λ (k : Known). MayStep k m.thread) (sym c.self.view_is) c.requires.enabled in
    let ready = subst (λ (k : Known). IsStepReady k m.thread c.args.n m.stack.frames c.args.next) (sym c.self.view_is) c.requires.ready in
    let t : c.thread-t.result ≡ m.thread = c.thread-t.ensures in
    let more : c.args.n + 1 ≡ suc c.args.n = omega arith in
    let step : ◌≡◌ {A = What} (whats.Step c.thread-t.result (c.args.n + 1) c.pick_of.result) (whats.Step m.thread (suc c.args.n) (picked_by c.make_step-tried.result)) =
    ap (λ u. whats.Step u (c.args.n + 1) c.pick_of.result) t ∙ ap (λ i. whats.Step m.thread i c.pick_of.result) more
    ∙ ap (λ p. whats.Step m.thread (suc c.args.n) p) c.pick_of.ensures in
    let made = told_of c.make_step-tried.result in
    let entered = subst (λ (s : What). IsEntered made a.history.items a.told c.args.c s a.limits.threads c.enter_step.new.history.items c.enter_step.new.told c.enter_step.result)
    step c.enter_step.ensures.entered in
    let says = c.make_step-tried.ensures.made a.carriers c.args.n a.mounted.items (steps_from (setting_in a) a.carriers a.state a.deques a.mounted.items a.history.items a.told (vec_capacity a.history - length a.history.items) c.self.invariant.sound
    c.args.c m.thread c.args.n m.stack.frames c.args.next none holds free may ready) in
    made_stays (setting_in a) a.carriers a.state a.deques a.mounted.items a.history.items a.told (vec_capacity a.history - length a.history.items) c.self.invariant.sound
    c.args.c m.thread c.args.n c.args.now m.stack.frames c.args.next none holds free may ready
    made (picked_by c.make_step-tried.result) c.make_step-tried.new.state c.make_step-tried.new.deques c.make_step-tried.new.mounted.stack.frames c.enter_step.new.history.items c.enter_step.new.told c.enter_step.result
    m c.make_step-tried.new.mounted says entered c.make_step-tried.ensures.kept reads
