-- Invocations of frames that keep to the typing.
use Rattle.std.proofs.Common.{◌≡◌, ℕ, suc, true, List, ◌∷◌, drop, Option, Some, None, refl, subst}
use Rattle.std.specs.Prelude.{slice_get}
use Rattle.items.specs.Options.{◌>>=◌}
use Rattle.items.proofs.Binds.{some_is, bind_is}
use Rattle.opcodes.specs.declared.op.ValueKind.TheVariants as kinds
use Rattle.link_rules.specs.declared.choice.Choice.{Choice}
use Rattle.link_rules.specs.declared.choice.Choice.TheVariants.{Method, Abstract, Several}
use Rattle.link_rules.specs.Members.{method_number}
use Rattle.instruction_rows.specs.Rows.{Invocation, virtual, special, static, interface, dynamic, invoke}
use Rattle.instruction_rows.specs.SlotEffect.{popped}
use Rattle.link_model.specs.declared.sites.SelectionFailure.{SelectionFailure}
use Rattle.link_model.specs.declared.sites.SelectionFailure.TheVariants as failures
use Rattle.link_model.specs.World.{World}
use Rattle.link_model.specs.Methods.{choice_of}
use Rattle.verify_types.specs.Effects.{row_of}
use Rattle.verify_types.specs.Typing.{AreTyped}
use Rattle.state_model.specs.Frames.{Frame}
use Rattle.ref_model.specs.declared.exception.Exception.TheVariants.{AbstractMethodError, IncompatibleClassChangeError}
use Rattle.ref_model.specs.Kinds.{argument_slots}
use Rattle.ref_model.specs.Memory.{Memory}
use Rattle.ref_model.specs.Fetch.{Named, named_method}
use Rattle.ref_model.specs.Effects.{Effect, throws, on_instance}
use Rattle.ref_model.specs.Calls.{entered, chosen, selected, unless_failed, method_numbered, instance_called, called, invoked}
use Rattle.frame_soundness.specs.Typed.{Typed}
use Rattle.frame_soundness.specs.StateKinds.{MemoryFits}
use Rattle.frame_soundness.specs.CallLaws.{takes_receiver}
use Rattle.frame_soundness.specs.EventLaws.{OfReceiver}
use Rattle.frame_soundness.specs.EnterLaws.{IsCallResult}
use Rattle.frame_soundness.proofs.FieldLaws.{instance_cases}
use Rattle.frame_soundness.proofs.NativeEnters.{result_of}
use Rattle.frame_soundness.proofs.EnterProofs.{methods_are_entered, statics_are_entered}
use Rattle.step_soundness.specs.Resolutions.{chosen_method, method_run, receiver, IsSelected, IsInvocation, IsRowResolution}

-- ---- the method that runs

-- a method of a number is at that number
numbered_at : (w : World) (n : ℕ) (m : Named) → method_numbered w n ≡ Some m → slice_get w.methods m.number ≡ Some m.method
numbered_at w n m e =
    let x = some_is (slice_get w.methods n) (λ x. Some (record { number = n; method = x })) m e in
    let same = inside (record { number = n; method = x.0 }) m x.2 in
    subst (λ (y : Named). slice_get w.methods y.number ≡ Some y.method) same x.1
  where
    inside : (a b : Named) → ◌≡◌ {A = Option Named} (Some a) (Some b) → a ≡ b
    inside a b same = cc

-- what is chosen runs, or an error is thrown
by_choice : (w : World) (f : Frame) (below : List Frame) (next : ℕ) (choice : Choice) (act : ℕ → Option Effect) (effect : Effect)
    → ((n : ℕ) → chosen_method w choice ≡ Some n → act n ≡ Some effect → IsCallResult w f below next effect)
    → chosen w choice act ≡ Some effect → IsCallResult w f below next effect
by_choice w f below next (Method at) act effect runs e = runs (method_number w.program at) refl e
by_choice w f below next Abstract act effect runs e = result_of w f below next (throws AbstractMethodError) effect e tt
by_choice w f below next Several act effect runs e = result_of w f below next (throws IncompatibleClassChangeError) effect e tt

-- such, where it is looked for first
by_found : (w : World) (f : Frame) (below : List Frame) (next : ℕ) (m : Named) (class : ℕ) (act : ℕ → Option Effect) (effect : Effect)
    → ((n : ℕ) → (choice_of w class m.number >>= chosen_method w) ≡ Some n → act n ≡ Some effect → IsCallResult w f below next effect)
    → (choice_of w class m.number >>= λ choice. chosen w choice act) ≡ Some effect → IsCallResult w f below next effect
by_found w f below next m class act effect runs e =
    let choice = some_is (choice_of w class m.number) (λ choice. chosen w choice act) effect e in
    by_choice w f below next choice.0 act effect
    (λ n is acts. runs n (bind_is (choice_of w class m.number) (chosen_method w) choice.0 (Some n) choice.1 is) acts) choice.2

-- what was selected when the program was linked runs, or an error is thrown
by_failure : (w : World) (f : Frame) (below : List Frame) (next : ℕ) (failure : Option SelectionFailure) (runs : Option Effect) (effect : Effect)
    → (runs ≡ Some effect → IsCallResult w f below next effect) → unless_failed failure runs ≡ Some effect → IsCallResult w f below next effect
by_failure w f below next None runs effect goes e = goes e
by_failure w f below next (Some failures.Abstract) runs effect goes e = result_of w f below next (throws AbstractMethodError) effect e tt
by_failure w f below next (Some failures.Several) runs effect goes e = result_of w f below next (throws IncompatibleClassChangeError) effect e tt

selected_runs : (w : World) (f : Frame) (below : List Frame) (next : ℕ) (failure : Option SelectionFailure) (invocation : Invocation) (m : Named)
    (class : ℕ) (act : ℕ → Option Effect) (effect : Effect)
    → ((n : ℕ) → method_run w invocation m class ≡ Some n → act n ≡ Some effect → IsCallResult w f below next effect)
    → selected w failure invocation m class act ≡ Some effect → IsCallResult w f below next effect
selected_runs w f below next failure virtual m class act effect runs e = by_found w f below next m class act effect runs e
selected_runs w f below next failure (interface count) m class act effect runs e = by_found w f below next m class act effect runs e
selected_runs w f below next failure special m class act effect runs e =
    by_failure w f below next failure (act m.number) effect (λ acts. runs m.number refl acts) e
selected_runs w f below next failure static m class act effect runs e = absurd cc
selected_runs w f below next failure dynamic m class act effect runs e = absurd cc

-- ---- a method of an object

instance_goes : (w : World) (f : Frame) (below : List Frame) (invocation : Invocation) (index depth : ℕ) (m : Named) (r : Memory)
    (effect : Effect) → AreTyped w → MemoryFits w r → (t : Typed w (f ∷ below))
    → row_of t.0.at.place.instruction ≡ invoke invocation index → takes_receiver invocation ≡ true
    → named_method w t.0.at.place.instruction.resolution ≡ Some m
    → OfReceiver w r (receiver m.method.signature f.stack) (IsSelected w t.0.at.place.instruction.resolution invocation m)
    → instance_called w t.0.at.place.instruction.resolution invocation m r depth f.stack ≡ Some effect
    → IsCallResult w f below t.0.at.place.instruction.instr.next effect
instance_goes w f below invocation index depth m r effect typed fits t known takes named lies e =
    let i = t.0.at.place.instruction in
    let slots = argument_slots m.method.signature in
    let x = some_is (popped kinds.Reference (drop slots f.stack))
    (λ x. on_instance w i.resolution r x.0 (λ o class. selected w i.resolution.failure invocation m class (λ n.
    method_numbered w n >>= λ chosen. entered w r depth chosen (suc slots) f.stack))) effect e in
    instance_cases w i.resolution r x.0.0
    (λ o class. selected w i.resolution.failure invocation m class (λ n. method_numbered w n >>= λ chosen. entered w r depth chosen (suc slots) f.stack)) effect
    (IsCallResult w f below i.instr.next) x.2 (λ e. tt) (λ o class at at_hand of_class is_named sub act.
    selected_runs w f below i.instr.next i.resolution.failure invocation m class
    (λ n. method_numbered w n >>= λ chosen. entered w r depth chosen (suc slots) f.stack) effect
    (λ n runs acts.
    let c = some_is (method_numbered w n) (λ chosen. entered w r depth chosen (suc slots) f.stack) effect acts in
    let here = bind_is (popped kinds.Reference (drop slots f.stack)) (λ y. y.0) x.0 (Some o) x.1 at_hand in
    methods_are_entered w f below invocation index depth m c.0 r effect typed fits t known takes named (numbered_at w n c.0 c.1)
    (lies o class here of_class at n c.0 is_named sub runs c.1) c.2) act)

-- ---- each invocation

called_goes : (w : World) (f : Frame) (below : List Frame) (invocation : Invocation) (index depth : ℕ) (m : Named) (r : Memory)
    (effect : Effect) → AreTyped w → MemoryFits w r → (t : Typed w (f ∷ below))
    → row_of t.0.at.place.instruction ≡ invoke invocation index → named_method w t.0.at.place.instruction.resolution ≡ Some m
    → IsInvocation w t.0.at.place.instruction.resolution invocation m r f.stack
    → called w t.0.at.place.instruction.resolution invocation m r depth f.stack ≡ Some effect
    → IsCallResult w f below t.0.at.place.instruction.instr.next effect
called_goes w f below static index depth m r effect typed fits t known named lies e =
    statics_are_entered w f below index depth m r effect typed fits t known named lies e
called_goes w f below dynamic index depth m r effect typed fits t known named lies e = absurd cc
called_goes w f below virtual index depth m r effect typed fits t known named lies e =
    instance_goes w f below virtual index depth m r effect typed fits t known refl named lies e
called_goes w f below special index depth m r effect typed fits t known named lies e =
    instance_goes w f below special index depth m r effect typed fits t known refl named lies e
called_goes w f below (interface count) index depth m r effect typed fits t known named lies e =
    instance_goes w f below (interface count) index depth m r effect typed fits t known refl named lies e

pub invocations_go_on : (w : World) (f : Frame) (below : List Frame) (invocation : Invocation) (index depth : ℕ) (r : Memory) (effect : Effect)
    → AreTyped w → MemoryFits w r → (t : Typed w (f ∷ below)) → row_of t.0.at.place.instruction ≡ invoke invocation index
    → IsRowResolution w t.0.at.place.instruction.resolution (invoke invocation index) r f.stack
    → invoked w t.0.at.place.instruction.resolution invocation r depth f.stack ≡ Some effect
    → IsCallResult w f below t.0.at.place.instruction.instr.next effect
invocations_go_on w f below invocation index depth r effect typed fits t known lies e =
    let resolution = t.0.at.place.instruction.resolution in
    let m = some_is (named_method w resolution) (λ m. called w resolution invocation m r depth f.stack) effect e in
    called_goes w f below invocation index depth m.0 r effect typed fits t known m.1 (lies m.0 m.1) m.2
