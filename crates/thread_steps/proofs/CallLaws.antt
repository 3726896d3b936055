-- Invocations as steps.
use Rattle.std.proofs.Common.{◌≡◌, ℕ, suc, ◌≤◌, true, false, Bool, List, ◌∷◌, length, drop, Option, Some, None, refl, ap, sym, ◌∙◌, subst}
use Rattle.std.specs.Prelude.{is_none, not, nat_lt, ◌&&◌, if◌then◌else◌}
use Rattle.items.specs.Options.{◌>>=◌}
use Rattle.items.proofs.Binds.{bind_is, some_is}
use Rattle.lib_table.specs.declared.native.Native.{Native}
use Rattle.instruction_rows.specs.declared.value.Slot.{Slot}
use Rattle.instruction_rows.specs.Rows.{Row, Invocation, local, constant, wide_constant, returns, invoke, event, refused, virtual, special, static, interface, dynamic}
use Rattle.instruction_rows.specs.Table.{row as row_of}
use Rattle.link_model.specs.declared.members.MethodCode.{MethodCode}
use Rattle.link_model.specs.World.{World}
use Rattle.link_model.specs.Decoded.{code_at}
use Rattle.verify_types.specs.Environment.{Instruction}
use Rattle.state_model.specs.Frames.{Frame}
use Rattle.ref_model.specs.Memory.{Memory}
use Rattle.ref_model.specs.State.{State, with_frames}
use Rattle.ref_model.specs.Fetch.{fetched, Named, named_method}
use Rattle.ref_model.specs.Frames.{callee, caller}
use Rattle.ref_model.specs.Kinds.{argument_slots}
use Rattle.ref_model.specs.Members.{native_at, is_synchronized, is_hold}
use Rattle.ref_model.specs.Effects.{Effect, asks, invokes, throws}
use Rattle.ref_model.specs.declared.exception.Exception.{Exception}
use Rattle.ref_model.specs.declared.exception.Exception.TheVariants as exceptions
use Rattle.continuation.specs.Continuation.{Continuation}
use Rattle.frames.specs.Frames.{with_stack, top_stack, top_room}
use Rattle.heap_instructions.specs.declared.outcome.Outcome.{Outcome}
use Rattle.heap_instructions.specs.declared.outcome.Outcome.TheVariants.{Done, Throws, ThrowsObject, Asks, Undefined}
use Rattle.heap_instructions.specs.Operands.{operands, ChangesOperands}
use Rattle.heap_instructions.specs.Outcomes.{Acts, IsEffect, KeptUnlessDone, with_heap}
use Rattle.native_methods.specs.declared.state.NativeState.{NativeState}
use Rattle.native_methods.specs.Arguments.{native_effect}
use Rattle.native_methods.specs.NativeStates.{with_natives, StaysIfThrownOrAsked}
use Rattle.invocation.specs.FrameSteps.{HasBegun}
use Rattle.invocation.specs.declared.target.Callee.{Callee}
use Rattle.invocation.specs.declared.target.Target.{Target}
use Rattle.invocation.specs.declared.target.Target.TheVariants as targets
use Rattle.ref_model.specs.Calls.{invoked, native_entered, code_entered, method_entered, receiver_of}
use Rattle.ref_model.specs.Monitors.{method_monitor, with_monitor}
use Rattle.ref_model.specs.Requests.{calls}
use Rattle.ref_model.specs.LocalRows.{row, local_act, has_local_call, static_called, frames_called, most_frames}
use Rattle.ref_model.specs.Step.{after_effect, row_or_event}
use Rattle.invocation.specs.Targets.{row_invoked, begins, begins_synchronized, IsInvoked}
use Rattle.thread_steps.specs.declared.parts.Parts.{Parts}
use Rattle.thread_steps.specs.States.{Stage, memory_of, state_of, IsRunStep}
use Rattle.thread_steps.specs.Concluding.{Concludes, EffectSteps, IsQuietStep, Leads, Raises, Steps}
use Rattle.thread_steps.proofs.StageLaws.{own_frames}
use Rattle.thread_steps.proofs.StepLaws.{effect_step, event_is_run, quiet_effect}
use Rattle.thread_steps.proofs.EventLaws.{concluded, frames_kept}

-- ---- a static call that is local is what it is as an event

-- of three facts
all_three : (a b c : Bool) → (a && b && c) ≡ true → (a ≡ true) × (b ≡ true) × (c ≡ true)
all_three true true true e = (refl, refl, refl)
all_three true true false e = absurd cc
all_three true false c e = absurd cc
all_three false b c e = absurd cc

both : (a b : Bool) → (a && b) ≡ true → (a ≡ true) × (b ≡ true)
both true b e = (refl, e)
both false b e = absurd cc

none_is : {A : Type 0} (o : Option A) → is_none o ≡ true → o ≡ None
none_is None e = refl
none_is (Some x) e = absurd cc

taken : {A : Type 0} (b : Bool) (o : Option A) (x : A) → (if b then o else None) ≡ Some x → (b ≡ true) × (o ≡ Some x)
taken true o x e = (refl, e)
taken false o x e = absurd cc

entered_so : (w : World) (r : Memory) (m : Named) (f : Frame) (below fs : List Frame) → static_called w m f below ≡ Some fs
    → (g : Frame) × (fs ≡ g ∷ caller f (argument_slots m.method.signature) ∷ below) × (native_entered w r (suc (length below)) m (native_at w m.number) (argument_slots m.method.signature) f.stack ≡ Some (invokes g (drop (argument_slots m.method.signature) f.stack)))
entered_so w r m f below fs e =
    let slots = argument_slots m.method.signature in
    let cond = taken (has_local_call w m && nat_lt (length (f ∷ below)) most_frames) (frames_called w m f below) fs e in
    let facts = both (has_local_call w m) (nat_lt (length (f ∷ below)) most_frames) cond.0 in
    let plain = all_three (is_none (native_at w m.number)) (not (is_synchronized m.method)) (not (is_hold w m.method)) facts.0 in
    let code = some_is (code_at w m.number) (λ c. callee m.number c slots f.stack >>= λ g. Some (g ∷ caller f slots ∷ below)) fs cond.1 in
    let frame = some_is (callee m.number code.0 slots f.stack) (λ g. Some (g ∷ caller f slots ∷ below)) fs code.2 in
    let same : fs ≡ frame.0 ∷ caller f slots ∷ below = let x = frame.2 in cc in
    let made : Option Effect = Some (invokes frame.0 (drop slots f.stack)) in
    let monitor : Frame → Option Effect = λ g. method_monitor m.method (receiver_of g) >>= λ o. Some (asks (calls o (with_monitor g o)) (drop slots f.stack)) in
    let begins : method_entered w (suc (length below)) m code.0 slots f.stack ≡ made =
    ap (λ (b : Bool). if nat_lt (suc (length below)) most_frames then (callee m.number code.0 slots f.stack >>= λ g. if b then monitor g else Some (invokes g (drop slots f.stack))) else Some (throws exceptions.StackOverflowError)) (unset (is_synchronized m.method) plain.1)
    ∙ ap (λ (b : Bool). if b then (callee m.number code.0 slots f.stack >>= λ g. Some (invokes g (drop slots f.stack))) else Some (throws exceptions.StackOverflowError)) facts.1
    ∙ bind_is (callee m.number code.0 slots f.stack) (λ g. Some (invokes g (drop slots f.stack))) frame.0 made frame.1 refl in
    (frame.0, same, ap (λ (n : Option Native). native_entered w r (suc (length below)) m n slots f.stack) (none_is (native_at w m.number) plain.0) ∙ ap (λ (c : Option MethodCode). code_entered w (suc (length below)) m c slots f.stack) code.1 ∙ begins)
  where
    unset : (b : Bool) → not b ≡ true → b ≡ false
    unset true x = absurd cc
    unset false x = refl

-- the frames after it, and its effect
pub static_so : (w : World) (i : Instruction) (r : Memory) (f : Frame) (below fs : List Frame) → (named_method w i.resolution >>= λ m. static_called w m f below) ≡ Some fs
    → (g : Frame) × (slots : ℕ) × (fs ≡ g ∷ caller f slots ∷ below) × (invoked w i.resolution static r (suc (length below)) f.stack ≡ Some (invokes g (drop slots f.stack)))
static_so w i r f below fs made =
    let m = some_is (named_method w i.resolution) (λ m. static_called w m f below) fs made in
    let so = entered_so w r m.0 f below fs m.2 in
    let slots = argument_slots m.0.method.signature in
    let begins : Option Effect = Some (invokes so.0 (drop slots f.stack)) in
    let called : invoked w i.resolution static r (suc (length below)) f.stack ≡ begins =
    bind_is (named_method w i.resolution) (λ n. native_entered w r (suc (length below)) n (native_at w n.number) (argument_slots n.method.signature) f.stack) m.0 begins m.1 so.2 in
    (so.0, slots, so.1, called)

-- what an invocation leads to, where it is a local instruction
row_agrees : (w : World) (i : Instruction) (invocation : Invocation) (index : ℕ) (r : State) (t : ℕ) (f : Frame) (below fs : List Frame) (x : Effect) → local_act w i (invoke invocation index) f below ≡ Some fs
    → invoked w i.resolution invocation r.memory (suc (length below)) f.stack ≡ Some x → after_effect w r t i.instr.next f below x ≡ Some (with_frames r t fs)
row_agrees w i virtual index r t f below fs x made effect = absurd cc
row_agrees w i special index r t f below fs x made effect = absurd cc
row_agrees w i (interface count) index r t f below fs x made effect = absurd cc
row_agrees w i dynamic index r t f below fs x made effect = absurd cc
row_agrees w i static index r t f below fs x made effect =
    let so = static_so w i r.memory f below fs made in
    let same : invokes so.0 (drop so.1 f.stack) ≡ x = let e = sym so.3 ∙ effect in cc in
    ap (after_effect w r t i.instr.next f below) (sym same) ∙ ap (λ (gs : List Frame). Some (with_frames r t gs)) (sym so.2)

-- ---- the step of an invocation

invocation_run : (w : World) (i : Instruction) (invocation : Invocation) (index : ℕ) (stage : Stage) (a b : Parts) (f : Frame) (below after : List Frame) → fetched w f ≡ Some i → row_of i.instr.op ≡ invoke invocation index
    → Leads w stage a b f below after i.instr.next (invoked w i.resolution invocation (memory_of a) (suc (length below)) f.stack) → IsRunStep w stage.number (state_of stage a (f ∷ below)) (f ∷ below) (state_of stage b after)
invocation_run w i invocation index stage a b f below after at is x = by (row w (f ∷ below)) refl
  where
    r : State
    r = state_of stage a (f ∷ below)

    by_row : row w (f ∷ below) ≡ local_act w i (invoke invocation index) f below
    by_row = bind_is (fetched w f) (λ j. local_act w j (row_of j.instr.op) f below) i (local_act w i (invoke invocation index) f below) at (ap (λ (act : Row). local_act w i act f below) is)

    by : (o : Option (List Frame)) → row w (f ∷ below) ≡ o → IsRunStep w stage.number r (f ∷ below) (state_of stage b after)
    by None e = event_is_run w r (state_of stage b after) stage.number (f ∷ below) e (effect_step w i (invoke invocation index) r (state_of stage b after) stage.number f below x.effect_is at is tt x.is x.leads)
    by (Some fs) e =
        ap (row_or_event w r stage.number (f ∷ below)) e ∙ sym (row_agrees w i invocation index r stage.number f below fs x.effect_is (sym by_row ∙ e) x.is) ∙ x.leads

pub invoked_stepped : (w : World) (i : Instruction) (stage : Stage) (a b : Parts) (f : Frame) (below after : List Frame) → fetched w f ≡ Some i
    → Leads w stage a b f below after i.instr.next (row_invoked w i.resolution (row_of i.instr.op) (memory_of a) (suc (length below)) f.stack) → IsQuietStep w stage.number (state_of stage a (f ∷ below)) (f ∷ below) (state_of stage b after)
invoked_stepped w i stage a b f below after at x = by (row_of i.instr.op) refl x
  where
    by : (act : Row) → row_of i.instr.op ≡ act → Leads w stage a b f below after i.instr.next (row_invoked w i.resolution act (memory_of a) (suc (length below)) f.stack) → IsQuietStep w stage.number (state_of stage a (f ∷ below)) (f ∷ below) (state_of stage b after)
    by (invoke invocation index) is x = record {
      step = invocation_run w i invocation index stage a b f below after at is x;
      quiet = quiet_effect w i (invoke invocation index) (memory_of a) f below x.effect_is at is x.is x.quiet;
    }
    by (local act) is x = absurd (let e = x.is in cc)
    by (constant index) is x = absurd (let e = x.is in cc)
    by (wide_constant index) is x = absurd (let e = x.is in cc)
    by (returns kind) is x = absurd (let e = x.is in cc)
    by (event e) is x = absurd (let e = x.is in cc)
    by refused is x = absurd (let e = x.is in cc)

-- ---- what the code did

-- an effect that is another one
pub leads_too : (w : World) (stage : Stage) (a b : Parts) (f : Frame) (below after : List Frame) (next : ℕ) (effect other : Option Effect) → other ≡ effect → Leads w stage a b f below after next effect → Leads w stage a b f below after next other
leads_too w stage a b f below after next effect other same x = record { effect_is = x.effect_is; is = same ∙ x.is; quiet = x.quiet; leads = x.leads }

-- an exception of the machine, where the frames are as they were
pub thrown_leads : (w : World) (stage : Stage) (a b : Parts) (f : Frame) (below after : List Frame) (next : ℕ) (e : Exception) → Raises w e a b → after ≡ f ∷ below
    → Leads w stage a b f below after next (Some (throws e))
thrown_leads w stage a b f below after next e raise same = record { effect_is = throws e; is = refl; quiet = refl; leads = raise stage (f ∷ below) ∙ ap (λ (fs : List Frame). Some (state_of stage b fs)) (sym same) }

-- the frame of a method that begins
pub begun_leads : (w : World) (a : Parts) (c : Callee) (next : ℕ) (m new : Continuation) → HasBegun c m new → EffectSteps w next (λ r depth stack. begins depth c stack) a m.stack.frames a new.stack.frames
begun_leads w a c next m new has stage f below top =
    let effect : begins (suc (length below)) c f.stack ≡ Some (invokes has.callee has.rest) = sym (ap (λ (fs : List Frame). begins (length fs) c (top_stack fs)) top) ∙ has.effect in
    let frames : new.stack.frames ≡ has.callee ∷ record f { stack = has.rest } ∷ below = has.frames ∙ ap (λ (fs : List Frame). has.callee ∷ with_stack has.rest fs) top in
    record { effect_is = invokes has.callee has.rest; is = effect; quiet = refl; leads = ap (λ (q : State). Some q) (own_frames stage a (f ∷ below) (has.callee ∷ record f { stack = has.rest } ∷ below) ∙ ap (state_of stage a) (sym frames)) }

pub deep_leads : (w : World) (a b : Parts) (c : Callee) (next : ℕ) (m : Continuation) (after : List Frame) (e : Exception) → begins (length m.stack.frames) c (operands m) ≡ Some (throws e) → after ≡ m.stack.frames
    → Raises w e a b → EffectSteps w next (λ r depth stack. begins depth c stack) a m.stack.frames b after
deep_leads w a b c next m after e effect same raise stage f below top =
    leads_too w stage a b f below after next (Some (throws e)) (begins (suc (length below)) c f.stack) (sym (ap (λ (fs : List Frame). begins (length fs) c (top_stack fs)) top) ∙ effect)
    (thrown_leads w stage a b f below after next e raise (same ∙ top))

-- a native method
pub native_leads : (w : World) (a b : Parts) (s : NativeState) (native : Native) (next : ℕ) (m new : Continuation) (after : List Frame) (o : Outcome) → Acts (native_effect w native) (with_natives a.natives) m (with_natives s) new o
    → KeptUnlessDone o m new → StaysIfThrownOrAsked o a.natives s → ChangesOperands m new → length (top_stack new.stack.frames) ≤ top_room new.stack.frames → Concludes w next o (record a { natives = s }) new.stack.frames b after
    → EffectSteps w next (λ r depth stack. native_effect w native r stack) a m.stack.frames b after
native_leads w a b s native next m new after o acts kept stays only held ends stage f below top =
    concluded w stage a (record a { natives = s }) b f below new.stack.frames after (operands new) next o (native_effect w native (memory_of a) f.stack) (λ x fs. refl)
    (subst (λ (fs : List Frame). IsEffect (top_room fs) o (native_effect w native (memory_of a) (top_stack fs)) (memory_of (record a { natives = s })) (operands new)) top (acts (memory_of a)))
    (subst (λ (n : ℕ). length (operands new) ≤ n) (ap top_room frames) held) frames (memory_kept o stays ends) (frames_kept m new (f ∷ below) o top kept) ends
  where
    frames : new.stack.frames ≡ with_stack (operands new) (f ∷ below)
    frames = only.frames ∙ ap (with_stack (operands new)) top

    memory_kept : (o : Outcome) → StaysIfThrownOrAsked o a.natives s → Concludes w next o (record a { natives = s }) new.stack.frames b after → KeptUnlessDone o (memory_of a) (memory_of (record a { natives = s }))
    memory_kept Done x y = tt
    memory_kept (Throws e) x y = ap (λ (t : NativeState). memory_of (record a { natives = t })) x
    memory_kept (ThrowsObject n) x y = ap (λ (t : NativeState). memory_of (record a { natives = t })) x
    memory_kept (Asks asked count) x y = absurd y.0
    memory_kept Undefined x y = absurd y.0

-- ---- the step by what the invocation comes to

gives_stepped : (w : World) (i : Instruction) (a b : Parts) (m : Continuation) (after : List Frame) (other : Memory → ℕ → List Slot → Option Effect)
    → ((r : Memory) (depth : ℕ) → row_invoked w i.resolution (row_of i.instr.op) (with_heap a.natives.heap r) depth (operands m) ≡ other (with_heap a.natives.heap r) depth (operands m))
    → EffectSteps w i.instr.next other a m.stack.frames b after → Steps w i a m.stack.frames b after
gives_stepped w i a b m after other given effects stage f below top at =
    let r : Memory = memory_of a in
    let same : row_invoked w i.resolution (row_of i.instr.op) r (suc (length below)) f.stack ≡ other r (suc (length below)) f.stack =
    subst (λ (fs : List Frame). row_invoked w i.resolution (row_of i.instr.op) r (suc (length below)) (top_stack fs) ≡ other r (suc (length below)) (top_stack fs)) top (given r (suc (length below))) in
    let step = invoked_stepped w i stage a b f below after at (leads_too w stage a b f below after i.instr.next _ _ same (effects stage f below top)) in
    subst (λ (fs : List Frame). IsQuietStep w stage.number (state_of stage a fs) fs (state_of stage b after)) (sym top) step

-- it comes to this target
abbrev pub ComesTo : World → Instruction → Parts → Continuation → Target → Type 0
ComesTo w i a m target = IsInvoked w i.resolution (row_of i.instr.op) a.natives.heap m target

pub native_stepped : (w : World) (i : Instruction) (a b : Parts) (m : Continuation) (after : List Frame) (native : Native) → ComesTo w i a m (targets.Native native)
    → EffectSteps w i.instr.next (λ r depth stack. native_effect w native r stack) a m.stack.frames b after → Steps w i a m.stack.frames b after
native_stepped w i a b m after native comes effects = gives_stepped w i a b m after (λ r depth stack. native_effect w native r stack) comes effects

pub code_stepped : (w : World) (i : Instruction) (a b : Parts) (m : Continuation) (after : List Frame) (c : Callee) → ComesTo w i a m (targets.Code c)
    → ((next : ℕ) → EffectSteps w next (λ r depth stack. begins depth c stack) a m.stack.frames b after) → Steps w i a m.stack.frames b after
code_stepped w i a b m after c comes effects = gives_stepped w i a b m after (λ r depth stack. begins depth c stack) comes (effects i.instr.next)

pub synchronized_stepped : (w : World) (i : Instruction) (a b : Parts) (m : Continuation) (c : Callee) → ComesTo w i a m (targets.Synchronized c)
    → ((next : ℕ) → EffectSteps w next (λ r depth stack. begins_synchronized w depth c stack) a m.stack.frames b m.stack.frames) → Steps w i a m.stack.frames b m.stack.frames
synchronized_stepped w i a b m c comes effects = gives_stepped w i a b m m.stack.frames (λ r depth stack. begins_synchronized w depth c stack) comes (effects i.instr.next)

pub throws_stepped : (w : World) (i : Instruction) (a b : Parts) (m : Continuation) (e : Exception) → ComesTo w i a m (targets.Throws e)
    → Raises w e a b → Steps w i a m.stack.frames b m.stack.frames
throws_stepped w i a b m e comes raise =
    gives_stepped w i a b m m.stack.frames (λ r depth stack. Some (throws e)) comes (λ stage f below top. thrown_leads w stage a b f below m.stack.frames i.instr.next e raise top)
