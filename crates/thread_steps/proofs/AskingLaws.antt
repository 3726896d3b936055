-- Instructions on monitors and native methods that ask something of the threads.
use Rattle.opcodes.specs.declared.op.ValueKind.{ValueKind}
use Rattle.frames.specs.Frames.{top_stack}
use Rattle.ref_model.specs.declared.exception.Exception.{Exception}
use Rattle.ref_model.specs.Monitors.{with_monitor}
use Rattle.ref_model.specs.Operands.{HasOperands}
use Rattle.ref_model.specs.Requests.{calls}
use Rattle.ref_model.specs.Effects.{throws}
use Rattle.invocation.specs.declared.target.Callee.{Callee}
use Rattle.invocation.specs.declared.synchronized_calls.SynchronizedCall.{SynchronizedCall}
use Rattle.invocation.specs.FrameSteps.{HoldsMonitor, returned_kinds}
use Rattle.invocation.specs.SynchronizedCalls.{AsksForMonitor}
use Rattle.invocation.specs.Targets.{begins_synchronized, callee_frame}
use Rattle.thread_steps.specs.Asking.{CallProceeds, IsCalling, ReturnProceeds}
use Rattle.thread_steps.specs.Concluding.{Raises}
use Rattle.thread_steps.specs.Returning.{ReturnSteps}
use Rattle.thread_steps.proofs.CallLaws.{leads_too, synchronized_stepped, thrown_leads}
use Rattle.thread_steps.proofs.ReturnLaws.{monitor_return}
use Rattle.thread_steps.proofs.StepLaws.{quiet_return}
use Rattle.std.proofs.Common.{◌≡◌, ℕ, suc, ◌≤◌, List, ◌∷◌, length, drop, Option, Some, None, refl, ap, sym, ◌∙◌, subst}
use Rattle.items.specs.Options.{◌>>=◌}
use Rattle.items.proofs.Binds.{bind_is}
use Rattle.lib_table.specs.declared.native.Native.{Native}
use Rattle.instruction_rows.specs.declared.value.Slot.{Slot}
use Rattle.instruction_rows.specs.Rows.{Row, Event, Invocation, local, constant, wide_constant, returns, invoke, event, refused, virtual, special, static, interface, dynamic}
use Rattle.instruction_rows.specs.Table.{row as row_of}
use Rattle.link_model.specs.World.{World}
use Rattle.verify_types.specs.Environment.{Instruction}
use Rattle.state_model.specs.Frames.{Frame}
use Rattle.continuation.specs.Continuation.{Continuation}
use Rattle.frames.specs.Frames.{top_stack, top_room}
use Rattle.ref_model.specs.Asking.{Asking}
use Rattle.ref_model.specs.Calls.{invoked}
use Rattle.ref_model.specs.Effects.{Effect, asks}
use Rattle.ref_model.specs.Fetch.{fetched}
use Rattle.ref_model.specs.LocalRows.{local_act}
use Rattle.ref_model.specs.Memory.{Memory}
use Rattle.ref_model.specs.Requests.{Request, request_of}
use Rattle.ref_model.specs.Resuming.{asking_by, asking_in}
use Rattle.ref_model.specs.RowEffects.{event_effect, monitor_asked, row_effect}
use Rattle.heap_instructions.specs.declared.outcome.Outcome.{Outcome}
use Rattle.heap_instructions.specs.Dispatch as events
use Rattle.heap_instructions.specs.Operands.{operands, ChangesOperands}
use Rattle.heap_instructions.specs.Outcomes.{Acts, ActsAlone, IsEffect, KeptUnlessDone}
use Rattle.heap_instructions.proofs.DispatchLaws.{kept_same}
use Rattle.native_methods.specs.declared.state.NativeState.{NativeState}
use Rattle.native_methods.specs.Arguments.{native_effect}
use Rattle.native_methods.specs.NativeStates.{with_natives, StaysIfThrownOrAsked}
use Rattle.invocation.specs.declared.target.Target.TheVariants as targets
use Rattle.invocation.specs.Targets.{row_invoked}
use Rattle.thread_steps.specs.declared.parts.Parts.{Parts}
use Rattle.thread_steps.specs.declared.progress.PendingRequest.{PendingRequest}
use Rattle.thread_steps.specs.declared.progress.Progress.{Progress}
use Rattle.thread_steps.specs.declared.progress.Progress.TheVariants.{Stepped, Asks, Calls, Returns}
use Rattle.thread_steps.specs.Asking.{AsksAt, AsksSo, EffectAsks, EffectProceeds, IsAsking, IsPending, IsProgress, Proceeds, StaysIfAsked, asking_of}
use Rattle.thread_steps.specs.Concluding.{Concludes, IsQuietStep, Steps}
use Rattle.thread_steps.specs.States.{memory_of, state_of}
use Rattle.thread_steps.proofs.CallLaws.{ComesTo, native_leads, native_stepped, static_so}
use Rattle.thread_steps.proofs.EventLaws.{event_stepped}
use Rattle.thread_steps.proofs.StepLaws.{no_row}

-- ---- what an instruction asks, by its effect

asks_by : (w : World) (i : Instruction) (q : PendingRequest) (a : Parts) (f : Frame) (below : List Frame) → fetched w f ≡ Some i → q.next ≡ i.instr.next
    → row_effect w i (row_of i.instr.op) (memory_of a) (suc (length below)) f ≡ Some (asks (request_of q.request) (drop q.operands f.stack))
    → asking_in w (memory_of a) (f ∷ below) ≡ Some (request_of q.request, asking_of q f below)
asks_by w i q a f below at next effect =
    let asked : Option (Request × Asking) = Some (request_of q.request, asking_of q f below) in
    let pending : ℕ → Asking = λ n. record { frame = f; below = below; next = n; stack = drop q.operands f.stack } in
    bind_is (fetched w f) (λ j. row_effect w j (row_of j.instr.op) (memory_of a) (suc (length below)) f >>= asking_by f below j.instr.next) i asked at
    (bind_is (row_effect w i (row_of i.instr.op) (memory_of a) (suc (length below)) f) (asking_by f below i.instr.next) (asks (request_of q.request) (drop q.operands f.stack)) asked effect
    (ap (λ (n : ℕ). Some (request_of q.request, pending n)) (sym next)))

-- ---- instructions on monitors

-- the effect of such an instruction, on a stack
abbrev IsMonitorEvent : World → Instruction → Event → (ℕ → Request) → Type 0
IsMonitorEvent w i e ask = (r : Memory) (stack : List Slot) → event_effect w i.resolution e r stack ≡ monitor_asked ask stack

-- what it does in the top frame
on_top : (o : Outcome) (ask : ℕ → Request) (a : Parts) (m : Continuation) (f : Frame) (below : List Frame) → ActsAlone (monitor_asked ask) m o → m.stack.frames ≡ f ∷ below
    → IsEffect f.room o (monitor_asked ask f.stack) (memory_of a) f.stack
on_top o ask a m f below acts top =
    subst (λ (fs : List Frame). IsEffect (top_room fs) o (monitor_asked ask (top_stack fs)) (memory_of a) (top_stack fs)) top (acts (memory_of a))

monitor_steps : (w : World) (i : Instruction) (e : Event) (ask : ℕ → Request) (o : Outcome) (a b : Parts) (m : Continuation) (after : List Frame)
    → row_of i.instr.op ≡ event e → IsMonitorEvent w i e ask → ActsAlone (monitor_asked ask) m o → length (top_stack m.stack.frames) ≤ top_room m.stack.frames
    → Concludes w i.instr.next o a m.stack.frames b after → Steps w i a m.stack.frames b after
monitor_steps w i e ask o a b m after is does acts held ends stage f below top at =
    let same : events.row_effect w i.resolution (row_of i.instr.op) (memory_of a) f.stack ≡ monitor_asked ask f.stack =
    ap (λ (act : Row). events.row_effect w i.resolution act (memory_of a) f.stack) is ∙ does (memory_of a) f.stack in
    let step : IsQuietStep w stage.number (state_of stage a (f ∷ below)) (f ∷ below) (state_of stage b after) =
    event_stepped w i stage a a b f below m.stack.frames after f.stack o at (λ x fs. refl)
    (subst (λ (x : Option Effect). IsEffect f.room o x (memory_of a) f.stack) (sym same) (on_top o ask a m f below acts top))
    (subst (λ (fs : List Frame). length (top_stack fs) ≤ top_room fs) top held) top (kept_same o (memory_of a))
    (subst (λ (fs : List Frame). KeptUnlessDone o (f ∷ below) fs) (sym top) (kept_same o (f ∷ below))) ends in
    subst (λ (fs : List Frame). IsQuietStep w stage.number (state_of stage a fs) fs (state_of stage b after)) (sym top) step

monitor_asks : (w : World) (i : Instruction) (e : Event) (ask : ℕ → Request) (o : Outcome) (q : PendingRequest) (a : Parts) (m : Continuation)
    → row_of i.instr.op ≡ event e → IsMonitorEvent w i e ask → ActsAlone (monitor_asked ask) m o → IsPending i.instr.next o q → AsksAt w i q a m.stack.frames
monitor_asks w i e ask o q a m is does acts pending f below top at =
    let so = subst (λ (x : Outcome). IsEffect f.room x (monitor_asked ask f.stack) (memory_of a) f.stack) pending.asks (on_top o ask a m f below acts top) in
    let effect = ap (λ (act : Row). row_effect w i act (memory_of a) (suc (length below)) f) is ∙ does (memory_of a) f.stack ∙ so.0 in
    subst (λ (fs : List Frame). IsAsking w q a fs f below) (sym top) (record {
      asking = asks_by w i q a f below at pending.goes_on effect;
      takes = so.1;
      event = no_row w i (event e) f below at is refl;
    })

pub monitor_proceeds : (w : World) (i : Instruction) (e : Event) (ask : ℕ → Request) (o : Outcome) (progress : Progress) (a b : Parts) (m n : Continuation)
    → row_of i.instr.op ≡ event e → IsMonitorEvent w i e ask → ActsAlone (monitor_asked ask) m o → length (top_stack m.stack.frames) ≤ top_room m.stack.frames
    → Proceeds w i.instr.next o progress a m b n → IsProgress w i progress a m.stack.frames b n.stack.frames
monitor_proceeds w i e ask o Stepped a b m n is does acts held ends = monitor_steps w i e ask o a b m n.stack.frames is does acts held ends
monitor_proceeds w i e ask o (Asks q) a b m n is does acts held ends =
    (monitor_asks w i e ask o q a m is does acts ends.0, ends.1, ap (λ (x : Continuation). x.stack.frames) ends.2)
monitor_proceeds w i e ask o (Calls call) a b m n is does acts held ends = absurd ends
monitor_proceeds w i e ask o (Returns q) a b m n is does acts held ends = absurd ends

-- whatever was asked, the thread stays
pub stays_asked : (w : World) (next : ℕ) (o : Outcome) (progress : Progress) (a b : Parts) (m n : Continuation) → Proceeds w next o progress a m b n → StaysIfAsked progress m n
stays_asked w next o Stepped a b m n ends = tt
stays_asked w next o (Asks q) a b m n ends = ends.2
stays_asked w next o (Calls call) a b m n ends = absurd ends
stays_asked w next o (Returns q) a b m n ends = absurd ends

-- ---- instructions that ask nothing

pub quiet_progress : (w : World) (i : Instruction) (progress : Progress) (a b : Parts) (frames after : List Frame) → progress ≡ Stepped → Steps w i a frames b after
    → IsProgress w i progress a frames b after
quiet_progress w i progress a b frames after quiet steps = subst (λ x. IsProgress w i x a frames b after) (sym quiet) steps

pub quiet_stays : (progress : Progress) (m n : Continuation) → progress ≡ Stepped → StaysIfAsked progress m n
quiet_stays progress m n quiet = subst (λ x. StaysIfAsked x m n) (sym quiet) tt

pub quiet_proceeds : (w : World) (next : ℕ) (o : Outcome) (progress : Progress) (a b : Parts) (m n : Continuation) → progress ≡ Stepped
    → Concludes w next o a m.stack.frames b n.stack.frames → Proceeds w next o progress a m b n
quiet_proceeds w next o progress a b m n quiet ends = subst (λ x. Proceeds w next o x a m b n) (sym quiet) ends

-- ---- native methods

native_asks : (w : World) (a : Parts) (s : NativeState) (native : Native) (next : ℕ) (m new : Continuation) (o : Outcome) (q : PendingRequest)
    → Acts (native_effect w native) (with_natives a.natives) m (with_natives s) new o → new ≡ m → IsPending next o q
    → EffectAsks (λ r depth stack. native_effect w native r stack) q a m.stack.frames
native_asks w a s native next m new o q acts same pending f below top =
    let here = subst (λ (x : Continuation). IsEffect (top_room m.stack.frames) o (native_effect w native (memory_of a) (operands m)) (with_natives s (memory_of a)) (operands x)) same (acts (memory_of a)) in
    let asked = subst (λ (x : Outcome). IsEffect (top_room m.stack.frames) x (native_effect w native (memory_of a) (operands m)) (with_natives s (memory_of a)) (operands m)) pending.asks here in
    subst (λ (fs : List Frame). AsksSo q (record f { stack = top_stack fs }) (native_effect w native (memory_of a) (top_stack fs))) top (record { is = asked.0; takes = asked.1 })

-- where it asks, nothing has changed
native_same : (o : Outcome) (next : ℕ) (q : PendingRequest) (m new : Continuation) → IsPending next o q → KeptUnlessDone o m new → new ≡ m
native_same o next q m new pending kept = subst (λ (x : Outcome). KeptUnlessDone x m new) pending.asks kept

state_same : (o : Outcome) (next : ℕ) (q : PendingRequest) (s t : NativeState) → IsPending next o q → StaysIfThrownOrAsked o s t → t ≡ s
state_same o next q s t pending stays = subst (λ (x : Outcome). StaysIfThrownOrAsked x s t) pending.asks stays

pub native_proceeds : (w : World) (a b : Parts) (s : NativeState) (native : Native) (next : ℕ) (m new last : Continuation) (o : Outcome) (progress : Progress)
    → Acts (native_effect w native) (with_natives a.natives) m (with_natives s) new o → KeptUnlessDone o m new → StaysIfThrownOrAsked o a.natives s → ChangesOperands m new
    → length (top_stack new.stack.frames) ≤ top_room new.stack.frames → Proceeds w next o progress (record a { natives = s }) new b last
    → EffectProceeds w next (λ r depth stack. native_effect w native r stack) progress a m.stack.frames b last.stack.frames
native_proceeds w a b s native next m new last o Stepped acts kept stays only held ends = native_leads w a b s native next m new last.stack.frames o acts kept stays only held ends
native_proceeds w a b s native next m new last o (Asks q) acts kept stays only held ends =
    let same = native_same o next q m new ends.0 kept in (
      native_asks w a s native next m new o q acts same ends.0,
      ends.0.goes_on,
      ends.1 ∙ ap (λ (t : NativeState). record a { natives = t }) (state_same o next q a.natives s ends.0 stays),
      ap (λ (x : Continuation). x.stack.frames) (ends.2 ∙ same),
    )
native_proceeds w a b s native next m new last o (Calls call) acts kept stays only held ends = absurd ends
native_proceeds w a b s native next m new last o (Returns q) acts kept stays only held ends = absurd ends

pub native_stays : (w : World) (a b : Parts) (next : ℕ) (m new last : Continuation) (o : Outcome) (progress : Progress) → KeptUnlessDone o m new → Proceeds w next o progress a new b last
    → StaysIfAsked progress m last
native_stays w a b next m new last o Stepped kept ends = tt
native_stays w a b next m new last o (Asks q) kept ends = ends.2 ∙ native_same o next q m new ends.0 kept
native_stays w a b next m new last o (Calls call) kept ends = absurd ends
native_stays w a b next m new last o (Returns q) kept ends = absurd ends

-- ---- an invocation that comes to a native method

-- what asks is no local call
no_local_call : (w : World) (i : Instruction) (invocation : Invocation) (index : ℕ) (r : Memory) (f : Frame) (below : List Frame) (q : Request) (rest : List Slot)
    → invoked w i.resolution invocation r (suc (length below)) f.stack ≡ Some (asks q rest) → local_act w i (invoke invocation index) f below ≡ None
no_local_call w i virtual index r f below q rest effect = refl
no_local_call w i special index r f below q rest effect = refl
no_local_call w i (interface count) index r f below q rest effect = refl
no_local_call w i dynamic index r f below q rest effect = refl
no_local_call w i static index r f below q rest effect = by (local_act w i (invoke static index) f below) refl
  where
    by : (found : Option (List Frame)) → local_act w i (invoke static index) f below ≡ found → local_act w i (invoke static index) f below ≡ None
    by None made = made
    by (Some fs) made = absurd (let e = sym (static_so w i r f below fs made).3 ∙ effect in cc)

call_asks : (w : World) (i : Instruction) (q : PendingRequest) (a : Parts) (f : Frame) (below : List Frame) → fetched w f ≡ Some i → q.next ≡ i.instr.next → q.operands ≤ length f.stack
    → row_invoked w i.resolution (row_of i.instr.op) (memory_of a) (suc (length below)) f.stack ≡ Some (asks (request_of q.request) (drop q.operands f.stack)) → IsAsking w q a (f ∷ below) f below
call_asks w i q a f below at next takes effect = by (row_of i.instr.op) refl effect
  where
    by : (act : Row) → row_of i.instr.op ≡ act → row_invoked w i.resolution act (memory_of a) (suc (length below)) f.stack ≡ Some (asks (request_of q.request) (drop q.operands f.stack)) → IsAsking w q a (f ∷ below) f below
    by (invoke invocation index) is x = record {
      asking = asks_by w i q a f below at next (ap (λ (act : Row). row_effect w i act (memory_of a) (suc (length below)) f) is ∙ x);
      takes = takes;
      event = no_row w i (invoke invocation index) f below at is (no_local_call w i invocation index (memory_of a) f below (request_of q.request) (drop q.operands f.stack) x);
    }
    by (local act) is x = absurd cc
    by (constant index) is x = absurd cc
    by (wide_constant index) is x = absurd cc
    by (returns kind) is x = absurd cc
    by (event e) is x = absurd cc
    by refused is x = absurd cc

pub invocation_proceeds : (w : World) (i : Instruction) (a b : Parts) (m : Continuation) (after : List Frame) (native : Native) (progress : Progress) → ComesTo w i a m (targets.Native native)
    → EffectProceeds w i.instr.next (λ r depth stack. native_effect w native r stack) progress a m.stack.frames b after → IsProgress w i progress a m.stack.frames b after
invocation_proceeds w i a b m after native Stepped comes effects = native_stepped w i a b m after native comes effects
invocation_proceeds w i a b m after native (Asks q) comes effects = (
  λ f below top at.
      let x = effects.0 f below top in
      let same : row_invoked w i.resolution (row_of i.instr.op) (memory_of a) (suc (length below)) f.stack ≡ native_effect w native (memory_of a) f.stack =
      subst (λ (fs : List Frame). row_invoked w i.resolution (row_of i.instr.op) (memory_of a) (suc (length below)) (top_stack fs) ≡ native_effect w native (memory_of a) (top_stack fs)) top (comes (memory_of a) (suc (length below))) in
      subst (λ (fs : List Frame). IsAsking w q a fs f below) (sym top) (call_asks w i q a f below at effects.1 x.takes (same ∙ x.is)),
  effects.2,
  effects.3,
)
invocation_proceeds w i a b m after native (Calls call) comes effects = absurd effects
invocation_proceeds w i a b m after native (Returns q) comes effects = absurd effects

-- ---- an invocation that comes to a synchronized method

-- what its instruction asks
pub call_is_asked : (w : World) (i : Instruction) (c : Callee) (call : SynchronizedCall) (a : Parts) (m : Continuation) (f : Frame) (below : List Frame) → m.stack.frames ≡ f ∷ below
    → fetched w f ≡ Some i → ComesTo w i a m (targets.Synchronized c) → c.slots ≤ length (operands m) → AsksForMonitor w c m call → IsCalling w call a (f ∷ below) f below
call_is_asked w i c call a m f below top at comes takes x = by (row_of i.instr.op) refl effect
  where
    request : Request
    request = calls call.monitor (with_monitor x.frame call.monitor)

    -- the effect of the instruction
    effect : row_invoked w i.resolution (row_of i.instr.op) (memory_of a) (suc (length below)) f.stack ≡ Some (asks request (drop call.callee.slots f.stack))
    effect =
        subst (λ (fs : List Frame). row_invoked w i.resolution (row_of i.instr.op) (memory_of a) (length fs) (top_stack fs) ≡ Some (asks request (drop call.callee.slots (top_stack fs)))) top
        (comes (memory_of a) (length m.stack.frames) ∙ x.effect ∙ ap (λ (d : Callee). Some (asks request (drop d.slots (operands m)))) (sym x.callee))

    asking : Asking
    asking = record { frame = f; below = below; next = i.instr.next; stack = drop call.callee.slots f.stack }

    by : (act : Row) → row_of i.instr.op ≡ act → row_invoked w i.resolution act (memory_of a) (suc (length below)) f.stack ≡ Some (asks request (drop call.callee.slots f.stack))
        → IsCalling w call a (f ∷ below) f below
    by (invoke invocation index) is e = record {
      callee = x.frame;
      begins = subst (λ (d : Callee). callee_frame d f.stack ≡ Some x.frame) (sym x.callee) (subst (λ (fs : List Frame). callee_frame c (top_stack fs) ≡ Some x.frame) top x.begins);
      next = i.instr.next;
      asking =
          bind_is (fetched w f) (λ j. row_effect w j (row_of j.instr.op) (memory_of a) (suc (length below)) f >>= asking_by f below j.instr.next) i (Some (request, asking)) at
          (bind_is (row_effect w i (row_of i.instr.op) (memory_of a) (suc (length below)) f) (asking_by f below i.instr.next) (asks request (drop call.callee.slots f.stack)) (Some (request, asking))
          (ap (λ (act : Row). row_effect w i act (memory_of a) (suc (length below)) f) is ∙ e) refl);
      takes = subst (λ (d : Callee). d.slots ≤ length f.stack) (sym x.callee) (subst (λ (fs : List Frame). c.slots ≤ length (top_stack fs)) top takes);
      event = no_row w i (invoke invocation index) f below at is (no_local_call w i invocation index (memory_of a) f below request (drop call.callee.slots f.stack) e);
    }
    by (local act) is e = absurd cc
    by (constant index) is e = absurd cc
    by (wide_constant index) is e = absurd cc
    by (returns kind) is e = absurd cc
    by (event v) is e = absurd cc
    by refused is e = absurd cc

pub call_proceeds : (w : World) (i : Instruction) (c : Callee) (progress : Progress) (a b : Parts) (m : Continuation) → ComesTo w i a m (targets.Synchronized c) → c.slots ≤ length (operands m)
    → CallProceeds w c progress m a b → IsProgress w i progress a m.stack.frames b m.stack.frames
call_proceeds w i c Stepped a b m comes takes x = synchronized_stepped w i a b m c comes x
call_proceeds w i c (Calls call) a b m comes takes x = (
  λ f below top at. subst (λ (fs : List Frame). IsCalling w call a fs f below) (sym top) (call_is_asked w i c call a m f below top at comes takes x.0),
  x.1,
  refl,
)
call_proceeds w i c (Asks q) a b m comes takes x = absurd x
call_proceeds w i c (Returns q) a b m comes takes x = absurd x

-- whatever it comes to, the thread stays
pub call_stays : (w : World) (c : Callee) (progress : Progress) (a b : Parts) (m : Continuation) → CallProceeds w c progress m a b → StaysIfAsked progress m m
call_stays w c Stepped a b m x = tt
call_stays w c (Asks q) a b m x = refl
call_stays w c (Calls call) a b m x = refl
call_stays w c (Returns q) a b m x = refl

-- it asks for its monitor
pub call_asked : (w : World) (c : Callee) (call : SynchronizedCall) (progress : Progress) (a : Parts) (m : Continuation) → progress ≡ Calls call → AsksForMonitor w c m call
    → CallProceeds w c progress m a a
call_asked w c call progress a m is x = subst (λ p. CallProceeds w c p m a a) (sym is) (x, refl)

-- there are too many frames
pub call_throws : (w : World) (c : Callee) (e : Exception) (progress : Progress) (a b : Parts) (m : Continuation) → progress ≡ Stepped
    → begins_synchronized w (length m.stack.frames) c (operands m) ≡ Some (throws e) → Raises w e a b → CallProceeds w c progress m a b
call_throws w c e progress a b m is effect raise =
    subst (λ p. CallProceeds w c p m a b) (sym is) (λ next stage f below top.
    leads_too w stage a b f below m.stack.frames next (Some (throws e)) (begins_synchronized w (suc (length below)) c f.stack)
    (sym (ap (λ (fs : List Frame). begins_synchronized w (length fs) c (top_stack fs)) top) ∙ effect)
    (thrown_leads w stage a b f below m.stack.frames next e raise top))

-- ---- returns that leave a monitor

pub return_proceeds : (w : World) (i : Instruction) (kind : Option ValueKind) (progress : Progress) (a b : Parts) (frames after : List Frame) → row_of i.instr.op ≡ returns kind
    → HasOperands (returned_kinds kind) 0 (top_stack frames) → ReturnProceeds w kind progress a frames b after → IsProgress w i progress a frames b after
return_proceeds w i kind Stepped a b frames after is operands x = λ stage f below top at. record {
  step = x stage f below i top at is;
  quiet = subst (λ (fs : List Frame). asking_in w (memory_of a) fs ≡ None) (sym top) (quiet_return w i kind (memory_of a) f below at is);
}
return_proceeds w i kind (Returns q) a b frames after is operands x = (
  λ f below top at.
      monitor_return w i q kind f below at is x.0 (subst (λ (fs : List Frame). HoldsMonitor w fs q.monitor) top x.1) (subst (λ (fs : List Frame). HasOperands (returned_kinds kind) 0 (top_stack fs)) top operands),
  x.2,
  x.3,
)
return_proceeds w i kind (Asks q) a b frames after is operands x = absurd x
return_proceeds w i kind (Calls call) a b frames after is operands x = absurd x

pub stepped_return : (w : World) (kind : Option ValueKind) (progress : Progress) (a b : Parts) (frames after : List Frame) → progress ≡ Stepped → ReturnSteps w kind a frames b after
    → ReturnProceeds w kind progress a frames b after
stepped_return w kind progress a b frames after quiet steps = subst (λ x. ReturnProceeds w kind x a frames b after) (sym quiet) steps
