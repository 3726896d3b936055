-- A step that makes a thread is defined only where there may be one more.
use Rattle.std.proofs.Common.{◌≡◌, ℕ, Bool, true, false, List, [], ◌∷◌, length, Option, Some, None, refl, ap, sym, ◌∙◌, ◌&&◌, drop, not, cond}
use Rattle.std.specs.Prelude.{is_none, nat_lt, slice_get, if◌then◌else◌}
use Rattle.std.specs.Option.{option_map_or}
use Rattle.std.proofs.lemmas.Bool.{and_parts, and_right}
use Rattle.items.specs.Options.{◌>>=◌}
use Rattle.items.proofs.Binds.{some_is}
use Rattle.lib_table.specs.declared.native.Native.{Native}
use Rattle.instruction_rows.specs.declared.value.Slot.{Slot}
use Rattle.instruction_rows.specs.Rows.{Row, local, constant, wide_constant, returns, invoke, event, refused, virtual, special, static, interface, dynamic}
use Rattle.instruction_rows.specs.SlotEffect.{divides_by_zero}
use Rattle.instruction_rows.specs.Table.{row as row_of}
use Rattle.vthread_state.specs.declared.phase.Phase.TheVariants.{Run}
use Rattle.vthread_state.specs.declared.thread.Status.TheVariants.{Live}
use Rattle.link_model.specs.declared.members.MethodInfo.{MethodInfo}
use Rattle.link_model.specs.declared.members.MethodCode.{MethodCode}
use Rattle.link_model.specs.Decoded.{code_at}
use Rattle.link_model.specs.World.{World}
use Rattle.verify_types.specs.Environment.{Instruction}
use Rattle.state_model.specs.Frames.{Frame}
use Rattle.ref_model.specs.declared.exception.Exception.TheVariants.{ArithmeticException, StackOverflowError}
use Rattle.ref_model.specs.Setting.{Setting}
use Rattle.ref_model.specs.Memory.{Memory}
use Rattle.ref_model.specs.State.{JavaThread, State, frames_at}
use Rattle.ref_model.specs.Members.{is_synchronized, is_hold, native_at}
use Rattle.ref_model.specs.Kinds.{argument_slots}
use Rattle.ref_model.specs.Fetch.{Named, fetched, named_method}
use Rattle.ref_model.specs.Frames.{callee, contents}
use Rattle.ref_model.specs.LocalRows.{frames_called, has_local_call, local_act, most_frames, row, static_called}
use Rattle.ref_model.specs.Monitors.{method_monitor, with_monitor}
use Rattle.ref_model.specs.Requests.{Request, calls, creates}
use Rattle.ref_model.specs.Effects.{Effect, asks, done, invokes, throws, throws_object}
use Rattle.ref_model.specs.Calls.{class_called, code_entered, frame_entered, native_entered, receiver_of}
use Rattle.ref_model.specs.RowEffects.{row_effect}
use Rattle.ref_model.specs.Asking.{Asking}
use Rattle.ref_model.specs.Requesting.{asked}
use Rattle.ref_model.specs.Resuming.{asking_at, asking_by, asking_in, next_asks}
use Rattle.ref_model.specs.Starting.{made_or_thrown, may_create, name_made}
use Rattle.ref_model.specs.Step.{after_effect, enabled, row_event, row_or_event, status_step, step, thread_step}
use Rattle.ref_model.specs.Looks.{is_create, lacks_threads_next}
use Rattle.ref_model.proofs.StateLaws.{runs}
use Rattle.schedule_soundness.proofs.Steps.{guarded}

no_both : (b : Bool) → b ≡ true → b ≡ false → ⊥
no_both b i j = absurd cc

-- ---- effects that make a thread

abbrev effect_creates : Effect → Bool
effect_creates (asks request stack) = is_create request
effect_creates effect = false

abbrev some_creates : Option Effect → Bool
some_creates o = option_map_or effect_creates o false

abbrev asking_creates : Option (Request × Asking) → Bool
asking_creates o = option_map_or (λ (x : Request × Asking). is_create x.0) o false

asking_of : (f : Frame) (below : List Frame) (next : ℕ) (effect : Effect) → asking_creates (asking_by f below next effect) ≡ effect_creates effect
asking_of f below next (asks request stack) = refl
asking_of f below next (done memory stack) = refl
asking_of f below next (invokes g stack) = refl
asking_of f below next (throws x) = refl
asking_of f below next (throws_object o) = refl

-- ---- none of them is local

entered_plain : (m : MethodInfo) (g : Frame) (rest : List Slot) → some_creates (frame_entered m g rest) ≡ false
entered_plain m g rest = by (is_synchronized m) (method_monitor m (receiver_of g))
  where
    by : (b : Bool) (o : Option ℕ) → some_creates (if b then (o >>= λ o. Some (asks (calls o (with_monitor g o)) rest)) else Some (invokes g rest)) ≡ false
    by true None = refl
    by true (Some o) = refl
    by false o = refl

code_plain : (w : World) (depth : ℕ) (m : Named) (o : Option MethodCode) (slots : ℕ) (stack : List Slot)
    → some_creates (code_entered w depth m o slots stack) ≡ false
code_plain w depth m None slots stack = refl
code_plain w depth m (Some code) slots stack = by (nat_lt depth most_frames) (callee m.number code slots stack)
  where
    by : (b : Bool) (o : Option Frame)
        → some_creates (if b then (o >>= λ g. frame_entered m.method g (drop slots stack)) else Some (throws StackOverflowError)) ≡ false
    by true None = refl
    by true (Some g) = entered_plain m.method g (drop slots stack)
    by false o = refl

static_plain : (w : World) (m : Named) (f : Frame) (below after : List Frame) (memory : Memory) (depth : ℕ) → static_called w m f below ≡ Some after
    → some_creates (class_called w m memory depth f.stack) ≡ false
static_plain w m f below after memory depth e =
    let may = (guarded_frames (has_local_call w m && nat_lt (length (f ∷ below)) most_frames) (frames_called w m f below) e).0 in
    let here = (and_parts (has_local_call w m) (nat_lt (length (f ∷ below)) most_frames) may).0 in
    let plain = (and_parts (is_none (native_at w m.number) && not (is_synchronized m.method)) (not (is_hold w m.method)) here).0 in
    let none = none_is (native_at w m.number) (and_parts (is_none (native_at w m.number)) (not (is_synchronized m.method)) plain).0 in
    ap (λ o. some_creates (native_entered w memory depth m o (argument_slots m.method.signature) f.stack)) none
    ∙ code_plain w depth m (code_at w m.number) (argument_slots m.method.signature) f.stack
  where
    guarded_frames : (b : Bool) (o : Option (List Frame)) → (if b then o else None) ≡ Some after → (b ≡ true) × (o ≡ Some after)
    guarded_frames true o e = (refl, e)
    guarded_frames false o e = absurd cc

    none_is : (o : Option Native) → is_none o ≡ true → o ≡ None
    none_is None e = refl
    none_is (Some n) e = absurd cc

local_plain : (w : World) (i : Instruction) (act : Row) (f : Frame) (below after : List Frame) (memory : Memory) (depth : ℕ)
    → local_act w i act f below ≡ Some after → some_creates (row_effect w i act memory depth f) ≡ false
local_plain w i (local r) f below after memory depth e = by (divides_by_zero r (contents f))
  where
    by : (b : Bool) → some_creates (if b then Some (throws ArithmeticException) else None) ≡ false
    by true = refl
    by false = refl
local_plain w i (constant index) f below after memory depth e = refl
local_plain w i (wide_constant index) f below after memory depth e = refl
local_plain w i (returns kind) f below after memory depth e = refl
local_plain w i (invoke static index) f below after memory depth e =
    let m = some_is (named_method w i.resolution) (λ m. static_called w m f below) after e in
    ap (λ o. some_creates (o >>= λ m. class_called w m memory depth f.stack)) m.1 ∙ static_plain w m.0 f below after memory depth m.2
local_plain w i (invoke virtual index) f below after memory depth e = absurd cc
local_plain w i (invoke special index) f below after memory depth e = absurd cc
local_plain w i (invoke (interface count) index) f below after memory depth e = absurd cc
local_plain w i (invoke dynamic index) f below after memory depth e = absurd cc
local_plain w i (event x) f below after memory depth e = absurd cc
local_plain w i refused f below after memory depth e = refl

-- ---- where there may be no more the step is undefined

request_off : (w : World) (r q : State) (t : ℕ) (a : Asking) (request : Request) → is_create request ≡ true → asked w r t a request ≡ Some q
    → may_create r ≡ false → ⊥
request_off w r q t a (creates kind object name) is e full =
    let z : None ≡ Some q =
    sym (ap (λ b. cond b (slice_get r.threads t >>= λ creator. made_or_thrown w r t a kind object name creator (name_made kind r name)) None) full) ∙ e in
    absurd cc
request_off w r q t a request is e full = absurd cc

effect_off : (w : World) (r q : State) (t next : ℕ) (f : Frame) (below : List Frame) (effect : Effect) → effect_creates effect ≡ true
    → after_effect w r t next f below effect ≡ Some q → may_create r ≡ false → ⊥
effect_off w r q t next f below (asks request stack) is e full =
    request_off w r q t (record { frame = f; below = below; next = next; stack = stack }) request is e full
effect_off w r q t next f below (done memory stack) is e full = absurd cc
effect_off w r q t next f below (invokes g stack) is e full = absurd cc
effect_off w r q t next f below (throws x) is e full = absurd cc
effect_off w r q t next f below (throws_object o) is e full = absurd cc

event_is : (w : World) (i : Instruction) (act : Row) (r q : State) (t : ℕ) (f : Frame) (below : List Frame) (effect : Effect)
    → row_effect w i act r.memory (length (f ∷ below)) f ≡ Some effect → row_event w i act r t f below ≡ Some q
    → after_effect w r t i.instr.next f below effect ≡ Some q
event_is w i (returns kind) r q t f below effect made e = absurd cc
event_is w i act r q t f below effect made e = ap (λ o. o >>= after_effect w r t i.instr.next f below) (sym made) ∙ e

top_off : (w : World) (r q : State) (t : ℕ) (f : Frame) (below : List Frame) (i : Instruction) (effect : Effect) → fetched w f ≡ Some i
    → row_effect w i (row_of i.instr.op) r.memory (length (f ∷ below)) f ≡ Some effect → effect_creates effect ≡ true
    → (o : Option (List Frame)) → row w (f ∷ below) ≡ o → row_or_event w r t (f ∷ below) o ≡ Some q → may_create r ≡ false → ⊥
top_off w r q t f below i effect at made is (Some after) known e full =
    let act : local_act w i (row_of i.instr.op) f below ≡ Some after = ap (λ o. o >>= λ i. local_act w i (row_of i.instr.op) f below) (sym at) ∙ known in
    no_both (effect_creates effect) is
    (sym (ap some_creates made) ∙ local_plain w i (row_of i.instr.op) f below after r.memory (length (f ∷ below)) act)
top_off w r q t f below i effect at made is None known e full =
    let acts : row_event w i (row_of i.instr.op) r t f below ≡ Some q =
    ap (λ o. o >>= λ i. row_event w i (row_of i.instr.op) r t f below) (sym at) ∙ e in
    effect_off w r q t i.instr.next f below effect is (event_is w i (row_of i.instr.op) r q t f below effect made acts) full

frames_off : (w : World) (r q : State) (t : ℕ) (frames : List Frame) (x : Request × Asking) → asking_in w r.memory frames ≡ Some x
    → is_create x.0 ≡ true → row_or_event w r t frames (row w frames) ≡ Some q → may_create r ≡ false → ⊥
frames_off w r q t [] x asking is e full = absurd cc
frames_off w r q t (f ∷ below) x asking is e full =
    let i = some_is (fetched w f)
    (λ i. row_effect w i (row_of i.instr.op) r.memory (length (f ∷ below)) f >>= asking_by f below i.instr.next) x asking in
    let effect = some_is (row_effect w i.0 (row_of i.0.instr.op) r.memory (length (f ∷ below)) f) (asking_by f below i.0.instr.next) x i.2 in
    let creates : effect_creates effect.0 ≡ true =
    sym (asking_of f below i.0.instr.next effect.0) ∙ ap asking_creates effect.2 ∙ is in
    top_off w r q t f below i.0 effect.0 i.1 effect.1 creates (row w (f ∷ below)) refl e full

asking_off : (p : Setting) (r q : State) (t : ℕ) (x : Request × Asking) → asking_at p.world r t ≡ Some x → is_create x.0 ≡ true
    → step p r t None ≡ Some q → may_create r ≡ false → ⊥
asking_off p r q t x asking is e full =
    let w = p.world in
    let frames = some_is (frames_at r t) (asking_in w r.memory) x asking in
    let h = runs r t frames.0 frames.1 in
    let thread = some_is (slice_get r.threads t) (λ (y : JavaThread). status_step w r t y.frames y.thread.status) q
    (guarded (enabled r t) (thread_step w r t) q e).1 in
    let same : thread.0 ≡ h.thread = one_thread (slice_get r.threads t) thread.0 h.thread thread.1 h.at in
    let own : thread.0.frames ≡ frames.0 = ap (λ (y : JavaThread). y.frames) same ∙ h.has in
    let running : thread.0.thread.status ≡ Live Run = ap (λ (y : JavaThread). y.thread.status) same ∙ h.running in
    let acts : row_or_event w r t frames.0 (row w frames.0) ≡ Some q =
    sym (ap (λ fs. status_step w r t fs (Live Run)) own) ∙ sym (ap (status_step w r t thread.0.frames) running) ∙ thread.2 in
    frames_off w r q t frames.0 x frames.2 is acts full
  where
    one_thread : (o : Option JavaThread) (a b : JavaThread) → o ≡ Some a → o ≡ Some b → a ≡ b
    one_thread o a b e f = cc

pub has_room : (p : Setting) (r q : State) (t : ℕ) → step p r t None ≡ Some q → lacks_threads_next p.world r t ≡ false
has_room p r q t e = by (may_create r) refl
  where
    no_create : may_create r ≡ false → (o : Option (Request × Asking)) → asking_at p.world r t ≡ o → asking_creates o ≡ false
    no_create full None is = refl
    no_create full (Some x) is = create (is_create x.0) refl
      where
        create : (b : Bool) → is_create x.0 ≡ b → is_create x.0 ≡ false
        create true i = absurd (asking_off p r q t x is i e full)
        create false i = i

    by : (b : Bool) → may_create r ≡ b → lacks_threads_next p.world r t ≡ false
    by true room = ap (λ b. not b && next_asks p.world r t is_create) room
    by false full = and_right (not (may_create r)) (next_asks p.world r t is_create) (no_create full (asking_at p.world r t) refl)
