-- An invokestatic as a local instruction.
use Rattle.std.proofs.Common.{◌≡◌, ℕ, Bool, true, false, List, [], ◌∷◌, length, drop, Option, Some, None, refl, ap, sym, ◌∙◌, subst}
use Rattle.std.specs.Prelude.{nat_lt, slice_get, ◌&&◌, if◌then◌else◌}
use Rattle.items.specs.Options.{◌>>=◌}
use Rattle.items.proofs.Binds.{bind_is, some_is}
use Rattle.instruction_rows.specs.declared.value.Slot.{Slot}
use Rattle.instruction_rows.specs.Rows.{Row, local, constant, wide_constant, returns, invoke, event, refused, virtual, special, static, interface, dynamic}
use Rattle.instruction_rows.specs.Table.{row as row_of}
use Rattle.link_model.specs.declared.sites.Resolution.{Resolution}
use Rattle.link_model.specs.World.{World}
use Rattle.link_model.specs.Decoded.{code_at}
use Rattle.verify_types.specs.Environment.{Instruction}
use Rattle.state_model.specs.Frames.{Frame}
use Rattle.ref_model.specs.Memory.{Memory}
use Rattle.ref_model.specs.Effects.{Effect, invokes, throws}
use Rattle.ref_model.specs.declared.exception.Exception.TheVariants as exceptions
use Rattle.ref_model.specs.Entries.{is_static_call}
use Rattle.ref_model.specs.Fetch.{fetched, Named, method_of, named_method}
use Rattle.ref_model.specs.Frames.{callee, caller}
use Rattle.ref_model.specs.Kinds.{argument_slots}
use Rattle.ref_model.specs.LocalRows.{row, local_act, has_local_call, static_called, frames_called, most_frames}
use Rattle.frame_soundness.specs.LocalLaws.{NamesStatic}
use Rattle.frame_soundness.specs.Typed.{Typed}
use Rattle.frame_soundness.proofs.KeepLaws.{row_keeps}
use Rattle.step_soundness.specs.Resolutions.{IsRowResolution}
use Rattle.continuation.specs.Continuation.{Continuation}
use Rattle.frames.specs.Frames.{top_stack, with_stack}
use Rattle.invocation.specs.declared.target.Callee.{Callee}
use Rattle.invocation.specs.FrameSteps.{HasBegun}
use Rattle.invocation.specs.Targets.{IsStaticCallee, begins, callee_frame}
use Rattle.interp_local.specs.declared.fetched.Fetched.{Fetched}
use Rattle.interp_local.specs.Fetched.{IsTopAt, instruction_of}
use Rattle.carrier_turns.specs.LocalRuns.{GoesOver}
use Rattle.operand_soundness.specs.Ready.{IsReady}
use Rattle.carrier_turns.proofs.LocalLaws.{static_ends}

-- ---- the row of an invokestatic

pub record IsStatic (act : Row) : Type 0 where
  pub index : ℕ
  pub is : act ≡ invoke static index

pub static_row : (act : Row) → is_static_call act ≡ true → IsStatic act
static_row (invoke static index) e = record { index = index; is = refl }
static_row (invoke virtual index) e = absurd cc
static_row (invoke special index) e = absurd cc
static_row (invoke (interface count) index) e = absurd cc
static_row (invoke dynamic index) e = absurd cc
static_row (local r) e = absurd cc
static_row (constant index) e = absurd cc
static_row (wide_constant index) e = absurd cc
static_row (returns kind) e = absurd cc
static_row (event x) e = absurd cc
static_row refused e = absurd cc

-- ---- the frame that begins

-- a call that isn't too deep has a frame, and leaves these operands
pub record Begins (depth : ℕ) (c : Callee) (stack : List Slot) (g : Frame) (rest : List Slot) : Type 0 where
  pub deep : nat_lt depth most_frames ≡ true
  pub frame : callee_frame c stack ≡ Some g
  pub left : rest ≡ drop c.slots stack

begins_so : (depth : ℕ) (c : Callee) (stack : List Slot) (g : Frame) (rest : List Slot) → begins depth c stack ≡ Some (invokes g rest) → Begins depth c stack g rest
begins_so depth c stack g rest e = by (nat_lt depth most_frames) refl e
  where
    act : Frame → Option Effect
    act h = Some (invokes h (drop c.slots stack))

    by : (b : Bool) → nat_lt depth most_frames ≡ b → (if b then (callee_frame c stack >>= λ h. Some (invokes h (drop c.slots stack))) else Some (throws exceptions.StackOverflowError)) ≡ Some (invokes g rest)
        → Begins depth c stack g rest
    by false is e = absurd cc
    by true is e =
        let frame = some_is (callee_frame c stack) (λ h. Some (invokes h (drop c.slots stack))) (invokes g rest) e in
        let made = frame.2 in
        let same : frame.0 ≡ g = cc in
        record { deep = is; frame = frame.1 ∙ ap (λ (h : Frame). Some h) same; left = cc }

-- the frame, as the rows have it
frame_called : (w : World) (resolution : Resolution) (c : Callee) (x : IsStaticCallee w resolution c) (stack : List Slot) (g : Frame) → callee_frame c stack ≡ Some g
    → callee x.number x.callee.code x.slots stack ≡ Some g
frame_called w resolution c x stack g is = sym (ap (λ (d : Callee). callee_frame d stack) x.callee.is) ∙ is

true_and : (a b : Bool) → a ≡ true → b ≡ true → (a && b) ≡ true
true_and true b e g = g
true_and false b e g = absurd cc

called_row : (w : World) (i : Instruction) (index : ℕ) (c : Callee) (f g : Frame) (below : List Frame) (rest : List Slot) → (x : IsStaticCallee w i.resolution c) → Begins (length (f ∷ below)) c f.stack g rest
    → local_act w i (invoke static index) f below ≡ Some (g ∷ record f { stack = rest } ∷ below)
called_row w i index c f g below rest x made =
    let m : Named = record { number = x.number; method = x.callee.method } in
    let slots = x.slots in
    let takes : argument_slots m.method.signature ≡ slots = sym x.takes in
    let left : rest ≡ drop slots f.stack = made.left ∙ ap (λ (d : Callee). drop d.slots f.stack) x.callee.is in
    let result : Option (List Frame) = Some (g ∷ record f { stack = rest } ∷ below) in
    let named : named_method w i.resolution ≡ Some m =
    bind_is (method_of i.resolution.site) (λ n. slice_get w.methods n >>= λ k. Some (record { number = n; method = k })) x.number (Some m) x.named
    (bind_is (slice_get w.methods x.number) (λ k. Some (record { number = x.number; method = k })) x.callee.method (Some m) x.callee.at refl) in
    let frames : (code_at w x.number >>= λ code. callee x.number code slots f.stack >>= λ h. Some (h ∷ caller f slots ∷ below)) ≡ result =
    bind_is (code_at w x.number) (λ code. callee x.number code slots f.stack >>= λ h. Some (h ∷ caller f slots ∷ below)) x.callee.code result x.callee.has
    (bind_is (callee x.number x.callee.code slots f.stack) (λ h. Some (h ∷ caller f slots ∷ below)) g result (frame_called w i.resolution c x f.stack g made.frame)
    (ap (λ (s : List Slot). Some (g ∷ record f { stack = s } ∷ below)) (sym left))) in
    let called : frames_called w m f below ≡ result =
    ap (λ n. code_at w x.number >>= λ code. callee x.number code n f.stack >>= λ h. Some (h ∷ caller f n ∷ below)) takes ∙ frames in
    let may : (has_local_call w m && nat_lt (length (f ∷ below)) most_frames) ≡ true =
    true_and (has_local_call w m) (nat_lt (length (f ∷ below)) most_frames) x.callee.local made.deep in
    bind_is (named_method w i.resolution) (λ n. static_called w n f below) m result named
    (ap (λ (b : Bool). if b then frames_called w m f below else None) may ∙ called)

-- ---- the instruction

-- a memory in which nothing is, since what linking gives an invokestatic holds in each
no_memory : Memory
no_memory = record { heap = []; room = 0; statics = []; out = []; err = []; exited = None }

pub names_static : (w : World) (f : Frame) → IsReady w → NamesStatic w f
names_static w f ready i index m at known named =
    (subst (λ (r : Row). IsRowResolution w i.resolution r no_memory f.stack) known (ready.named no_memory f i at) m named).flag

-- the method was begun
pub into_made : (w : World) (m new : Continuation) (x : Fetched) (c : Callee) → IsReady w → Typed w m.stack.frames → IsTopAt w m.stack.frames x → is_static_call (row_of x.instr.now.op) ≡ true
    → IsStaticCallee w x.resolution.now c → HasBegun c m new → GoesOver w m.stack.frames new.stack.frames true
into_made w m new x c ready typed top calls callee begun =
    by m.stack.frames typed top begun.effect begun.frames
  where
    i : Instruction
    i = instruction_of x

    by : (frames : List Frame) → Typed w frames → IsTopAt w frames x → begins (length frames) c (top_stack frames) ≡ Some (invokes begun.callee begun.rest) → new.stack.frames ≡ begun.callee ∷ with_stack begun.rest frames
        → GoesOver w frames new.stack.frames true
    by [] typed top effect is = absurd typed
    by (f ∷ below) typed top effect is =
        let act = static_row (row_of i.instr.op) calls in
        let made : Option (List Frame) = Some (begun.callee ∷ record f { stack = begun.rest } ∷ below) in
        let goes = called_row w i act.index c f begun.callee below begun.rest callee (begins_so (length (f ∷ below)) c f.stack begun.callee begun.rest effect) in
        let step : row w (f ∷ below) ≡ made =
        bind_is (fetched w f) (λ j. local_act w j (row_of j.instr.op) f below) i made top.at (ap (λ (a : Row). local_act w i a f below) act.is ∙ goes) in
        let whole : row w (f ∷ below) ≡ Some new.stack.frames = step ∙ ap (λ (fs : List Frame). Some fs) (sym is) in
        (whole, row_keeps w f below new.stack.frames ready.linked.typed (names_static w f ready) typed whole)

-- it wasn't begun, and is what a run ends with
pub static_stays : (w : World) (frames after : List Frame) (x : Fetched) → Typed w frames → IsTopAt w frames x → is_static_call (row_of x.instr.now.op) ≡ true → after ≡ frames → GoesOver w frames after false
static_stays w [] after x typed top calls same = absurd typed
static_stays w (f ∷ below) after x typed top calls same = (same, static_ends w f below (instruction_of x) top.at calls)
