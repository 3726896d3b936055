-- The steps of a thread that are no local instructions.
use Rattle.std.proofs.Common.{◌≡◌, ℕ, suc, true, List, ◌∷◌, length, Option, Some, None, refl, ap, ◌∙◌}
use Rattle.items.specs.Options.{◌>>=◌}
use Rattle.items.proofs.Binds.{bind_is}
use Rattle.opcodes.specs.declared.op.ValueKind.{ValueKind}
use Rattle.instruction_rows.specs.Rows.{Row, returns}
use Rattle.instruction_rows.specs.Table.{row as row_of}
use Rattle.link_model.specs.World.{World}
use Rattle.verify_types.specs.Environment.{Instruction}
use Rattle.state_model.specs.Frames.{Frame}
use Rattle.ref_model.specs.State.{State}
use Rattle.ref_model.specs.Fetch.{fetched}
use Rattle.ref_model.specs.Asking.{Asking}
use Rattle.ref_model.specs.Effects.{Effect, asks, done, invokes, throws, throws_object}
use Rattle.ref_model.specs.Memory.{Memory}
use Rattle.ref_model.specs.Requests.{Request}
use Rattle.ref_model.specs.Resuming.{asking_by, asking_in}
use Rattle.ref_model.specs.LocalRows.{row, local_act}
use Rattle.ref_model.specs.Step.{row_effect, row_event, after_effect, event_step, row_or_event}
use Rattle.thread_steps.specs.Concluding.{is_quiet}

-- an instruction that has an effect is no return
abbrev pub IsEffective : Row → Type 0
IsEffective (returns kind) = ⊥
IsEffective r = Unit {0}

effect_row : (w : World) (i : Instruction) (act : Row) (r q : State) (t : ℕ) (f : Frame) (below : List Frame) (x : Effect) → IsEffective act
    → row_effect w i act r.memory (suc (length below)) f ≡ Some x → after_effect w r t i.instr.next f below x ≡ Some q → row_event w i act r t f below ≡ Some q
effect_row w i (returns kind) r q t f below x is effect after = absurd is
effect_row w i act r q t f below x is effect after =
    bind_is (row_effect w i act r.memory (suc (length below)) f) (after_effect w r t i.instr.next f below) x (Some q) effect after

-- the step of an instruction by its effect
pub effect_step : (w : World) (i : Instruction) (act : Row) (r q : State) (t : ℕ) (f : Frame) (below : List Frame) (x : Effect) → fetched w f ≡ Some i → row_of i.instr.op ≡ act → IsEffective act
    → row_effect w i act r.memory (suc (length below)) f ≡ Some x → after_effect w r t i.instr.next f below x ≡ Some q → event_step w r t (f ∷ below) ≡ Some q
effect_step w i act r q t f below x at is effective effect after =
    let made : Option State = Some q in
    bind_is (fetched w f) (λ j. row_event w j (row_of j.instr.op) r t f below) i made at
    (ap (λ (a : Row). row_event w i a r t f below) is ∙ effect_row w i act r q t f below x effective effect after)

-- an event is no local instruction
pub no_row : (w : World) (i : Instruction) (act : Row) (f : Frame) (below : List Frame) → fetched w f ≡ Some i → row_of i.instr.op ≡ act → local_act w i act f below ≡ None → row w (f ∷ below) ≡ None
no_row w i act f below at is none =
    let nothing : Option (List Frame) = None in
    bind_is (fetched w f) (λ j. local_act w j (row_of j.instr.op) f below) i nothing at (ap (λ (a : Row). local_act w i a f below) is ∙ none)

-- where the instruction is no local one, its event is what is done
pub event_is_run : (w : World) (r q : State) (t : ℕ) (frames : List Frame) → row w frames ≡ None → event_step w r t frames ≡ Some q → row_or_event w r t frames (row w frames) ≡ Some q
event_is_run w r q t frames none made = ap (row_or_event w r t frames) none ∙ made

-- ---- an instruction that asks nothing

quiet_by : (f : Frame) (below : List Frame) (next : ℕ) (x : Effect) → is_quiet x ≡ true → asking_by f below next x ≡ None
quiet_by f below next (done m stack) e = refl
quiet_by f below next (invokes g stack) e = refl
quiet_by f below next (throws k) e = refl
quiet_by f below next (throws_object o) e = refl
quiet_by f below next (asks q stack) e = absurd cc

pub quiet_effect : (w : World) (i : Instruction) (act : Row) (memory : Memory) (f : Frame) (below : List Frame) (x : Effect) → fetched w f ≡ Some i → row_of i.instr.op ≡ act
    → row_effect w i act memory (suc (length below)) f ≡ Some x → is_quiet x ≡ true → asking_in w memory (f ∷ below) ≡ None
quiet_effect w i act memory f below x at is effect quiet =
    let nothing : Option (Request × Asking) = None in
    bind_is (fetched w f) (λ j. row_effect w j (row_of j.instr.op) memory (suc (length below)) f >>= asking_by f below j.instr.next) i nothing at
    (bind_is (row_effect w i (row_of i.instr.op) memory (suc (length below)) f) (asking_by f below i.instr.next) x nothing
    (ap (λ (a : Row). row_effect w i a memory (suc (length below)) f) is ∙ effect) (quiet_by f below i.instr.next x quiet))

pub quiet_return : (w : World) (i : Instruction) (kind : Option ValueKind) (memory : Memory) (f : Frame) (below : List Frame) → fetched w f ≡ Some i → row_of i.instr.op ≡ returns kind
    → asking_in w memory (f ∷ below) ≡ None
quiet_return w i kind memory f below at is =
    let nothing : Option (Request × Asking) = None in
    bind_is (fetched w f) (λ j. row_effect w j (row_of j.instr.op) memory (suc (length below)) f >>= asking_by f below j.instr.next) i nothing at
    (ap (λ (a : Row). row_effect w i a memory (suc (length below)) f >>= asking_by f below i.instr.next) is)
