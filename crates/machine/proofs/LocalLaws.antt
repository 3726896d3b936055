-- A local instruction asks nothing.
use Rattle.std.proofs.Common.{◌≡◌, ℕ, Bool, true, false, List, [], ◌∷◌, Option, None, Some, length, drop, refl, ap, ◌∙◌, cond, not, ◌&&◌}
use Rattle.std.specs.Prelude.{is_none, nat_lt}
use Rattle.std.proofs.lemmas.Bool.{and_parts, not-true}
use Rattle.items.specs.Options.{◌>>=◌}
use Rattle.items.proofs.Binds.{bind_is, some_is}
use Rattle.instruction_rows.specs.Rows.{LocalRow, Row, local, constant, wide_constant, returns, invoke, event, refused, virtual, special, static, interface, dynamic}
use Rattle.instruction_rows.specs.Table.{row as row_of}
use Rattle.link_model.specs.Initializers.{is_synchronized}
use Rattle.link_model.specs.Decoded.{code_at}
use Rattle.link_model.specs.World.{World}
use Rattle.verify_types.specs.Environment.{Instruction}
use Rattle.state_model.specs.Frames.{Frame}
use Rattle.schedule_model.proofs.RunLaws.{under_is}
use Rattle.ref_model.specs.Asking.{Asking}
use Rattle.ref_model.specs.Calls.{called, code_entered, frame_entered, native_entered, receiver_of}
use Rattle.ref_model.specs.declared.exception.Exception.TheVariants as exceptions
use Rattle.ref_model.specs.Effects.{asks, invokes, throws}
use Rattle.ref_model.specs.Fetch.{Named, fetched, named_method}
use Rattle.ref_model.specs.Frames.{callee, contents}
use Rattle.ref_model.specs.Kinds.{argument_slots}
use Rattle.ref_model.specs.LocalRows.{frames_called, has_local_call, local_act, most_frames, row, static_called}
use Rattle.ref_model.specs.Members.{is_hold, native_at}
use Rattle.ref_model.specs.Memory.{Memory}
use Rattle.ref_model.specs.Requests.{Request, calls}
use Rattle.ref_model.specs.Resuming.{asking_by, asking_in}
use Rattle.instruction_rows.specs.SlotEffect.{divides_by_zero}
use Rattle.ref_model.specs.Monitors.{method_monitor, with_monitor}
use Rattle.ref_model.specs.RowEffects.{division_effect, row_effect}

none_is : {A : Type 0} (o : Option A) → is_none o ≡ true → o ≡ None
none_is None e = refl
none_is (Some x) e = absurd cc

-- a call of a method of a class
static_effect : (w : World) (i : Instruction) (memory : Memory) (f : Frame) (below after : List Frame) (m : Named) → static_called w m f below ≡ Some after
    → (called w i.resolution static m memory (length (f ∷ below)) f.stack >>= asking_by f below i.instr.next) ≡ None
static_effect w i memory f below after m e =
    let slots = argument_slots m.method.signature in
    let depth = length (f ∷ below) in
    let begins = under_is (has_local_call w m && nat_lt depth most_frames) (frames_called w m f below) after e in
    let may = and_parts (has_local_call w m) (nat_lt depth most_frames) begins.0 in
    let plain = and_parts (is_none (native_at w m.number) && not (is_synchronized m.method)) (not (is_hold w m.method)) may.0 in
    let own = and_parts (is_none (native_at w m.number)) (not (is_synchronized m.method)) plain.0 in
    let code = some_is (code_at w m.number) _ after begins.1 in
    let g = some_is (callee m.number code.0 slots f.stack) _ after code.2 in
    let effect : called w i.resolution static m memory depth f.stack ≡ Some (invokes g.0 (drop slots f.stack)) =
    ap (λ o. native_entered w memory depth m o slots f.stack) (none_is (native_at w m.number) own.0)
    ∙ ap (λ o. code_entered w depth m o slots f.stack) code.1
    ∙ ap (λ b. cond b (callee m.number code.0 slots f.stack >>= λ h. frame_entered m.method h (drop slots f.stack)) (Some (throws exceptions.StackOverflowError))) may.1
    ∙ bind_is (callee m.number code.0 slots f.stack) (λ h. frame_entered m.method h (drop slots f.stack)) g.0 (Some (invokes g.0 (drop slots f.stack))) g.1
    (ap (λ b. cond b (method_monitor m.method (receiver_of g.0) >>= λ o. Some (asks (calls o (with_monitor g.0 o)) (drop slots f.stack))) (Some (invokes g.0 (drop slots f.stack)))) (not-true (is_synchronized m.method) own.1)) in
    ap (λ o. o >>= asking_by f below i.instr.next) effect

division_quiet : (act : LocalRow) (f : Frame) (below : List Frame) (next : ℕ) (b : Bool) → divides_by_zero act (contents f) ≡ b
    → (division_effect act f >>= asking_by f below next) ≡ None
division_quiet act f below next true e = ap (λ b. cond b (Some (throws exceptions.ArithmeticException)) None >>= asking_by f below next) e
division_quiet act f below next false e = ap (λ b. cond b (Some (throws exceptions.ArithmeticException)) None >>= asking_by f below next) e

act_quiet : (w : World) (i : Instruction) (act : Row) (memory : Memory) (f : Frame) (below after : List Frame) → local_act w i act f below ≡ Some after
    → (row_effect w i act memory (length (f ∷ below)) f >>= asking_by f below i.instr.next) ≡ None
act_quiet w i (local act) memory f below after e = division_quiet act f below i.instr.next (divides_by_zero act (contents f)) refl
act_quiet w i (constant index) memory f below after e = refl
act_quiet w i (wide_constant index) memory f below after e = refl
act_quiet w i (returns kind) memory f below after e = refl
act_quiet w i (event x) memory f below after e = absurd cc
act_quiet w i refused memory f below after e = absurd cc
act_quiet w i (invoke virtual index) memory f below after e = absurd cc
act_quiet w i (invoke special index) memory f below after e = absurd cc
act_quiet w i (invoke (interface count) index) memory f below after e = absurd cc
act_quiet w i (invoke dynamic index) memory f below after e = absurd cc
act_quiet w i (invoke static index) memory f below after e =
    let m = some_is (named_method w i.resolution) (λ m. static_called w m f below) after e in
    ap (λ o. o >>= (λ m. called w i.resolution static m memory (length (f ∷ below)) f.stack) >>= asking_by f below i.instr.next) m.1
    ∙ static_effect w i memory f below after m.0 m.2

pub row_quiet : (w : World) (memory : Memory) (frames after : List Frame) → row w frames ≡ Some after → asking_in w memory frames ≡ None
row_quiet w memory [] after e = absurd cc
row_quiet w memory (f ∷ below) after e =
    let i = some_is (fetched w f) (λ i. local_act w i (row_of i.instr.op) f below) after e in
    let nothing : Option (Request × Asking) = None in
    bind_is (fetched w f) (λ i. row_effect w i (row_of i.instr.op) memory (length (f ∷ below)) f >>= asking_by f below i.instr.next) i.0 nothing i.1
    (act_quiet w i.0 (row_of i.0.instr.op) memory f below after i.2)
