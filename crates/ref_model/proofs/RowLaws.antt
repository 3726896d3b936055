-- What local instructions leave as it is.
use Rattle.std.proofs.Common.{◌≡◌, ℕ, Bool, true, false, List, [], ◌∷◌, Option, Some, None, refl}
use Rattle.std.specs.Prelude.{length, nat_lt, slice_get, ◌&&◌, if◌then◌else◌}
use Rattle.opcodes.specs.declared.op.ValueKind.{ValueKind}
use Rattle.instruction_rows.specs.Rows.{Row, local, constant, wide_constant, returns, invoke, event, refused, virtual, special, static, interface, dynamic}
use Rattle.instruction_rows.specs.Table.{row as row_of}
use Rattle.instruction_rows.specs.SlotEffect.{acted, pushed}
use Rattle.items.proofs.Binds.{some_is}
use Rattle.link_model.specs.declared.sites.Resolution.{Resolution}
use Rattle.link_model.specs.World.{World}
use Rattle.link_model.specs.Decoded.{code_at}
use Rattle.verify_types.specs.Environment.{Instruction}
use Rattle.items.specs.Options.{◌>>=◌}
use Rattle.state_model.specs.Frames.{Frame}
use Rattle.ref_model.specs.Kinds.{argument_slots}
use Rattle.ref_model.specs.Fetch.{fetched, constant_of, Named, named_method}
use Rattle.ref_model.specs.Frames.{contents, moved, behind, callee, caller, is_left_openly, stack_returned, returned_to, returned}
use Rattle.ref_model.specs.LocalRows.{constant_pushed, frames_called, static_called, has_local_call, most_frames, local_act, row}
use Rattle.ref_model.specs.StepLaws.{ChangesTop}

one_top : (f g : Frame) (below : List Frame) → ChangesTop (f ∷ below) (g ∷ below)
one_top f g [] = record { tops = g ∷ []; is = refl }
one_top f g (b ∷ rest) = record { tops = g ∷ b ∷ []; is = refl }

two_tops : (f g h : Frame) (below : List Frame) → ChangesTop (f ∷ below) (g ∷ h ∷ below)
two_tops f g h [] = record { tops = g ∷ h ∷ []; is = refl }
two_tops f g h (b ∷ rest) = record { tops = g ∷ h ∷ b ∷ []; is = refl }

-- a frame that was found, on those below
on_top : (o : Option Frame) (f : Frame) (below after : List Frame) → (o >>= λ g. Some (g ∷ below)) ≡ Some after
    → ChangesTop (f ∷ below) after
on_top None f below after e = absurd cc
on_top (Some g) f below after e = let is : g ∷ below ≡ after = cc in rw (← is) (one_top f g below)

constant_top : (resolution : Resolution) (next : ℕ) (f : Frame) (below after : List Frame)
    → constant_pushed resolution next f below ≡ Some after → ChangesTop (f ∷ below) after
constant_top resolution next f below after e =
    let v = some_is (constant_of resolution.site) (λ v. behind f next (pushed v f.stack) >>= λ g. Some (g ∷ below)) after e in
    on_top (behind f next (pushed v.0 f.stack)) f below after v.2

replaced_top : (f g caller : Frame) (rest after : List Frame) → caller ∷ rest ≡ after → ChangesTop (f ∷ g ∷ rest) after
replaced_top f g caller rest after is = record { tops = caller ∷ []; is = rw (← is) refl }

returned_top : (w : World) (kind : Option ValueKind) (f : Frame) (below after : List Frame) → returned w kind f below ≡ Some after
    → ChangesTop (f ∷ below) after
returned_top w kind f [] after e = absurd cc
returned_top w kind f (g ∷ rest) after e =
    let m = some_is (slice_get w.methods f.method)
    (λ m. stack_returned kind m f.stack g.stack >>= λ stack. returned_to w g stack >>= λ caller. Some (caller ∷ rest)) after e in
    let stack = some_is (stack_returned kind m.0 f.stack g.stack)
    (λ stack. returned_to w g stack >>= λ caller. Some (caller ∷ rest)) after m.2 in
    let caller = some_is (returned_to w g stack.0) (λ caller. Some (caller ∷ rest)) after stack.2 in
    replaced_top f g caller.0 rest after cc

left_top : (w : World) (kind : Option ValueKind) (f : Frame) (below after : List Frame) (openly : Bool)
    → (if openly then None else returned w kind f below) ≡ Some after → ChangesTop (f ∷ below) after
left_top w kind f below after true e = absurd cc
left_top w kind f below after false e = returned_top w kind f below after e

called_top : (w : World) (m : Named) (f : Frame) (below after : List Frame) → frames_called w m f below ≡ Some after
    → ChangesTop (f ∷ below) after
called_top w m f below after e =
    let slots = argument_slots m.method.signature in
    let code = some_is (code_at w m.number)
    (λ code. callee m.number code slots f.stack >>= λ g. Some (g ∷ caller f slots ∷ below)) after e in
    let g = some_is (callee m.number code.0 slots f.stack) (λ g. Some (g ∷ caller f slots ∷ below)) after code.2 in
    let is : g.0 ∷ caller f slots ∷ below ≡ after = cc in
    rw (← is) (two_tops f g.0 (caller f slots) below)

static_top : (w : World) (m : Named) (f : Frame) (below after : List Frame) (local : Bool)
    → (if local then frames_called w m f below else None) ≡ Some after → ChangesTop (f ∷ below) after
static_top w m f below after false e = absurd cc
static_top w m f below after true e = called_top w m f below after e

act_top : (w : World) (i : Instruction) (r : Row) (f : Frame) (below after : List Frame) → local_act w i r f below ≡ Some after
    → ChangesTop (f ∷ below) after
act_top w i (local r) f below after e =
    let m = some_is (acted r (contents f)) (λ m. moved f i.instr.next m >>= λ g. Some (g ∷ below)) after e in
    on_top (moved f i.instr.next m.0) f below after m.2
act_top w i (constant index) f below after e = constant_top i.resolution i.instr.next f below after e
act_top w i (wide_constant index) f below after e = constant_top i.resolution i.instr.next f below after e
act_top w i (returns kind) f below after e = left_top w kind f below after (is_left_openly w f below) e
act_top w i (invoke static index) f below after e =
    let m = some_is (named_method w i.resolution) (λ m. static_called w m f below) after e in
    static_top w m.0 f below after (has_local_call w m.0 && nat_lt (length (f ∷ below)) most_frames) m.2
act_top w i (invoke virtual index) f below after e = absurd cc
act_top w i (invoke special index) f below after e = absurd cc
act_top w i (invoke (interface count) index) f below after e = absurd cc
act_top w i (invoke dynamic index) f below after e = absurd cc
act_top w i (event ev) f below after e = absurd cc
act_top w i refused f below after e = absurd cc

-- a local instruction changes the two frames on top at most
pub row_tops : (w : World) (frames after : List Frame) → row w frames ≡ Some after → ChangesTop frames after
row_tops w [] after e = absurd cc
row_tops w (f ∷ below) after e =
    let i = some_is (fetched w f) (λ i. local_act w i (row_of i.instr.op) f below) after e in
    act_top w i.0 (row_of i.0.instr.op) f below after i.2
