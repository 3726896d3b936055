-- Local instructions (JVMS 6.5): what they make of the frames of their thread, which is all that they read and write. There is one row
-- for each instruction; every other instruction has none. A row is undefined where an operand, a local variable, the room of the
-- operand stack or the instruction itself isn't there.
use Rattle.std.specs.Prelude.{ℕ, zero, suc, Bool, not, List, [], ◌∷◌, Option, Some, None, is_none, length, nat_lt, ◌&&◌, if◌then◌else◌}
use Rattle.items.specs.Options.{◌>>=◌}
use Rattle.instruction_rows.specs.Rows.{Row, local, constant, wide_constant, returns, invoke, event, refused, virtual, special, static, interface, dynamic}
use Rattle.instruction_rows.specs.Table.{row as row_of}
use Rattle.instruction_rows.specs.SlotEffect.{acted, pushed}
use Rattle.link_model.specs.declared.sites.Resolution.{Resolution}
use Rattle.link_model.specs.World.{World}
use Rattle.link_model.specs.Decoded.{code_at}
use Rattle.verify_types.specs.Environment.{Instruction}
use Rattle.state_model.specs.Frames.{Frame}
use Rattle.ref_model.specs.Kinds.{argument_slots}
use Rattle.ref_model.specs.Members.{native_at, is_synchronized, is_hold}
use Rattle.ref_model.specs.Fetch.{fetched, constant_of, Named, named_method}
use Rattle.ref_model.specs.Frames.{contents, moved, behind, callee, caller, is_left_openly, returned}

-- how many frames a thread may have
abbrev pub most_frames : ℕ
most_frames = 2048

-- ldc, ldc_w, ldc2_w: each String constant has its object from the start
abbrev pub constant_pushed : Resolution → ℕ → Frame → List Frame → Option (List Frame)
constant_pushed resolution next f below =
    constant_of resolution.site >>= λ v. behind f next (pushed v f.stack) >>= λ g. Some (g ∷ below)

-- ---- invokestatic of a method with code, that isn't synchronized and doesn't pin

abbrev pub has_local_call : World → Named → Bool
has_local_call w m = is_none (native_at w m.number) && not (is_synchronized m.method) && not (is_hold w m.method)

abbrev pub frames_called : World → Named → Frame → List Frame → Option (List Frame)
frames_called w m f below =
    let slots = argument_slots m.method.signature in
    code_at w m.number >>= λ code.
    callee m.number code slots f.stack >>= λ g.
    Some (g ∷ caller f slots ∷ below)

abbrev pub static_called : World → Named → Frame → List Frame → Option (List Frame)
static_called w m f below =
    if has_local_call w m && nat_lt (length (f ∷ below)) most_frames then frames_called w m f below else None

-- ---- the rows

abbrev pub local_act : World → Instruction → Row → Frame → List Frame → Option (List Frame)
local_act w i (local r) f below = acted r (contents f) >>= λ m. moved f i.instr.next m >>= λ g. Some (g ∷ below)
local_act w i (constant index) f below = constant_pushed i.resolution i.instr.next f below
local_act w i (wide_constant index) f below = constant_pushed i.resolution i.instr.next f below
local_act w i (returns kind) f below = if is_left_openly w f below then None else returned w kind f below
local_act w i (invoke static index) f below = named_method w i.resolution >>= λ m. static_called w m f below
local_act w i (invoke virtual index) f below = None
local_act w i (invoke special index) f below = None
local_act w i (invoke (interface count) index) f below = None
local_act w i (invoke dynamic index) f below = None
local_act w i (event e) f below = None
local_act w i refused f below = None

-- the frames after the local instruction of the top frame
abbrev pub row : World → List Frame → Option (List Frame)
row w [] = None
row w (f ∷ below) = fetched w f >>= λ i. local_act w i (row_of i.instr.op) f below

-- the frames after so many local instructions
abbrev pub rows : World → ℕ → List Frame → Option (List Frame)
rows w zero frames = Some frames
rows w (suc n) frames = rows w n frames >>= row w
