-- How frames are made, go on, and are left (JVMS 2.6). A definition is undefined where a frame would hold more than it may.
use Rattle.std.specs.Prelude.{ℕ, ◌-◌, Bool, true, false, List, [], ◌∷◌, ◌++◌, Option, Some, None, drop, length, nat_le, replicate, reverse, slice_get, take, ◌||◌, if◌then◌else◌}
use Rattle.std.specs.Option.{option_map_or}
use Rattle.items.specs.Options.{◌>>=◌}
use Rattle.opcodes.specs.declared.op.ValueKind.{ValueKind}
use Rattle.instruction_rows.specs.declared.value.Slot.{Slot}
use Rattle.instruction_rows.specs.declared.value.Slot.TheVariants.{Second}
use Rattle.instruction_rows.specs.Contents.{Contents}
use Rattle.instruction_rows.specs.Kinds.{value}
use Rattle.instruction_rows.specs.Pcs.{pc_after}
use Rattle.instruction_rows.specs.SlotEffect.{Moved, popped, pushed}
use Rattle.link_model.specs.declared.members.MethodInfo.{MethodInfo}
use Rattle.link_model.specs.declared.members.MethodCode.{MethodCode}
use Rattle.link_model.specs.World.{World}
use Rattle.state_model.specs.Frames.{Frame}
use Rattle.ref_model.specs.Kinds.{kept}
use Rattle.ref_model.specs.Members.{is_initializer, is_synchronized, is_hold}
use Rattle.ref_model.specs.Fetch.{fetched}

abbrev pub contents : Frame → Contents Slot
contents f = record { locals = f.locals; stack = f.stack }

-- ---- going on

-- the frame at a pc, with these slots
abbrev pub gone : Frame → ℕ → Contents Slot → Option Frame
gone f pc c =
    if nat_le (length c.stack) f.room then Some (record f { pc = pc; locals = c.locals; stack = c.stack }) else None

-- the frame where an instruction leads, of which the next one is at this pc
abbrev pub moved : Frame → ℕ → Moved → Option Frame
moved f next m = pc_after next m.way >>= λ pc. gone f pc m.contents

-- the frame at a pc, with this operand stack
abbrev pub behind : Frame → ℕ → List Slot → Option Frame
behind f pc stack = gone f pc (record { locals = f.locals; stack = stack })

-- ---- a method that begins (JVMS 2.6.1)

-- the frame of a method, with these slots in its first local variables, and all others unset
abbrev pub first_frame : ℕ → MethodCode → List Slot → Option Frame
first_frame method code slots =
    if nat_le (length slots) code.max_locals
    then Some (record {
      method = method;
      pc = 0;
      locals = slots ++ replicate (code.max_locals - length slots) Second;
      stack = [];
      room = code.max_stack;
    })
    else None

-- the frame of a method that takes so many slots from this operand stack
abbrev pub callee : ℕ → MethodCode → ℕ → List Slot → Option Frame
callee method code slots stack =
    if nat_le slots (length stack) then first_frame method code (reverse (take slots stack)) else None

-- the caller's frame, which stays at its call, without the slots that were taken
abbrev pub caller : Frame → ℕ → Frame
caller f slots = record f { stack = drop slots f.stack }

-- ---- a method that ends (JVMS 2.6.4)

abbrev pub is_empty : List Frame → Bool
is_empty [] = true
is_empty (f ∷ below) = false

-- whether it is the frame of a class initializer
abbrev pub is_initializer_frame : World → Frame → Bool
is_initializer_frame w f = option_map_or is_initializer (slice_get w.methods f.method) false

-- whether it is a root frame, over these: the bottom frame of its thread, or that of a class initializer
abbrev pub is_root : World → Frame → List Frame → Bool
is_root w f below = is_empty below || is_initializer_frame w f

-- whether others can see that a frame of the method is left: the method is synchronized, or pins its thread
abbrev pub is_guarded : World → MethodInfo → Bool
is_guarded w m = is_synchronized m || is_hold w m

abbrev pub is_guarded_frame : World → Frame → Bool
is_guarded_frame w f = option_map_or (is_guarded w) (slice_get w.methods f.method) false

-- whether a return from the frame, over these, is no local instruction
abbrev pub is_left_openly : World → Frame → List Frame → Bool
is_left_openly w f below = is_root w f below || is_guarded_frame w f

-- the operand stack of the caller, with what the method returns on top
abbrev pub stack_returned : Option ValueKind → MethodInfo → List Slot → List Slot → Option (List Slot)
stack_returned None m stack under = Some under
stack_returned (Some k) m stack under =
    popped k stack >>= λ x. m.signature.result >>= λ result. Some (pushed (kept result (value k x.0)) under)

-- the caller after its call
abbrev pub returned_to : World → Frame → List Slot → Option Frame
returned_to w g stack = fetched w g >>= λ call. behind g call.instr.next stack

-- the frames after a return from the top one to that below it
abbrev pub returned : World → Option ValueKind → Frame → List Frame → Option (List Frame)
returned w kind f [] = None
returned w kind f (g ∷ rest) =
    slice_get w.methods f.method >>= λ m.
    stack_returned kind m f.stack g.stack >>= λ stack.
    returned_to w g stack >>= λ caller. Some (caller ∷ rest)
