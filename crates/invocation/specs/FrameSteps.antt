-- What calls, returns and exceptions on their way make of the frames of a thread.
use Rattle.std.specs.Prelude.{ℕ, ◌≡◌, ◌<◌, ◌≤◌, Bool, true, false, List, [], ◌∷◌, Option, Some, None, drop, length, if◌then◌else◌}
use Rattle.std.specs.Option.{option_map}
use Rattle.items.specs.Options.{◌>>=◌}
use Rattle.opcodes.specs.declared.op.ValueKind.{ValueKind}
use Rattle.instruction_rows.specs.declared.value.Slot.{Slot}
use Rattle.instruction_rows.specs.declared.value.Value.{Value}
use Rattle.instruction_rows.specs.SlotEffect.{pushed}
use Rattle.link_model.specs.declared.members.MethodInfo.{MethodInfo}
use Rattle.link_model.specs.World.{World}
use Rattle.verify_types.specs.Environment.{Handler}
use Rattle.state_model.specs.Frames.{Frame}
use Rattle.frames.specs.Frames.{top_room, with_stack}
use Rattle.continuation.specs.Continuation.{Continuation}
use Rattle.ref_model.specs.Effects.{invokes, throws}
use Rattle.ref_model.specs.Frames.{is_left_openly, is_root, returned, returned_to, stack_returned}
use Rattle.ref_model.specs.Monitors.{frame_monitor, is_synchronized_frame}
use Rattle.ref_model.specs.Throwing.{at_handler, handler_of}
use Rattle.heap_instructions.specs.Operands.{operands}
use Rattle.invocation.specs.declared.entering.Entered.{Entered}
use Rattle.invocation.specs.declared.entering.Entered.TheVariants as entering
use Rattle.invocation.specs.declared.returning.Guard.{Guard}
use Rattle.invocation.specs.declared.returning.Guard.TheVariants as guards
use Rattle.invocation.specs.declared.returning.Left.{Left}
use Rattle.invocation.specs.declared.returning.Left.TheVariants as leaving
use Rattle.invocation.specs.declared.catching.Caught.{Caught}
use Rattle.invocation.specs.declared.catching.Caught.TheVariants as catching
use Rattle.invocation.specs.declared.target.Callee.{Callee}
use Rattle.invocation.specs.Targets.{begins}

-- ---- a method with code begins

-- its frame lies over the caller's, which has the operands that are left
pub record HasBegun (c : Callee) (old new : Continuation) : Type 0 where
  pub callee : Frame
  pub rest : List Slot
  pub effect : begins (length old.stack.frames) c (operands old) ≡ Some (invokes callee rest)
  pub frames : new.stack.frames ≡ callee ∷ with_stack rest old.stack.frames

abbrev pub IsEntered : Callee → Continuation → Continuation → Entered → Type 0
IsEntered c old new entering.Begun = HasBegun c old new
IsEntered c old new (entering.Throws e) =
    (begins (length old.stack.frames) c (operands old) ≡ Some (throws e)) × (new.stack.frames ≡ old.stack.frames)
IsEntered c old new entering.Undefined =
    (begins (length old.stack.frames) c (operands old) ≡ None) × (new.stack.frames ≡ old.stack.frames)

-- ---- a return

-- whether the top frame is a root frame
abbrev pub top_is_root : World → List Frame → Bool
top_is_root w [] = false
top_is_root w (f ∷ below) = is_root w f below

-- whether a return from it is no local instruction
abbrev pub top_is_left_openly : World → List Frame → Bool
top_is_left_openly w [] = false
top_is_left_openly w (f ∷ below) = is_left_openly w f below

-- the frames after a return from the top one, where that is local
abbrev pub top_returned : World → Option ValueKind → List Frame → Option (List Frame)
top_returned w kind [] = None
top_returned w kind (f ∷ below) = if is_left_openly w f below then None else returned w kind f below

-- the monitor that it holds, where its method is synchronized (JVMS 2.11.10)
abbrev pub top_is_synchronized : World → List Frame → Bool
top_is_synchronized w [] = false
top_is_synchronized w (f ∷ below) = is_synchronized_frame w f

abbrev pub top_monitor : World → List Frame → Option ℕ
top_monitor w [] = None
top_monitor w (f ∷ below) = frame_monitor w f

-- it is that of a synchronized method, and holds this monitor
pub record HoldsMonitor (w : World) (frames : List Frame) (o : ℕ) : Type 0 where
  pub synchronized : top_is_synchronized w frames ≡ true
  pub monitor : top_monitor w frames ≡ Some o

-- it is that of a synchronized method, and holds none, as no frame does
pub record LacksMonitor (w : World) (frames : List Frame) : Type 0 where
  pub synchronized : top_is_synchronized w frames ≡ true
  pub none : top_monitor w frames ≡ None

-- what it holds
abbrev pub IsGuard : World → List Frame → Guard → Type 0
IsGuard w frames guards.Nothing = top_is_synchronized w frames ≡ false
IsGuard w frames (guards.Monitor o) = HoldsMonitor w frames o
IsGuard w frames guards.Undefined = LacksMonitor w frames

-- the frames after a return from it to the one below it
abbrev pub top_to_caller : World → Option ValueKind → List Frame → Option (List Frame)
top_to_caller w kind [] = None
top_to_caller w kind (f ∷ below) = returned w kind f below

abbrev pub IsReturned : World → Option ValueKind → Continuation → Continuation → Bool → Type 0
IsReturned w kind old new true = top_to_caller w kind old.stack.frames ≡ Some new.stack.frames
IsReturned w kind old new false = top_to_caller w kind old.stack.frames ≡ None

-- it is a root frame, and holds no monitor
pub record IsLeftRoot (w : World) (old new : Continuation) : Type 0 where
  pub root : top_is_root w old.stack.frames ≡ true
  pub plain : top_is_synchronized w old.stack.frames ≡ false
  pub same : new ≡ old

-- It is no root frame, and holds no monitor; others see that it is left all the same, since it is native.
pub record IsLeftNative (w : World) (old new : Continuation) : Type 0 where
  pub inner : top_is_root w old.stack.frames ≡ false
  pub plain : top_is_synchronized w old.stack.frames ≡ false
  pub openly : top_is_left_openly w old.stack.frames ≡ true
  pub same : new ≡ old

abbrev pub IsLeft : World → Option ValueKind → Continuation → Continuation → Left → Type 0
IsLeft w kind old new leaving.Returned = top_returned w kind old.stack.frames ≡ Some new.stack.frames
IsLeft w kind old new leaving.Root = IsLeftRoot w old new
IsLeft w kind old new (leaving.Holds o) = HoldsMonitor w old.stack.frames o × (new ≡ old)
IsLeft w kind old new leaving.Native = IsLeftNative w old new
IsLeft w kind old new leaving.Undefined = top_returned w kind old.stack.frames ≡ None

-- the same where its thread has left the monitor that the frame holds
abbrev pub IsLeftUnlocked : World → Option ValueKind → Continuation → Continuation → Left → Type 0
IsLeftUnlocked w kind old new leaving.Returned =
    (top_is_root w old.stack.frames ≡ false) × (top_to_caller w kind old.stack.frames ≡ Some new.stack.frames)
IsLeftUnlocked w kind old new leaving.Root = (top_is_root w old.stack.frames ≡ true) × (new ≡ old)
IsLeftUnlocked w kind old new (leaving.Holds o) = ⊥
IsLeftUnlocked w kind old new leaving.Native = ⊥
IsLeftUnlocked w kind old new leaving.Undefined =
    (top_is_root w old.stack.frames ≡ false) × (top_to_caller w kind old.stack.frames ≡ None)

-- the kinds of what a return takes
abbrev pub returned_kinds : Option ValueKind → List ValueKind
returned_kinds None = []
returned_kinds (Some k) = k ∷ []

-- what comes back: nothing, or a value
abbrev pub pushed_back : Option Value → List Slot → List Slot
pushed_back None stack = stack
pushed_back (Some v) stack = pushed v stack

abbrev pub IsBack : Option ValueKind → MethodInfo → List Slot → Option (Option Value) → Type 0
IsBack kind m stack (Some back) = (under : List Slot) → stack_returned kind m stack under ≡ Some (pushed_back back under)
IsBack kind m stack None = (under : List Slot) → stack_returned kind m stack under ≡ None

-- what comes back was pushed on the operands of the top frame, if they have room for it
abbrev pub HasPushed : Option Value → Continuation → Continuation → Bool → Type 0
HasPushed back old new true =
    (new.stack.frames ≡ with_stack (pushed_back back (operands old)) old.stack.frames) × (length (pushed_back back (operands old)) ≤ top_room old.stack.frames)
HasPushed back old new false = top_room old.stack.frames < length (pushed_back back (operands old))

-- the frames where the top one goes on after its call, with what comes back; None where it has no room for that
abbrev pub top_behind : World → Option Value → List Frame → Option (List Frame)
top_behind w back [] = None
top_behind w back (g ∷ rest) = returned_to w g (pushed_back back g.stack) >>= λ caller. Some (caller ∷ rest)

abbrev pub IsBehind : World → Option Value → Continuation → Continuation → Bool → Type 0
IsBehind w back old new true = top_behind w back old.stack.frames ≡ Some new.stack.frames
IsBehind w back old new false = top_behind w back old.stack.frames ≡ None

-- ---- an exception on its way

-- the frames where the top one's handler at this pc catches an object
abbrev pub top_at_handler : ℕ → ℕ → List Frame → Option (List Frame)
top_at_handler handler o [] = None
top_at_handler handler o (f ∷ below) = at_handler f handler o >>= λ g. Some (g ∷ below)

-- the pc of the top frame's first handler that catches an object of a class
abbrev pub top_handler : World → ℕ → List Frame → Option ℕ
top_handler w class [] = None
top_handler w class (f ∷ below) = option_map (λ (h : Handler). h.row.handler) (handler_of w class f)

abbrev pub IsAtHandler : ℕ → ℕ → Continuation → Continuation → Bool → Type 0
IsAtHandler handler o old new true = top_at_handler handler o old.stack.frames ≡ Some new.stack.frames
IsAtHandler handler o old new false = top_at_handler handler o old.stack.frames ≡ None

-- the top frame has a handler, and goes on there
pub record IsHandled (w : World) (class o : ℕ) (old new : Continuation) : Type 0 where
  pub handler : ℕ
  pub is : top_handler w class old.stack.frames ≡ Some handler
  pub frames : top_at_handler handler o old.stack.frames ≡ Some new.stack.frames

-- it is no root frame, holds no monitor, and is left
pub record IsLeftBehind (w : World) (old new : Continuation) : Type 0 where
  pub inner : top_is_root w old.stack.frames ≡ false
  pub plain : top_is_synchronized w old.stack.frames ≡ false
  pub frames : new.stack.frames ≡ drop 1 old.stack.frames

-- what becomes of a top frame in which nothing catches what is thrown
abbrev pub IsLeftByThrow : World → Continuation → Continuation → Caught → Type 0
IsLeftByThrow w old new catching.Handled = ⊥
IsLeftByThrow w old new catching.Left = IsLeftBehind w old new
IsLeftByThrow w old new catching.Uncaught = IsLeftRoot w old new
IsLeftByThrow w old new (catching.Holds monitor) = HoldsMonitor w old.stack.frames monitor × (new ≡ old)
IsLeftByThrow w old new catching.Undefined = LacksMonitor w old.stack.frames

-- it has a handler, and can't go on there, since the object has no room on its operand stack
pub record IsStuck (w : World) (class o : ℕ) (old : Continuation) : Type 0 where
  pub handler : ℕ
  pub is : top_handler w class old.stack.frames ≡ Some handler
  pub none : top_at_handler handler o old.stack.frames ≡ None

abbrev pub IsCaught : World → ℕ → ℕ → Continuation → Continuation → Caught → Type 0
IsCaught w class o old new catching.Handled = IsHandled w class o old new
IsCaught w class o old new catching.Undefined = top_is_synchronized w old.stack.frames ≡ false → IsStuck w class o old
IsCaught w class o old new caught = (top_handler w class old.stack.frames ≡ None) × IsLeftByThrow w old new caught

-- It is left, unless it is a root frame.
abbrev pub IsDropped : World → Continuation → Continuation → Bool → Type 0
IsDropped w old new true = (top_is_root w old.stack.frames ≡ false) × (new.stack.frames ≡ drop 1 old.stack.frames)
IsDropped w old new false = (top_is_root w old.stack.frames ≡ true) × (new ≡ old)
