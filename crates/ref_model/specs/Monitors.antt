-- Monitors (JLS 17.1, JVMS 2.11.10): who owns one, and which one a synchronized method holds while it runs.
use Rattle.std.specs.Prelude.{ℕ, ◌+◌, ◌-◌, ◌==◌, Bool, true, false, [], ◌∷◌, ◌++◌, Option, Some, None, if◌then◌else◌, slice_get}
use Rattle.std.specs.Option.{option_map_or}
use Rattle.items.specs.Options.{◌>>=◌}
use Rattle.instruction_rows.specs.declared.value.Value.TheVariants as values
use Rattle.instruction_rows.specs.declared.value.Slot.{Slot}
use Rattle.instruction_rows.specs.declared.value.Slot.TheVariants.{One}
use Rattle.link_model.specs.declared.members.MethodInfo.{MethodInfo}
use Rattle.link_model.specs.Initializers.{is_static_method, is_synchronized}
use Rattle.link_model.specs.World.{World}
use Rattle.link_model.specs.Decoded.{code_at}
use Rattle.state_model.specs.Frames.{Frame}
use Rattle.ref_model.specs.State.{Owner, State, with_owner}

-- ---- owners

abbrev pub is_owner : ℕ → Option Owner → Bool
is_owner t None = false
is_owner t (Some owner) = owner.thread == t

-- whether a thread owns the monitor
abbrev pub owns : State → ℕ → ℕ → Bool
owns r t o = is_owner t (r.owners o)

-- whether a thread may take the monitor: nobody owns it, or the thread itself does
abbrev pub is_open_to : ℕ → Option Owner → Bool
is_open_to t None = true
is_open_to t (Some owner) = owner.thread == t

abbrev pub may_take : State → ℕ → ℕ → Bool
may_take r t o = is_open_to t (r.owners o)

-- a monitor is entered once more
abbrev pub entered_once : ℕ → Option Owner → Owner
entered_once t None = record { thread = t; count = 1 }
entered_once t (Some owner) = record owner { count = owner.count + 1 }

abbrev pub with_entry : State → ℕ → ℕ → State
with_entry r t o = with_owner r o (Some (entered_once t (r.owners o)))

-- a monitor is left once: nobody owns it then, where it was entered once
abbrev pub left_once : Option Owner → Option Owner
left_once None = None
left_once (Some owner) = if owner.count == 1 then None else Some (record owner { count = owner.count - 1 })

abbrev pub with_exit : State → ℕ → State
with_exit r o = with_owner r o (left_once (r.owners o))

-- how often the owner has entered the monitor
abbrev pub times_entered : Option Owner → ℕ
times_entered None = 0
times_entered (Some owner) = owner.count

-- ---- the monitor of a synchronized method: that of its receiver, or that of its class (JVMS 2.11.10)

-- the number of the monitor of class 0, which no object has (own)
abbrev pub class_monitors : ℕ
class_monitors = 0xffff0000

abbrev pub class_monitor : ℕ → ℕ
class_monitor class = class_monitors + class

-- The monitor of a method with this receiver, if it has one.
abbrev pub method_monitor : MethodInfo → Option ℕ → Option ℕ
method_monitor m receiver = if is_static_method m then Some (class_monitor m.class) else receiver

-- ---- the frame of a synchronized method has one more local variable, the last, which holds the monitor's number (own)

abbrev pub with_monitor : Frame → ℕ → Frame
with_monitor f o = record f { locals = f.locals ++ One (values.Ref o) ∷ [] }

-- whether the method of a number is synchronized
abbrev pub is_synchronized_at : World → ℕ → Bool
is_synchronized_at w n = option_map_or is_synchronized (slice_get w.methods n) false

abbrev pub is_synchronized_frame : World → Frame → Bool
is_synchronized_frame w f = is_synchronized_at w f.method

abbrev pub reference_in : Slot → Option ℕ
reference_in (One (values.Ref o)) = Some o
reference_in slot = None

-- the monitor of such a frame
abbrev pub frame_monitor : World → Frame → Option ℕ
frame_monitor w f = code_at w f.method >>= λ code. slice_get f.locals code.max_locals >>= reference_in
