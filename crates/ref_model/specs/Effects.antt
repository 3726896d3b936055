-- What an instruction that isn't local does, and the tests that several of them share (JVMS 6.5).
use Rattle.std.specs.Prelude.{ℕ, List, Option, Some, None, ◌||◌, if◌then◌else◌}
use Rattle.items.specs.Options.{◌>>=◌}
use Rattle.instruction_rows.specs.declared.value.Value.{Value}
use Rattle.instruction_rows.specs.declared.value.Value.TheVariants as values
use Rattle.instruction_rows.specs.declared.value.Slot.{Slot}
use Rattle.instruction_rows.specs.SlotEffect.{pushed}
use Rattle.link_rules.specs.Program.{is_interface}
use Rattle.link_model.specs.declared.sites.Resolution.{Resolution}
use Rattle.link_model.specs.World.{World}
use Rattle.state_model.specs.Frames.{Frame}
use Rattle.ref_model.specs.declared.exception.Exception.{Exception}
use Rattle.ref_model.specs.declared.exception.Exception.TheVariants as exceptions
use Rattle.ref_model.specs.Classes.{is_array, is_sub}
use Rattle.ref_model.specs.Memory.{Memory}
use Rattle.ref_model.specs.Heap.{class_at}
use Rattle.ref_model.specs.Requests.{Request}

pub data Effect : Type 0 where
  -- it is done: the memory, and the operand stack with which the frame goes on after it
  done : Memory → List Slot → Effect
  -- it invokes a method, whose frame this is, and the frame stays at it with this operand stack
  invokes : Frame → List Slot → Effect
  -- it throws a new exception, and nothing else changes
  throws : Exception → Effect
  -- it throws this object
  throws_object : ℕ → Effect
  -- It asks something of the threads, with nothing changed. The frame goes on with this operand stack, but for what comes back.
  asks : Request → List Slot → Effect

-- it is done, and pushes a value on what is left of the operand stack
abbrev pub gives : Memory → Value → List Slot → Effect
gives r v rest = done r (pushed v rest)

-- the new object is pushed, where there was room for it
abbrev pub gives_new : Option (Memory × ℕ) → List Slot → Effect
gives_new None rest = throws exceptions.OutOfMemoryError
gives_new (Some x) rest = gives x.0 (values.Ref x.1) rest

-- ---- objects that an instruction works on: null throws NullPointerException

abbrev pub not_null : Option ℕ → (ℕ → Option Effect) → Option Effect
not_null None act = Some (throws exceptions.NullPointerException)
not_null (Some o) act = act o

-- ---- The late check: an object that isn't an instance of the class that an instruction names. A type of an interface stands for
-- every object in the typing, so there this happens (JVMS 6.5: invokeinterface).

abbrev pub late_failure : World → ℕ → Exception
late_failure w class =
    if is_array w class || is_interface w.program class then exceptions.IncompatibleClassChangeError else exceptions.VerifyError

-- the object of a field or method instruction, which is an instance of the class that the instruction's constant names
abbrev pub on_instance : World → Resolution → Memory → Option ℕ → (ℕ → ℕ → Option Effect) → Option Effect
on_instance w resolution r reference act = not_null reference (λ o.
    class_at w r o >>= λ class.
    resolution.class >>= λ named.
    if is_sub w class named then act o class else Some (throws (late_failure w named)))
