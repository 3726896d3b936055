-- What a call of a method of an object does to frames that keep to the typing.
use Rattle.std.specs.Prelude.{◌≡◌, ℕ, suc, Bool, true, false, List, Some, Ok, drop, slice_get}
use Rattle.class_model.specs.declared.access_flags.TheConstants.{ACC_STATIC}
use Rattle.link_rules.specs.Program.{has_flag}
use Rattle.opcodes.specs.declared.op.ValueKind.TheVariants as kinds
use Rattle.stack_maps.specs.declared.types.VType.{VType}
use Rattle.instruction_rows.specs.declared.value.Slot.{Slot}
use Rattle.instruction_rows.specs.Rows.{Invocation, virtual, special, static, interface, dynamic, invoke}
use Rattle.instruction_rows.specs.TypeEffect.{type_popped}
use Rattle.instruction_rows.specs.Soundness.{AreOf}
use Rattle.link_model.specs.declared.members.MethodInfo.{MethodInfo}
use Rattle.link_model.specs.declared.members.MethodCode.{MethodCode}
use Rattle.link_model.specs.Initializers.{is_synchronized}
use Rattle.link_model.specs.World.{World}
use Rattle.link_model.specs.Decoded.{code_at}
use Rattle.verify_types.specs.Calls.{argument_types}
use Rattle.verify_types.specs.Effects.{row_of}
use Rattle.verify_types.specs.Operands.{all_wanted}
use Rattle.verify_types.specs.Typing.{AreTyped}
use Rattle.state_model.specs.Frames.{Frame}
use Rattle.ref_model.specs.Kinds.{argument_slots}
use Rattle.ref_model.specs.Monitors.{with_monitor}
use Rattle.ref_model.specs.Fetch.{Named, named_method}
use Rattle.ref_model.specs.Frames.{callee, caller}
use Rattle.frame_soundness.specs.Typed.{Stands, Waits, back_of}

-- The first frame of a method keeps to the typing, with a monitor where the method is synchronized.
pub record StandsAtFirst (w : World) (m : MethodInfo) (g : Frame) : Type 0 where
  pub plain : is_synchronized m ≡ false → Stands w g
  pub guarded : (o : ℕ) → is_synchronized m ≡ true → Stands w (with_monitor g o)

-- the callee's frame keeps to the typing, and what the caller keeps has these types
pub record Begins (w : World) (m : Named) (rest : List VType) (xs : List Slot) (g : Frame) : Type 0 where
  pub stands : StandsAtFirst w m.method g
  pub method : g.method ≡ m.number
  pub left : AreOf rest (drop (suc (argument_slots m.method.signature)) xs)

-- The frame of a method of an object, where the arguments and below them a reference lie on the operand stack (JVMS 2.6.1).
abbrev pub CalleesBegin : Type 0
CalleesBegin = (w : World) (m : Named) (code : MethodCode) (ts rest : List VType) (x : VType × List VType) (xs : List Slot) (g : Frame) →
    AreTyped w → slice_get w.methods m.number ≡ Some m.method → code_at w m.number ≡ Some code →
    has_flag ACC_STATIC m.method.flags ≡ false → AreOf ts xs → all_wanted w (argument_types w m.method.signature) ts ≡ Ok rest →
    type_popped kinds.Reference rest ≡ Ok x → callee m.number code (suc (argument_slots m.method.signature)) xs ≡ Some g →
    Begins w m x.1 xs g

-- ---- the caller

-- What the typing says of an invocation that takes a receiver: it pops the arguments and a reference, and what is left below them waits for
-- what the method gives back.
pub record CallerWaits (w : World) (f : Frame) (s : Stands w f) (m : Named) : Type 0 where
  pub rest : List VType
  pub taken : all_wanted w (argument_types w m.method.signature) s.at.state.types.stack ≡ Ok rest
  pub receiver : VType × List VType
  pub popped : type_popped kinds.Reference rest ≡ Ok receiver
  pub waits : (chosen : Named) → slice_get w.methods chosen.number ≡ Some chosen.method →
      chosen.method.signature.result ≡ m.method.signature.result →
      AreOf receiver.1 (drop (suc (argument_slots m.method.signature)) f.stack) →
      Waits w (back_of w chosen.number) (caller f (suc (argument_slots m.method.signature)))

-- invokevirtual, invokespecial and invokeinterface
abbrev pub takes_receiver : Invocation → Bool
takes_receiver virtual = true
takes_receiver special = true
takes_receiver (interface count) = true
takes_receiver static = false
takes_receiver dynamic = false

-- The frame that invokes a method of an object waits for what it gives back, whatever method is selected that gives the same.
abbrev pub CallersWait : Type 0
CallersWait = (w : World) (f : Frame) (invocation : Invocation) (index : ℕ) (m : Named) → AreTyped w → (s : Stands w f) →
    row_of s.at.place.instruction ≡ invoke invocation index → takes_receiver invocation ≡ true →
    named_method w s.at.place.instruction.resolution ≡ Some m → CallerWaits w f s m
