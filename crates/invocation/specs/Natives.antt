-- Which native method an invocation comes to: the one that is named, or the one that is selected for the receiver at hand.
use Rattle.std.specs.Prelude.{ℕ, ◌≡◌, true, Some, slice_get}
use Rattle.opcodes.specs.declared.op.ValueKind.TheVariants as kinds
use Rattle.lib_table.specs.declared.native.Native.{Native}
use Rattle.link_rules.specs.declared.choice.Choice.TheVariants.{Method}
use Rattle.link_rules.specs.declared.place.MemberPlace.{MemberPlace}
use Rattle.link_rules.specs.Members.{method_number}
use Rattle.instruction_rows.specs.Rows.{Invocation, virtual, special, static, interface, dynamic, Row, invoke}
use Rattle.link_model.specs.declared.members.MethodInfo.{MethodInfo}
use Rattle.link_model.specs.declared.sites.Resolution.{Resolution}
use Rattle.link_model.specs.World.{World}
use Rattle.heap_objs.specs.Heap.{Heap}
use Rattle.continuation.specs.Continuation.{Continuation}
use Rattle.ref_model.specs.Calls.{choice_of}
use Rattle.ref_model.specs.Classes.{is_sub}
use Rattle.ref_model.specs.Fetch.{Named, named_method}
use Rattle.ref_model.specs.Kinds.{argument_slots}
use Rattle.ref_model.specs.Members.{native_at}
use Rattle.heap_instructions.specs.HeapReads.{class_number}
use Rattle.heap_instructions.specs.Operands.{IsOperand, operands}
use Rattle.invocation.specs.declared.receivers.Receiver.{Receiver}
use Rattle.invocation.specs.declared.target.Target.{Target}
use Rattle.invocation.specs.declared.target.Target.TheVariants as targets

-- what holds of the native method that a target is, where it is one
abbrev pub IfNative : Target → (Native → Type 0) → Type 0
IfNative (targets.Native native) holds = holds native
IfNative target holds = Unit {0}

-- this is done in place of the code of the method with a number
pub record IsNative (w : World) (n : ℕ) (native : Native) : Type 0 where
  pub method : MethodInfo
  pub at : slice_get w.methods n ≡ Some method
  pub done : native_at w n ≡ Some native

-- and of the method that is selected for objects of a class (JVMS 5.4.6)
pub record SelectsNative (w : World) (class n : ℕ) (native : Native) : Type 0 where
  pub place : MemberPlace
  pub choice : choice_of w class n ≡ Some (Method place)
  pub is : IsNative w (method_number w.program place) native

-- the same for a receiver that is an instance of the class that the instruction names
pub record ReceivesNative (w : World) (receiver : Receiver) (n : ℕ) (native : Native) : Type 0 where
  pub instance : is_sub w receiver.class receiver.named ≡ true
  pub selected : SelectsNative w receiver.class n native

-- ---- the receiver at hand

-- it lies below so many slots
pub record HasReceiver (w : World) (resolution : Resolution) (slots : ℕ) (heap : Heap) (m : Continuation) (receiver : Receiver) : Type 0 where
  pub object : ℕ
  pub lies : IsOperand kinds.Reference (Some object) slots (operands m)
  pub class : class_number w heap.objects object ≡ Some receiver.class
  pub named : resolution.class ≡ Some receiver.named

pub record IsVirtualNative (w : World) (resolution : Resolution) (n slots : ℕ) (heap : Heap) (m : Continuation) (native : Native) : Type 0 where
  pub receiver : Receiver
  pub has : HasReceiver w resolution slots heap m receiver
  pub is : ReceivesNative w receiver n native

pub record IsSpecialNative (w : World) (resolution : Resolution) (n slots : ℕ) (heap : Heap) (m : Continuation) (native : Native) : Type 0 where
  pub receiver : Receiver
  pub has : HasReceiver w resolution slots heap m receiver
  pub instance : is_sub w receiver.class receiver.named ≡ true
  pub is : IsNative w n native

-- ---- an invocation of a method by its number, which takes so many slots without its receiver

abbrev pub IsNativeOf : World → Resolution → Invocation → ℕ → ℕ → Heap → Continuation → Native → Type 0
IsNativeOf w resolution virtual n slots heap m native = IsVirtualNative w resolution n slots heap m native
IsNativeOf w resolution (interface count) n slots heap m native = IsVirtualNative w resolution n slots heap m native
IsNativeOf w resolution special n slots heap m native = IsSpecialNative w resolution n slots heap m native
IsNativeOf w resolution static n slots heap m native = IsNative w n native
IsNativeOf w resolution dynamic n slots heap m native = ⊥

pub record InvokesNative (w : World) (resolution : Resolution) (invocation : Invocation) (heap : Heap) (m : Continuation) (native : Native) : Type 0 where
  pub named : Named
  pub is : named_method w resolution ≡ Some named
  pub runs : IsNativeOf w resolution invocation named.number (argument_slots named.method.signature) heap m native

abbrev pub IsNativeInvoked : World → Resolution → Row → Heap → Continuation → Native → Type 0
IsNativeInvoked w resolution (invoke invocation index) heap m native = InvokesNative w resolution invocation heap m native
IsNativeInvoked w resolution row heap m native = ⊥
