-- What invocations ask of a linked world, where selection is known to keep to it: that native methods fit, once, and of the method that is
-- named whether it is static.
use Rattle.std.specs.Prelude.{◌≡◌, ℕ, true, false, List, [], ◌∷◌, Some, slice_get, if◌then◌else◌}
use Rattle.class_model.specs.declared.access_flags.TheConstants.{ACC_STATIC}
use Rattle.lib_table.specs.declared.native.Native.{Native}
use Rattle.link_rules.specs.Program.{has_flag}
use Rattle.opcodes.specs.declared.op.ValueKind.TheVariants as kinds
use Rattle.instruction_rows.specs.declared.value.Slot.{Slot}
use Rattle.instruction_rows.specs.Rows.{Invocation, static, dynamic, invoke}
use Rattle.link_model.specs.declared.members.MethodInfo.{MethodInfo}
use Rattle.link_model.specs.declared.sites.Resolution.{Resolution}
use Rattle.link_model.specs.Infos.{methods_of}
use Rattle.link_model.specs.World.{World}
use Rattle.ref_model.specs.Members.{native_at}
use Rattle.ref_model.specs.Memory.{Memory}
use Rattle.ref_model.specs.Fetch.{Named, named_method}
use Rattle.frame_soundness.specs.NativeKinds.{FitsNative}
use Rattle.step_soundness.specs.Resolutions.{IsRowResolution}

-- each native method takes and gives back what its descriptor says, with a receiver where it isn't static
abbrev pub HasFitNatives : World → Type 0
HasFitNatives w = (n : ℕ) (m : MethodInfo) (native : Native) → slice_get w.methods n ≡ Some m → native_at w n ≡ Some native →
    FitsNative m.signature (if has_flag ACC_STATIC m.flags then [] else kinds.Reference ∷ []) native

-- an invokestatic names a static method, and the others one of objects (JVMS 6.5)
abbrev pub IsKindOf : Invocation → MethodInfo → Type 0
IsKindOf static m = has_flag ACC_STATIC m.flags ≡ true
IsKindOf dynamic m = Unit {0}
IsKindOf invocation m = has_flag ACC_STATIC m.flags ≡ false

-- An invocation of a linked world names what a step asks for, whatever the receiver is (JVMS 5.4.5, 5.4.6).
abbrev pub InvocationsFit : Type 0
InvocationsFit = (w : World) (resolution : Resolution) (invocation : Invocation) (index : ℕ) (r : Memory) (stack : List Slot) →
    w.methods ≡ methods_of w.program → HasFitNatives w →
    ((m : Named) → named_method w resolution ≡ Some m → IsKindOf invocation m.method) → IsRowResolution w resolution (invoke invocation index) r stack
