-- The instruction at a frame's pc (JVMS 2.5.1, 2.6).
use Rattle.std.specs.Prelude.{ℕ, List, [], Option, Some, None, find, get_or, slice_get, ◌==◌}
use Rattle.items.specs.Options.{◌>>=◌}
use Rattle.instruction_rows.specs.declared.value.Value.{Value}
use Rattle.link_model.specs.declared.members.MethodInfo.{MethodInfo}
use Rattle.link_model.specs.declared.members.MethodCode.{MethodCode}
use Rattle.link_model.specs.declared.sites.Resolution.{Resolution}
use Rattle.link_model.specs.declared.sites.Site.{Site}
use Rattle.link_model.specs.declared.sites.Site.TheVariants as sites
use Rattle.link_model.specs.World.{World}
use Rattle.link_model.specs.Decoded.{code_at}
use Rattle.verify_types.specs.Environment.{Instruction, Handler, with_resolutions, with_catches}
use Rattle.state_model.specs.Frames.{Frame}

-- the instructions of a method, with what their constants mean
abbrev pub instructions_of : World → ℕ → MethodCode → List Instruction
instructions_of w method code = with_resolutions code.code (get_or w.resolutions method [])

-- the rows of its exception table, with the classes that they catch
abbrev pub handlers_of : World → ℕ → MethodCode → List Handler
handlers_of w method code = with_catches code.rows (get_or w.catches method [])

-- the instruction at a pc
abbrev pub instruction_in : World → ℕ → ℕ → MethodCode → Option Instruction
instruction_in w method pc code = find (λ (i : Instruction). i.instr.pc == pc) (instructions_of w method code)

-- the instruction of a frame
abbrev pub fetched : World → Frame → Option Instruction
fetched w f = code_at w f.method >>= instruction_in w f.method f.pc

-- ---- what its constant means (JVMS 5.4.3)

abbrev pub constant_of : Site → Option Value
constant_of (sites.Value v) = Some v
constant_of site = None

abbrev pub field_of : Site → Option ℕ
field_of (sites.Field n) = Some n
field_of site = None

abbrev pub method_of : Site → Option ℕ
method_of (sites.Method n) = Some n
method_of site = None

abbrev pub class_of : Site → Option ℕ
class_of (sites.Class n) = Some n
class_of site = None

-- the method that an invocation names, and its number
pub record Named : Type 0 where
  pub number : ℕ
  pub method : MethodInfo

abbrev pub named_method : World → Resolution → Option Named
named_method w resolution =
    method_of resolution.site >>= λ n. slice_get w.methods n >>= λ m. Some (record { number = n; method = m })
