-- The constant that an instruction names, and the pool with it.
use Rattle.std.specs.Prelude.{◌≡◌, ℕ, ◌+◌, List, [], ◌∷◌, length, Option, Some, None, Result, Ok, Err, nat_lt, nat_le, ◌==◌, if◌then◌else◌}
use Rattle.std.specs.Option.{option_map}
use Rattle.items.specs.Options.{◌>>=◌}
use Rattle.class_model.specs.declared.constant.Const.{Const}
use Rattle.descriptors.specs.declared.kind.Kind.{Kind}
use Rattle.descriptors.specs.Descriptors.{slots}
use Rattle.descriptors.specs.States.{is_method}
use Rattle.descriptors.specs.Meaning as descriptors
use Rattle.asm_text.specs.declared.error.LineError.{LineError}
use Rattle.asm_text.specs.declared.error.LineError.TheVariants as line_errors
use Rattle.asm_text.specs.declared.instruction.Operands.{Operands}
use Rattle.asm_text.specs.declared.instruction.Operands.TheVariants as operands
use Rattle.asm_text.specs.declared.instruction.Constant.{Constant}
use Rattle.asm_text.specs.declared.instruction.Constant.TheVariants as constants
use Rattle.asm_pool.specs.declared.error.PoolError.{PoolError}
use Rattle.asm_pool.specs.declared.error.PoolError.TheVariants as pool_errors
use Rattle.asm_pool.specs.declared.pool.Pool.{Pool}
use Rattle.asm_pool.specs.Mentions as pools
use Rattle.asm_pool.specs.Places.{IsPool}
use Rattle.asm_code.specs.declared.instruction.Mentioned.{Mentioned}

abbrev pub Naming : Type 0
Naming = Option (Mentioned × List Const)

-- the call did what is named, unless memory ran out
abbrev pub MentionsAt : Result Mentioned LineError → Pool → Naming → Type 0
MentionsAt (Ok m) new naming = (naming ≡ Some (m, new.entries)) × IsPool new
MentionsAt (Err line_errors.Bad) new naming = naming ≡ None
MentionsAt (Err line_errors.NoMemory) new naming = Unit {0}

-- the call gave this value, unless memory ran out
abbrev pub Gives : {X : Type 0} → Result X LineError → Option X → Type 0
Gives (Ok x) made = made ≡ Some x
Gives (Err line_errors.Bad) made = made ≡ None
Gives (Err line_errors.NoMemory) made = Unit {0}

abbrev pub line_error : PoolError → LineError
line_error pool_errors.Full = line_errors.Bad
line_error pool_errors.NoMemory = line_errors.NoMemory

-- of a constant, with this number of argument slots
abbrev pub with_slots : ℕ → pools.Mention → Naming
with_slots count mention = option_map (λ (x : ℕ × List Const). (record { index = x.0; slots = count }, x.1)) mention

abbrev pub plain : pools.Mention → Naming
plain mention = with_slots 0 mention

-- ---- the slots of the arguments with the receiver

-- so many with those of these kinds, at most 255
abbrev pub slots_from : ℕ → List Kind → Option ℕ
slots_from n [] = Some n
slots_from n (k ∷ ks) = if nat_le (n + slots k) 255 then slots_from (n + slots k) ks else None

abbrev pub slots_by : List ℕ → Option ℕ
slots_by units = if is_method units then slots_from 1 (descriptors.signature_of units).args else None

-- a descriptor has at most 65,535 units
abbrev pub slots_in : List ℕ → Option ℕ
slots_in descriptor = if nat_lt 65535 (length descriptor) then None else slots_by descriptor

abbrev pub interface_method : List ℕ → List ℕ → List ℕ → List Const → Naming
interface_method class name descriptor pool = do
  count ← slots_in descriptor
  with_slots count (pools.interface_method class name descriptor pool)

-- ---- by instruction

abbrev pub constant : Constant → List Const → Naming
constant (constants.Int n) pool = plain (pools.int n pool)
constant (constants.Long n) pool = plain (pools.long n pool)
constant (constants.Text text) pool = plain (pools.string text pool)

-- getstatic to putfield name fields, invokeinterface a method of an interface, and the others methods of classes
abbrev pub member : ℕ → List ℕ → List ℕ → List ℕ → List Const → Naming
member opcode class name descriptor pool =
    if nat_lt opcode 182 then plain (pools.field class name descriptor pool)
    else if opcode == 185 then interface_method class name descriptor pool
    else plain (pools.method class name descriptor pool)

-- nothing is named
abbrev pub nothing : List Const → Naming
nothing pool = Some (record { index = 0; slots = 0 }, pool)

abbrev pub mention_of : ℕ → Operands → List Const → Naming
mention_of opcode (operands.Constant c) pool = constant c pool
mention_of opcode (operands.Member class name descriptor) pool = member opcode class name descriptor pool
mention_of opcode (operands.Class name) pool = plain (pools.class name pool)
mention_of opcode (operands.Dimensions name n) pool = plain (pools.class name pool)
mention_of opcode operands.Nothing pool = nothing pool
mention_of opcode (operands.Byte n) pool = nothing pool
mention_of opcode (operands.Short n) pool = nothing pool
mention_of opcode (operands.Local n) pool = nothing pool
mention_of opcode (operands.Increment n by) pool = nothing pool
mention_of opcode (operands.Branch label) pool = nothing pool
mention_of opcode (operands.Table low labels default) pool = nothing pool
mention_of opcode (operands.Lookup cases default) pool = nothing pool
mention_of opcode (operands.Element e) pool = nothing pool
