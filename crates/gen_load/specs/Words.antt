-- Lines of assembler text, in the words that they have there.
use Rattle.std.specs.Prelude.{ℕ, pos, List, [], codes}
use Prim.Native.String.{String}
use Rattle.std.specs.Option.{unwrap_or}
use Rattle.std.specs.List.{flat_map}
use Rattle.asm_text.specs.declared.line.Line.{Line}
use Rattle.asm_text.specs.declared.line.Line.TheVariants as lines
use Rattle.asm_text.specs.declared.line.Flag.{Flag}
use Rattle.asm_text.specs.declared.line.FrameType.{FrameType}
use Rattle.asm_text.specs.declared.line.FrameType.TheVariants as types
use Rattle.asm_text.specs.declared.instruction.Operands.{Operands}
use Rattle.asm_text.specs.declared.instruction.Operands.TheVariants as operands
use Rattle.asm_text.specs.declared.instruction.Constant.TheVariants as constants
use Rattle.asm_text.specs.LineText.{line_text}
use Rattle.asm_text.specs.Mnemonics.{opcode_named}

-- the text that has these lines
abbrev pub text_of : List Line → List ℕ
text_of ls = flat_map line_text ls

-- ---- a class and its members

abbrev pub class : List Flag → String → Line
class flags name = lines.Class flags (codes name)

abbrev pub super : String → Line
super name = lines.Super (codes name)

abbrev pub implements : String → Line
implements name = lines.Implements (codes name)

abbrev pub field : List Flag → String → String → Line
field flags name descriptor = lines.Field flags (codes name) (codes descriptor)

abbrev pub method : List Flag → String → String → Line
method flags name descriptor = lines.Method flags (codes name) (codes descriptor)

-- its greatest depth of the operand stack, and its number of local variables
abbrev pub stack : ℕ → ℕ → Line
stack depth locals = lines.Stack depth locals

abbrev pub end : Line
end = lines.End

-- ---- places in code

abbrev pub label : String → Line
label name = lines.Label (codes name)

-- a frame with an empty operand stack
abbrev pub frame : List FrameType → Line
frame locals = lines.Frame locals []

abbrev pub int : FrameType
int = types.Int

abbrev pub ref : String → FrameType
ref name = types.Ref (codes name)

-- ---- instructions, by their names (JVMS 6.5)

abbrev pub instruction : String → Operands → Line
instruction name ops = lines.Instruction (unwrap_or (opcode_named (codes name)) 0) ops

abbrev pub plain : String → Line
plain name = instruction name operands.Nothing

abbrev pub ldc_int : ℕ → Line
ldc_int n = instruction "ldc" (operands.Constant (constants.Int (pos n)))

abbrev pub bipush : ℕ → Line
bipush n = instruction "bipush" (operands.Byte (pos n))

abbrev pub iinc : ℕ → ℕ → Line
iinc local by = instruction "iinc" (operands.Increment local (pos by))

-- to a label
abbrev pub branch : String → String → Line
branch name label = instruction name (operands.Branch (codes label))

-- of a class, which is new or that of the elements of an array
abbrev pub of_class : String → String → Line
of_class name class = instruction name (operands.Class (codes class))

-- of a field or a method, by its class, its name and its descriptor
abbrev pub of_member : String → String → String → String → Line
of_member name class member descriptor = instruction name (operands.Member (codes class) (codes member) (codes descriptor))
