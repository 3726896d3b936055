-- The words of each line, one after the other, and what may stand in it.
use Rattle.std.specs.Prelude.{◌≡◌, ℕ, ◌<◌, ◌^◌, Bool, true, false, ◌==◌, List, [], ◌∷◌, ◌++◌, map, length, Option, Some, None, codes, decimal, FitsSigned}
use Rattle.std.specs.Fmt.{signed_decimal}
use Rattle.std.specs.Int.{w8, w16, w32, w64}
use Rattle.std.specs.List.{flat_map, AllByRecursion}
use Rattle.asm_text.specs.declared.line.Line.{Line}
use Rattle.asm_text.specs.declared.line.Line.TheVariants as lines
use Rattle.asm_text.specs.declared.line.Flag.{Flag}
use Rattle.asm_text.specs.declared.line.Flag.TheVariants as flags
use Rattle.asm_text.specs.declared.line.Declared.{Declared}
use Rattle.asm_text.specs.declared.line.Declared.TheVariants as places
use Rattle.asm_text.specs.declared.line.FrameType.{FrameType}
use Rattle.asm_text.specs.declared.line.FrameType.TheVariants as types
use Rattle.asm_text.specs.declared.instruction.Operands.{Operands}
use Rattle.asm_text.specs.declared.instruction.Operands.TheVariants as operands
use Rattle.asm_text.specs.declared.instruction.OperandKind.{OperandKind}
use Rattle.asm_text.specs.declared.instruction.OperandKind.TheVariants as kinds
use Rattle.asm_text.specs.declared.instruction.Constant.{Constant}
use Rattle.asm_text.specs.declared.instruction.Constant.TheVariants as constants
use Rattle.asm_text.specs.declared.instruction.Case.{Case}
use Rattle.asm_text.specs.Words.{same_word, IsWord, join}
use Rattle.asm_text.specs.Mnemonics.{flag_word, element_word, mnemonic_of}

-- ---- the words

abbrev pub frame_type_words : FrameType → List (List ℕ)
frame_type_words types.Top = codes "top" ∷ []
frame_type_words types.Int = codes "int" ∷ []
frame_type_words types.Long = codes "long" ∷ []
frame_type_words types.Null = codes "null" ∷ []
frame_type_words types.This = codes "this" ∷ []
frame_type_words (types.New label) = codes "new" ∷ label ∷ []
frame_type_words (types.Ref name) = codes "ref" ∷ name ∷ []

abbrev pub constant_words : Constant → List (List ℕ)
constant_words (constants.Int n) = codes "int" ∷ signed_decimal n ∷ []
constant_words (constants.Long n) = codes "long" ∷ signed_decimal n ∷ []
constant_words (constants.Text word) = codes "text" ∷ word ∷ []

abbrev pub case_words : Case → List (List ℕ)
case_words c = signed_decimal c.value ∷ c.label ∷ []

abbrev pub operand_words : Operands → List (List ℕ)
operand_words operands.Nothing = []
operand_words (operands.Byte n) = signed_decimal n ∷ []
operand_words (operands.Short n) = signed_decimal n ∷ []
operand_words (operands.Constant c) = constant_words c
operand_words (operands.Local n) = decimal n ∷ []
operand_words (operands.Increment n by) = decimal n ∷ signed_decimal by ∷ []
operand_words (operands.Branch label) = label ∷ []
operand_words (operands.Table low labels default) = signed_decimal low ∷ (labels ++ codes "default" ∷ default ∷ [])
operand_words (operands.Lookup cases default) = flat_map case_words cases ++ codes "default" ∷ default ∷ []
operand_words (operands.Member class name descriptor) = class ∷ name ∷ descriptor ∷ []
operand_words (operands.Class name) = name ∷ []
operand_words (operands.Element e) = element_word e ∷ []
operand_words (operands.Dimensions name n) = name ∷ decimal n ∷ []

abbrev pub caught_word : Option (List ℕ) → List ℕ
caught_word (Some name) = name
caught_word None = codes "any"

abbrev pub line_words : Line → List (List ℕ)
line_words lines.Blank = []
line_words (lines.Class fs name) = codes "class" ∷ (map flag_word fs ++ name ∷ [])
line_words (lines.Super name) = codes "super" ∷ name ∷ []
line_words (lines.Implements name) = codes "implements" ∷ name ∷ []
line_words (lines.Field fs name descriptor) = codes "field" ∷ (map flag_word fs ++ name ∷ descriptor ∷ [])
line_words (lines.Method fs name descriptor) = codes "method" ∷ (map flag_word fs ++ name ∷ descriptor ∷ [])
line_words (lines.Stack stack locals) = codes "stack" ∷ decimal stack ∷ codes "locals" ∷ decimal locals ∷ []
line_words (lines.Label label) = (label ++ codes ":") ∷ []
line_words (lines.Frame locals stack) =
    codes "frame" ∷ (flat_map frame_type_words locals ++ codes "|" ∷ flat_map frame_type_words stack)
line_words (lines.Catch caught from to using) =
    codes "catch" ∷ caught_word caught ∷ codes "from" ∷ from ∷ codes "to" ∷ to ∷ codes "using" ∷ using ∷ []
line_words lines.End = codes "end" ∷ []
line_words (lines.Instruction opcode ops) = (mnemonic_of opcode).name ∷ operand_words ops

-- the line without its line feed, and with it
abbrev pub line_bytes : Line → List ℕ
line_bytes l = join (line_words l)

abbrev pub line_text : Line → List ℕ
line_text l = line_bytes l ++ codes "\n"

-- ---- what may stand in a line

-- a class has no `synchronized`, a field neither that nor `super`, and a method no `super`
abbrev pub is_allowed : Declared → Flag → Bool
is_allowed places.Class flags.Synchronized = false
is_allowed places.Class flag = true
is_allowed places.Field flags.Super = false
is_allowed places.Field flags.Synchronized = false
is_allowed places.Field flag = true
is_allowed places.Method flags.Super = false
is_allowed places.Method flag = true

abbrev pub AreAllowed : Declared → List Flag → Type 0
AreAllowed declared fs = AllByRecursion (λ f. is_allowed declared f ≡ true) fs

abbrev pub IsFrameType : FrameType → Type 0
IsFrameType (types.New label) = IsWord label
IsFrameType (types.Ref name) = IsWord name
IsFrameType other = Unit {0}

abbrev pub AreFrameTypes : List FrameType → Type 0
AreFrameTypes ts = AllByRecursion IsFrameType ts

abbrev pub IsConstant : Constant → Type 0
IsConstant (constants.Int n) = FitsSigned w32 n
IsConstant (constants.Long n) = FitsSigned w64 n
IsConstant (constants.Text word) = IsWord word

abbrev pub IsCase : Case → Type 0
IsCase c = FitsSigned w32 c.value × IsWord c.label

abbrev pub AreNames : List (List ℕ) → Type 0
AreNames names = AllByRecursion IsWord names

abbrev pub IsOperands : Operands → Type 0
IsOperands operands.Nothing = Unit {0}
IsOperands (operands.Byte n) = FitsSigned w8 n
IsOperands (operands.Short n) = FitsSigned w16 n
IsOperands (operands.Constant c) = IsConstant c
IsOperands (operands.Local n) = n < 2 ^ 16
IsOperands (operands.Increment n by) = (n < 2 ^ 16) × FitsSigned w16 by
IsOperands (operands.Branch label) = IsWord label
IsOperands (operands.Table low labels default) = FitsSigned w32 low × AreNames labels × IsWord default
IsOperands (operands.Lookup cases default) = AllByRecursion IsCase cases × IsWord default
IsOperands (operands.Member class name descriptor) = IsWord class × IsWord name × IsWord descriptor
IsOperands (operands.Class name) = IsWord name
IsOperands (operands.Element e) = Unit {0}
IsOperands (operands.Dimensions name n) = IsWord name × (n < 2 ^ 8)

-- which operands these are
abbrev pub kind_of : Operands → OperandKind
kind_of operands.Nothing = kinds.Nothing
kind_of (operands.Byte n) = kinds.Byte
kind_of (operands.Short n) = kinds.Short
kind_of (operands.Constant c) = kinds.Constant
kind_of (operands.Local n) = kinds.Local
kind_of (operands.Increment n by) = kinds.Increment
kind_of (operands.Branch label) = kinds.Branch
kind_of (operands.Table low labels default) = kinds.Table
kind_of (operands.Lookup cases default) = kinds.Lookup
kind_of (operands.Member class name descriptor) = kinds.Member
kind_of (operands.Class name) = kinds.Class
kind_of (operands.Element e) = kinds.Element
kind_of (operands.Dimensions name n) = kinds.Dimensions

-- the opcode has a name and these operands
pub record IsInstruction (opcode : ℕ) (ops : Operands) : Type 0 where
  pub named : 0 < length (mnemonic_of opcode).name
  pub kind : kind_of ops ≡ (mnemonic_of opcode).operands
  pub fits : IsOperands ops

-- a line that begins with a number sign is a comment
abbrev pub begins_comment : List ℕ → Bool
begins_comment [] = false
begins_comment (b ∷ bs) = b == 35

-- a class, and not the word for every throwable
abbrev pub IsCaught : Option (List ℕ) → Type 0
IsCaught (Some name) = IsWord name × (same_word name (codes "any") ≡ false)
IsCaught None = Unit {0}

-- these words say this line
abbrev pub IsLine : Line → Type 0
IsLine lines.Blank = ⊥
IsLine (lines.Class fs name) = AreAllowed places.Class fs × IsWord name
IsLine (lines.Super name) = IsWord name
IsLine (lines.Implements name) = IsWord name
IsLine (lines.Field fs name descriptor) = AreAllowed places.Field fs × IsWord name × IsWord descriptor
IsLine (lines.Method fs name descriptor) = AreAllowed places.Method fs × IsWord name × IsWord descriptor
IsLine (lines.Stack stack locals) = (stack < 2 ^ 16) × (locals < 2 ^ 16)
IsLine (lines.Label label) = IsWord label × (begins_comment label ≡ false)
IsLine (lines.Frame locals stack) = AreFrameTypes locals × AreFrameTypes stack
IsLine (lines.Catch caught from to using) = IsCaught caught × IsWord from × IsWord to × IsWord using
IsLine lines.End = Unit {0}
IsLine (lines.Instruction opcode ops) = IsInstruction opcode ops
