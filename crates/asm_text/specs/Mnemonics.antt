-- The words of assembler text: which word stands for what.
use Rattle.std.specs.Prelude.{ℕ, List, [], ◌∷◌, ◌++◌, Option, Some, None, codes, length, get_or, ◌==◌, if◌then◌else◌}
use Prim.Native.String.{String}
use Rattle.std.specs.List.{position}
use Rattle.asm_text.specs.declared.instruction.OperandKind.{OperandKind}
use Rattle.asm_text.specs.declared.instruction.OperandKind.TheVariants.{Nothing, Byte, Short, Constant, Local, Increment, Branch, Table, Lookup, Member, Class, Element, Dimensions}
use Rattle.asm_text.specs.declared.instruction.Element.{Element as OneElement}
use Rattle.asm_text.specs.declared.instruction.Element.TheVariants as elements
use Rattle.asm_text.specs.declared.line.Flag.{Flag}
use Rattle.asm_text.specs.declared.line.Flag.TheVariants as flags
use Rattle.asm_text.specs.declared.keyword.Keyword.{Keyword}
use Rattle.asm_text.specs.declared.keyword.Keyword.TheVariants as keywords
use Rattle.asm_text.specs.Words.{same_word}

-- what the word stands for, by a table of words
abbrev pub named : {A : Type 0} → List (List ℕ × A) → List ℕ → Option A
named [] w = None
named (row ∷ rows) w = if same_word w row.0 then Some row.1 else named rows w

-- ---- the first word of a line that is no label and no instruction

abbrev pub keyword_word : Keyword → List ℕ
keyword_word keywords.Class = codes "class"
keyword_word keywords.Super = codes "super"
keyword_word keywords.Implements = codes "implements"
keyword_word keywords.Field = codes "field"
keyword_word keywords.Method = codes "method"
keyword_word keywords.Stack = codes "stack"
keyword_word keywords.Frame = codes "frame"
keyword_word keywords.Catch = codes "catch"
keyword_word keywords.End = codes "end"

abbrev pub keyword_rows : List (List ℕ × Keyword)
keyword_rows =
    (codes "class", keywords.Class)
    ∷ (codes "super", keywords.Super)
    ∷ (codes "implements", keywords.Implements)
    ∷ (codes "field", keywords.Field)
    ∷ (codes "method", keywords.Method)
    ∷ (codes "stack", keywords.Stack)
    ∷ (codes "frame", keywords.Frame)
    ∷ (codes "catch", keywords.Catch)
    ∷ (codes "end", keywords.End)
    ∷ []

-- ---- flags

abbrev pub flag_word : Flag → List ℕ
flag_word flags.Public = codes "public"
flag_word flags.Private = codes "private"
flag_word flags.Static = codes "static"
flag_word flags.Final = codes "final"
flag_word flags.Super = codes "super"
flag_word flags.Synchronized = codes "synchronized"
flag_word flags.Volatile = codes "volatile"
flag_word flags.Native = codes "native"
flag_word flags.Interface = codes "interface"
flag_word flags.Abstract = codes "abstract"

abbrev pub flag_rows : List (List ℕ × Flag)
flag_rows =
    (codes "public", flags.Public)
    ∷ (codes "private", flags.Private)
    ∷ (codes "static", flags.Static)
    ∷ (codes "final", flags.Final)
    ∷ (codes "super", flags.Super)
    ∷ (codes "synchronized", flags.Synchronized)
    ∷ (codes "volatile", flags.Volatile)
    ∷ (codes "native", flags.Native)
    ∷ (codes "interface", flags.Interface)
    ∷ (codes "abstract", flags.Abstract)
    ∷ []

-- ---- types of elements

abbrev pub element_word : OneElement → List ℕ
element_word elements.Boolean = codes "boolean"
element_word elements.Char = codes "char"
element_word elements.Byte = codes "byte"
element_word elements.Short = codes "short"
element_word elements.Int = codes "int"
element_word elements.Long = codes "long"

abbrev pub element_rows : List (List ℕ × OneElement)
element_rows =
    (codes "boolean", elements.Boolean)
    ∷ (codes "char", elements.Char)
    ∷ (codes "byte", elements.Byte)
    ∷ (codes "short", elements.Short)
    ∷ (codes "int", elements.Int)
    ∷ (codes "long", elements.Long)
    ∷ []

-- ---- instructions

-- the name of an instruction, and which operands it has
pub record Mnemonic : Type 0 where
  pub name : List ℕ
  pub operands : OperandKind

abbrev pub named_op : String → OperandKind → Mnemonic
named_op name operands = record { name = codes name; operands = operands }

-- an opcode that has no name here: of float and double, wide, those that later layers refuse, and those of no
-- instruction
abbrev pub nameless : Mnemonic
nameless = record { name = []; operands = Nothing }

-- opcodes 0 to 20
abbrev pub constants : List Mnemonic
constants =
    named_op "nop" Nothing ∷  -- 0
    named_op "aconst_null" Nothing ∷  -- 1
    named_op "iconst_m1" Nothing ∷  -- 2
    named_op "iconst_0" Nothing ∷  -- 3
    named_op "iconst_1" Nothing ∷  -- 4
    named_op "iconst_2" Nothing ∷  -- 5
    named_op "iconst_3" Nothing ∷  -- 6
    named_op "iconst_4" Nothing ∷  -- 7
    named_op "iconst_5" Nothing ∷  -- 8
    named_op "lconst_0" Nothing ∷  -- 9
    named_op "lconst_1" Nothing ∷  -- 10
    nameless ∷  -- 11
    nameless ∷  -- 12
    nameless ∷  -- 13
    nameless ∷  -- 14
    nameless ∷  -- 15
    named_op "bipush" Byte ∷  -- 16
    named_op "sipush" Short ∷  -- 17
    named_op "ldc" Constant ∷  -- 18
    named_op "ldc_w" Constant ∷  -- 19
    named_op "ldc2_w" Constant ∷  -- 20
    []

-- opcodes 21 to 53
abbrev pub loads : List Mnemonic
loads =
    named_op "iload" Local ∷  -- 21
    named_op "lload" Local ∷  -- 22
    nameless ∷  -- 23
    nameless ∷  -- 24
    named_op "aload" Local ∷  -- 25
    named_op "iload_0" Nothing ∷  -- 26
    named_op "iload_1" Nothing ∷  -- 27
    named_op "iload_2" Nothing ∷  -- 28
    named_op "iload_3" Nothing ∷  -- 29
    named_op "lload_0" Nothing ∷  -- 30
    named_op "lload_1" Nothing ∷  -- 31
    named_op "lload_2" Nothing ∷  -- 32
    named_op "lload_3" Nothing ∷  -- 33
    nameless ∷  -- 34
    nameless ∷  -- 35
    nameless ∷  -- 36
    nameless ∷  -- 37
    nameless ∷  -- 38
    nameless ∷  -- 39
    nameless ∷  -- 40
    nameless ∷  -- 41
    named_op "aload_0" Nothing ∷  -- 42
    named_op "aload_1" Nothing ∷  -- 43
    named_op "aload_2" Nothing ∷  -- 44
    named_op "aload_3" Nothing ∷  -- 45
    named_op "iaload" Nothing ∷  -- 46
    named_op "laload" Nothing ∷  -- 47
    nameless ∷  -- 48
    nameless ∷  -- 49
    named_op "aaload" Nothing ∷  -- 50
    named_op "baload" Nothing ∷  -- 51
    named_op "caload" Nothing ∷  -- 52
    named_op "saload" Nothing ∷  -- 53
    []

-- opcodes 54 to 86
abbrev pub stores : List Mnemonic
stores =
    named_op "istore" Local ∷  -- 54
    named_op "lstore" Local ∷  -- 55
    nameless ∷  -- 56
    nameless ∷  -- 57
    named_op "astore" Local ∷  -- 58
    named_op "istore_0" Nothing ∷  -- 59
    named_op "istore_1" Nothing ∷  -- 60
    named_op "istore_2" Nothing ∷  -- 61
    named_op "istore_3" Nothing ∷  -- 62
    named_op "lstore_0" Nothing ∷  -- 63
    named_op "lstore_1" Nothing ∷  -- 64
    named_op "lstore_2" Nothing ∷  -- 65
    named_op "lstore_3" Nothing ∷  -- 66
    nameless ∷  -- 67
    nameless ∷  -- 68
    nameless ∷  -- 69
    nameless ∷  -- 70
    nameless ∷  -- 71
    nameless ∷  -- 72
    nameless ∷  -- 73
    nameless ∷  -- 74
    named_op "astore_0" Nothing ∷  -- 75
    named_op "astore_1" Nothing ∷  -- 76
    named_op "astore_2" Nothing ∷  -- 77
    named_op "astore_3" Nothing ∷  -- 78
    named_op "iastore" Nothing ∷  -- 79
    named_op "lastore" Nothing ∷  -- 80
    nameless ∷  -- 81
    nameless ∷  -- 82
    named_op "aastore" Nothing ∷  -- 83
    named_op "bastore" Nothing ∷  -- 84
    named_op "castore" Nothing ∷  -- 85
    named_op "sastore" Nothing ∷  -- 86
    []

-- opcodes 87 to 132
abbrev pub stack_and_math : List Mnemonic
stack_and_math =
    named_op "pop" Nothing ∷  -- 87
    named_op "pop2" Nothing ∷  -- 88
    named_op "dup" Nothing ∷  -- 89
    named_op "dup_x1" Nothing ∷  -- 90
    named_op "dup_x2" Nothing ∷  -- 91
    named_op "dup2" Nothing ∷  -- 92
    named_op "dup2_x1" Nothing ∷  -- 93
    named_op "dup2_x2" Nothing ∷  -- 94
    named_op "swap" Nothing ∷  -- 95
    named_op "iadd" Nothing ∷  -- 96
    named_op "ladd" Nothing ∷  -- 97
    nameless ∷  -- 98
    nameless ∷  -- 99
    named_op "isub" Nothing ∷  -- 100
    named_op "lsub" Nothing ∷  -- 101
    nameless ∷  -- 102
    nameless ∷  -- 103
    named_op "imul" Nothing ∷  -- 104
    named_op "lmul" Nothing ∷  -- 105
    nameless ∷  -- 106
    nameless ∷  -- 107
    named_op "idiv" Nothing ∷  -- 108
    named_op "ldiv" Nothing ∷  -- 109
    nameless ∷  -- 110
    nameless ∷  -- 111
    named_op "irem" Nothing ∷  -- 112
    named_op "lrem" Nothing ∷  -- 113
    nameless ∷  -- 114
    nameless ∷  -- 115
    named_op "ineg" Nothing ∷  -- 116
    named_op "lneg" Nothing ∷  -- 117
    nameless ∷  -- 118
    nameless ∷  -- 119
    named_op "ishl" Nothing ∷  -- 120
    named_op "lshl" Nothing ∷  -- 121
    named_op "ishr" Nothing ∷  -- 122
    named_op "lshr" Nothing ∷  -- 123
    named_op "iushr" Nothing ∷  -- 124
    named_op "lushr" Nothing ∷  -- 125
    named_op "iand" Nothing ∷  -- 126
    named_op "land" Nothing ∷  -- 127
    named_op "ior" Nothing ∷  -- 128
    named_op "lor" Nothing ∷  -- 129
    named_op "ixor" Nothing ∷  -- 130
    named_op "lxor" Nothing ∷  -- 131
    named_op "iinc" Increment ∷  -- 132
    []

-- opcodes 133 to 169
abbrev pub conversions_and_branches : List Mnemonic
conversions_and_branches =
    named_op "i2l" Nothing ∷  -- 133
    nameless ∷  -- 134
    nameless ∷  -- 135
    named_op "l2i" Nothing ∷  -- 136
    nameless ∷  -- 137
    nameless ∷  -- 138
    nameless ∷  -- 139
    nameless ∷  -- 140
    nameless ∷  -- 141
    nameless ∷  -- 142
    nameless ∷  -- 143
    nameless ∷  -- 144
    named_op "i2b" Nothing ∷  -- 145
    named_op "i2c" Nothing ∷  -- 146
    named_op "i2s" Nothing ∷  -- 147
    named_op "lcmp" Nothing ∷  -- 148
    nameless ∷  -- 149
    nameless ∷  -- 150
    nameless ∷  -- 151
    nameless ∷  -- 152
    named_op "ifeq" Branch ∷  -- 153
    named_op "ifne" Branch ∷  -- 154
    named_op "iflt" Branch ∷  -- 155
    named_op "ifge" Branch ∷  -- 156
    named_op "ifgt" Branch ∷  -- 157
    named_op "ifle" Branch ∷  -- 158
    named_op "if_icmpeq" Branch ∷  -- 159
    named_op "if_icmpne" Branch ∷  -- 160
    named_op "if_icmplt" Branch ∷  -- 161
    named_op "if_icmpge" Branch ∷  -- 162
    named_op "if_icmpgt" Branch ∷  -- 163
    named_op "if_icmple" Branch ∷  -- 164
    named_op "if_acmpeq" Branch ∷  -- 165
    named_op "if_acmpne" Branch ∷  -- 166
    named_op "goto" Branch ∷  -- 167
    nameless ∷  -- 168
    nameless ∷  -- 169
    []

-- opcodes 170 to 200
abbrev pub control_and_references : List Mnemonic
control_and_references =
    named_op "tableswitch" Table ∷  -- 170
    named_op "lookupswitch" Lookup ∷  -- 171
    named_op "ireturn" Nothing ∷  -- 172
    named_op "lreturn" Nothing ∷  -- 173
    nameless ∷  -- 174
    nameless ∷  -- 175
    named_op "areturn" Nothing ∷  -- 176
    named_op "return" Nothing ∷  -- 177
    named_op "getstatic" Member ∷  -- 178
    named_op "putstatic" Member ∷  -- 179
    named_op "getfield" Member ∷  -- 180
    named_op "putfield" Member ∷  -- 181
    named_op "invokevirtual" Member ∷  -- 182
    named_op "invokespecial" Member ∷  -- 183
    named_op "invokestatic" Member ∷  -- 184
    named_op "invokeinterface" Member ∷  -- 185
    nameless ∷  -- 186
    named_op "new" Class ∷  -- 187
    named_op "newarray" Element ∷  -- 188
    named_op "anewarray" Class ∷  -- 189
    named_op "arraylength" Nothing ∷  -- 190
    named_op "athrow" Nothing ∷  -- 191
    named_op "checkcast" Class ∷  -- 192
    named_op "instanceof" Class ∷  -- 193
    named_op "monitorenter" Nothing ∷  -- 194
    named_op "monitorexit" Nothing ∷  -- 195
    nameless ∷  -- 196
    named_op "multianewarray" Dimensions ∷  -- 197
    named_op "ifnull" Branch ∷  -- 198
    named_op "ifnonnull" Branch ∷  -- 199
    named_op "goto_w" Branch ∷  -- 200
    []

unfoldable pub mnemonics : List Mnemonic
mnemonics = constants ++ loads ++ stores ++ stack_and_math ++ conversions_and_branches ++ control_and_references

unfoldable pub mnemonic_of : ℕ → Mnemonic
mnemonic_of opcode = get_or mnemonics opcode nameless

-- the index of the first with this name, which isn't empty
abbrev pub index_named : List Mnemonic → List ℕ → Option ℕ
index_named ms w = if length w == 0 then None else position (λ m. same_word m.name w) ms

-- the opcode of the instruction with this name
unfoldable pub opcode_named : List ℕ → Option ℕ
opcode_named w = index_named mnemonics w
