-- What the operands of each opcode are, and what its instruction does with them (JVMS 6.5). The groups are those of JVMS 7.
use Rattle.std.specs.Prelude.{ℕ, ℤ, pos, negsuc, List, [], ◌∷◌, ◌++◌, get_or}
use Rattle.jvm_words.specs.declared.operation.IntOp.TheVariants as ints
use Rattle.jvm_words.specs.declared.operation.LongOp.TheVariants as longs
use Rattle.jvm_words.specs.declared.operation.ShiftOp.TheVariants as shifts
use Rattle.jvm_words.specs.declared.operation.Narrow.TheVariants as narrows
use Rattle.opcodes.specs.declared.op.Op.{Op}
use Rattle.opcodes.specs.declared.op.Op.TheVariants as ops
use Rattle.opcodes.specs.declared.op.Op.TheVariants.{PushInt, PushLong, PushConstant, PushWideConstant, Load, Store, IfZero, IfInts, IfReferences, IfNull, Goto, GetStatic, PutStatic, GetField, PutField, InvokeVirtual, InvokeSpecial, InvokeStatic, New, ANewArray, CheckCast, InstanceOf, Jsr, Ret, Floating}
use Rattle.opcodes.specs.declared.op.Simple.{Simple}
use Rattle.opcodes.specs.declared.op.Simple.TheVariants.{Nop, PushNull, ArrayLoad, ArrayStore, Pop, Pop2, Dup, DupX1, DupX2, Dup2, Dup2X1, Dup2X2, Swap, IntBinary, LongBinary, LongShift, IntNegate, LongNegate, IntToLong, LongToInt, IntNarrow, LongCompare, ReturnValue, Return, ArrayLength, Throw, MonitorEnter, MonitorExit}
use Rattle.opcodes.specs.declared.op.ValueKind.TheVariants as kinds
use Rattle.opcodes.specs.declared.op.Element.TheVariants as elements
use Rattle.opcodes.specs.declared.op.Comparison.TheVariants as orders
use Rattle.opcodes.specs.declared.op.Sameness.TheVariants as samenesses

-- the operands of an opcode
pub data Format : Type 0 where
  -- no instruction has the opcode
  undefined : Format
  -- no operand
  plain : Op → Format
  -- a number with a sign in one byte, and in two
  byte : Format
  short : Format
  -- the index of a constant in one byte
  constant : Format
  -- the index of an entry of the constant pool in two bytes
  index : (ℕ → Op) → Format
  -- the index of a local variable in one byte, or in two after wide
  local : (ℕ → Op) → Format
  -- the index of a local variable, and what is added to it
  increment : Format
  -- the offset of a target in two bytes, and in four
  branch : (ℤ → Op) → Format
  far_branch : (ℤ → Op) → Format
  -- those with operands of their own
  table : Format
  lookup : Format
  interface : Format
  dynamic : Format
  primitive : Format
  dimensions : Format
  wide : Format

abbrev pub simple : Simple → Format
simple s = plain (ops.Simple s)

-- opcodes 0 to 20
abbrev pub constants : List Format
constants =
    simple Nop ∷  -- 0 nop
    simple PushNull ∷  -- 1 aconst_null
    plain (PushInt (negsuc 0)) ∷  -- 2 iconst_m1
    plain (PushInt (pos 0)) ∷  -- 3 iconst_0
    plain (PushInt (pos 1)) ∷  -- 4 iconst_1
    plain (PushInt (pos 2)) ∷  -- 5 iconst_2
    plain (PushInt (pos 3)) ∷  -- 6 iconst_3
    plain (PushInt (pos 4)) ∷  -- 7 iconst_4
    plain (PushInt (pos 5)) ∷  -- 8 iconst_5
    plain (PushLong (pos 0)) ∷  -- 9 lconst_0
    plain (PushLong (pos 1)) ∷  -- 10 lconst_1
    plain (Floating 11) ∷  -- 11 fconst_0
    plain (Floating 12) ∷  -- 12 fconst_1
    plain (Floating 13) ∷  -- 13 fconst_2
    plain (Floating 14) ∷  -- 14 dconst_0
    plain (Floating 15) ∷  -- 15 dconst_1
    byte ∷  -- 16 bipush
    short ∷  -- 17 sipush
    constant ∷  -- 18 ldc
    index PushConstant ∷  -- 19 ldc_w
    index PushWideConstant ∷  -- 20 ldc2_w
    []

-- opcodes 21 to 53
abbrev pub loads : List Format
loads =
    local (Load kinds.Int) ∷  -- 21 iload
    local (Load kinds.Long) ∷  -- 22 lload
    local (λ n. Floating 23) ∷  -- 23 fload
    local (λ n. Floating 24) ∷  -- 24 dload
    local (Load kinds.Reference) ∷  -- 25 aload
    plain (Load kinds.Int 0) ∷  -- 26 iload_0
    plain (Load kinds.Int 1) ∷  -- 27 iload_1
    plain (Load kinds.Int 2) ∷  -- 28 iload_2
    plain (Load kinds.Int 3) ∷  -- 29 iload_3
    plain (Load kinds.Long 0) ∷  -- 30 lload_0
    plain (Load kinds.Long 1) ∷  -- 31 lload_1
    plain (Load kinds.Long 2) ∷  -- 32 lload_2
    plain (Load kinds.Long 3) ∷  -- 33 lload_3
    plain (Floating 34) ∷  -- 34 fload_0
    plain (Floating 35) ∷  -- 35 fload_1
    plain (Floating 36) ∷  -- 36 fload_2
    plain (Floating 37) ∷  -- 37 fload_3
    plain (Floating 38) ∷  -- 38 dload_0
    plain (Floating 39) ∷  -- 39 dload_1
    plain (Floating 40) ∷  -- 40 dload_2
    plain (Floating 41) ∷  -- 41 dload_3
    plain (Load kinds.Reference 0) ∷  -- 42 aload_0
    plain (Load kinds.Reference 1) ∷  -- 43 aload_1
    plain (Load kinds.Reference 2) ∷  -- 44 aload_2
    plain (Load kinds.Reference 3) ∷  -- 45 aload_3
    simple (ArrayLoad elements.Int) ∷  -- 46 iaload
    simple (ArrayLoad elements.Long) ∷  -- 47 laload
    plain (Floating 48) ∷  -- 48 faload
    plain (Floating 49) ∷  -- 49 daload
    simple (ArrayLoad elements.Reference) ∷  -- 50 aaload
    simple (ArrayLoad elements.Byte) ∷  -- 51 baload
    simple (ArrayLoad elements.Char) ∷  -- 52 caload
    simple (ArrayLoad elements.Short) ∷  -- 53 saload
    []

-- opcodes 54 to 86
abbrev pub stores : List Format
stores =
    local (Store kinds.Int) ∷  -- 54 istore
    local (Store kinds.Long) ∷  -- 55 lstore
    local (λ n. Floating 56) ∷  -- 56 fstore
    local (λ n. Floating 57) ∷  -- 57 dstore
    local (Store kinds.Reference) ∷  -- 58 astore
    plain (Store kinds.Int 0) ∷  -- 59 istore_0
    plain (Store kinds.Int 1) ∷  -- 60 istore_1
    plain (Store kinds.Int 2) ∷  -- 61 istore_2
    plain (Store kinds.Int 3) ∷  -- 62 istore_3
    plain (Store kinds.Long 0) ∷  -- 63 lstore_0
    plain (Store kinds.Long 1) ∷  -- 64 lstore_1
    plain (Store kinds.Long 2) ∷  -- 65 lstore_2
    plain (Store kinds.Long 3) ∷  -- 66 lstore_3
    plain (Floating 67) ∷  -- 67 fstore_0
    plain (Floating 68) ∷  -- 68 fstore_1
    plain (Floating 69) ∷  -- 69 fstore_2
    plain (Floating 70) ∷  -- 70 fstore_3
    plain (Floating 71) ∷  -- 71 dstore_0
    plain (Floating 72) ∷  -- 72 dstore_1
    plain (Floating 73) ∷  -- 73 dstore_2
    plain (Floating 74) ∷  -- 74 dstore_3
    plain (Store kinds.Reference 0) ∷  -- 75 astore_0
    plain (Store kinds.Reference 1) ∷  -- 76 astore_1
    plain (Store kinds.Reference 2) ∷  -- 77 astore_2
    plain (Store kinds.Reference 3) ∷  -- 78 astore_3
    simple (ArrayStore elements.Int) ∷  -- 79 iastore
    simple (ArrayStore elements.Long) ∷  -- 80 lastore
    plain (Floating 81) ∷  -- 81 fastore
    plain (Floating 82) ∷  -- 82 dastore
    simple (ArrayStore elements.Reference) ∷  -- 83 aastore
    simple (ArrayStore elements.Byte) ∷  -- 84 bastore
    simple (ArrayStore elements.Char) ∷  -- 85 castore
    simple (ArrayStore elements.Short) ∷  -- 86 sastore
    []

-- opcodes 87 to 95
abbrev pub stack : List Format
stack =
    simple Pop ∷  -- 87 pop
    simple Pop2 ∷  -- 88 pop2
    simple Dup ∷  -- 89 dup
    simple DupX1 ∷  -- 90 dup_x1
    simple DupX2 ∷  -- 91 dup_x2
    simple Dup2 ∷  -- 92 dup2
    simple Dup2X1 ∷  -- 93 dup2_x1
    simple Dup2X2 ∷  -- 94 dup2_x2
    simple Swap ∷  -- 95 swap
    []

-- opcodes 96 to 132
abbrev pub math : List Format
math =
    simple (IntBinary ints.Add) ∷  -- 96 iadd
    simple (LongBinary longs.Add) ∷  -- 97 ladd
    plain (Floating 98) ∷  -- 98 fadd
    plain (Floating 99) ∷  -- 99 dadd
    simple (IntBinary ints.Sub) ∷  -- 100 isub
    simple (LongBinary longs.Sub) ∷  -- 101 lsub
    plain (Floating 102) ∷  -- 102 fsub
    plain (Floating 103) ∷  -- 103 dsub
    simple (IntBinary ints.Mul) ∷  -- 104 imul
    simple (LongBinary longs.Mul) ∷  -- 105 lmul
    plain (Floating 106) ∷  -- 106 fmul
    plain (Floating 107) ∷  -- 107 dmul
    simple (IntBinary ints.Div) ∷  -- 108 idiv
    simple (LongBinary longs.Div) ∷  -- 109 ldiv
    plain (Floating 110) ∷  -- 110 fdiv
    plain (Floating 111) ∷  -- 111 ddiv
    simple (IntBinary ints.Rem) ∷  -- 112 irem
    simple (LongBinary longs.Rem) ∷  -- 113 lrem
    plain (Floating 114) ∷  -- 114 frem
    plain (Floating 115) ∷  -- 115 drem
    simple IntNegate ∷  -- 116 ineg
    simple LongNegate ∷  -- 117 lneg
    plain (Floating 118) ∷  -- 118 fneg
    plain (Floating 119) ∷  -- 119 dneg
    simple (IntBinary ints.Shl) ∷  -- 120 ishl
    simple (LongShift shifts.Shl) ∷  -- 121 lshl
    simple (IntBinary ints.Shr) ∷  -- 122 ishr
    simple (LongShift shifts.Shr) ∷  -- 123 lshr
    simple (IntBinary ints.Ushr) ∷  -- 124 iushr
    simple (LongShift shifts.Ushr) ∷  -- 125 lushr
    simple (IntBinary ints.And) ∷  -- 126 iand
    simple (LongBinary longs.And) ∷  -- 127 land
    simple (IntBinary ints.Or) ∷  -- 128 ior
    simple (LongBinary longs.Or) ∷  -- 129 lor
    simple (IntBinary ints.Xor) ∷  -- 130 ixor
    simple (LongBinary longs.Xor) ∷  -- 131 lxor
    increment ∷  -- 132 iinc
    []

-- opcodes 133 to 147
abbrev pub conversions : List Format
conversions =
    simple IntToLong ∷  -- 133 i2l
    plain (Floating 134) ∷  -- 134 i2f
    plain (Floating 135) ∷  -- 135 i2d
    simple LongToInt ∷  -- 136 l2i
    plain (Floating 137) ∷  -- 137 l2f
    plain (Floating 138) ∷  -- 138 l2d
    plain (Floating 139) ∷  -- 139 f2i
    plain (Floating 140) ∷  -- 140 f2l
    plain (Floating 141) ∷  -- 141 f2d
    plain (Floating 142) ∷  -- 142 d2i
    plain (Floating 143) ∷  -- 143 d2l
    plain (Floating 144) ∷  -- 144 d2f
    simple (IntNarrow narrows.Byte) ∷  -- 145 i2b
    simple (IntNarrow narrows.Char) ∷  -- 146 i2c
    simple (IntNarrow narrows.Short) ∷  -- 147 i2s
    []

-- opcodes 148 to 166
abbrev pub comparisons : List Format
comparisons =
    simple LongCompare ∷  -- 148 lcmp
    plain (Floating 149) ∷  -- 149 fcmpl
    plain (Floating 150) ∷  -- 150 fcmpg
    plain (Floating 151) ∷  -- 151 dcmpl
    plain (Floating 152) ∷  -- 152 dcmpg
    branch (IfZero orders.Equal) ∷  -- 153 ifeq
    branch (IfZero orders.Unequal) ∷  -- 154 ifne
    branch (IfZero orders.Less) ∷  -- 155 iflt
    branch (IfZero orders.GreaterOrEqual) ∷  -- 156 ifge
    branch (IfZero orders.Greater) ∷  -- 157 ifgt
    branch (IfZero orders.LessOrEqual) ∷  -- 158 ifle
    branch (IfInts orders.Equal) ∷  -- 159 if_icmpeq
    branch (IfInts orders.Unequal) ∷  -- 160 if_icmpne
    branch (IfInts orders.Less) ∷  -- 161 if_icmplt
    branch (IfInts orders.GreaterOrEqual) ∷  -- 162 if_icmpge
    branch (IfInts orders.Greater) ∷  -- 163 if_icmpgt
    branch (IfInts orders.LessOrEqual) ∷  -- 164 if_icmple
    branch (IfReferences samenesses.Same) ∷  -- 165 if_acmpeq
    branch (IfReferences samenesses.Different) ∷  -- 166 if_acmpne
    []

-- opcodes 167 to 177
abbrev pub control : List Format
control =
    branch Goto ∷  -- 167 goto
    branch Jsr ∷  -- 168 jsr
    local Ret ∷  -- 169 ret
    table ∷  -- 170 tableswitch
    lookup ∷  -- 171 lookupswitch
    simple (ReturnValue kinds.Int) ∷  -- 172 ireturn
    simple (ReturnValue kinds.Long) ∷  -- 173 lreturn
    plain (Floating 174) ∷  -- 174 freturn
    plain (Floating 175) ∷  -- 175 dreturn
    simple (ReturnValue kinds.Reference) ∷  -- 176 areturn
    simple Return ∷  -- 177 return
    []

-- opcodes 178 to 195
abbrev pub references : List Format
references =
    index GetStatic ∷  -- 178 getstatic
    index PutStatic ∷  -- 179 putstatic
    index GetField ∷  -- 180 getfield
    index PutField ∷  -- 181 putfield
    index InvokeVirtual ∷  -- 182 invokevirtual
    index InvokeSpecial ∷  -- 183 invokespecial
    index InvokeStatic ∷  -- 184 invokestatic
    interface ∷  -- 185 invokeinterface
    dynamic ∷  -- 186 invokedynamic
    index New ∷  -- 187 new
    primitive ∷  -- 188 newarray
    index ANewArray ∷  -- 189 anewarray
    simple ArrayLength ∷  -- 190 arraylength
    simple Throw ∷  -- 191 athrow
    index CheckCast ∷  -- 192 checkcast
    index InstanceOf ∷  -- 193 instanceof
    simple MonitorEnter ∷  -- 194 monitorenter
    simple MonitorExit ∷  -- 195 monitorexit
    []

-- opcodes 196 to 201
abbrev pub extended : List Format
extended =
    wide ∷  -- 196 wide
    dimensions ∷  -- 197 multianewarray
    branch (IfNull samenesses.Same) ∷  -- 198 ifnull
    branch (IfNull samenesses.Different) ∷  -- 199 ifnonnull
    far_branch Goto ∷  -- 200 goto_w
    far_branch Jsr ∷  -- 201 jsr_w
    []

abbrev pub formats : List Format
formats =
    constants ++ loads ++ stores ++ stack ++ math ++ conversions ++ comparisons ++ control ++ references ++ extended

-- the operands of the opcode
unfoldable pub format : ℕ → Format
format opcode = get_or formats opcode undefined
