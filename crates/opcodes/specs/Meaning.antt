-- What the formats in the table of the code mean.
use Rattle.std.specs.Prelude.{ℕ, ℤ}
use Rattle.opcodes.specs.declared.op.Op.{Op}
use Rattle.opcodes.specs.declared.op.Op.TheVariants as ops
use Rattle.opcodes.specs.declared.formats.LocalFormat.{LocalFormat}
use Rattle.opcodes.specs.declared.formats.LocalFormat.TheVariants as locals
use Rattle.opcodes.specs.declared.formats.IndexFormat.{IndexFormat}
use Rattle.opcodes.specs.declared.formats.IndexFormat.TheVariants as indexes
use Rattle.opcodes.specs.declared.formats.BranchFormat.{BranchFormat}
use Rattle.opcodes.specs.declared.formats.BranchFormat.TheVariants as branches
use Rattle.opcodes.specs.declared.formats.Format.{Format as TableFormat}
use Rattle.opcodes.specs.declared.formats.Format.TheVariants as formats
use Rattle.opcodes.specs.Formats.{Format, undefined, plain, byte, short, constant, index, local, increment, branch, far_branch, table, lookup, interface, dynamic, primitive, dimensions, wide, simple}

abbrev pub local_op : LocalFormat → ℕ → Op
local_op (locals.Load k) n = ops.Load k n
local_op (locals.Store k) n = ops.Store k n
local_op locals.Ret n = ops.Ret n
local_op (locals.Floating opcode) n = ops.Floating opcode

abbrev pub index_op : IndexFormat → ℕ → Op
index_op indexes.PushConstant n = ops.PushConstant n
index_op indexes.PushWideConstant n = ops.PushWideConstant n
index_op indexes.GetStatic n = ops.GetStatic n
index_op indexes.PutStatic n = ops.PutStatic n
index_op indexes.GetField n = ops.GetField n
index_op indexes.PutField n = ops.PutField n
index_op indexes.InvokeVirtual n = ops.InvokeVirtual n
index_op indexes.InvokeSpecial n = ops.InvokeSpecial n
index_op indexes.InvokeStatic n = ops.InvokeStatic n
index_op indexes.New n = ops.New n
index_op indexes.ANewArray n = ops.ANewArray n
index_op indexes.CheckCast n = ops.CheckCast n
index_op indexes.InstanceOf n = ops.InstanceOf n

abbrev pub branch_op : BranchFormat → ℤ → Op
branch_op (branches.IfZero c) target = ops.IfZero c target
branch_op (branches.IfInts c) target = ops.IfInts c target
branch_op (branches.IfReferences s) target = ops.IfReferences s target
branch_op (branches.IfNull s) target = ops.IfNull s target
branch_op branches.Goto target = ops.Goto target
branch_op branches.Jsr target = ops.Jsr target

abbrev pub meaning : TableFormat → Format
meaning formats.Undefined = undefined
meaning (formats.Simple s) = simple s
meaning (formats.PushInt n) = plain (ops.PushInt n)
meaning (formats.PushLong n) = plain (ops.PushLong n)
meaning (formats.LocalAt f n) = plain (local_op f n)
meaning (formats.Floating opcode) = plain (ops.Floating opcode)
meaning formats.Byte = byte
meaning formats.Short = short
meaning formats.Ldc = constant
meaning (formats.Index f) = index (index_op f)
meaning (formats.Local f) = local (local_op f)
meaning formats.Increment = increment
meaning (formats.Branch f) = branch (branch_op f)
meaning (formats.FarBranch f) = far_branch (branch_op f)
meaning formats.TableSwitch = table
meaning formats.LookupSwitch = lookup
meaning formats.InvokeInterface = interface
meaning formats.InvokeDynamic = dynamic
meaning formats.NewArray = primitive
meaning formats.MultiANewArray = dimensions
meaning formats.Wide = wide
