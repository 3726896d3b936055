use Rattle.std.proofs.Common.{◌≡◌, ℕ, ◌≤◌, List, [], length, drop, arith}
use Rattle.std.proofs.lemmas.List.{nil_from_length, length-drop}
use Rattle.opcodes.specs.declared.op.Instr.{Instr}
use Rattle.opcodes.proofs.IndexLaws.{ends}
use Rattle.opcodes.proofs.pc_table.index_by_pc.Goals as goal

none_left : (instrs : List Instr) (index : ℕ) → length instrs ≤ index → drop index instrs ≡ []
none_left instrs index past = nil_from_length (drop index instrs) (omega (arith, length-drop index instrs))

pub returns : goal.returns
returns c = ends c.args.code.now c.args.instrs.now c.loop-index.indexes.items c.loop-index.index (omega (arith, c.requires.size)) c.requires.is_code c.loop-index.invariant (none_left c.args.instrs.now c.loop-index.index c.loop-index-test.false)
