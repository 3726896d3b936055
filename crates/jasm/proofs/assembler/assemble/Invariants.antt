use Rattle.std.proofs.Common.{ℕ, length, Result}
use Rattle.class_model.specs.declared.class_file.ClassFile.{ClassFile}
use Rattle.asm_pool.specs.Places.{IsPool}
use Rattle.asm_class.specs.States.{state_of}
use Rattle.jasm.specs.Texts.{Makes, Assembles}
use Rattle.jasm.proofs.assembler.assemble.Given as goal

-- what the rest makes of the state is what the text makes
abbrev pub invariant-loop-rest : goal.invariant-loop-rest
invariant-loop-rest l = record {
  pool : IsPool l.assembly.pool;
  makes : (made : Result ClassFile ℕ) → Makes (state_of l.assembly) l.line l.rest made → Assembles l.text made;
}

abbrev pub decreases-loop-rest : goal.decreases-loop-rest
decreases-loop-rest l = length l.rest
