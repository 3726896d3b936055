-- A code that grows line by line, before its labels have places.
use Rattle.std.specs.Prelude.{◌≡◌, ℕ, ◌+◌, List, [], ◌∷◌, ◌++◌, Option, Some, None, Result, Ok, Err}
use Rattle.items.specs.Options.{◌>>=◌}
use Rattle.class_model.specs.declared.constant.Const.{Const}
use Rattle.asm_text.specs.declared.error.LineError.{LineError}
use Rattle.asm_text.specs.declared.error.LineError.TheVariants as line_errors
use Rattle.asm_text.specs.declared.instruction.Operands.{Operands}
use Rattle.asm_pool.specs.declared.pool.Pool.{Pool}
use Rattle.asm_pool.specs.Places.{IsPool}
use Rattle.asm_code.specs.declared.instruction.Mentioned.{Mentioned}
use Rattle.asm_code.specs.Sizes.{size_of, fitting}
use Rattle.asm_body.specs.declared.placed.Placed.{Placed}
use Rattle.asm_body.specs.declared.growing.Instructions.{Instructions}
use Rattle.asm_body.specs.Mentions.{mention_of}

-- the instructions and the constants of a pool
abbrev pub Grown : Type 0
Grown = Option (Instructions × List Const)

-- the call grew the two so, unless memory ran out
abbrev pub Grows : Result (Unit {0}) LineError → Instructions → Pool → Grown → Type 0
Grows (Ok done) new pool grown = (grown ≡ Some (new, pool.entries)) × IsPool pool
Grows (Err line_errors.Bad) new pool grown = grown ≡ None
Grows (Err line_errors.NoMemory) new pool grown = Unit {0}

-- how long the code is with the next instruction: at most 65,535 bytes
abbrev pub next_size : ℕ → ℕ → Operands → Option ℕ
next_size size opcode ops = do
  more ← fitting (size_of size opcode ops)
  fitting (size + more)

-- one more instruction, which stands where the code ended
abbrev pub with_placed : Instructions → ℕ → ℕ → ℕ → Mentioned → Operands → Instructions
with_placed is size line opcode m ops =
    let placed : Placed = record { line = line; pc = is.size; opcode = opcode; mentioned = m; operands = ops } in
    record { size = size; placed = is.placed ++ placed ∷ [] }

abbrev pub grown : Instructions → ℕ → ℕ → Operands → List Const → Grown
grown is line opcode ops pool = do
  size ← next_size is.size opcode ops
  named ← mention_of opcode ops pool
  Some (with_placed is size line opcode named.0 ops, named.1)
