-- A code is a list of instructions, one after the other (JVMS 4.9), each with its pc.
use Rattle.std.specs.Prelude.{◌≡◌, ℕ, ◌+◌, ◌<◌, List, [], ◌∷◌, ◌++◌, length, Err}
use Rattle.byte_reader.specs.declared.fault.Fault.{Fault}
use Rattle.byte_reader.specs.declared.fault.Stop.{Stop}
use Rattle.byte_reader.specs.declared.fault.Stop.TheVariants as stops
use Rattle.opcodes.specs.declared.error.CodeWhy.{CodeWhy}
use Rattle.opcodes.specs.declared.error.CodeError.{CodeError}
use Rattle.opcodes.specs.declared.error.CodeError.TheVariants.{Bad, NoMemory}
use Rattle.opcodes.specs.declared.op.Op.{Op}
use Rattle.opcodes.specs.declared.op.Instr.{Instr}
use Rattle.opcodes.specs.Encoding.{IsEncoded}
use Rattle.opcodes.specs.Operands.{op_at}

-- the code from pc on begins with the instruction, and after it is the rest
pub record BeginsWith (pc : ℕ) (code : List ℕ) (i : Instr) (rest : List ℕ) : Type 0 where
  pub bytes : List ℕ
  pub parts : code ≡ bytes ++ rest
  pub encoding : IsEncoded pc i.op bytes
  pub here : i.pc ≡ pc
  pub next : i.next ≡ pc + length bytes

-- the code from pc on begins with these instructions, one after the other, and after them is the rest
abbrev pub BeginsWithAll : ℕ → List ℕ → List Instr → List ℕ → Type 0
BeginsWithAll pc code [] rest = code ≡ rest
BeginsWithAll pc code (i ∷ is) rest =
    (behind : List ℕ) × BeginsWith pc code i behind × BeginsWithAll i.next behind is rest

-- the code is these instructions and nothing else
abbrev pub IsCode : List ℕ → List Instr → Type 0
IsCode code is = BeginsWithAll 0 code is []

-- the code from pc on begins with no instruction
abbrev pub BeginsWithNone : ℕ → List ℕ → Type 0
BeginsWithNone pc code =
    (op : Op) (bytes rest : List ℕ) → code ≡ bytes ++ rest → IsEncoded pc op bytes → ⊥

-- before pc are whole instructions, at pc is none, and that is why
pub record IsFirstBad (code : List ℕ) (pc : ℕ) (why : CodeWhy) : Type 0 where
  pub front : List Instr
  pub rest : List ℕ
  pub before : BeginsWithAll 0 code front rest
  pub at : pc + length rest ≡ length code
  pub some : 0 < length rest
  pub none : BeginsWithNone pc rest
  pub fault : Fault CodeWhy
  pub first : op_at pc rest ≡ Err fault
  pub reason : fault.why ≡ why

-- the error where an instruction at pc was not read
abbrev pub error_at : ℕ → Stop CodeWhy → CodeError
error_at pc (stops.Fault fault) = Bad pc fault.why
error_at pc stops.NoMemory = NoMemory
