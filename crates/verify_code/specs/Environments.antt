-- What an environment has beside the tables of its method.
use Rattle.std.specs.Prelude.{◌≡◌, ℕ, ◌<◌, ◌^◌, Bool, true, IfSome, List, Option, [], ◌∷◌, map}
use Rattle.std.specs.List.{All}
use Rattle.std.specs.List.Sorted.{IsNonDecreasingBy}
use Rattle.verify_types.specs.Environment.{MapFrame, Instruction, Environment}
use Rattle.verify_code.specs.declared.guards.Guard.{Guard}
use Rattle.verify_frames.specs.declared.wanted.Wanted.{Wanted}
use Rattle.verify_frames.specs.Wanted.{IsAsked}
use Rattle.verify_code.specs.Accepted.{row_in}
use Rattle.verify_code.specs.Guards.{guard_in, start_of}
use Rattle.verify_code.specs.Merged.{AskSame}

-- the instructions follow one another, the first at this pc, in fewer than 65,536 bytes (JVMS 4.7.3)
abbrev pub AreInOrder : ℕ → List Instruction → Type 0
AreInOrder pc [] = Unit {0}
AreInOrder pc (i ∷ is) = (i.instr.pc ≡ pc) × (pc < i.instr.next) × (i.instr.next < 2 ^ 16) × AreInOrder i.instr.next is

-- the stack map has these frames, the instructions are in order, these rows are satisfied where those of the exception table are, and
-- their handlers take what this accepts; they lie in the order of their starts, if this says so
pub record HasFrames (env : Environment) (frames : List MapFrame) (guards : List Guard) (are_sorted : Bool) (wanted : Option Wanted) : Type 0 where
  pub mapped : env.is_mapped ≡ true
  pub are : frames ≡ env.map
  pub in_order : AreInOrder 0 env.instructions
  pub guarded : AskSame env (map guard_in guards) env.handlers
  pub sorted : are_sorted ≡ true → IsNonDecreasingBy start_of guards
  pub asked : IfSome wanted (λ (x : Wanted). All (IsAsked env.map x) (map row_in guards))
