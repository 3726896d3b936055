-- What the lines so far have made, such as a class file may come of it.
use Rattle.std.specs.Prelude.{◌≡◌, ℕ, ◌+◌, ◌<◌, ◌≤◌, ◌⊎◌, Bool, true, false, not, List, [], ◌∷◌, codes, Some, bit_and}
use Rattle.std.specs.List.{AllByRecursion}
use Rattle.class_model.specs.declared.access_flags.TheConstants.{ACC_MODULE}
use Rattle.class_model.specs.declared.constant.Const.{Const}
use Rattle.class_grammar.specs.Text.{same_text}
use Rattle.class_grammar.specs.Names.{object_class, is_method_name}
use Rattle.class_grammar.specs.Pool.{text_at, class_name_at}
use Rattle.class_grammar.specs.Ranges.{IsU2}
use Rattle.class_grammar.specs.Checks.{has_no_code}
use Rattle.descriptors.specs.States.{is_method}
use Rattle.asm_text.specs.LineText.{IsOperands}
use Rattle.asm_code.specs.Sizes.{size_of}
use Rattle.asm_body.specs.declared.placed.Placed.{Placed}
use Rattle.asm_body.specs.declared.placed.PlacedRow.{PlacedRow}
use Rattle.asm_class.specs.declared.assembly.Stage.{Stage}
use Rattle.asm_class.specs.declared.assembly.Stage.TheVariants as stages
use Rattle.asm_class.specs.declared.assembly.MethodParts.{MethodParts}
use Rattle.asm_class.specs.declared.assembly.BodyParts.{BodyParts}
use Rattle.asm_class.specs.States.{State}
use Rattle.asm_class.specs.ClassLines.{has_room}
use Rattle.asm_soundness.specs.Pools.{IsClassAt, IsSoundPool}
use Rattle.asm_soundness.specs.SoundStates.{IsPassed, IsSoundClass, IsSoundField, IsSoundMethod, IsCaughtAt, AreFew}

-- the line of a method, which has code or has none
pub record IsHead (pool : List Const) (m : MethodParts) (code : Bool) : Type 0 where
  pub flags : IsU2 m.flags
  pub name : IsPassed is_method_name pool m.name
  pub descriptor : IsPassed is_method pool m.descriptor
  pub none : has_no_code m.flags ≡ not code
  pub named : code ≡ true → text_at pool m.code ≡ Some (codes "Code")

pub record IsSoundPlaced (p : Placed) : Type 0 where
  pub opcode : p.opcode < 256
  pub slots : p.mentioned.slots < 256
  pub operands : IsOperands p.operands

-- the instructions stand one behind the other, from this pc to the end
abbrev pub Spans : ℕ → List Placed → ℕ → Type 0
Spans pc [] end = pc ≡ end
Spans pc (p ∷ ps) end = (p.pc ≡ pc) × Spans (pc + size_of pc p.opcode p.operands) ps end

pub record IsSoundBody (pool : List Const) (body : BodyParts) : Type 0 where
  pub max_stack : IsU2 body.max_stack
  pub max_locals : IsU2 body.max_locals
  pub spans : Spans 0 body.instructions.placed body.instructions.size
  pub small : body.instructions.size ≤ 65535
  pub placed : AllByRecursion IsSoundPlaced body.instructions.placed
  pub map_name : (body.frames ≡ []) ⊎ (text_at pool body.map_name ≡ Some (codes "StackMapTable"))
  pub rows : AreFew (λ (r : PlacedRow). IsCaughtAt pool r.catch_type) body.rows

-- a class that isn't java/lang/Object
pub record IsOther (pool : List Const) (own : ℕ) : Type 0 where
  pub name : List ℕ
  pub is : class_name_at pool own ≡ Some name
  pub other : same_text name object_class ≡ false

abbrev pub IsOpen : State → Bool → Type 0
IsOpen s code =
    IsSoundClass s.pool s.class.own s.class.parent × IsHead s.pool s.method code × (has_room s.class.methods ≡ true)

abbrev pub IsAt : Stage → State → Type 0
IsAt stages.Class s = s.class.parent ≡ 0
IsAt stages.Super s = IsOther s.pool s.class.own
IsAt stages.Interfaces s = IsSoundClass s.pool s.class.own s.class.parent
IsAt stages.Fields s = IsSoundClass s.pool s.class.own s.class.parent
IsAt stages.Methods s = IsSoundClass s.pool s.class.own s.class.parent
IsAt stages.NoCode s = IsOpen s false
IsAt stages.Stack s = IsOpen s true
IsAt stages.Code s = IsOpen s true × IsSoundBody s.pool s.body
IsAt stages.Rows s = IsOpen s true × IsSoundBody s.pool s.body

pub record IsSoundState (s : State) : Type 0 where
  pub pool : IsSoundPool s.pool
  pub flags : IsU2 s.class.flags
  pub no_module : bit_and s.class.flags ACC_MODULE ≡ 0
  pub interfaces : AreFew (IsClassAt s.pool) s.class.interfaces
  pub fields : AreFew (IsSoundField s.pool) s.class.fields
  pub methods : AreFew (IsSoundMethod s.pool) s.class.methods
  pub at : IsAt s.stage s
