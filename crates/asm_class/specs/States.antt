-- What the lines so far have made.
use Rattle.std.specs.Prelude.{◌≡◌, ℕ, List, Option, Some, None, Result, Ok, Err}
use Rattle.class_model.specs.declared.constant.Const.{Const}
use Rattle.asm_text.specs.declared.error.LineError.{LineError}
use Rattle.asm_text.specs.declared.error.LineError.TheVariants as line_errors
use Rattle.asm_pool.specs.Places.{IsPool}
use Rattle.asm_code.specs.Encoding.{Targets}
use Rattle.asm_code.specs.Places.{place_of}
use Rattle.asm_body.specs.declared.error.BodyError.{BodyError}
use Rattle.asm_body.specs.declared.error.BodyError.TheVariants as errors
use Rattle.asm_class.specs.declared.assembly.Stage.{Stage}
use Rattle.asm_class.specs.declared.assembly.ClassParts.{ClassParts}
use Rattle.asm_class.specs.declared.assembly.MethodParts.{MethodParts}
use Rattle.asm_class.specs.declared.assembly.BodyParts.{BodyParts}
use Rattle.asm_class.specs.declared.assembly.Assembly.{Assembly}

-- the method and its body are those of the last `method` line
pub record State : Type 0 where
  pub stage : Stage
  pub pool : List Const
  pub class : ClassParts
  pub method : MethodParts
  pub body : BodyParts
  pub targets : Targets

abbrev pub state_of : Assembly → State
state_of a = record {
  stage = a.stage;
  pool = a.pool.entries;
  class = a.class;
  method = a.method;
  body = a.body;
  targets = place_of a.labels;
}

-- the call led to this state, unless memory ran out
abbrev pub Steps : Result (Unit {0}) LineError → Assembly → Option State → Type 0
Steps (Ok done) new made = (made ≡ Some (state_of new)) × IsPool new.pool
Steps (Err line_errors.Bad) new made = made ≡ None
Steps (Err line_errors.NoMemory) new made = Unit {0}

-- the call led to this state, or named the bad line, unless memory ran out
abbrev pub StepsOrNames : Result (Unit {0}) BodyError → Assembly → Result State ℕ → Type 0
StepsOrNames (Ok done) new made = (made ≡ Ok (state_of new)) × IsPool new.pool
StepsOrNames (Err (errors.Bad line)) new made = made ≡ Err line
StepsOrNames (Err errors.NoMemory) new made = Unit {0}
