-- What the threads of a program share (JVMS 2.5.3, 2.5.4), with what the program wrote and the status with which it ends. Instructions on
-- objects and native methods are functions of it, so they touch no thread.
use Rattle.std.specs.Prelude.{ℕ, ℤ, List, Option}
use Rattle.instruction_rows.specs.declared.value.Value.{Value}
use Rattle.state_model.specs.Objects.{Object}

pub record Memory : Type 0 where
  -- the objects by number, in the order in which they were made
  pub heap : List Object
  -- the cells that objects may still take
  pub room : ℕ
  -- the values of the static fields, in the order of all fields
  pub statics : List Value
  -- what the program wrote to its two streams
  pub out : List ℕ
  pub err : List ℕ
  -- the status with which the program called System.exit
  pub exited : Option ℤ
