-- What shows whether an instruction changes local variables.
use Rattle.std.specs.Prelude.{◌≡◌, ℕ, true, List, []}
use Rattle.opcodes.specs.declared.op.ValueKind.{ValueKind}
use Rattle.opcodes.specs.declared.op.Op.{Op}
use Rattle.opcodes.specs.declared.op.Op.TheVariants as ops
use Rattle.stack_maps.specs.declared.types.VType.{VType}
use Rattle.verify_instructions.specs.Unfinished.{AreListed}
use Rattle.verify_frames.specs.declared.watch.Watch.{Watch}
use Rattle.verify_frames.specs.declared.watch.Watch.TheVariants as watches
use Rattle.verify_frames.specs.Overwrites.{AllWere, around, finishes, keeps_locals, noting_all}
use Rattle.verify_frames.specs.declared.overwritten.Overwritten.{Overwritten}

-- an instruction changes only the operand stack, or initializes no object of a local variable
pub data Keeps (op : Op) (locals : List VType) : Type 0 where
  stack_alone : keeps_locals op ≡ true → Keeps op locals
  no_object : finishes op ≡ true → AreListed [] locals → Keeps op locals

-- an instruction stores to this local variable
pub record Stores (op : Op) (n : ℕ) : Type 0 where
  pub kind : ValueKind
  pub is : op ≡ ops.Store kind n

-- these are all local variables of uninitialized objects
pub record AreObjects (locals : List VType) (os : List Overwritten) : Type 0 where
  pub slots : List ℕ
  pub listed : AreListed slots locals
  pub noted : os ≡ noting_all locals slots []

-- this is known of an instruction that creates or initializes an object, and of the local variables before it
abbrev pub WatchesObjects : List VType → Watch → Type 0
WatchesObjects locals watches.Kept = AreListed [] locals
WatchesObjects locals (watches.Store n was) = ⊥
WatchesObjects locals (watches.Objects os) = AreObjects locals os.items
WatchesObjects locals watches.Changed = Unit {0}

-- this is known of an instruction and of the local variables before it
abbrev pub Watches : Op → List VType → Watch → Type 0
Watches op locals watches.Kept = Keeps op locals
Watches op locals (watches.Store n was) = Stores op n × (was ≡ around locals n)
Watches op locals (watches.Objects os) = (finishes op ≡ true) × AreObjects locals os.items
Watches op locals watches.Changed = Unit {0}

-- these are the local variables from before the instruction
abbrev pub ShowsKept : Watch → List VType → Type 0
ShowsKept watches.Kept locals = Unit {0}
ShowsKept (watches.Store n was) locals = around locals n ≡ was
ShowsKept (watches.Objects os) locals = AllWere locals os.items
ShowsKept watches.Changed locals = ⊥
