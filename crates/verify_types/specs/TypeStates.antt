-- What is known before and after an instruction (JVMS 4.10.1.4): the types of a frame, slot by slot, and whether the constructor
-- that runs has still to call another one.
use Rattle.std.specs.Prelude.{ℕ, ◌-◌, Bool, true, false, not, List, ◌++◌, length, map, replicate, ◌==◌, ◌&&◌, ◌||◌, if◌then◌else◌}
use Rattle.std.specs.Cmp.Lexicographic.{pointwise}
use Rattle.stack_maps.specs.declared.types.VType.{VType}
use Rattle.stack_maps.specs.declared.types.VType.TheVariants as types
use Rattle.instruction_rows.specs.Contents.{Contents}
use Rattle.link_model.specs.World.{World}
use Rattle.verify_types.specs.Assignability.{assignable}

pub record TypeState : Type 0 where
  pub types : Contents VType
  -- the flag flagThisUninit of JVMS 4.10.1.4
  pub this_uninit : Bool

-- the same with another operand stack
abbrev pub with_stack : TypeState → List VType → TypeState
with_stack s stack = record s { types = record s.types { stack = stack } }

abbrev pub with_types : TypeState → Contents VType → TypeState
with_types s types = record s { types = types }

-- ---- one state for another

-- one by one, and as many
abbrev pub all_assignable : World → List VType → List VType → Bool
all_assignable w ts us = pointwise (assignable w) ts us

-- One state fits another, as that of a frame of the map (JVMS 4.10.1.4: frameIsAssignable). With the flag it fits only a state
-- with the flag.
abbrev pub fits : World → TypeState → TypeState → Bool
fits w a b =
    all_assignable w a.types.locals b.types.locals && all_assignable w a.types.stack b.types.stack
    && (not a.this_uninit || b.this_uninit)

-- ---- uninitialized objects

abbrev pub is_this : VType → Bool
is_this types.UninitThis = true
is_this t = false

-- that of the `new` at a pc
abbrev pub is_new : ℕ → VType → Bool
is_new pc (types.Uninit new) = new == pc
is_new pc t = false

-- the list with this type in place of each that passes the test
abbrev pub replaced : (VType → Bool) → VType → List VType → List VType
replaced test t ts = map (λ x. if test x then t else x) ts

-- ---- unset local variables

-- the local variables, and after them those that are unset, up to this many
abbrev pub padded : ℕ → List VType → List VType
padded n ts = ts ++ replicate (n - length ts) types.Top
