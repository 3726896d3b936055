-- The types of frames as paths.
use Rattle.std.specs.Prelude.{◌≡◌, ℕ, Bool, List, [], ◌∷◌, ◌++◌, Option, Some, reverse, ◌&&◌}
use Rattle.std.specs.List.{list_any}
use Rattle.std.specs.Option.{option_map}
use Rattle.items.specs.Options.{◌>>=◌}
use Rattle.stack_maps.specs.declared.types.VType.{VType}
use Rattle.stack_maps.specs.declared.types.FrameTypes.{FrameTypes}
use Rattle.instruction_rows.specs.Contents.{slot_types}
use Rattle.type_paths.specs.Paths.{Path, IsPath, path, types_on}
use Rattle.link_model.specs.World.{World}
use Rattle.verify_types.specs.ClassTypes.{resolve}
use Rattle.verify_types.specs.Environment.{MapFrame}
use Rattle.verify_types.specs.TypeStates.{TypeState, is_this, padded}
use Rattle.verify_frames.specs.declared.frame_paths.Entry.{Entry}

-- these are the paths of more nodes, after those before
pub record Grows (old new : List Path) : Type 0 where
  pub more : List Path
  pub is : new ≡ old ++ more

-- types put on a path one after the other, each resolved in the code of a class
abbrev pub onto : World → ℕ → Path → List VType → Path
onto w class p [] = p
onto w class p (t ∷ ts) = onto w class (resolve w class t ∷ p) ts

-- the path of these types
abbrev pub path_of : World → ℕ → List VType → Path
path_of w class ts = onto w class [] ts

-- the entry of the frame at a pc with these types
pub record IsEntry (w : World) (class : ℕ) (paths : List Path) (e : Entry) (f : ℕ × FrameTypes) : Type 0 where
  pub pc : e.pc ≡ f.0
  pub locals : IsPath paths e.locals (path_of w class f.1.locals)
  pub stack : IsPath paths e.stack (path_of w class f.1.stack)

-- the state that types mean, of a constructor or not
abbrev pub state_where : Bool → ℕ → FrameTypes → TypeState
state_where constructor max_locals f = record {
  types = record { locals = padded max_locals (slot_types f.locals); stack = reverse (slot_types f.stack) };
  this_uninit = constructor && list_any is_this f.locals;
}

-- the types at a frame, where all are known
abbrev pub frame_types : Path → Path → Option FrameTypes
frame_types locals stack = types_on locals >>= λ ls. types_on stack >>= λ ss. Some (record { locals = ls; stack = ss })

abbrev pub entry_in : List Path → Bool → ℕ → Entry → MapFrame
entry_in paths constructor max_locals e = record {
  pc = e.pc;
  state = option_map (state_where constructor max_locals) (frame_types (path paths e.locals) (path paths e.stack));
}
