-- What the frames of exception handlers want of local variables, slot by slot.
use Rattle.std.specs.Prelude.{◌≡◌, ◌⊎◌, ℕ, Bool, true, not, List, [], ◌∷◌, Some, slice_get, ◌||◌}
use Rattle.std.specs.List.{All, list_all}
use Rattle.std.specs.Option.{option_map_or}
use Rattle.class_model.specs.declared.attribute.Row.{Row}
use Rattle.stack_maps.specs.declared.types.VType.{VType}
use Rattle.type_paths.specs.Paths.{Path, count_on, path}
use Rattle.link_model.specs.World.{World}
use Rattle.verify_types.specs.Assignability.{assignable}
use Rattle.verify_types.specs.Environment.{MapFrame}
use Rattle.verify_types.specs.TypeStates.{TypeState}
use Rattle.verify_frames.specs.declared.pc_sets.Span.{Span}
use Rattle.verify_frames.specs.declared.pc_sets.PcSet.{PcSet}
use Rattle.verify_frames.specs.declared.wanted.Want.{Want}
use Rattle.verify_frames.specs.declared.wanted.Slot.{Slot}
use Rattle.verify_frames.specs.declared.wanted.Wanted.{Wanted}
use Rattle.verify_frames.specs.declared.frame_paths.Entry.{Entry}
use Rattle.verify_frames.specs.Entries.{entry_at}
use Rattle.verify_frames.specs.Frames.{frame_at}
use Rattle.verify_frames.specs.Overwrites.{type_at}
use Rattle.verify_frames.specs.PcSets.{Covers, meet, meets, row_span}

-- the set of a number; no pcs where there is none
abbrev pub set_at : List PcSet → ℕ → List Span
set_at sets n = option_map_or (λ (s : PcSet). s.spans.items) (slice_get sets n) []

-- the pcs of a node, by the number of its set
abbrev pub pcs_of : List PcSet → List ℕ → ℕ → List Span
pcs_of sets nodes n = option_map_or (set_at sets) (slice_get nodes n) []

abbrev pub wants_at : Wanted → ℕ → List Want
wants_at wanted slot = option_map_or (λ (s : Slot). s.wants.items) (slice_get wanted.slots.items slot) []

-- whether what is wanted takes a type, or asks nothing at these pcs
abbrev pub does_take : World → List PcSet → ℕ → ℕ → VType → Want → Bool
does_take w sets from until t x = assignable w t x.item || not (meet (set_at sets x.pcs) from until)

-- whether all that is wanted of a slot at these pcs takes a type
abbrev pub accepts : World → Wanted → ℕ → ℕ → ℕ → VType → Bool
accepts w wanted from until slot t = list_all (does_take w wanted.sets.items from until t) (wants_at wanted slot)

-- what these take at some of the pcs, is assignable to this type
pub record Serves (sets : List PcSet) (wants : List Want) (item : VType) (pcs : List Span) : Type 0 where
  pub fits : (w : World) (from until : ℕ) (t : VType) → meet pcs from until ≡ true → list_all (does_take w sets from until t) wants ≡ true → assignable w t item ≡ true

-- the last type of the path of a node is wanted at its pcs, and those of the node below are no fewer
pub record IsWantedOn (paths : List Path) (nodes : List ℕ) (wanted : Wanted) (n : ℕ) : Type 0 where
  pub below : ℕ
  pub item : VType
  pub slot : ℕ
  pub is : path paths n ≡ Some item ∷ path paths below
  pub count : Some slot ≡ count_on (path paths below)
  pub within : Covers (pcs_of wanted.sets.items nodes below) (pcs_of wanted.sets.items nodes n)
  pub serves : Serves wanted.sets.items (wants_at wanted slot) item (pcs_of wanted.sets.items nodes n)

-- so it is, where a node has pcs and a type
pub record IsWantedAt (paths : List Path) (nodes : List ℕ) (wanted : Wanted) (n : ℕ) : Type 0 where
  pub each : (from until : ℕ) → meet (pcs_of wanted.sets.items nodes n) from until ≡ true → (path paths n ≡ []) ⊎ IsWantedOn paths nodes wanted n

pub record AreWanted (paths : List Path) (nodes : List ℕ) (wanted : Wanted) : Type 0 where
  pub each : (n : ℕ) → IsWantedAt paths nodes wanted n

-- what is accepted at pcs of a row fits the local variable of its handler's frame
pub record IsAsked (fs : List MapFrame) (wanted : Wanted) (r : Row) : Type 0 where
  pub fits : (f : MapFrame) (g : TypeState) → frame_at r.handler fs ≡ Some f → f.state ≡ Some g → (w : World) (from until slot : ℕ) (t : VType) → meets (row_span r) from until ≡ true → accepts w wanted from until slot t ≡ true
      → assignable w t (type_at g.types.locals slot) ≡ true

-- the node of the frame of a row's handler has the pcs of the row
pub record HasPcs (sets : List PcSet) (nodes : List ℕ) (es : List Entry) (r : Row) : Type 0 where
  pub within : (e : Entry) → entry_at r.handler es ≡ Some e → Covers (pcs_of sets nodes e.locals) (row_span r ∷ [])

-- What is wanted was gathered along the paths of the frames: each node has a set of pcs, those of the rows among them, and what it has is wanted at them.
pub record IsGathered (paths : List Path) (es : List Entry) (rows : List Row) (wanted : Wanted) : Type 0 where
  pub nodes : List ℕ
  pub pcs : All (HasPcs wanted.sets.items nodes es) rows
  pub all : AreWanted paths nodes wanted
