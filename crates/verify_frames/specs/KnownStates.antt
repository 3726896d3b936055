-- States with the local variables of a frame of the map.
use Rattle.std.specs.Prelude.{◌≡◌, ℕ, ◌+◌, ◌-◌, ◌<◌, ◌≤◌, length, Bool, true, false, IfSome, List, Option, Some, None, reverse, nat_le, nat_lt, ◌&&◌, ◌||◌, not, if◌then◌else◌}
use Rattle.std.specs.List.{All}
use Rattle.std.specs.Option.{option_map, option_map_or}
use Rattle.instruction_rows.specs.Contents.{slot_types}
use Rattle.type_paths.specs.Paths.{path, types_on}
use Rattle.verify_types.specs.TypeStates.{TypeState, all_assignable, with_stack}
use Rattle.verify_types.specs.Environment.{MapFrame, Environment, map_at}
use Rattle.verify_types.specs.Handlers.{are_satisfied}
use Rattle.verify_instructions.specs.Views.{state_in}
use Rattle.verify_instructions.specs.declared.state.State.{State}
use Rattle.verify_frames.specs.declared.frame.Frame.{Frame}
use Rattle.verify_frames.specs.declared.known_state.StateAfter.{StateAfter}
use Rattle.verify_frames.specs.declared.known_state.Judged.{Judged}
use Rattle.verify_frames.specs.declared.known_state.Stored.{Stored}
use Rattle.verify_frames.specs.declared.known_state.Written.{Written}
use Rattle.verify_frames.specs.declared.known_state.Written.TheVariants as writes
use Rattle.verify_frames.specs.declared.known_state.Fitted.{Fitted}
use Rattle.verify_frames.specs.declared.known_state.KnownState.{KnownState}
use Rattle.verify_frames.specs.declared.overwritten.Like.{Like}
use Rattle.verify_frames.specs.declared.overwritten.Overwritten.{Overwritten}
use Rattle.verify_instructions.specs.Unfinished.{is_listed}
use Rattle.verify_types.specs.Assignability.{assignable}
use Rattle.verify_frames.specs.Frames.{frame_at, frame_in}
use Rattle.verify_frames.specs.declared.watch.Watch.{Watch}
use Rattle.verify_frames.specs.declared.watch.Watch.TheVariants as watches
use Rattle.verify_frames.specs.Overwrites.{AreBut, is_noted, type_at}
use Rattle.verify_frames.specs.Watches.{ShowsKept}

abbrev pub type_state : KnownState → TypeState
type_state s = state_in s.state

-- the frame of the map at this pc has a state with the same flag, and with the local variables from before these were overwritten
pub record IsLike (env : Environment) (pc : ℕ) (os : List Overwritten) (s : TypeState) : Type 0 where
  pub frame : MapFrame
  pub state : TypeState
  pub at : map_at env pc ≡ Some frame
  pub is : frame.state ≡ Some state
  pub but : AreBut os state.types.locals s.types.locals
  pub flag : state.this_uninit ≡ s.this_uninit

-- so has this frame, if there is one
abbrev pub MayBeLike : Environment → Option Like → TypeState → Type 0
MayBeLike env like s = (l : Like) → like ≡ Some l → IsLike env l.pc l.overwritten.items s

-- the handlers are satisfied at this pc, and up to the next at which a row of the exception table starts
pub record IsJudged (env : Environment) (s : TypeState) (j : Judged) : Type 0 where
  pub at : are_satisfied env j.at s ≡ true
  pub on : (pc : ℕ) → j.at ≤ pc → pc < j.until → are_satisfied env pc s ≡ true

-- these may not change this local variable
abbrev pub Spares : Written → ℕ → Type 0
Spares (writes.Store n) i = (i ≡ n - 1 → ⊥) × (i ≡ n → ⊥) × (i ≡ n + 1 → ⊥)
Spares (writes.Objects os) i = is_noted os.items i ≡ false

-- the state before these local variables were written, which had the same flag, satisfied the handlers
pub record IsStored (env : Environment) (s : TypeState) (st : Stored) : Type 0 where
  pub before : TypeState
  pub judged : IsJudged env before st.judged
  pub as_many : length before.types.locals ≡ length s.types.locals
  pub others : (i : ℕ) → Spares st.written i → type_at before.types.locals i ≡ type_at s.types.locals i
  pub flag : before.this_uninit ≡ s.this_uninit

-- the local variables that an instruction may have changed, if it is known
abbrev pub written_by : Watch → Option Written
written_by (watches.Store n was) = Some (writes.Store n)
written_by (watches.Objects os) = Some (writes.Objects os)
written_by watch = None

-- what an instruction may have changed, where handlers were satisfied before it
abbrev pub stored_in : Option Written → Option Judged → Option Stored
stored_in written None = None
stored_in written (Some j) = option_map (λ (x : Written). record { written = x; judged = j }) written

abbrev pub stored_by : Watch → Option Judged → Option Stored
stored_by watch judged = stored_in (written_by watch) judged

-- these slots, with another among them
pub record Lists (slots : List ℕ) (slot : ℕ) (now : List ℕ) : Type 0 where
  pub kept : (i : ℕ) → is_listed now i ≡ false → is_listed slots i ≡ false
  pub other : (i : ℕ) → is_listed now i ≡ false → i ≡ slot → ⊥

-- these slots, and among them all that may be changed
pub record ListsAll (slots : List ℕ) (spares : ℕ → Type 0) (now : List ℕ) : Type 0 where
  pub kept : (i : ℕ) → is_listed now i ≡ false → is_listed slots i ≡ false
  pub others : (i : ℕ) → is_listed now i ≡ false → spares i

-- the local variables and the flag of a state fit those of the frame at this pc
pub record FitsLocals (env : Environment) (s : TypeState) (pc : ℕ) : Type 0 where
  pub frame : MapFrame
  pub state : TypeState
  pub at : map_at env pc ≡ Some frame
  pub is : frame.state ≡ Some state
  pub locals : all_assignable env.world s.types.locals state.types.locals ≡ true
  pub flag : (not s.this_uninit || state.this_uninit) ≡ true

-- so they do, but for local variables with these numbers
pub record FitsBut (env : Environment) (changed : List ℕ) (s : TypeState) (pc : ℕ) : Type 0 where
  pub frame : MapFrame
  pub state : TypeState
  pub at : map_at env pc ≡ Some frame
  pub is : frame.state ≡ Some state
  pub as_many : length s.types.locals ≡ length state.types.locals
  pub kept : (i : ℕ) → is_listed changed i ≡ false → assignable env.world (type_at s.types.locals i) (type_at state.types.locals i) ≡ true
  pub flag : (not s.this_uninit || state.this_uninit) ≡ true

abbrev pub AllFit : Environment → TypeState → Fitted → Type 0
AllFit env s f = All (FitsBut env f.changed.items s) f.pcs.items

-- so they do at these pcs, if there are some
abbrev pub FitAll : Environment → TypeState → Option Fitted → Type 0
FitAll env s fitted = IfSome fitted (AllFit env s)

-- so they do at this pc, if there is one
abbrev pub MayFit : Environment → TypeState → Option ℕ → Type 0
MayFit env s fitted = IfSome fitted (FitsLocals env s)

-- what is known of the state is true
pub record Holds (env : Environment) (s : KnownState) : Type 0 where
  pub like : MayBeLike env s.like (type_state s)
  pub judged : IfSome s.judged (IsJudged env (type_state s))
  pub stored : IfSome s.stored (IsStored env (type_state s))
  pub fitted : FitAll env (type_state s) s.fitted

-- whether the handlers are known to be satisfied at a pc
abbrev pub holds_at : ℕ → Option Judged → Bool
holds_at pc judged = option_map_or (λ (j : Judged). nat_le j.at pc && nat_lt pc j.until) judged false

-- these frames, and the local variables that were written are among those that may be others
pub record AreBehind (wrote : Option Written) (fitted : Option Fitted) (now : Fitted) : Type 0 where
  pub before : Fitted
  pub written : Written
  pub was : fitted ≡ Some before
  pub is : wrote ≡ Some written
  pub pcs : now.pcs.items ≡ before.pcs.items
  pub kept : (i : ℕ) → is_listed now.changed.items i ≡ false → is_listed before.changed.items i ≡ false
  pub others : (i : ℕ) → is_listed now.changed.items i ≡ false → Spares written i

-- what is known of a state after an instruction, where the one before it had this flag and these were known
pub data KnownAfter (this_uninit : Bool) (watch : Watch) (like : Option Like) (judged : Option Judged) (fitted : Option Fitted) (s : State) (after : KnownState) : Type 0 where
  nothing : after ≡ record { state = s; like = None; judged = None; stored = None; fitted = None } → KnownAfter this_uninit watch like judged fitted s after
  changed : (now : Option Fitted) → s.this_uninit ≡ this_uninit → IfSome now (AreBehind (written_by watch) fitted) → after ≡ record { state = s; like = like; judged = None; stored = stored_by watch judged; fitted = now } → KnownAfter this_uninit watch like judged fitted s after
  kept : s.this_uninit ≡ this_uninit → ShowsKept watch s.types.locals → after ≡ record { state = s; like = like; judged = judged; stored = None; fitted = fitted }
      → KnownAfter this_uninit watch like judged fitted s after

abbrev pub AllHold : Environment → Option KnownState → Type 0
AllHold env o = (s : KnownState) → o ≡ Some s → Holds env s

abbrev pub if_going : Option KnownState → Bool → Option KnownState
if_going known goes_on = if goes_on then known else None

-- what goes on, as the definitions see it
abbrev pub going : StateAfter → Option TypeState
going b = option_map type_state (if_going b.known b.goes_on)

-- the state with the operand stack of a frame, where its types are known
abbrev pub over_stack_of : Frame → TypeState → Option TypeState
over_stack_of f s = option_map (λ ss. with_stack s (reverse (slot_types ss))) (types_on (path f.paths.now f.entry.stack))

-- this frame lies at a pc, and has the local variables and the flag of the frame at another, if that is known
pub record IsShared (fs : List MapFrame) (like pc : ℕ) (f : Frame) : Type 0 where
  pub at : frame_at pc fs ≡ Some (frame_in f)
  pub over : (g : MapFrame) (t : TypeState) → frame_at like fs ≡ Some g → g.state ≡ Some t → (frame_in f).state ≡ over_stack_of f t

-- this frame lies at a pc, and has the flag of a state and its local variables from before these were overwritten, which fit
-- themselves
pub record IsOver (env : Environment) (os : List Overwritten) (s : TypeState) (pc : ℕ) (f : Frame) : Type 0 where
  pub before : TypeState
  pub at : map_at env pc ≡ Some (frame_in f)
  pub over : (frame_in f).state ≡ over_stack_of f before
  pub itself : all_assignable env.world before.types.locals before.types.locals ≡ true
  pub but : AreBut os before.types.locals s.types.locals
  pub flag : before.this_uninit ≡ s.this_uninit

-- this frame lies at a pc, a state has its flag or needs none, and this says whether its local variables fit
pub record Compares (env : Environment) (s : TypeState) (pc : ℕ) (f : Frame) (locals_fit : Bool) : Type 0 where
  pub before : TypeState
  pub at : map_at env pc ≡ Some (frame_in f)
  pub over : (frame_in f).state ≡ over_stack_of f before
  pub fit : locals_fit ≡ all_assignable env.world s.types.locals before.types.locals
  pub flag : (not s.this_uninit || before.this_uninit) ≡ true
