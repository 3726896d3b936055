-- A frame that goes on to where the typing leads.
use Rattle.std.proofs.Common.{◌≡◌, ℕ, ◌≤◌, Bool, true, false, List, ◌∷◌, Some, None, length, refl, sym, subst}
use Rattle.std.specs.Prelude.{nat_le, if◌then◌else◌}
use Rattle.std.proofs.lemmas.Bool.{le-leb}
use Rattle.instruction_rows.specs.declared.value.Slot.{Slot}
use Rattle.instruction_rows.specs.Contents.{Contents}
use Rattle.instruction_rows.specs.Soundness.{HasKinds}
use Rattle.instruction_rows.proofs.ListLaws.{same_length}
use Rattle.link_model.specs.World.{World}
use Rattle.verify_types.specs.TypeStates.{TypeState}
use Rattle.verify_types.specs.Typing.{Leads}
use Rattle.state_model.specs.Frames.{Frame}
use Rattle.ref_model.specs.Frames.{gone}
use Rattle.frame_soundness.specs.Typed.{own_locals, IsAt, Stands, AreUnder, Typed}

pub record Arrived (w : World) (f : Frame) (pc : ℕ) (c : Contents Slot) : Type 0 where
  pub frame : Frame
  pub is : gone f pc c ≡ Some frame
  pub method : frame.method ≡ f.method
  pub stands : Stands w frame

if_true : {A : Type 0} (b : Bool) (x y : A) → b ≡ true → (if b then x else y) ≡ x
if_true true x y e = refl
if_true false x y e = absurd cc

-- a state of the method leads to the pc, and the slots have its kinds, but for a monitor
pub arrived : (w : World) (f : Frame) (at : IsAt w f) (s : TypeState) (pc : ℕ) (c : Contents Slot) → Leads at.env s pc
    → HasKinds s.types (record { locals = own_locals w f.method c.locals; stack = c.stack }) → length s.types.stack ≤ at.env.max_stack → Arrived w f pc c
arrived w f at s pc c leads kinds shallow =
    let there : Frame = record f { pc = pc; locals = c.locals; stack = c.stack } in
    let few : length c.stack ≤ f.room = rw (at.room, ← same_length s.types.stack c.stack kinds.stack) shallow in
    record {
      frame = there;
      is = if_true (nat_le (length c.stack) f.room) (Some there) None (le-leb (length c.stack) f.room few);
      method = refl;
      stands = record {
        at = record {
          env = at.env;
          method = at.method;
          place = leads.place;
          there = leads.there;
          state = leads.state;
          has = leads.has;
          room = at.room;
        };
        kinds = leads.keeps (record { locals = own_locals w f.method c.locals; stack = c.stack }) kinds;
      };
    }

-- such a frame on the frames below
pub on_frames : (w : World) (f g : Frame) (below : List Frame) → g.method ≡ f.method → Stands w g → AreUnder w f.method below
    → Typed w (g ∷ below)
on_frames w f g below same stands under = (stands, subst (λ (n : ℕ). AreUnder w n below) (sym same) under)
