-- The state in which a program begins.
use Rattle.std.proofs.Common.{◌≡◌, ℕ, zero, suc, true, false, List, [], ◌∷◌, Option, Some, None, refl, ap, sym, ◌∙◌}
use Rattle.std.specs.Prelude.{slice_get}
use Rattle.std.specs.Option.{option_map_or}
use Rattle.items.specs.First.{Each}
use Rattle.items.specs.Options.{◌>>=◌}
use Rattle.items.proofs.Binds.{some_is}
use Rattle.instruction_rows.specs.declared.value.Value.TheVariants as values
use Rattle.instruction_rows.specs.declared.value.Slot.{Slot}
use Rattle.instruction_rows.specs.declared.value.Slot.TheVariants.{One}
use Rattle.link_model.specs.declared.members.MethodInfo.{MethodInfo}
use Rattle.link_model.specs.World.{World}
use Rattle.link_model.specs.Decoded.{code_at}
use Rattle.state_model.specs.Frames.{Frame}
use Rattle.state_model.specs.Objects.{Object}
use Rattle.ref_model.specs.Setting.{Setting}
use Rattle.ref_model.specs.State.{JavaThread, State}
use Rattle.ref_model.specs.Ending.{is_live}
use Rattle.ref_model.specs.Frames.{first_frame}
use Rattle.ref_model.specs.Members.{is_hold}
use Rattle.ref_model.specs.Opening.{opening_heap, opening_statics, initializers, frame_of, frames_of, opening_monitor, guarded_by, main_frame, opening_frames, opening_owners, opening_thread, main_words, opening}
use Rattle.ref_model.specs.Looks.{is_pin, pins_of}
use Rattle.schedule_soundness.specs.PromiseLaws.{IsPlain, BeginsUnpinned}
use Rattle.schedule_soundness.proofs.Starting.{method_is}
use Rattle.schedule_soundness.proofs.LookLaws.{Idle}

same_state : (a b : State) → ◌≡◌ {A = Option State} (Some a) (Some b) → a ≡ b
same_state a b e = cc

abbrev opened : Setting → List Object → List Frame → State
opened p heap frames = record {
  memory = record {
    heap = heap;
    room = p.limits.heap_cells;
    statics = opening_statics p.world.program;
    out = [];
    err = [];
    exited = None;
  };
  threads = opening_thread frames ∷ [];
  most_threads = p.limits.threads;
  unnamed = 0;
  owners = opening_owners (opening_monitor p);
  now = 0;
  main_threw = false;
}

-- thread 0 alone is there, and has the opening frames
pub record Opens (p : Setting) (r : State) : Type 0 where
  pub frames : List Frame
  pub frames_are : opening_frames p ≡ Some frames
  pub threads : r.threads ≡ opening_thread frames ∷ []

pub opens : (p : Setting) (r : State) → opening p ≡ Some r → Opens p r
opens p r e =
    let heap = some_is (opening_heap p.world) (λ heap. opening_frames p >>= λ frames. Some (opened p heap frames)) r e in
    let frames = some_is (opening_frames p) (λ frames. Some (opened p heap.0 frames)) r heap.2 in
    record {
      frames = frames.0;
      frames_are = frames.1;
      threads = ap (λ (s : State). s.threads) (sym (same_state (opened p heap.0 frames.0) r frames.2));
    }

-- ---- no frame pins

pub plain_pin : (w : World) (n : ℕ) (f : Frame) → IsPlain w n → f.method ≡ n → is_pin w f ≡ false
plain_pin w n f plain is = ap (λ k. option_map_or (is_hold w) (slice_get w.methods k) false) is ∙ by (slice_get w.methods n) refl
  where
    by : (o : Option MethodInfo) → slice_get w.methods n ≡ o → option_map_or (is_hold w) o false ≡ false
    by None e = refl
    by (Some m) e = plain m e

more_pins : (w : World) (f : Frame) (frames : List Frame) → is_pin w f ≡ false → pins_of w frames ≡ 0 → pins_of w (f ∷ frames) ≡ 0
more_pins w f frames free e = rw free e

frame_method : (w : World) (n : ℕ) (slots : List Slot) (f : Frame) → frame_of w n slots ≡ Some f → f.method ≡ n
frame_method w n slots f e =
    let code = some_is (code_at w n) (λ code. first_frame n code slots) f e in method_is n code.0 slots f code.2

initializers_unpinned : (w : World) (ns : List ℕ) (below frames : List Frame) → Each (IsPlain w) ns → pins_of w below ≡ 0
    → frames_of w ns below ≡ Some frames → pins_of w frames ≡ 0
initializers_unpinned w [] below frames plain free e = let same : below ≡ frames = same_frames below frames e in ap (pins_of w) (sym same) ∙ free
  where
    same_frames : (a b : List Frame) → ◌≡◌ {A = Option (List Frame)} (Some a) (Some b) → a ≡ b
    same_frames a b e = cc
initializers_unpinned w (n ∷ ns) below frames plain free e =
    let f = some_is (frame_of w n []) (λ f. frames_of w ns below >>= λ frames. Some (f ∷ frames)) frames e in
    let more = some_is (frames_of w ns below) (λ frames. Some (f.0 ∷ frames)) frames f.2 in
    ap (pins_of w) (sym (same_frames (f.0 ∷ more.0) frames more.2))
    ∙ more_pins w f.0 more.0 (plain_pin w n f.0 plain.0 (frame_method w n [] f.0 f.1))
    (initializers_unpinned w ns below more.0 plain.1 free more.1)
  where
    same_frames : (a b : List Frame) → ◌≡◌ {A = Option (List Frame)} (Some a) (Some b) → a ≡ b
    same_frames a b e = cc

guarded_method : (o : Option ℕ) (f : Frame) → (guarded_by o f).method ≡ f.method
guarded_method None f = refl
guarded_method (Some o) f = refl

pub opening_unpinned : (p : Setting) (frames : List Frame) → BeginsUnpinned p → opening_frames p ≡ Some frames → pins_of p.world frames ≡ 0
opening_unpinned p frames plain e =
    let w = p.world in
    let g = some_is (main_frame p) (λ f. frames_of w (initializers w.program) (f ∷ [])) frames e in
    let words = One (values.Ref (main_words w)) ∷ [] in
    let f = some_is (frame_of w p.main words) (λ f. Some (guarded_by (opening_monitor p) f)) g.0 g.1 in
    let same = same_frame (guarded_by (opening_monitor p) f.0) g.0 f.2 in
    let method : g.0.method ≡ p.main =
    ap (λ (h : Frame). h.method) (sym same) ∙ guarded_method (opening_monitor p) f.0 ∙ frame_method w p.main words f.0 f.1 in
    initializers_unpinned w (initializers w.program) (g.0 ∷ []) frames plain.initializers
    (more_pins w g.0 [] (plain_pin w p.main g.0 plain.main method) refl) g.2
  where
    same_frame : (a b : Frame) → ◌≡◌ {A = Option Frame} (Some a) (Some b) → a ≡ b
    same_frame a b e = cc

-- ---- who isn't live has no frames

pub opens_idle : (p : Setting) (r : State) → Opens p r → Idle r
opens_idle p r o t x at off = by t (ap (λ ts. slice_get ts t) (sym o.threads) ∙ at)
  where
    by : (t : ℕ) → slice_get (opening_thread o.frames ∷ []) t ≡ Some x → x.frames ≡ []
    by zero e =
        let same : opening_thread o.frames ≡ x = cc in
        let z : true ≡ false = ap (λ (y : JavaThread). is_live y.thread.status) same ∙ off in absurd cc
    by (suc t) e = absurd cc
