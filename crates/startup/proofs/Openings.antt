-- The opening state, from its parts.
use Rattle.std.proofs.Common.{◌≡◌, ℕ, Bool, false, List, [], ◌∷◌, Option, Some, None, refl, sym, ap, ◌∙◌}
use Rattle.std.specs.Prelude.{slice_get, if◌then◌else◌}
use Rattle.std.specs.Option.{option_map_or}
use Rattle.items.specs.Options.{◌>>=◌}
use Rattle.items.proofs.Binds.{bind_is, some_is}
use Rattle.instruction_rows.specs.declared.value.Value.{Value}
use Rattle.link_model.specs.declared.members.MethodInfo.{MethodInfo}
use Rattle.state_model.specs.Frames.{Frame}
use Rattle.state_model.specs.Objects.{Object}
use Rattle.ref_model.specs.Setting.{Setting}
use Rattle.ref_model.specs.State.{State}
use Rattle.ref_model.specs.Members.{is_synchronized}
use Rattle.ref_model.specs.Monitors.{class_monitor, is_synchronized_at}
use Rattle.ref_model.specs.Opening.{opening, opening_heap, opening_frames, opening_monitor, opening_owners, opening_statics, main_frame as opening_main, main_words, frames_of, guarded_by, initializers}
use Rattle.startup.specs.FirstFrames.{frames_with, main_frame}
use Rattle.startup.specs.Openings.{first_state}

-- the frames with main's
frames_are : (p : Setting) (frames : List Frame) (monitor : Option ℕ) → monitor ≡ opening_monitor p → frames_with p.world p.main (main_words p.world) monitor ≡ Some frames
    → opening_frames p ≡ Some frames
frames_are p frames monitor is made =
    let more : Frame → Option (List Frame) = λ f. frames_of p.world (initializers p.world.program) (f ∷ []) in
    let found = some_is (main_frame p.world p.main (main_words p.world)) (λ f. more (guarded_by monitor f)) frames made in
    let first : Option Frame = Some (guarded_by monitor found.0) in
    bind_is (opening_main p) more (guarded_by monitor found.0) (Some frames)
    (bind_is (main_frame p.world p.main (main_words p.world)) (λ f. Some (guarded_by (opening_monitor p) f)) found.0 first found.1 (ap (λ (m : Option ℕ). Some (guarded_by m found.0)) (sym is))) found.2

pub opening_is : (p : Setting) (heap : List Object) (room : ℕ) (statics : List Value) (frames : List Frame) (monitor : Option ℕ) → opening_heap p.world ≡ Some heap
    → monitor ≡ opening_monitor p → frames_with p.world p.main (main_words p.world) monitor ≡ Some frames → room ≡ p.limits.heap_cells → statics ≡ opening_statics p.world.program
    → opening p ≡ Some (first_state p.limits.threads heap room statics frames monitor)
opening_is p heap room statics frames monitor has_heap held has_frames cells values =
    let owned = λ (m : Option ℕ) (os : List Object) (fs : List Frame). Some (first_state p.limits.threads os p.limits.heap_cells (opening_statics p.world.program) fs m) in
    let with_statics = owned (opening_monitor p) in
    let state : Option State = with_statics heap frames in
    let begun : opening p ≡ state =
    bind_is (opening_heap p.world) (λ os. opening_frames p >>= λ fs. with_statics os fs) heap state has_heap
    (bind_is (opening_frames p) (λ fs. with_statics heap fs) frames state (frames_are p frames monitor held has_frames) refl) in
    begun ∙ ap (λ (m : Option ℕ). owned m heap frames) (sym held)
    ∙ ap (λ (n : ℕ). Some (first_state p.limits.threads heap n (opening_statics p.world.program) frames monitor)) (sym cells)
    ∙ ap (λ (vs : List Value). Some (first_state p.limits.threads heap room vs frames monitor)) (sym values)
