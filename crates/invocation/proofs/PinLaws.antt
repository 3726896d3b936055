-- Native frames among those of a thread.
use Rattle.std.proofs.Common.{ℕ, suc, ◌≡◌, ◌+◌, ◌<◌, Bool, true, false, cond, List, [], ◌∷◌, drop, length, nat_lt, sym, ap, ◌∙◌, arith, drop-drop}
use Rattle.std.proofs.lemmas.Bool.{lt-ltb}
use Rattle.std.proofs.lemmas.List.{length-drop}
use Rattle.std.specs.Prelude.{filter, if◌then◌else◌}
use Rattle.link_model.specs.World.{World}
use Rattle.state_model.specs.Frames.{Frame}
use Rattle.frames.specs.Frames.{top_method}
use Rattle.ref_model.specs.Looks.{is_pin, pins_of}
use Rattle.invocation.specs.Places.{frame_at}

-- the top frame pins, or those below do
on_top : (w : World) (frames : List Frame) (b : Bool) → 0 < length frames → is_pin w (frame_at (top_method frames) 0) ≡ b →
    nat_lt 0 (pins_of w frames) ≡ (if b then true else nat_lt 0 (pins_of w (drop 1 frames)))
on_top w [] b some e = absurd (omega arith)
on_top w (f ∷ below) true some e =
    ap (λ b. nat_lt 0 (length (cond b (f ∷ filter (is_pin w) below) (filter (is_pin w) below)))) e
    ∙ lt-ltb 0 (suc (length (filter (is_pin w) below))) (omega arith)
on_top w (f ∷ below) false some e = ap (λ b. nat_lt 0 (length (cond b (f ∷ filter (is_pin w) below) (filter (is_pin w) below)))) e

-- so it is of a frame further down, by the method that it was found to have
pub frame_pins : (w : World) (frames : List Frame) (k n : ℕ) (b : Bool) → k < length frames → n ≡ top_method (drop k frames) → b ≡ is_pin w (frame_at n 0) →
    b ≡ true → nat_lt 0 (pins_of w (drop k frames)) ≡ true
frame_pins w frames k n b within method tells pins =
    let some = length-drop k frames in
    on_top w (drop k frames) true (omega arith) (ap (λ m. is_pin w (frame_at m 0)) (sym method) ∙ sym tells ∙ pins)

pub frame_passes : (w : World) (frames : List Frame) (k n : ℕ) (b : Bool) → k < length frames → n ≡ top_method (drop k frames) → b ≡ is_pin w (frame_at n 0) →
    b ≡ false → nat_lt 0 (pins_of w (drop k frames)) ≡ nat_lt 0 (pins_of w (drop (k + 1) frames))
frame_passes w frames k n b within method tells passes =
    let some = length-drop k frames in
    on_top w (drop k frames) false (omega arith) (ap (λ m. is_pin w (frame_at m 0)) (sym method) ∙ sym tells ∙ passes)
    ∙ ap (λ fs. nat_lt 0 (pins_of w fs)) (drop-drop 1 k frames)
