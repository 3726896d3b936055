-- Reading frames one after the other, as a loop does that counts the locals.
use Rattle.std.proofs.Common.{◌≡◌, ℕ, zero, suc, ◌-◌, ◌+◌, ◌<◌, List, [], ◌∷◌, ◌++◌, length, Some, Result, Ok, Err, refl, ap, ◌∙◌, arith}
use Rattle.std.specs.Prelude.{slice_get}
use Rattle.std.proofs.lemmas.Option.{same_Some}
use Rattle.byte_reader.specs.declared.fault.Fault.{Fault}
use Rattle.byte_reader.specs.declared.fault.Stop.{Stop}
use Rattle.byte_reader.specs.declared.fault.Stop.TheVariants as stops
use Rattle.byte_reader.specs.Reader.{◌>>=◌, Reader, Stops, map_value, list_by}
use Rattle.byte_reader.proofs.LoopLaws.{ReadsOn, begins, goes_on, stops_at}
use Rattle.stack_maps.specs.declared.types.VType.{VType}
use Rattle.stack_maps.specs.declared.types.FrameTypes.{FrameTypes}
use Rattle.stack_maps.specs.declared.types.FrameChange.{FrameChange}
use Rattle.stack_maps.specs.declared.frames.DeltaFrame.{DeltaFrame}
use Rattle.stack_maps.specs.declared.error.MapWhy.{MapWhy}
use Rattle.stack_maps.specs.Changes.{locals_after, locals_before, locals_behind, made_whole, types_after}
use Rattle.stack_maps.specs.Readers.{delta_frame, frame_at, Before, change_at, behind, changes_at, whole_frames_at}

pub last_found : (first : List VType) (frames : List (ℕ × FrameTypes)) (f : ℕ × FrameTypes) → Some f ≡ slice_get frames (length frames - 1) → f.1.locals ≡ locals_before first frames
last_found first [] f e = absurd cc
last_found first (g ∷ []) f e = ap (λ (x : ℕ × FrameTypes). x.1.locals) (same_Some f g e)
last_found first (g ∷ h ∷ frames) f e =
    let one : length (g ∷ h ∷ frames) - 1 ≡ suc (length (h ∷ frames) - 1) = omega arith in
    last_found g.1.locals (h ∷ frames) f (rw one at e)

pub last_before : (first : List VType) (frames : List (ℕ × FrameTypes)) (pc : ℕ) (types : FrameTypes) → locals_before first (frames ++ (pc, types) ∷ []) ≡ types.locals
last_before first [] pc types = refl
last_before first (f ∷ frames) pc types = last_before f.1.locals frames pc types

pub last_is : (first : List VType) (frames : List (ℕ × FrameChange)) (pc : ℕ) (change : FrameChange)
    → locals_behind first (frames ++ (pc, change) ∷ []) ≡ locals_after (locals_behind first frames) change.locals
last_is first [] pc change = refl
last_is first (f ∷ frames) pc change = last_is (locals_after first f.1.locals) frames pc change

abbrev Read : Type 0 → Type 0
Read A = Result (A × List ℕ) (Fault MapWhy)

-- These frames were read, so many are to be read, and in all reading gives `total`.
abbrev pub FramesOn : List VType → List (ℕ × FrameChange) → ℕ → ℕ → List ℕ → Result (List (ℕ × FrameChange) × List ℕ) (Fault MapWhy) → Type 0
FramesOn first front next left bytes total = ReadsOn change_at behind front (record { next = next; locals = locals_behind first front }) left bytes total

abbrev pub delta_frame_at : ℕ → List ℕ → Result (DeltaFrame × List ℕ) (Fault MapWhy)
delta_frame_at locals bytes = map_value delta_frame (frame_at locals) bytes

pub frame_more : (first : List VType) (front : List (ℕ × FrameChange)) (count i next : ℕ) (frame : DeltaFrame) (bytes rest : List ℕ) (total : Result (List (ℕ × FrameChange) × List ℕ) (Fault MapWhy)) → i < count
    → delta_frame_at (length (locals_behind first front)) bytes ≡ Ok (frame, rest) → FramesOn first front next (count - i) bytes total
    → FramesOn first (front ++ (next + frame.delta, frame.change) ∷ []) (next + frame.delta + 1) (count - (i + 1)) rest total
frame_more first front count i next frame bytes rest total lt h so_far =
    rw (last_is first front (next + frame.delta) frame.change) (goes_on count i (next + frame.delta, frame.change) rest lt so_far (rw h refl))

pub frame_stops : (e : Stop MapWhy) (first : List VType) (front : List (ℕ × FrameChange)) (count i next : ℕ) (bytes : List ℕ) (total : Result (List (ℕ × FrameChange) × List ℕ) (Fault MapWhy)) → i < count
    → Stops e (delta_frame_at (length (locals_behind first front)) bytes) → FramesOn first front next (count - i) bytes total → Stops e total
frame_stops stops.NoMemory first front count i next bytes total lt h so_far = tt
frame_stops (stops.Fault f) first front count i next bytes total lt h so_far = stops_at count i (stops.Fault f) lt so_far (rw h refl)

-- ---- whole frames, one after the other

abbrev as_whole : Before → (ℕ × FrameChange) × List ℕ → Read (ℕ × FrameTypes)
as_whole before c = Ok ((c.0.0, types_after before.locals c.0.1), c.1)

abbrev all_whole : Before → List (ℕ × FrameChange) × List ℕ → Read (List (ℕ × FrameTypes))
all_whole before cs = Ok (made_whole before.locals cs.0, cs.1)

abbrev put_first : {A : Type 0} → A → List A × List ℕ → Read (List A)
put_first x others = Ok (x ∷ others.0, others.1)

abbrev pub whole_at : Before → ℕ → Reader MapWhy (ℕ × FrameTypes)
whole_at before more bytes = change_at before more bytes >>= as_whole before

abbrev pub after_whole : Before → ℕ × FrameTypes → Before
after_whole before frame = record { next = frame.0 + 1; locals = frame.1.locals }

others_whole : (before : Before) (c : ℕ × FrameChange) (r : Read (List (ℕ × FrameChange)))
    → ((r >>= all_whole (behind before c)) >>= put_first (c.0, types_after before.locals c.1)) ≡ ((r >>= put_first c) >>= all_whole before)
others_whole before c (Ok cs) = refl
others_whole before c (Err e) = refl

first_whole : (before : Before) (n : ℕ) (r : Read (ℕ × FrameChange))
    → ((s : Before) (bytes : List ℕ) → list_by whole_at after_whole s n bytes ≡ (list_by change_at behind s n bytes >>= all_whole s))
    → ((r >>= as_whole before) >>= λ x. list_by whole_at after_whole (after_whole before x.0) n x.1 >>= put_first x.0) ≡ ((r >>= λ x. list_by change_at behind (behind before x.0) n x.1 >>= put_first x.0) >>= all_whole before)
first_whole before n (Ok c) same =
    ap (λ (r : Read (List (ℕ × FrameTypes))). r >>= put_first (c.0.0, types_after before.locals c.0.1)) (same (behind before c.0) c.1)
    ∙ others_whole before c.0 (list_by change_at behind (behind before c.0) n c.1)
first_whole before n (Err e) same = refl

-- Reading whole frames gives the frames read, made whole.
pub read_whole : (n : ℕ) (before : Before) (bytes : List ℕ) → list_by whole_at after_whole before n bytes ≡ map_value (made_whole before.locals) (list_by change_at behind before n) bytes
read_whole zero before bytes = refl
read_whole (suc n) before bytes = first_whole before n (change_at before n bytes) (read_whole n)

-- These whole frames were read, so many are to be read, and in all reading gives `total`.
abbrev pub WholeOn : List VType → List (ℕ × FrameTypes) → ℕ → ℕ → List ℕ → Read (List (ℕ × FrameTypes)) → Type 0
WholeOn first front next left bytes total = ReadsOn whole_at after_whole front (record { next = next; locals = locals_before first front }) left bytes total

pub whole_begins : (first : FrameTypes) (count : ℕ) (bytes : List ℕ) → WholeOn first.locals [] 0 (count - 0) bytes (whole_frames_at first count bytes)
unfolding changes_at
whole_begins first count bytes = rw (← read_whole count (record { next = 0; locals = first.locals }) bytes) (begins whole_at after_whole (record { next = 0; locals = first.locals }) count bytes)

pub whole_more : (first : List VType) (front : List (ℕ × FrameTypes)) (count i next : ℕ) (frame : DeltaFrame) (types : FrameTypes) (bytes rest : List ℕ) (total : Read (List (ℕ × FrameTypes))) → i < count
    → delta_frame_at (length (locals_before first front)) bytes ≡ Ok (frame, rest) → types ≡ types_after (locals_before first front) frame.change → WholeOn first front next (count - i) bytes total
    → WholeOn first (front ++ (next + frame.delta, types) ∷ []) (next + frame.delta + 1) (count - (i + 1)) rest total
whole_more first front count i next frame types bytes rest total lt h e so_far =
    rw (last_before first front (next + frame.delta) types) (goes_on count i (next + frame.delta, types) rest lt so_far (rw (h, e) refl))

pub whole_stops : (e : Stop MapWhy) (first : List VType) (front : List (ℕ × FrameTypes)) (count i next : ℕ) (bytes : List ℕ) (total : Read (List (ℕ × FrameTypes))) → i < count
    → Stops e (delta_frame_at (length (locals_before first front)) bytes) → WholeOn first front next (count - i) bytes total → Stops e total
whole_stops stops.NoMemory first front count i next bytes total lt h so_far = tt
whole_stops (stops.Fault f) first front count i next bytes total lt h so_far = stops_at count i (stops.Fault f) lt so_far (rw h refl)
