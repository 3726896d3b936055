-- A map that is read is one, with that expansion, and what is spelled is read.
use Rattle.std.proofs.Common.{◌≡◌, ℕ, zero, suc, ◌+◌, eqb, cond, List, [], ◌∷◌, ◌++◌, length, Result, Ok, Err, refl, sym, ap, subst, ◌∙◌, arith}
use Rattle.std.specs.List.{flat_map}
use Rattle.std.proofs.lemmas.Bool.{eqb-true}
use Rattle.std.proofs.lemmas.List.{append-nil, nil_from_length}
use Rattle.byte_reader.specs.declared.fault.Fault.{Fault}
use Rattle.byte_reader.specs.declared.fault.Stop.{Stop}
use Rattle.byte_reader.specs.declared.fault.Stop.TheVariants as stops
use Rattle.byte_reader.specs.Reader.{Stops, ◌>>=◌, Reader, fault_at, map_value, list_by, offset_of}
use Rattle.byte_reader.proofs.ReaderLaws.{IsBytes, IsReader, ok_of, ok_is, passed, Takes-then, list_by_reads, same_reads, AllByState}
use Rattle.stack_maps.specs.declared.types.FrameTypes.{FrameTypes}
use Rattle.stack_maps.specs.declared.types.FrameChange.{FrameChange}
use Rattle.stack_maps.specs.declared.types.VType.{VType}
use Rattle.stack_maps.specs.declared.frames.DeltaFrame.{DeltaFrame}
use Rattle.stack_maps.specs.declared.error.MapWhy.{MapWhy}
use Rattle.stack_maps.specs.declared.error.MapWhy.TheVariants as whys
use Rattle.stack_maps.specs.declared.error.MapError.TheVariants as errors
use Rattle.stack_maps.specs.Encoding.{u2, Frame, Same, SameLocals1StackItem, SameLocals1StackItemExtended, Chop, SameExtended, Append, Full, frame, delta_of, types_of, IsFrame, AreFrames, whole_frames, table}
use Rattle.stack_maps.specs.Changes.{change_of, made_whole, types_after}
use Rattle.stack_maps.specs.Readers.{u2_at, delta_frame, frame_at, Before, change_at, behind, changes_at, changes_of, table_of}
use Rattle.stack_maps.specs.Expansion.{Expands, with_offset, expansion, error_of}
use Rattle.stack_maps.proofs.TypeLaws.{u2_reads}
use Rattle.stack_maps.proofs.FrameLaws.{frame_reads}

-- ---- the frames as they are encoded

abbrev next_locals : List VType → Frame → List VType
next_locals locals f = (types_of locals f).locals

abbrev encoded_at : List VType → ℕ → Reader MapWhy (List Frame)
encoded_at locals n bytes = list_by (λ (ls : List VType) (more : ℕ). frame_at (length ls)) next_locals locals n bytes

abbrev AreAllowed : List VType → List Frame → Type 0
AreAllowed locals fs = AllByState (λ (ls : List VType) (n : ℕ) (f : Frame). IsFrame ls f) next_locals locals fs

to_frames : (fs : List Frame) (locals : List VType) → AreAllowed locals fs → AreFrames locals fs
to_frames [] locals h = tt
to_frames (f ∷ fs) locals h = (h.0, to_frames fs (next_locals locals f) h.1)

from_frames : (fs : List Frame) (locals : List VType) → AreFrames locals fs → AreAllowed locals fs
from_frames [] locals h = tt
from_frames (f ∷ fs) locals h = (h.0, from_frames fs (next_locals locals f) h.1)

encoded_read : (locals : List VType) (n : ℕ) → IsReader (encoded_at locals n) (flat_map frame) (λ fs. (length fs ≡ n) × AreFrames locals fs)
encoded_read locals n = same_reads (λ fs. (length fs ≡ n) × AreFrames locals fs) (λ fs h. (h.0, to_frames fs locals h.1)) (λ fs h. (h.0, from_frames fs locals h.1)) (list_by_reads next_locals (λ ls more. frame_reads ls) locals n)

-- ---- what frames change is read as the encoded ones

-- what the frames change, each with its pc
abbrev pcs_from : ℕ → List Frame → List (ℕ × FrameChange)
pcs_from next [] = []
pcs_from next (f ∷ fs) = (next + delta_of f, change_of f) ∷ pcs_from (next + delta_of f + 1) fs

types_are : (locals : List VType) (f : Frame) → types_after locals (change_of f) ≡ types_of locals f
types_are locals (Same delta) = refl
types_are locals (SameLocals1StackItem delta item) = refl
types_are locals (SameLocals1StackItemExtended delta item) = refl
types_are locals (Chop delta dropped) = refl
types_are locals (SameExtended delta) = refl
types_are locals (Append delta added) = refl
types_are locals (Full delta ls st) = refl

whole_is : (next : ℕ) (locals : List VType) (fs : List Frame) → made_whole locals (pcs_from next fs) ≡ whole_frames next locals fs
whole_is next locals [] = refl
whole_is next locals (f ∷ fs) =
    ap (λ (t : FrameTypes). (next + delta_of f, t) ∷ made_whole t.locals (pcs_from (next + delta_of f + 1) fs)) (types_are locals f)
    ∙ ap (λ others. (next + delta_of f, types_of locals f) ∷ others) (whole_is (next + delta_of f + 1) (next_locals locals f) fs)

abbrev Read : Type 0 → Type 0
Read A = Result (A × List ℕ) (Fault MapWhy)

abbrev put_first : {A : Type 0} → A → List A × List ℕ → Read (List A)
put_first x others = Ok (x ∷ others.0, others.1)

abbrev with_pcs : ℕ → List Frame × List ℕ → Read (List (ℕ × FrameChange))
with_pcs next fs = Ok (pcs_from next fs.0, fs.1)

abbrev as_delta : Frame × List ℕ → Read DeltaFrame
as_delta f = Ok (delta_frame f.0, f.1)

abbrev with_pc : ℕ → DeltaFrame × List ℕ → Read (ℕ × FrameChange)
with_pc next d = Ok ((next + d.0.delta, d.0.change), d.1)

abbrev changed : ℕ → Frame → ℕ × FrameChange
changed next f = (next + delta_of f, change_of f)

others_are : (next : ℕ) (f : Frame) (r : Read (List Frame)) → ((r >>= with_pcs (next + delta_of f + 1)) >>= put_first (changed next f)) ≡ ((r >>= put_first f) >>= with_pcs next)
others_are next f (Ok fs) = refl
others_are next f (Err e) = refl

first_are : (before : Before) (n : ℕ) (r : Read Frame)
    → ((s : Before) (bytes : List ℕ) → list_by change_at behind s n bytes ≡ (encoded_at s.locals n bytes >>= with_pcs s.next))
    → (((r >>= as_delta) >>= with_pc before.next) >>= λ x. list_by change_at behind (behind before x.0) n x.1 >>= put_first x.0) ≡ ((r >>= λ f. encoded_at (next_locals before.locals f.0) n f.1 >>= put_first f.0) >>= with_pcs before.next)
first_are before n (Ok f) same =
    let after : Before = behind before (changed before.next f.0) in
    ap (λ (r : Read (List (ℕ × FrameChange))). r >>= put_first (changed before.next f.0)) (same after f.1)
    ∙ ap (λ (t : FrameTypes). (encoded_at t.locals n f.1 >>= with_pcs after.next) >>= put_first (changed before.next f.0)) (types_are before.locals f.0)
    ∙ others_are before.next f.0 (encoded_at (next_locals before.locals f.0) n f.1)
first_are before n (Err e) same = refl

frames_are : (n : ℕ) (before : Before) (bytes : List ℕ) → list_by change_at behind before n bytes ≡ map_value (pcs_from before.next) (encoded_at before.locals n) bytes
frames_are zero before bytes = refl
frames_are (suc n) before bytes = first_are before n (frame_at (length before.locals) bytes) (frames_are n)

frames_same : (first : FrameTypes) (n : ℕ) (bytes : List ℕ) → changes_at first n bytes ≡ map_value (pcs_from 0) (encoded_at first.locals n) bytes
unfolding changes_at
frames_same first n bytes = frames_are n (record { next = 0; locals = first.locals }) bytes

-- ---- the table

abbrev ended : List (ℕ × FrameChange) × List ℕ → Result (List (ℕ × FrameChange)) (Fault MapWhy)
ended x = cond (eqb (length x.1) 0) (Ok x.0) (Err (fault_at x.1 whys.Trailing))

pub changes_take : (first : FrameTypes) (bytes : List ℕ) (changes : List (ℕ × FrameChange)) → IsBytes bytes → changes_of first bytes ≡ Ok changes
    → Expands first bytes (made_whole first.locals changes)
unfolding changes_of
changes_take first bytes changes fits e =
    let a = ok_of (u2_at bytes) (λ n. changes_at first n.0 n.1 >>= ended) changes e in
    let b = ok_of (changes_at first a.0.0 a.0.1) ended changes a.2 in
    let g = passed (eqb (length b.0.1) 0) b.0.0 changes (fault_at b.0.1 whys.Trailing) b.2 in
    let f = ok_of (encoded_at first.locals a.0.0 a.0.1) (λ fs. Ok (pcs_from 0 fs.0, fs.1)) b.0 (sym (frames_same first a.0.0 a.0.1) ∙ b.1) in
    let count = u2_reads.takes bytes a.0 fits a.1 in
    let fs = (encoded_read first.locals a.0.0).takes a.0.1 f.0 count.0.rest_fits f.1 in
    let made : List (ℕ × FrameChange) × List ℕ = (pcs_from 0 f.0.0, f.0.1) in
    let same : made ≡ b.0 = ok_is made b.0 f.2 in
    let nothing : f.0.1 ≡ [] = ap (λ (x : List (ℕ × FrameChange) × List ℕ). x.1) same ∙ nil_from_length b.0.1 (eqb-true _ _ g.0) in
    let both = (Takes-then bytes (u2 a.0.0) a.0.1 (flat_map frame f.0.0) f.0.1 count.0 fs.0).parts in
    let size : length f.0.0 ≡ a.0.0 = fs.1.0 in
    let layout : bytes ≡ table f.0.0 = both ∙ ap (λ (r : List ℕ). (u2 a.0.0 ++ flat_map frame f.0.0) ++ r) nothing ∙ append-nil (u2 a.0.0 ++ flat_map frame f.0.0) ∙ ap (λ (k : ℕ). u2 k ++ flat_map frame f.0.0) (sym size) in
    let is : changes ≡ pcs_from 0 f.0.0 = sym g.1 ∙ sym (ap (λ (x : List (ℕ × FrameChange) × List ℕ). x.0) same) in
    record { frames = f.0.0; count = omega (arith, count.1); fit = fs.1.1; layout = layout; is_whole = ap (made_whole first.locals) is ∙ whole_is 0 first.locals f.0.0 }

pub table_takes : (first : FrameTypes) (bytes : List ℕ) (frames : List (ℕ × FrameTypes)) → IsBytes bytes → table_of first bytes ≡ Ok frames → Expands first bytes frames
unfolding table_of
table_takes first bytes frames fits e =
    let a = ok_of (changes_of first bytes) (λ changes. Ok (made_whole first.locals changes)) frames e in
    subst (Expands first bytes) (ok_is (made_whole first.locals a.0) frames a.2) (changes_take first bytes a.0 fits a.1)

pub table_again : (first : FrameTypes) (bytes : List ℕ) (frames : List (ℕ × FrameTypes)) → Expands first bytes frames → table_of first bytes ≡ Ok frames
unfolding table_of changes_of
table_again first bytes frames m =
    let read : encoded_at first.locals (length m.frames) (flat_map frame m.frames) ≡ Ok (m.frames, []) =
    ap (encoded_at first.locals (length m.frames)) (sym (append-nil (flat_map frame m.frames))) ∙ (encoded_read first.locals (length m.frames)).again m.frames [] (refl, m.fit) in
    let rest : changes_at first (length m.frames) (flat_map frame m.frames) ≡ Ok (pcs_from 0 m.frames, []) = frames_same first (length m.frames) (flat_map frame m.frames) ∙ rw read refl in
    ap (table_of first) m.layout
    ∙ ap (λ (r : Result (ℕ × List ℕ) (Fault MapWhy)). (r >>= λ n. changes_at first n.0 n.1 >>= ended) >>= λ changes. Ok (made_whole first.locals changes)) (u2_reads.again (length m.frames) (flat_map frame m.frames) m.count)
    ∙ ap (λ (r : Result (List (ℕ × FrameChange) × List ℕ) (Fault MapWhy)). (r >>= ended) >>= λ changes. Ok (made_whole first.locals changes)) rest
    ∙ ap (λ (x : List (ℕ × FrameTypes)). Ok x) (whole_is 0 first.locals m.frames ∙ sym m.is_whole)

-- where the table is read, its changes are, and where it isn't, they aren't
pub changes_again : (first : FrameTypes) (bytes : List ℕ) (changes : List (ℕ × FrameChange)) (frames : List (ℕ × FrameTypes)) → changes_of first bytes ≡ Ok changes → Expands first bytes frames
    → made_whole first.locals changes ≡ frames
unfolding table_of
changes_again first bytes changes frames e m =
    ok_is (made_whole first.locals changes) frames (sym (ap (λ (r : Result (List (ℕ × FrameChange)) (Fault MapWhy)). r >>= λ changes. Ok (made_whole first.locals changes)) e) ∙ table_again first bytes frames m)

fault_is : (first : FrameTypes) (bytes : List ℕ) (f : Fault MapWhy) → changes_of first bytes ≡ Err f → table_of first bytes ≡ Err f
unfolding table_of
fault_is first bytes f e = ap (λ (r : Result (List (ℕ × FrameChange)) (Fault MapWhy)). r >>= λ changes. Ok (made_whole first.locals changes)) e

-- ---- with the offset of a fault

pub stops_whole : (first : FrameTypes) (bytes : List ℕ) (stop : Stop MapWhy) → Stops stop (changes_of first bytes) → Stops stop (table_of first bytes)
stops_whole first bytes stops.NoMemory e = tt
stops_whole first bytes (stops.Fault f) e = fault_is first bytes f e

-- only memory can stop the reading of a map
pub stops_only : (first : FrameTypes) (bytes : List ℕ) (frames : List (ℕ × FrameTypes)) (stop : Stop MapWhy) → Stops stop (table_of first bytes) → Expands first bytes frames → error_of bytes stop ≡ errors.NoMemory
stops_only first bytes frames stops.NoMemory e m = refl
stops_only first bytes frames (stops.Fault f) e m = let both = sym e ∙ table_again first bytes frames m in absurd cc

pub stops_bad : (first : FrameTypes) (bytes : List ℕ) (at : ℕ) (why : MapWhy) (stop : Stop MapWhy) → Stops stop (table_of first bytes) → error_of bytes stop ≡ errors.Bad at why → expansion first bytes ≡ Err (at, why)
stops_bad first bytes at why stops.NoMemory e same = absurd cc
stops_bad first bytes at why (stops.Fault f) e same =
    let there : offset_of (length bytes) f ≡ at = cc in
    let cause : f.why ≡ why = cc in
    ap (with_offset bytes) e ∙ ap (λ (n : ℕ). Err (n, f.why)) there ∙ ap (λ (w : MapWhy). Err (at, w)) cause

value_is : {A : Type 0} (bytes : List ℕ) (r : Result A (Fault MapWhy)) (x : A) → with_offset bytes r ≡ Ok x → r ≡ Ok x
value_is bytes (Ok y) x e = cc
value_is bytes (Err f) x e = absurd cc

pub expansion_takes : (first : FrameTypes) (bytes : List ℕ) (frames : List (ℕ × FrameTypes)) → IsBytes bytes → expansion first bytes ≡ Ok frames → Expands first bytes frames
expansion_takes first bytes frames fits e = table_takes first bytes frames fits (value_is bytes (table_of first bytes) frames e)

pub expansion_again : (first : FrameTypes) (bytes : List ℕ) (frames : List (ℕ × FrameTypes)) → Expands first bytes frames → expansion first bytes ≡ Ok frames
expansion_again first bytes frames m = ap (with_offset bytes) (table_again first bytes frames m)
