-- The frames of a map rise.
use Rattle.std.proofs.Common.{◌≡◌, ℕ, ◌+◌, List, [], ◌∷◌, Some, ap, sym, arith}
use Rattle.std.specs.Prelude.{map}
use Rattle.std.specs.Result.{result_ok}
use Rattle.stack_maps.specs.declared.types.VType.{VType}
use Rattle.stack_maps.specs.declared.types.FrameTypes.{FrameTypes}
use Rattle.stack_maps.specs.Encoding.{Frame, delta_of, types_of, whole_frames}
use Rattle.stack_maps.specs.Expansion.{Expands, with_offset, expansion}
use Rattle.stack_maps.proofs.MapLaws.{table_again}
use Rattle.link_model.specs.declared.members.MethodInfo.{MethodInfo}
use Rattle.link_model.specs.World.{World}
use Rattle.verify_types.specs.Environment.{MapFrame, map_frame}
use Rattle.verify_frames.specs.Entries.{Rises}
use Rattle.verify_frames.specs.StackMaps.{pc_of}

whole_rises : (next : ℕ) (before : List VType) (fs : List Frame) → Rises pc_of next (whole_frames next before fs)
whole_rises next before [] = tt
whole_rises next before (f ∷ fs) = (omega arith, whole_rises (next + delta_of f + 1) (types_of before f).locals fs)

pub expansion_rises : (first : FrameTypes) (bytes : List ℕ) (whole : List (ℕ × FrameTypes)) → Expands first bytes whole → Rises pc_of 0 whole
expansion_rises first bytes whole h = rw h.is_whole (whole_rises 0 first.locals h.frames)

pub expansion_is : (first : FrameTypes) (bytes : List ℕ) (whole : List (ℕ × FrameTypes)) → Expands first bytes whole → Some whole ≡ result_ok (expansion first bytes)
expansion_is first bytes whole h = ap (λ r. result_ok (with_offset bytes r)) (sym (table_again first bytes whole h))

pub list_rises : (w : World) (m : MethodInfo) (max low : ℕ) (list : List (ℕ × FrameTypes)) → Rises pc_of low list
    → Rises (λ (f : MapFrame). f.pc) low (map (map_frame w m max) list)
list_rises w m max low [] h = tt
list_rises w m max low (f ∷ fs) h = (h.0, list_rises w m max (f.0 + 1) fs h.1)
