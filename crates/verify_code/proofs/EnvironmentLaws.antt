-- What is kept beside the tables of a method, from what was read.
use Rattle.std.proofs.Common.{◌≡◌, ℕ, suc, true, false, List, ◌∷◌, Option, Some, None, Result, Ok, Err, refl, subst, arith}
use Rattle.std.specs.Prelude.{is_ok, map}
use Rattle.std.specs.List.{All}
use Rattle.std.specs.Option.{option_map}
use Rattle.std.specs.Result.{result_ok}
use Rattle.stack_maps.specs.declared.types.FrameTypes.{FrameTypes}
use Rattle.stack_maps.specs.declared.error.MapWhy.{MapWhy}
use Rattle.stack_maps.specs.Expansion.{expansion}
use Rattle.link_model.specs.declared.members.MethodInfo.{MethodInfo}
use Rattle.link_model.specs.declared.members.MethodCode.{MethodCode}
use Rattle.link_model.specs.declared.sites.Resolution.{Resolution}
use Rattle.link_model.specs.Decoded.{IsDecoded}
use Rattle.link_model.specs.World.{World}
use Rattle.verify_types.specs.Environment.{MapFrame, first_frame, map_frame, map_frames, environment_of, with_catches}
use Rattle.verify_frames.specs.StackMaps.{mapped}
use Rattle.verify_code.specs.declared.guards.Guard.{Guard}
use Rattle.verify_code.specs.Environments.{HasFrames}
use Rattle.verify_code.specs.Guards.{AskAlike, guard_in}
use Rattle.verify_code.proofs.InstructionLaws.{decoded_in_order}
use Rattle.verify_code.proofs.MergedLaws.{same_asked}

abbrev Expanded : Type 0
Expanded = Result (List (ℕ × FrameTypes)) (ℕ × MapWhy)

is_map : (w : World) (m : MethodInfo) (max : ℕ) (r : Expanded) (frames : List MapFrame) → Some frames ≡ option_map (map (map_frame w m max)) (result_ok r)
    → (is_ok r ≡ true) × (frames ≡ map_frames w m max r)
is_map w m max (Ok list) frames e = let same : frames ≡ map (map_frame w m max) list = cc in (refl, same)
is_map w m max (Err why) frames e = absurd cc

pub has_frames : (w : World) (m : MethodInfo) (code : MethodCode) (ns : List Resolution) (cs : List (Option ℕ)) (frames : List MapFrame)
    → (guards : List Guard) → Some frames ≡ mapped w m code.max_locals (first_frame w m) code.map → IsDecoded code → AskAlike (map guard_in guards) (with_catches code.rows cs)
    → HasFrames (environment_of w m code ns cs) frames guards false None
has_frames w m code ns cs frames guards at decoded guarded =
    let found = is_map w m code.max_locals (expansion (first_frame w m) code.map) frames at in
    record { mapped = found.0; are = found.1; in_order = decoded_in_order code ns decoded; guarded = same_asked (environment_of w m code ns cs) (map guard_in guards) (with_catches code.rows cs) guarded; sorted = λ (is : false ≡ true). absurd cc; asked = tt }

-- what holds of all holds of those after the first
pub behind_all : (P : ℕ → Type 0) (xs ys : List ℕ) (x : ℕ) → xs ≡ x ∷ ys → All P xs → All P ys
behind_all P xs ys x e h = λ k d low. let all : All P (x ∷ ys) = subst (λ zs. All P zs) e h in all (suc k) d (omega arith)

-- and of the first
pub first_all : (P : ℕ → Type 0) (xs ys : List ℕ) (x : ℕ) → xs ≡ x ∷ ys → All P xs → P x
first_all P xs ys x e h = let all : All P (x ∷ ys) = subst (λ zs. All P zs) e h in all 0 x (omega arith)
