-- The frames of a stack map, where the bytes are one.
use Rattle.std.specs.Prelude.{ℕ, List, Option, map}
use Rattle.std.specs.Option.{option_map}
use Rattle.std.specs.Result.{result_ok}
use Rattle.stack_maps.specs.declared.types.FrameTypes.{FrameTypes}
use Rattle.stack_maps.specs.Expansion.{expansion}
use Rattle.link_model.specs.declared.members.MethodInfo.{MethodInfo}
use Rattle.link_model.specs.World.{World}
use Rattle.verify_types.specs.Environment.{MapFrame, map_frame}

abbrev pub pc_of : ℕ × FrameTypes → ℕ
pc_of f = f.0

-- the frames of a map for a method that begins with the types `first`
abbrev pub mapped : World → MethodInfo → ℕ → FrameTypes → List ℕ → Option (List MapFrame)
mapped w m max_locals first bytes = option_map (map (map_frame w m max_locals)) (result_ok (expansion first bytes))
