-- The code of a method, decoded (JVMS 4.7.3).
use Rattle.std.specs.Prelude.{◌≡◌, ℕ, ◌<◌, ◌^◌, List, Option, Some, length, slice_get}
use Rattle.std.specs.Option.{option_and_then}
use Rattle.opcodes.specs.Code.{IsCode}
use Rattle.link_model.specs.declared.members.MethodCode.{MethodCode}
use Rattle.link_model.specs.World.{World}

-- the instructions are those of some bytes, of which there is one at least, and which are fewer than 65,536
pub record IsDecoded (code : MethodCode) : Type 0 where
  pub bytes : List ℕ
  pub is_code : IsCode bytes code.code
  pub some : 0 < length bytes
  pub few : length bytes < 2 ^ 16

-- the code of a method of this number, where it has one
abbrev pub code_at : World → ℕ → Option MethodCode
code_at w n = option_and_then (λ code. code) (slice_get w.codes n)

abbrev pub AreDecoded : World → Type 0
AreDecoded w = (n : ℕ) (code : MethodCode) → code_at w n ≡ Some code → IsDecoded code
