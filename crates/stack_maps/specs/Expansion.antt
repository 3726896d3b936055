-- What the frames of a map are, and the first fault where the bytes are no map (JVMS 4.7.4).
use Rattle.std.specs.Prelude.{◌≡◌, ℕ, ◌<◌, ◌^◌, List, length, Result, Ok, Err}
use Rattle.byte_reader.specs.declared.fault.Fault.{Fault}
use Rattle.byte_reader.specs.declared.fault.Stop.{Stop}
use Rattle.byte_reader.specs.declared.fault.Stop.TheVariants as stops
use Rattle.byte_reader.specs.Reader.{offset_of}
use Rattle.stack_maps.specs.declared.types.FrameTypes.{FrameTypes}
use Rattle.stack_maps.specs.declared.error.MapWhy.{MapWhy}
use Rattle.stack_maps.specs.declared.error.MapError.{MapError}
use Rattle.stack_maps.specs.declared.error.MapError.TheVariants as errors
use Rattle.stack_maps.specs.Encoding.{Frame, AreFrames, table, whole_frames}
use Rattle.stack_maps.specs.Readers.{table_of}

-- The bytes are a map, whose frames are these, where the code starts with the types `first`.
pub record Expands (first : FrameTypes) (bytes : List ℕ) (whole : List (ℕ × FrameTypes)) : Type 0 where
  pub frames : List Frame
  pub count : length frames < 2 ^ 16
  pub fit : AreFrames first.locals frames
  pub layout : bytes ≡ table frames
  pub is_whole : whole ≡ whole_frames 0 first.locals frames

-- the same result, where a fault has its offset in these bytes
abbrev pub with_offset : {A : Type 0} → List ℕ → Result A (Fault MapWhy) → Result A (ℕ × MapWhy)
with_offset bytes (Ok x) = Ok x
with_offset bytes (Err f) = Err (offset_of (length bytes) f, f.why)

-- the frames, or the offset of the first fault from the left and its reason
abbrev pub expansion : FrameTypes → List ℕ → Result (List (ℕ × FrameTypes)) (ℕ × MapWhy)
expansion first bytes = with_offset bytes (table_of first bytes)

-- why a map was not expanded, where reading these bytes stopped so
abbrev pub error_of : List ℕ → Stop MapWhy → MapError
error_of bytes (stops.Fault f) = errors.Bad (offset_of (length bytes) f) f.why
error_of bytes stops.NoMemory = errors.NoMemory
