-- The frames of a stack map by rising pc, as `Frames` holds them.
use Rattle.std.specs.Prelude.{ℕ, Bool, List, Option, map, find, nat_lt, ◌==◌, ◌&&◌, ◌||◌}
use Rattle.verify_types.specs.Environment.{MapFrame}
use Rattle.verify_frames.specs.Entries as entries
use Rattle.verify_frames.specs.Flags.{AreFlagged}
use Rattle.verify_frames.specs.Skips.{AreSkips}
use Rattle.verify_frames.specs.FramePaths.{entry_in}
use Rattle.verify_frames.specs.declared.frames.Frames.TheInside.{Inside}
use Rattle.verify_frames.specs.declared.frame.Frame.{Frame}

abbrev pub frame_in : Frame → MapFrame
frame_in f = entry_in f.paths.now f.is_constructor f.max_locals f.entry

abbrev pub frames_in : Inside → List MapFrame
frames_in a = map (entry_in a.paths a.is_constructor a.max_locals) a.entries.items

-- the frames lie at rising pcs, and the flags and the skips are those of the paths
pub record AreKept (a : Inside) : Type 0 where
  pub rising : entries.AreRising a.entries.items
  pub flagged : AreFlagged a.paths a.flags.items
  pub skipping : AreSkips a.paths a.skips.items

abbrev pub frame_at : ℕ → List MapFrame → Option MapFrame
frame_at pc fs = find (λ (f : MapFrame). f.pc == pc) fs

-- the first frame after a pc, and before the next instruction if there is one
abbrev pub stray_frame : ℕ → ℕ → Bool → List MapFrame → Option MapFrame
stray_frame pc next is_last fs = find (λ (f : MapFrame). nat_lt pc f.pc && (is_last || nat_lt f.pc next)) fs
