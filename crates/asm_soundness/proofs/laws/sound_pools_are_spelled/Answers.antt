use Rattle.asm_soundness.proofs.SpellLaws.{range_is, sound_is}
use Rattle.asm_soundness.proofs.laws.sound_pools_are_spelled.Goals as goal

pub returns-clause-range : goal.returns-clause-range
returns-clause-range c = range_is

pub returns-clause-sound : goal.returns-clause-sound
returns-clause-sound c = sound_is
