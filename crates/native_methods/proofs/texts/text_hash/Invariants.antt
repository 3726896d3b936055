use Rattle.std.proofs.Common.{◌≡◌, take}
use Rattle.std.specs.Prelude.{fold, pos}
use Rattle.ref_model.specs.Texts.{hashed}
use Rattle.native_methods.proofs.texts.text_hash.Given as goal

abbrev pub invariant-loop-unit : goal.invariant-loop-unit
invariant-loop-unit l = l.hash ≡ fold hashed (pos 0) (take l.unit-index l.units)
