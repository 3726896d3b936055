use Rattle.std.proofs.Common.{◌≡◌, ◌++◌, drop}
use Rattle.link_resolution.specs.KeyTexts.{tagged}
use Rattle.link_resolution.proofs.member_index.key_text.Given as goal

abbrev pub invariant-loop-unit : goal.invariant-loop-unit
invariant-loop-unit l = l.text.items ++ tagged (drop l.unit-index l.key.name.now) l.key.descriptor.now ≡ tagged l.key.name.now l.key.descriptor.now
