use Rattle.std.proofs.Common.{refl}
use Rattle.jvm_utf8.proofs.TextLaws.{plain_units}
use Rattle.jvm_utf8.proofs.decoder.append_plain.Goals as goal

pub returns-clause-value : goal.returns-clause-value
returns-clause-value g c = rw (plain_units c.args.bytes.now c.requires.plain, c.in_ok-append_widened.ensures) refl
