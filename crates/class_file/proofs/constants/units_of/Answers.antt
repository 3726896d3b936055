use Rattle.std.proofs.Common.{length, sym, ◌∙◌}
use Rattle.class_file.proofs.PlainLaws.{plain_read}
use Rattle.class_file.proofs.constants.units_of.Goals as goal

pub returns-then-are_plain-clause-read : goal.returns-then-are_plain-clause-read
returns-then-are_plain-clause-read g c =
    plain_read (length c.args.front.now) c.args.units.now.items c.append_front.new.units.items c.args.front.now c.args.text.now c.requires.front
    (sym c.are_plain.ensures ∙ c.if-are_plain.true) c.in_ok-append_front.ensures
