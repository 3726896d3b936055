use Rattle.std.proofs.Common.{sym, ◌∙◌, append_assoc}
use Rattle.std.proofs.lemmas.List.{append-nil}
use Rattle.std.proofs.str.Utf16.{utf16_chars-drop_all}
use Rattle.command_line.proofs.utf8.utf8.Goals as goal

pub loop-at-preserved : goal.loop-at-preserved
loop-at-preserved c =
    rw (c.in_ok-push.ensures.bytes, append_assoc, c.unwrap_or.ensures) (rw c.char_at-found.ensures.first at c.loop-at.invariant)

pub returns : goal.returns
returns c = sym (append-nil _) ∙ rw (utf16_chars-drop_all c.args.units.now c.loop-at.at c.loop-at-test.false) at c.loop-at.invariant
