use Rattle.std.proofs.Common.{ap, sym, ◌∙◌}
use Rattle.verify_frames.specs.Entries.{first_stray}
use Rattle.verify_frames.proofs.Rising.{stray_behind}
use Rattle.verify_frames.proofs.entries.stray_entry.Goals as goal

pub returns : goal.returns
returns c =
    c.first_stray.ensures ∙ ap (first_stray c.args.next c.args.is_last) c.entries_behind.ensures
    ∙ sym (stray_behind c.args.pc c.args.next c.args.is_last 0 c.args.entries.now c.requires)
