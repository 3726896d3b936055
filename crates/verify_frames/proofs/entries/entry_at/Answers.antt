use Rattle.std.proofs.Common.{ap, sym, ◌∙◌}
use Rattle.verify_frames.specs.Entries.{pc_of, first_entry_at}
use Rattle.verify_frames.proofs.Rising.{found_from}
use Rattle.verify_frames.proofs.entries.entry_at.Goals as goal

pub returns : goal.returns
returns c = c.first_at.ensures ∙ ap (first_entry_at c.args.pc) c.entries_from.ensures ∙ sym (found_from pc_of c.args.pc 0 c.args.entries.now c.requires)
