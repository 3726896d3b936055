use Rattle.history.proofs.TextLaws.{entry_shortens, entry_more}
use Rattle.history.proofs.reader.entries_at.Goals as goal

pub loop-entry-smaller : goal.loop-entry-smaller
loop-entry-smaller c = entry_shortens _ _ _ c.in-Some.ensures

pub loop-entry-preserved : goal.loop-entry-preserved
loop-entry-preserved c = entry_more _ _ _ _ _ _ c.loop-entry.invariant c.in-Some.ensures c.in_ok-push.ensures.items
