use Rattle.link_resolution.proofs.KeyTextLaws.{one_more}
use Rattle.link_resolution.proofs.member_index.by_key.Goals as goal

pub loop-index-preserved : goal.loop-index-preserved
loop-index-preserved c = one_more c.loop-index.map c.add_member.new.map c.args.pool.now c.args.members.now c.loop-index.index c.index-members-index.result c.loop-index-test.true c.index-members-index.is c.loop-index.invariant c.in_ok-add_member.ensures
