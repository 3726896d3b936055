use Rattle.std.proofs.Common.{refl, rules, arith}
use Rattle.class_file.proofs.PlainLaws.{front_more, front_whole}
use Rattle.class_file.proofs.plain.append_front.Goals as goal

pub loop-at-preserved : goal.loop-at-preserved
loop-at-preserved c = record {
  added = front_more _ c.args.units.now.items c.loop-at.units.items _ c.args.bytes.now c.loop-at.at (λ x h. refl) c.type_inv.bytes c.loop-at.invariant.added c.in_ok-extend_from_slice.ensures.items;
  near = omega arith;
}

pub returns : goal.returns
returns c = front_whole c.args.units.now.items c.loop-at.units.items _ c.args.bytes.now c.loop-at.at c.args.count _ (search rules) (omega arith) c.loop-at.invariant.added c.truncate.ensures.items
