use Rattle.std.proofs.Common.{arith, rules, length, replicate, subst, ◌≡◌, ◌+◌, ◌-◌, ◌<◌, ◌^◌, ◌++◌, []}
use Rattle.thread_lists.specs.Ring.{Spells}
use Rattle.thread_lists.proofs.SpellLaws.{one_more_list}
use Rattle.thread_lists.proofs.ring.add_heads.Goals as goal

pub loop-list-preserved : goal.loop-list-preserved
loop-list-preserved c =
    let h = c.loop-list.heads.items in
    let at : c.loop-list.list ≡ length h = search rules in
    let more : c.loop-list.list - c.len-first.result + 1 ≡ c.loop-list.list + 1 - c.len-first.result = omega arith in
    let fits : c.loop-list.list < 2 ^ 32 = omega arith in
    record {
      len = omega (arith, c.push_reserved.ensures.len, c.loop-list.invariant.len);
      room = omega (arith, c.push_reserved.ensures.capacity, c.loop-list.invariant.room);
      spells = λ threads lists s. one_more_list h threads c.push_reserved.new.self.items c.ring_of_one.result c.loop-list.list lists _ _ c.push_reserved.ensures.items c.ring_of_one.ensures at fits more (c.loop-list.invariant.spells threads lists s);
    }

pub returns-clause-ok : goal.returns-clause-ok
returns-clause-ok c = λ threads lists s.
    let all : c.loop-list.list - c.len-first.result ≡ c.args.count = omega arith in
    subst (λ n. Spells c.loop-list.heads.items threads (lists ++ replicate n [])) all (c.loop-list.invariant.spells threads lists s)
