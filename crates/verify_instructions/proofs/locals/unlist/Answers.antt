use Rattle.std.proofs.Common.{◌≡◌, ℕ, ◌-◌, ◌<◌, List, Some, length, ap, get_or, sym, ◌∙◌, arith}
use Rattle.verify_instructions.proofs.StackLaws.{last_off, unlisted}
use Rattle.verify_instructions.proofs.locals.unlist.Goals as goal

pub returns-then-last-slot : goal.returns-then-last-slot
returns-then-last-slot c = λ types past h.
    let old = c.args.slots.now in
    let last = c.in-Some.last.now in
    let item = c.in-Some.ensures.item in
    let as_many : old.len ≡ length old.items = omega arith in
    let some : 0 < old.len = omega (arith, item.3.0, ap length c.deref.ensures.value) in
    let taken : c.pop.result ≡ Some last =
    c.pop.ensures.value last some
    ∙ ap (λ n. Some (get_or old.items (n - 1) last)) as_many
    ∙ ap (λ (xs : List ℕ). Some (get_or xs (length xs - 1) last)) (sym c.deref.ensures.value)
    ∙ ap Some (sym item.1) in
    unlisted old.items c.pop.new.self.items types c.args.slot (last_off old.items c.pop.new.self.items c.pop.result last c.args.slot taken c.if-last-slot.true c.pop.ensures.items) past h
