use Rattle.std.proofs.Common.{◌≡◌, ℕ, ◌++◌, ◌+◌, ◌≤◌, cond, List, Some, length, sym, ap, ◌∙◌, arith}
use Rattle.std.specs.Str.{bytes_eq}
use Rattle.asm_pool.specs.Mentions.{slots_of}
use Rattle.asm_pool.specs.Places.{at_text}
use Rattle.asm_pool.specs.declared.pool.Pool.{Pool}
use Rattle.asm_pool.proofs.PoolLaws.{some, at_text_updates, pool_more, mention_fits}
use Rattle.asm_pool.proofs.pool.Pool.add.Goals as goal

pub returns : goal.returns
returns c =
    let p = c.args.self.now in
    let low : length p.entries + length (slots_of c.args.constant) ≤ 65535 = omega (arith, c.if-index-width_of-gt-MOST_ENTRIES.false, c.len-index.ensures, c.width_of.ensures) in
    let entries_are : c.push_slots.new.entries ≡ p.entries ++ slots_of c.args.constant = c.in_ok-push_slots.ensures in
    let new : Pool = record { alloc = p.alloc; entries = c.push_slots.new.entries; places = c.insert.new.self } in
    let map_is : (text : List ℕ) → at_text new.places text ≡ cond (bytes_eq c.args.key.items text) (Some (length p.entries)) (at_text p.places text) =
    λ text. at_text_updates c.args.key.items p.places new.places (Some c.len-index.result) c.in_ok-insert.ensures.updates text
    ∙ ap (λ (n : ℕ). cond (bytes_eq c.args.key.items text) (some n) (at_text p.places text)) c.len-index.ensures in (
      mention_fits c.args.constant p.entries low ∙ (λ i. some (sym c.len-index.ensures i, sym entries_are i)),
      pool_more p c.args.constant c.requires.pool new c.args.key.items entries_are c.requires.its_key c.requires.free map_is low,
    )
