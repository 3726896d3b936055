use Rattle.std.proofs.Common.{ℕ, cond, List, Some, ap, ◌∙◌}
use Rattle.std.specs.Str.{bytes_eq}
use Rattle.asm_pool.proofs.PoolLaws.{at_text_updates}
use Rattle.asm_code.specs.Places.{place_of}
use Rattle.asm_code.proofs.labels.Labels.add.Goals as goal

pub returns : goal.returns
returns c other =
    let old = c.args.self.now in
    at_text_updates c.in_ok-key.key.items old.places c.insert.new.self (Some c.args.pc) c.in_ok-insert.ensures.updates other
    ∙ ap (λ (key : List ℕ). cond (bytes_eq key other) (Some c.args.pc) (place_of old other)) c.in_ok-key.ensures.items
