use Rattle.std.proofs.Common.{◌≡◌, drop, map}
use Rattle.asm_text.specs.Mnemonics.{named}
use Rattle.asm_text.proofs.keyword.named.Given as goal

abbrev pub invariant-loop-text : goal.invariant-loop-text
invariant-loop-text g l = named (map (λ r. (r.0.now, r.1)) (drop l.text-index l.rows)) l.word ≡ named (map (λ r. (r.0.now, r.1)) l.rows) l.word
