use Rattle.std.proofs.Common.{◌≡◌, Some, None, sym, ap, subst, ◌∙◌}
use Rattle.asm_pool.specs.Keys.{key_of}
use Rattle.asm_pool.specs.Places.{at_text, Mentions}
use Rattle.asm_pool.proofs.PoolLaws.{mention_found, mention_new}
use Rattle.asm_pool.proofs.pool.Pool.mention.Goals as goal

pub returns-in-Some : goal.returns-in-Some
returns-in-Some c =
    let p = c.args.self.now in
    let key_is = c.as_slice.ensures.value ∙ c.in_ok-key.ensures in
    let found : at_text p.places (key_of c.args.constant) ≡ Some c.in-Some.index = ap (at_text p.places) (sym key_is) ∙ sym c.get.ensures.value ∙ sym c.in-Some.ensures in
    (mention_found p c.args.constant c.requires.pool c.in-Some.index c.requires.some found, c.requires.pool)

pub returns-in-None : goal.returns-in-None
returns-in-None c =
    let p = c.args.self.now in
    let key_is = c.as_slice.ensures.value ∙ c.in_ok-key.ensures in
    let free : at_text p.places (key_of c.args.constant) ≡ None = ap (at_text p.places) (sym key_is) ∙ sym c.get.ensures.value ∙ sym c.in-None.ensures in
    subst (λ m. Mentions c.add.result c.add.new.self m) (mention_new p c.args.constant c.requires.pool c.requires.some free) c.add.ensures
