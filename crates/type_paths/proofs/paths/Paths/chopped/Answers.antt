use Rattle.std.proofs.Common.{◌≡◌, ℕ, subst, arith}
use Rattle.std.specs.Prelude.{drop}
use Rattle.type_paths.specs.Paths.{IsPath}
use Rattle.type_paths.proofs.PathLaws.{drop_more}
use Rattle.type_paths.proofs.paths.Paths.chopped.Goals as goal

pub loop-preserved : goal.loop-preserved
loop-preserved c = λ p h.
    subst (IsPath c.args.self.now c.below-node.result) (drop_more c.loop.counter p) (c.below-node.ensures.node (drop c.loop.counter p) (c.loop.invariant p h))

pub returns : goal.returns
returns c = λ p h.
    let all : c.loop.counter ≡ c.args.dropped = omega (arith, c.loop-test.false, c.loop.auto.counter-end) in
    subst (λ (n : ℕ). IsPath c.args.self.now c.loop.node (drop n p)) all (c.loop.invariant p h)
