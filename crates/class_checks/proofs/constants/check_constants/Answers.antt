use Rattle.std.proofs.Common.{ℕ, ◌-◌, List, Err, ap, ◌∙◌, arith}
use Rattle.std.specs.List.{sum_by}
use Rattle.std.proofs.lemmas.List.Sums.{sum_by-take-le}
use Rattle.class_model.specs.declared.constant.Const.{Const}
use Rattle.class_checks.specs.Costs.{adding}
use Rattle.class_checks.specs.Sizes.{const_size}
use Rattle.class_checks.proofs.ItemLaws.{constants_on, constants_bad}
use Rattle.class_checks.proofs.constants.check_constants.Goals as goal

pub returns-in-Err-clause-left : goal.returns-in-Err-clause-left
returns-in-Err-clause-left g c =
    let fault = c.in-Err.fault in
    ap (λ (n : ℕ). Err (record { left = n; why = fault.why })) (c.left_behind_text.ensures.left ∙ ap (λ (cs : List Const). fault.left - sum_by const_size cs) c.split_at.ensures.front)
    ∙ constants_bad c.args.pool.now c.args.constants.now c.loop-index.index c.index-constants-index.result c.loop-index.left fault _ c.loop-index-test.true c.index-constants-index.is c.in-Err.ensures c.loop-index.invariant.left

pub returns-in-Err-clause-cost : goal.returns-in-Err-clause-cost
returns-in-Err-clause-cost g c =
    omega (arith, c.left_behind_text.ensures.cost, ap (sum_by adding) c.split_at.ensures.front, sum_by-take-le adding c.args.constants.now c.loop-index.index, c.loop-index.invariant.spent)

pub loop-index-preserved : goal.loop-index-preserved
loop-index-preserved g c = record {
  left = constants_on c.args.pool.now c.args.constants.now c.loop-index.index c.index-constants-index.result c.loop-index.left c.in-Ok.after _ c.loop-index-test.true c.index-constants-index.is c.in-Ok.ensures c.loop-index.invariant.left;
  spent = c.loop-index.invariant.spent;
}
