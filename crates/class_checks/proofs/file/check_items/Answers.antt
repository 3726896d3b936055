use Rattle.std.proofs.Common.{ℕ, ◌-◌, List, Ok, Err, Some, ap, sym, ◌∙◌}
use Rattle.std.specs.List.{sum_by}
use Rattle.std.proofs.lemmas.Result.{err_from_is_err_and}
use Rattle.byte_reader.specs.declared.fault.Fault.{Fault}
use Rattle.class_model.specs.declared.constant.Const.{Const}
use Rattle.class_grammar.specs.declared.class_why.ClassWhy.{ClassWhy}
use Rattle.class_grammar.specs.Checks.{fault_of}
use Rattle.class_checks.specs.Sizes.{const_size}
use Rattle.class_checks.proofs.FileLaws.{pool_fault, rest_behind}
use Rattle.class_checks.proofs.file.check_items.Goals as goal

pub returns-in_err-left-clause-fault : goal.returns-in_err-left-clause-fault
returns-in_err-left-clause-fault g c =
    let p = err_from_is_err_and c.from_residual.result c.from_residual.ensures.1 in
    ap fault_of (p.1 ∙ ap (λ (f : Fault ClassWhy). Err f) p.2)
    ∙ ap fault_of (pool_fault c.args.file.now c.args.pool.now c.args.size c.saturating_sub.result c.deref.result.now c.in_err-left.field-0.0 c.requires c.saturating_sub.ensures c.deref.ensures c.in_err-left.ensures.left)

pub returns-in-Ok-clause-fault : goal.returns-in-Ok-clause-fault
returns-in-Ok-clause-fault g c =
    ap fault_of (rest_behind c.args.file.now c.args.pool.now c.args.size c.saturating_sub.result c.in_ok-left.left c.deref.result.now (Ok c.in-Ok.field-0) c.requires c.saturating_sub.ensures c.deref.ensures c.in_ok-left.ensures.left c.in-Ok.ensures.left)

pub returns-in-Err-clause-fault : goal.returns-in-Err-clause-fault
returns-in-Err-clause-fault g c =
    let fault = c.in-Err.fault in
    ap (λ (n : ℕ). Some (record { left = n; why = fault.why })) (c.left_behind_text.ensures.left ∙ ap (λ (cs : List Const). fault.left - sum_by const_size cs) (c.deref-in-Err.ensures ∙ sym c.deref.ensures))
    ∙ ap fault_of (rest_behind c.args.file.now c.args.pool.now c.args.size c.saturating_sub.result c.in_ok-left.left c.deref.result.now (Err fault) c.requires c.saturating_sub.ensures c.deref.ensures c.in_ok-left.ensures.left c.in-Err.ensures.left)
