use Rattle.std.proofs.Common.{◌≡◌, [], ◌∷◌, Err}
use Rattle.class_grammar.specs.declared.class_why.ClassWhy.TheVariants.{Name, Descriptor}
use Rattle.descriptors.specs.States.{is_method}
use Rattle.class_grammar.specs.Names.{is_method_name}
use Rattle.class_grammar.specs.Checks.{code_fault, text_fault, attributes_items}
use Rattle.class_checks.proofs.ItemLaws.{handed_on, faults_first}
use Rattle.class_checks.proofs.members.check_method.Goals as goal

pub returns-in_err-left : goal.returns-in_err-left
returns-in_err-left c =
    let m = c.args.method.now in
    let pool = c.args.pool.now in
    let same : (c.code_fault.result ∷ c.method_name_fault.result ∷ c.method_descriptor_fault.result ∷ [])
    ≡ (code_fault m ∷ text_fault is_method_name Name pool m.name ∷ text_fault is_method Descriptor pool m.descriptor ∷ []) = cc in
    handed_on c.from_residual.result _ c.in_err-left.field-0.0 c.from_residual.ensures.1
    (faults_first c.args.left _ _ (Err c.in_err-left.field-0.0) (attributes_items pool m) c.in_err-left.ensures same)
