use Rattle.std.proofs.Common.{◌≡◌, ℕ, ◌-◌, List, [], ◌∷◌, map, Option, Ok, Err, ap, ◌∙◌}
use Rattle.class_model.specs.declared.constant.Const.{Const}
use Rattle.class_model.specs.declared.class_file.ClassFile.{ClassFile}
use Rattle.class_grammar.specs.declared.class_why.ClassWhy.{ClassWhy}
use Rattle.class_grammar.specs.Checks.{Item, left_after, u2_item, sound_bytes, flags_fault, class_fault, parent_fault}
use Rattle.class_checks.proofs.ItemLaws.{handed_on, faults_first}
use Rattle.class_checks.proofs.class.check_class.Goals as goal

abbrev wanted : ClassFile → List (Option ClassWhy)
wanted f = flags_fault f.flags ∷ class_fault f.pool f.own ∷ parent_fault f.pool f.own f.parent ∷ []

same : (pool : List Const) (f : ClassFile) (a b c : Option ClassWhy) → pool ≡ f.pool → a ≡ flags_fault f.flags → b ≡ class_fault pool f.own → c ≡ parent_fault pool f.own f.parent → (a ∷ b ∷ c ∷ []) ≡ wanted f
same pool f a b c p x y z =
    let y' : b ≡ class_fault f.pool f.own = y ∙ ap (λ (p : List Const). class_fault p f.own) p in
    let z' : c ≡ parent_fault f.pool f.own f.parent = z ∙ ap (λ (p : List Const). parent_fault p f.own f.parent) p in
    cc

abbrev behind : List Const → List ℕ → List Item
behind pool entries = map (λ index. u2_item (class_fault pool index)) entries

pub returns-in_err-left-clause-left : goal.returns-in_err-left-clause-left
returns-in_err-left-clause-left g c =
    let f = c.args.file.now in
    handed_on c.from_residual.result _ c.in_err-left.field-0.0 c.from_residual.ensures.1
    (faults_first c.args.left _ _ (Err c.in_err-left.field-0.0) (sound_bytes 2 ∷ behind f.pool f.interfaces) c.in_err-left.ensures
    (same c.args.pool.now f _ _ _ c.requires c.flags_fault.ensures c.class_fault.ensures c.parent_fault.ensures.fault))

pub returns-clause-left : goal.returns-clause-left
returns-clause-left g c =
    let f = c.args.file.now in
    c.check_interfaces.ensures
    ∙ ap (λ (n : ℕ). left_after n (behind c.args.pool.now c.deref.result.now)) c.saturating_sub.ensures
    ∙ ap (λ (entries : List ℕ). left_after (c.in_ok-left.left - 2) (behind c.args.pool.now entries)) c.deref.ensures
    ∙ ap (λ (pool : List Const). left_after (c.in_ok-left.left - 2) (behind pool f.interfaces)) c.requires
    ∙ faults_first c.args.left _ _ (Ok c.in_ok-left.left) (sound_bytes 2 ∷ behind f.pool f.interfaces) c.in_ok-left.ensures
    (same c.args.pool.now f _ _ _ c.requires c.flags_fault.ensures c.class_fault.ensures c.parent_fault.ensures.fault)
