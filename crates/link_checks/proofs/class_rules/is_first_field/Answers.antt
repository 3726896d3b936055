use Rattle.std.proofs.Common.{ℕ, false, Option, List, nat_eq, ap, ◌∙◌}
use Rattle.std.specs.Option.{option_map_or}
use Rattle.class_model.specs.declared.constant.Const.{Const}
use Rattle.link_rules.specs.Members.{Key, index_of}
use Rattle.link_rules.specs.Selection.{key_in}
use Rattle.link_checks.proofs.class_rules.is_first_field.Goals as goal

pub returns-in-Some : goal.returns-in-Some
returns-in-Some c =
    let f = c.args.file.now in
    ap (λ (o : Option ℕ). option_map_or (λ first. nat_eq first c.args.index) o false)
    (c.in-Some.ensures ∙ ap (λ (k : Key). index_of f.pool k f.fields) (c.key_in.ensures ∙ ap (λ (pool : List Const). key_in pool c.args.field.now) c.deref.ensures))

pub returns-in-None : goal.returns-in-None
returns-in-None c =
    let f = c.args.file.now in
    ap (λ (o : Option ℕ). option_map_or (λ first. nat_eq first c.args.index) o false)
    (c.in-None.ensures ∙ ap (λ (k : Key). index_of f.pool k f.fields) (c.key_in.ensures ∙ ap (λ (pool : List Const). key_in pool c.args.field.now) c.deref.ensures))
