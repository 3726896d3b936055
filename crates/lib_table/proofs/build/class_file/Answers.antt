use Rattle.std.proofs.Common.{List, ℕ, ap, ◌∙◌}
use Rattle.class_model.specs.declared.attribute.Attribute.{Attribute}
use Rattle.class_model.specs.declared.class_file.ClassFile.{ClassFile}
use Rattle.class_model.specs.declared.constant.Const.{Const}
use Rattle.class_model.specs.declared.member.Member.{Member}
use Rattle.lib_table.specs.Declarations.{Class, class_of}
use Rattle.lib_table.specs.Pool as pools
use Rattle.lib_table.specs.Pool.{◌then◌}
use Rattle.lib_table.specs.Build as spec
use Rattle.lib_table.proofs.Steps.{after_step}
use Rattle.lib_table.proofs.build.class_file.Goals as goal

-- what comes after each step
abbrev behind_methods : Class → ℕ → ℕ → List ℕ → List Member → List Member → List Const → ClassFile × List Const
behind_methods d own parent interfaces fields methods pool = (spec.file d.flags own parent interfaces fields methods pool, pool)

abbrev behind_fields : Class → ℕ → ℕ → List ℕ → List Member → List Const → ClassFile × List Const
behind_fields d own parent interfaces fields pool = spec.all spec.method d.methods pool then behind_methods d own parent interfaces fields

abbrev behind_interfaces : Class → ℕ → ℕ → List ℕ → List Const → ClassFile × List Const
behind_interfaces d own parent interfaces pool = spec.all spec.field d.fields pool then behind_fields d own parent interfaces

abbrev behind_parent : Class → ℕ → ℕ → List Const → ClassFile × List Const
behind_parent d own parent pool = spec.all pools.class d.interfaces pool then behind_interfaces d own parent

abbrev behind_own : Class → ℕ → List Const → ClassFile × List Const
behind_own d own pool = spec.parent d.parent pool then behind_parent d own

pub returns : goal.returns
unfolding spec.class_file
returns c =
    let d = class_of c.args.class.now in
    let made : List Const → List Attribute → ClassFile = λ pool attributes. record (spec.file d.flags c.in_ok-own.own c.in_ok-parent.parent c.in_ok-interfaces.interfaces c.in_ok-fields.fields c.in_ok-methods.methods pool) { attributes = attributes } in
    ap (λ pool. made pool c.new-2.result) c.into_entries.ensures
    ∙ ap (λ attributes. made c.methods.new.pool attributes) c.new-2.ensures
    ∙ ap (λ (y : ClassFile × List Const). y.0)
    (after_step (spec.all spec.method d.methods c.fields.new.pool) (behind_methods d c.in_ok-own.own c.in_ok-parent.parent c.in_ok-interfaces.interfaces c.in_ok-fields.fields) _ _ c.in_ok-methods.ensures
    ∙ after_step (spec.all spec.field d.fields c.interfaces.new.pool) (behind_fields d c.in_ok-own.own c.in_ok-parent.parent c.in_ok-interfaces.interfaces) _ _ c.in_ok-fields.ensures
    ∙ after_step (spec.all pools.class d.interfaces c.parent.new.pool) (behind_interfaces d c.in_ok-own.own c.in_ok-parent.parent) _ _ c.in_ok-interfaces.ensures
    ∙ after_step (spec.parent d.parent c.class.new.self) (behind_parent d c.in_ok-own.own) _ _ c.in_ok-parent.ensures
    ∙ after_step (pools.class d.name c.in_ok-pool.pool) (behind_own d) _ _ c.in_ok-own.ensures)
    ∙ ap (λ pool. (spec.class d pool).0) c.in_ok-pool.ensures
