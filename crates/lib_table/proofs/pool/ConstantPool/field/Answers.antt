use Rattle.class_model.specs.declared.constant.Const.TheVariants.{Fieldref}
use Rattle.lib_table.specs.Pool as spec
use Rattle.lib_table.specs.Pool.{◌then◌, placed, class, name_and_type}
use Rattle.lib_table.proofs.Steps.{ends_with}
use Rattle.lib_table.proofs.pool.ConstantPool.field.Goals as goal

pub returns : goal.returns
unfolding spec.field
returns c =
    ends_with (class c.args.class.now c.args.self.now) (λ owner pool. name_and_type c.args.name.now c.args.descriptor.now pool then λ member. placed (Fieldref owner member)) _ _ c.place.result c.place.new.self c.in_ok-class.ensures
    (ends_with (name_and_type c.args.name.now c.args.descriptor.now c.class.new.self) (λ member. placed (Fieldref c.in_ok-class.class member)) _ _ c.place.result c.place.new.self c.in_ok-member.ensures c.place.ensures)
