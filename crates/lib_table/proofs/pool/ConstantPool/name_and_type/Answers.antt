use Rattle.class_model.specs.declared.constant.Const.TheVariants.{NameAndType}
use Rattle.lib_table.specs.Pool as spec
use Rattle.lib_table.specs.Pool.{◌then◌, placed, text}
use Rattle.lib_table.proofs.Steps.{ends_with}
use Rattle.lib_table.proofs.pool.ConstantPool.name_and_type.Goals as goal

pub returns : goal.returns
unfolding spec.name_and_type
returns c =
    ends_with (text c.args.name.now c.args.self.now) (λ name pool. text c.args.descriptor.now pool then λ descriptor. placed (NameAndType name descriptor)) _ _ c.place.result c.place.new.self c.in_ok-name.ensures
    (ends_with (text c.args.descriptor.now c.text.new.self) (λ descriptor. placed (NameAndType c.in_ok-name.name descriptor)) _ _ c.place.result c.place.new.self c.in_ok-descriptor.ensures c.place.ensures)
