use Rattle.class_model.specs.declared.constant.Const.TheVariants.{Class}
use Rattle.lib_table.specs.Pool as spec
use Rattle.lib_table.specs.Pool.{placed, text}
use Rattle.lib_table.proofs.Steps.{ends_with}
use Rattle.lib_table.proofs.pool.ConstantPool.class.Goals as goal

pub returns : goal.returns
unfolding spec.class
returns c =
    ends_with (text c.args.name.now c.args.self.now) (λ name. placed (Class name)) _ _ c.place.result c.place.new.self c.in_ok-name.ensures c.place.ensures
