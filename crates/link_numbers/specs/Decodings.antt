-- The instructions of methods, by their decoded codes.
use Rattle.std.specs.Prelude.{List, [], Option}
use Rattle.std.specs.Option.{option_map_or}
use Rattle.std.specs.List.{flat_map}
use Rattle.class_model.specs.declared.constant.Const.{Const}
use Rattle.descriptors.specs.declared.kind.Kind.{Kind}
use Rattle.opcodes.specs.declared.op.Instr.{Instr}
use Rattle.link_model.specs.declared.members.MethodCode.{MethodCode}
use Rattle.link_model.specs.Numbering.{kinds_in_instr}

-- the instructions of a code; none where there is none
abbrev pub instrs_in : Option MethodCode → List Instr
instrs_in code = option_map_or (λ (c : MethodCode). c.code) code []

-- the arrays that the instructions make
abbrev pub kinds_in : List Const → Option MethodCode → List Kind
kinds_in pool code = flat_map (kinds_in_instr pool) (instrs_in code)
