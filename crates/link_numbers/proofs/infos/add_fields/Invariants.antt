use Rattle.std.proofs.Common.{◌≡◌, ◌++◌, map, take}
use Rattle.link_model.specs.Infos.{field_info}
use Rattle.link_numbers.proofs.infos.add_fields.Given as goal

abbrev pub invariant-loop-field : goal.invariant-loop-field
invariant-loop-field l = l.fields.items ≡ l.fn.fields.items ++ map (field_info l.class l.file.pool) (take l.field-index l.file.fields)
