use Rattle.std.proofs.Common.{◌∙◌}
use Rattle.gen_load.specs.Made.{class_file}
use Rattle.gen_load.specs.Program as spec
use Rattle.gen_load.specs.Words.{text_of}
use Rattle.gen_load.proofs.Making.{turn_assembles, assembled_as, file_is}
use Rattle.gen_load.proofs.classes.turn.Goals as goal

pub assembled-requires : goal.assembled-requires
assembled-requires c =
    assembled_as c.as_bytes.result.now (text_of spec.turn) (class_file spec.turn) turn_assembles (c.as_bytes.ensures.value ∙ c.turn_text.ensures)

pub returns : goal.returns
returns c =
    file_is c.assembled.result c.as_bytes.result.now (text_of spec.turn) (class_file spec.turn) turn_assembles (c.as_bytes.ensures.value ∙ c.turn_text.ensures) c.assembled.ensures
