use Rattle.std.proofs.Common.{ℕ, ◌<◌, ◌^◌, ◌∙◌, arith}
use Rattle.gen_load.specs.Made.{class_file}
use Rattle.gen_load.specs.Program as spec
use Rattle.gen_load.specs.Words.{text_of}
use Rattle.gen_load.proofs.Making.{load_assembles, assembled_as, file_is}
use Rattle.gen_load.proofs.classes.load.Goals as goal

pub assembled-requires : goal.assembled-requires
assembled-requires c =
    let n = c.args.count in
    let small : n < 2 ^ 31 = omega (arith, c.requires) in
    assembled_as c.deref.result.now (text_of (spec.load n)) (class_file (spec.load n)) (load_assembles n small) (c.deref.ensures.value ∙ c.in_ok-text.ensures)

pub returns : goal.returns
returns c =
    let n = c.args.count in
    let small : n < 2 ^ 31 = omega (arith, c.requires) in
    file_is c.assembled.result c.deref.result.now (text_of (spec.load n)) (class_file (spec.load n)) (load_assembles n small) (c.deref.ensures.value ∙ c.in_ok-text.ensures) c.assembled.ensures
