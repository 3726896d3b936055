use Rattle.link_model.specs.Worlds.{world_of}
use Rattle.program_files.proofs.StartLaws.{main_is}
use Rattle.program_files.proofs.program.main_of.Goals as goal

pub returns-clause-main : goal.returns-clause-main
returns-clause-main c = main_is (world_of c.args.world.now) c.args.name.now c.main_of.result c.linked_worlds_open.ensures.main c.main_of.ensures
