use Rattle.type_paths.specs.Paths.{path}
use Rattle.type_paths.proofs.SlotLaws.{no_slots}
use Rattle.type_paths.proofs.paths.Paths.slots.Goals as goal

pub returns-in-None : goal.returns-in-None
returns-in-None c = no_slots (path c.args.self.now c.args.n) c.in-None.ensures
