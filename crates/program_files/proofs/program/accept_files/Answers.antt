use Rattle.program_files.proofs.LinkLaws.{program_is, accepted_is, world_is, program_in, has_library, not_typed}
use Rattle.program_files.proofs.program.accept_files.Goals as goal

pub returns-clause-accepted : goal.returns-clause-accepted
returns-clause-accepted c =
    let same = program_is c.in_ok-library.library.items c.args.files.items c.in_ok-world.world c.in_ok-library.ensures c.in_ok-world.ensures.found in
    accepted_is c.args.files.items c.in_ok-world.world c.accept_world.result same c.in_ok-world.ensures.linked c.accept_world.ensures.found c.accept_world.ensures.typed

pub returns-clause-world : goal.returns-clause-world
returns-clause-world c =
    let same = program_is c.in_ok-library.library.items c.args.files.items c.in_ok-world.world c.in_ok-library.ensures c.in_ok-world.ensures.found in
    world_is c.args.files.items c.in_ok-world.world c.accept_world.result same c.accept_world.ensures.found

pub returns-clause-program : goal.returns-clause-program
returns-clause-program c =
    let same = program_is c.in_ok-library.library.items c.args.files.items c.in_ok-world.world c.in_ok-library.ensures c.in_ok-world.ensures.found in
    program_in c.args.files.items c.in_ok-world.world c.accept_world.result same c.accept_world.ensures.found

pub returns-clause-library : goal.returns-clause-library
returns-clause-library c = has_library c.args.files.items c.accept_world.result c.requires (returns-clause-program c)

pub returns-clause-refused : goal.returns-clause-refused
returns-clause-refused c =
    let same = program_is c.in_ok-library.library.items c.args.files.items c.in_ok-world.world c.in_ok-library.ensures c.in_ok-world.ensures.found in
    not_typed c.args.files.items c.in_ok-world.world c.accept_world.result same c.in_ok-world.ensures.linked c.accept_world.ensures.refused
