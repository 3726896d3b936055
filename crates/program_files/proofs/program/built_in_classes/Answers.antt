use Rattle.program_files.specs.Linking.{built_in}
use Rattle.program_files.proofs.program.built_in_classes.Goals as goal

pub returns : goal.returns
unfolding built_in
returns c = c.classes.ensures.exact
