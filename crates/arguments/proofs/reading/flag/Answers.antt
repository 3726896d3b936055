use Rattle.clap.specs.Matches.{found_of}
use Rattle.std.proofs.Common.{◌∙◌}
use Rattle.std.specs.declared.str.ParseBoolError.{ParseBoolError}
use Rattle.arguments.proofs.MatchLaws.{flag_read}
use Rattle.arguments.proofs.reading.flag.Goals as goal

pub returns : goal.returns
returns c = c.unwrap_or.ensures ∙ flag_read ParseBoolError (found_of c.args.matches.now) c.args.id.now c.get_one.result c.get_one.ensures.none c.get_one.ensures.value
