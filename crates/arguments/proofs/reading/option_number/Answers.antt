use Rattle.std.specs.Str.Parse.{ExplainsUnsignedError, HasUnsignedDigitsIfOk, ParsesUnsigned}
use Rattle.clap.specs.Matches.{found_of}
use Rattle.arguments.specs.Commands.{number_in}
use Rattle.arguments.proofs.MatchLaws.{number_parsed, read_text}
use Rattle.arguments.proofs.reading.option_number.Goals as goal

pub returns : goal.returns
returns c =
    read_text (found_of c.args.matches.now) c.args.id.now number_in c.get_one.result c.get_one.ensures.none
    (λ t e. number_parsed (λ bs r. ParsesUnsigned 32 10 bs r × ExplainsUnsignedError 10 bs r × HasUnsignedDigitsIfOk bs r) t c.get_one.result (c.get_one.ensures.value t e) (λ u r g. g.0))
