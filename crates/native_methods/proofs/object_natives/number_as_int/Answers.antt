use Rattle.std.proofs.Common.{◌∙◌, ◌<◌, ◌^◌, to_z-of_z, rules}
use Rattle.std.specs.Prelude.{FitsSigned}
use Rattle.std.specs.Int.{w32}
use Rattle.native_methods.proofs.NumberLaws.{number_wraps}
use Rattle.native_methods.proofs.object_natives.number_as_int.Goals as goal

pub returns : goal.returns
returns c =
    let fits : FitsSigned w32 c.cast_signed.result = search rules in
    let small : c.args.o < 2 ^ 32 = search rules in
    to_z-of_z fits ∙ c.cast_signed.ensures ∙ number_wraps c.args.o small
