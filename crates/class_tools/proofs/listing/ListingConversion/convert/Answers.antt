use Rattle.std.proofs.Common.{Err, refl, subst}
use Rattle.jasm.specs.Lists.{Lists}
use Rattle.class_tools.proofs.ExactLaws.{bad_kind, bad_makes}
use Rattle.class_tools.proofs.listing.ListingConversion.convert.Goals as goal

pub returns-in_err-class-clause-made : goal.returns-in_err-class-clause-made
returns-in_err-class-clause-made c = bad_makes c.args.bytes.now c.from_residual.result c.in_err-class.field-0.0 c.from_residual.ensures.1 c.in_err-class.ensures.bad

pub returns-in_err-class-clause-kind : goal.returns-in_err-class-clause-kind
returns-in_err-class-clause-kind c = bad_kind c.args.bytes.now c.from_residual.result c.in_err-class.field-0.0 c.from_residual.ensures.1 c.in_err-class.ensures.bad

pub returns-in-Ok-clause-made : goal.returns-in-Ok-clause-made
returns-in-Ok-clause-made c = (c.in_ok-class.class, c.in_ok-class.ensures.found.spelled, c.in-Ok.ensures.0, c.in-Ok.ensures.1)

pub returns-in-Err-Unlisted-clause-made : goal.returns-in-Err-Unlisted-clause-made
returns-in-Err-Unlisted-clause-made c =
    (refl, (c.in_ok-class.class, c.in_ok-class.ensures.found.spelled, subst (λ e. Lists (Err e) c.in_ok-class.class) c.in-Err-Unlisted.field-0-is c.in-Err-Unlisted.ensures))
