use Rattle.arguments.specs.Meanings.{gen_meaning}
use Rattle.java_cli.proofs.AnswerLaws.{refused_headline, refused_out}
use Rattle.java_cli.proofs.GenLaws.{gen_refusal, kept_gen, ran_generated, run_gen}
use Rattle.java_cli.proofs.generated.run_generated.Goals as goal

pub returns-in-Ok-clause-headline : goal.returns-in-Ok-clause-headline
returns-in-Ok-clause-headline g c = ran_generated (gen_meaning c.args.command.now) _ _ _ _ c.run_checked.result c.in-Ok.runnable c.run_limits.result c.in-Ok.ensures.made c.run_limits.ensures c.run_checked.ensures.headline

pub returns-in-Ok-clause-exact : goal.returns-in-Ok-clause-exact
returns-in-Ok-clause-exact g c = run_gen c.args.command.now.count c.in-Ok.runnable c.run_checked.result.why c.in-Ok.ensures.made c.run_checked.ensures.answer

pub returns-in-Err-clause-headline : goal.returns-in-Err-clause-headline
returns-in-Err-clause-headline g c = refused_headline _ _ c.refuse.result.why c.refuse.ensures.why (gen_refusal c.args.command.now.count _ c.in-Err.ensures.refusal)

pub returns-in-Err-clause-exact : goal.returns-in-Err-clause-exact
returns-in-Err-clause-exact g c = kept_gen c.args.command.now.count _ c.refuse.result.why c.refuse.ensures.why c.in-Err.ensures.refusal

pub returns-in-Err-clause-out_faults : goal.returns-in-Err-clause-out_faults
returns-in-Err-clause-out_faults g c = refused_out _ c.refuse.result.why _ c.refuse.ensures.why (gen_refusal c.args.command.now.count _ c.in-Err.ensures.refusal)
