use Rattle.interp_local.proofs.QuickCodeLaws.{first_pc}
use Rattle.interp_local.proofs.frame_step.pc_at.Goals as goal

pub returns : goal.returns
returns c = λ pc first. first_pc c.args.code.now pc c.args.at c.index-code-at.result first
