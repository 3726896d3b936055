use Rattle.std.proofs.Common.{◌∙◌, refl, sym, arith}
use Rattle.link_model.specs.Resolutions.{meanings}
use Rattle.verify_types.specs.Environment.{Instruction}
use Rattle.interp_local.specs.Places.{resolution_at}
use Rattle.interp_local.specs.Runs.{frame_of}
use Rattle.interp_local.proofs.FrameSteps.{operands_there}
use Rattle.interp_local.proofs.LoopLaws.{inside_at, fetched_at, used_at, stays_there}
use Rattle.interp_local.proofs.frame_step.stays_at.Goals as goal

pub instr_at-instr-requires : goal.instr_at-instr-requires
instr_at-instr-requires g c = inside_at c.args.p.now c.args.code.now c.args.frame.now c.args.slots.now c.args.used c.args.at c.requires.code c.requires.at

pub does_stay-requires : goal.does_stay-requires
does_stay-requires g c =
    let w = c.args.p.now in
    let code = c.args.code.now in
    let f = c.args.frame.now in
    let slots = c.args.slots.now in
    let here = c.requires.at in
    let i : Instruction = record { instr = c.instr_at-instr.result.now; resolution = resolution_at (meanings code.resolutions) c.args.at } in
    let e = fetched_at w code f slots c.args.used c.args.at i.instr i.resolution c.requires.code here c.instr_at-instr.ensures refl in
    record {
      fits = omega (arith, used_at w code.instrs.now f slots c.args.used c.args.at c.requires.typed here);
      operands = operands_there w f.method f.room here.pc slots f.locals c.args.used i c.requires.typed here.stands e;
    }

pub returns : goal.returns
returns g c = λ here.
    let w = c.args.p.now in
    let code = c.args.code.now in
    let i : Instruction = record { instr = c.instr_at-instr.result.now; resolution = resolution_at (meanings code.resolutions) c.args.at } in
    let e = fetched_at w code c.args.frame.now c.args.slots.now c.args.used c.args.at i.instr i.resolution c.requires.code here c.instr_at-instr.ensures refl in
    stays_there w (frame_of c.args.frame.now here.pc c.args.slots.now c.args.used) i e ∙ sym c.does_stay.ensures
