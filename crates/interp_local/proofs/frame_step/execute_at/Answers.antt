use Rattle.std.proofs.Common.{arith}
use Rattle.verify_types.specs.Environment.{Instruction}
use Rattle.interp_local.specs.Runs.{IsAt, frame_of}
use Rattle.interp_local.proofs.FrameSteps.{GoesOn}
use Rattle.interp_local.proofs.LoopLaws.{Next, inside_at, goes_at, used_at, fits_at, leads, next_frame, has_place}
use Rattle.interp_local.proofs.RunLaws.{one_ran}
use Rattle.interp_local.proofs.frame_step.execute_at.Given as given
use Rattle.interp_local.proofs.frame_step.execute_at.Goals as goal
use Rattle.interp_local.proofs.frame_step.execute_at.Goals.{After-at-resolution, After-next_pc-pc}

-- the instruction goes on, from each frame at the index
goes : (g : given.Over) (c : After-at-resolution g) (here : IsAt c.args.p.now c.args.code.now.instrs.now c.args.frame.now c.args.slots.now c.args.used c.args.at)
    → GoesOn c.args.p.now (frame_of c.args.frame.now here.pc c.args.slots.now c.args.used) (record { instr = c.instr_at-instr.result.now; resolution = c.at-resolution.result.now })
goes g c here =
    goes_at c.args.p.now c.args.code.now c.args.frame.now c.args.slots.now c.args.used c.args.at c.instr_at-instr.result.now c.at-resolution.result.now
    c.requires.typed c.requires.code here c.instr_at-instr.ensures c.at-resolution.ensures c.requires.stays

next : (g : given.Over) (c : After-next_pc-pc g) (here : IsAt c.args.p.now c.args.code.now.instrs.now c.args.frame.now c.args.slots.now c.args.used c.args.at)
    → GoesOn c.args.p.now (frame_of c.args.frame.now here.pc c.args.slots.now c.args.used) (record { instr = c.instr_at-instr.result.now; resolution = c.at-resolution.result.now })
    → Next c.args.p.now (frame_of c.args.frame.now here.pc c.args.slots.now c.args.used) (frame_of c.args.frame.now c.next_pc-pc.result c.execute-left.new.slots c.execute-left.result.used)
next g c here on =
    next_frame c.args.p.now (frame_of c.args.frame.now here.pc c.args.slots.now c.args.used) (record { instr = c.instr_at-instr.result.now; resolution = c.at-resolution.result.now })
    on _ c.next_pc-pc.result c.execute-left.ensures c.next_pc-pc.ensures

pub instr_at-instr-requires : goal.instr_at-instr-requires
instr_at-instr-requires g c = inside_at c.args.p.now c.args.code.now c.args.frame.now c.args.slots.now c.args.used c.args.at c.requires.code c.requires.at

pub execute-left-requires : goal.execute-left-requires
execute-left-requires g c =
    let f = c.args.frame.now in
    let slots = c.args.slots.now in
    let i : Instruction = record { instr = c.instr_at-instr.result.now; resolution = c.at-resolution.result.now } in
    record {
      fits = omega (arith, used_at c.args.p.now c.args.code.now.instrs.now f slots c.args.used c.args.at c.requires.typed c.requires.at);
      made = fits_at c.args.p.now f c.requires.at.pc slots c.args.used i (goes g (goal.at.execute-left-requires g c).After-at-resolution c.requires.at) c.requires.fits;
    }

pub next_pc-pc-requires : goal.next_pc-pc-requires
next_pc-pc-requires g c =
    let i : Instruction = record { instr = c.instr_at-instr.result.now; resolution = c.at-resolution.result.now } in
    let on = goes g (goal.at.next_pc-pc-requires g c).After-at-resolution c.requires.at in
    record { pc = on.pc; is = leads c.args.p.now (frame_of c.args.frame.now c.requires.at.pc c.args.slots.now c.args.used) i on _ c.execute-left.ensures }

pub place-requires : goal.place-requires
place-requires g c = record {
  places = c.requires.code.places;
  there = has_place c.args.p.now (frame_of c.args.frame.now c.next_pc-pc.result c.execute-left.new.slots c.execute-left.result.used) c.args.code.now c.requires.code
      (next g (goal.at.place-requires g c).After-next_pc-pc c.requires.at (goes g (goal.at.place-requires g c).After-at-resolution c.requires.at)).stands;
}

pub returns : goal.returns
returns g c = λ here.
    let after = next g (goal.at.returns g c).After-next_pc-pc here (goes g (goal.at.returns g c).After-at-resolution here) in
    record {
      to = record { pc = c.next_pc-pc.result; first = c.place.ensures; stands = after.stands };
      ran = one_ran c.args.p.now (frame_of c.args.frame.now here.pc c.args.slots.now c.args.used) _ after;
    }
