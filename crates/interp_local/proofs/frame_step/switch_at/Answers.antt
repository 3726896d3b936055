use Rattle.std.proofs.Common.{ℤ, ◌-◌, subst, sym, arith, rules}
use Rattle.std.specs.Int.{w64}
use Rattle.std.proofs.lemmas.Int.{to_z-of_z}
use Rattle.interp_local.specs.FrameRows.{SwitchesTo}
use Rattle.interp_local.specs.Runs.{IsAt, frame_of}
use Rattle.interp_local.proofs.LoopLaws.{Next, inside_at, used_at, leads, next_frame, has_place}
use Rattle.interp_local.proofs.RunLaws.{one_ran}
use Rattle.interp_local.proofs.SwitchLaws.{instruction_with, switch_goes, switch_row, switch_there}
use Rattle.interp_local.proofs.frame_step.switch_at.Given as given
use Rattle.interp_local.proofs.frame_step.switch_at.Goals as goal
use Rattle.interp_local.proofs.frame_step.switch_at.Goals.{After-next_pc-pc}

next : (g : given.Over) (c : After-next_pc-pc g) (here : IsAt c.args.p.now c.args.code.now.instrs.now c.args.frame.now c.args.slots.now c.args.used c.args.at)
    → Next c.args.p.now (frame_of c.args.frame.now here.pc c.args.slots.now c.args.used) (frame_of c.args.frame.now c.next_pc-pc.result c.args.slots.now (c.args.used - 1))
next g c here =
    let w = c.args.p.now in
    let code = c.args.code.now in
    let f = c.args.frame.now in
    let slots = c.args.slots.now in
    let x = c.instr_at-instr.result.now in
    let goes = subst (λ (t : ℤ). SwitchesTo x.op slots f.locals c.args.used t) (sym (to_z-of_z w64 c.in-Some.target (search rules))) c.in-Some.ensures in
    let on = switch_goes w code f slots c.args.used c.args.at x _ c.requires.typed c.requires.code here c.instr_at-instr.ensures goes in
    next_frame w (frame_of f here.pc slots c.args.used) (instruction_with code c.args.at x) on _ c.next_pc-pc.result
    (switch_row x.op _ slots f.locals c.args.used _ goes) c.next_pc-pc.ensures

pub instr_at-instr-requires : goal.instr_at-instr-requires
instr_at-instr-requires g c = inside_at c.args.p.now c.args.code.now c.args.frame.now c.args.slots.now c.args.used c.args.at c.requires.code c.requires.at

pub switch_target-requires : goal.switch_target-requires
switch_target-requires g c =
    let w = c.args.p.now in
    let code = c.args.code.now in
    let f = c.args.frame.now in
    let slots = c.args.slots.now in
    record {
      fits = omega (arith, used_at w code.instrs.now f slots c.args.used c.args.at c.requires.typed c.requires.at);
      operands = switch_there w code f slots c.args.used c.args.at c.instr_at-instr.result.now c.requires.typed c.requires.code c.requires.at c.instr_at-instr.ensures;
    }

pub next_pc-pc-requires : goal.next_pc-pc-requires
next_pc-pc-requires g c =
    let w = c.args.p.now in
    let code = c.args.code.now in
    let f = c.args.frame.now in
    let slots = c.args.slots.now in
    let x = c.instr_at-instr.result.now in
    let here = c.requires.at in
    let goes = subst (λ (t : ℤ). SwitchesTo x.op slots f.locals c.args.used t) (sym (to_z-of_z w64 c.in-Some.target (search rules))) c.in-Some.ensures in
    let on = switch_goes w code f slots c.args.used c.args.at x _ c.requires.typed c.requires.code here c.instr_at-instr.ensures goes in
    record {
      pc = on.pc;
      is = leads w (frame_of f here.pc slots c.args.used) (instruction_with code c.args.at x) on _ (switch_row x.op _ slots f.locals c.args.used _ goes);
    }

pub place-requires : goal.place-requires
place-requires g c = record {
  places = c.requires.code.places;
  there = has_place c.args.p.now (frame_of c.args.frame.now c.next_pc-pc.result c.args.slots.now (c.args.used - 1)) c.args.code.now c.requires.code
      (next g (goal.at.place-requires g c).After-next_pc-pc c.requires.at).stands;
}

pub returns-in-Some : goal.returns-in-Some
returns-in-Some g c = λ here.
    let after = next g (goal.at.returns-in-Some g c).After-next_pc-pc here in
    record {
      to = record { pc = c.next_pc-pc.result; first = c.place.ensures; stands = after.stands };
      ran = one_ran c.args.p.now (frame_of c.args.frame.now here.pc c.args.slots.now c.args.used) _ after;
    }
