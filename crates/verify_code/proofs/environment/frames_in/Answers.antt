use Rattle.std.proofs.Common.{◌≡◌, List, ℕ, subst}
use Rattle.std.specs.Prelude.{IfOk}
use Rattle.stack_maps.specs.declared.types.FrameTypes.{FrameTypes}
use Rattle.verify_frames.specs.StackMaps.{mapped}
use Rattle.verify_code.proofs.environment.frames_in.Goals as goal

pub returns : goal.returns
returns g c =
    let w = g.L.Lookups.world c.args.world.now in
    let m = c.args.method.now.info.now in
    let code = c.args.method.now.code.now in
    subst (λ (first : FrameTypes). IfOk c.frames_of.result (λ frames. frames ≡ mapped w m code.max_locals first code.map)) c.in_ok-first.ensures
    (subst (λ (bytes : List ℕ). IfOk c.frames_of.result (λ frames. frames ≡ mapped w m code.max_locals c.in_ok-first.first bytes)) c.deref.ensures c.frames_of.ensures)
