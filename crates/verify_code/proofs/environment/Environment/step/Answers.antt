use Rattle.std.proofs.Common.{◌≡◌, ℕ, List, Option, None, Some, refl, ap, subst, sym, ◌∙◌}
use Rattle.std.specs.Option.{option_map}
use Rattle.verify_types.specs.declared.why.VerifyWhy.TheVariants as whys
use Rattle.verify_types.specs.TypeStates.{TypeState}
use Rattle.verify_types.specs.Environment.{MapFrame, Environment}
use Rattle.verify_types.specs.Walk.{standing}
use Rattle.verify_types.specs.Faults.{pc_fault}
use Rattle.verify_code.specs.declared.walk.Passage.{Passage}
use Rattle.verify_frames.specs.Frames.{stray_frame}
use Rattle.verify_frames.specs.KnownStates.{going}
use Rattle.verify_code.specs.Walks.{IsPassage, entry_of, place}
use Rattle.verify_code.proofs.WalkLaws.{broken_there, stray_there}
use Rattle.verify_code.proofs.environment.Environment.step.Goals as goal

-- the fault of a frame by its pc alone
fault_at : (o : Option MapFrame) → option_map (λ (f : MapFrame). pc_fault f.pc whys.Map) o ≡ option_map (λ pc. pc_fault pc whys.Map) (option_map (λ (f : MapFrame). f.pc) o)
fault_at None = refl
fault_at (Some f) = refl

pub returns-in-Broken-clause-step : goal.returns-in-Broken-clause-step
returns-in-Broken-clause-step g c =
    let env = c.args.self.now in
    let before = going c.args.before in
    let entry = entry_of c.args.is_entry before in
    let At : Option TypeState → Passage → Type 0 = λ s x. IsPassage env (place c.args.i.now c.args.resolution s entry c.args.is_last) x in
    let here = standing env c.args.i.now.pc before in
    let passed = c.in_ok-why.ensures.passage entry c.in_ok-arrival.ensures.fits in
    let known = subst (λ s. At s c.in_ok-why.field-0) c.in_ok-arrival.ensures.state passed in
    broken_there env (place c.args.i.now c.args.resolution here entry c.args.is_last) c.in-Broken.why (subst (At here) c.in-Broken.is known)

pub returns-in-Some-clause-step : goal.returns-in-Some-clause-step
returns-in-Some-clause-step g c =
    let env = c.args.self.now in
    let before = going c.args.before in
    let entry = entry_of c.args.is_entry before in
    let At : Option TypeState → Passage → Type 0 = λ s x. IsPassage env (place c.args.i.now c.args.resolution s entry c.args.is_last) x in
    let here = standing env c.args.i.now.pc before in
    let passed = c.in_ok-why.ensures.passage entry c.in_ok-arrival.ensures.fits in
    let known = subst (λ s. At s c.in_ok-why.field-0) c.in_ok-arrival.ensures.state passed in
    let p = place c.args.i.now c.args.resolution here entry c.args.is_last in
    let on = subst (At here) c.in-On.is known in
    stray_there env p on.none
    ∙ ap (λ (fs : List MapFrame). option_map (λ (f : MapFrame). pc_fault f.pc whys.Map) (stray_frame c.args.i.now.pc c.args.i.now.next c.args.is_last fs))
    (sym (c.self.invariant.are ∙ ap (λ (e : Environment). e.map) c.self.view_is))
    ∙ fault_at (stray_frame c.args.i.now.pc c.args.i.now.next c.args.is_last c.self.inside.frames)
    ∙ ap (λ (o : Option ℕ). option_map (λ pc. pc_fault pc whys.Map) o) (sym c.stray.ensures ∙ c.in-Some.is)

pub returns-in-None-clause-step : goal.returns-in-None-clause-step
returns-in-None-clause-step g c =
    let env = c.args.self.now in
    let before = going c.args.before in
    let entry = entry_of c.args.is_entry before in
    let At : Option TypeState → Passage → Type 0 = λ s x. IsPassage env (place c.args.i.now c.args.resolution s entry c.args.is_last) x in
    let here = standing env c.args.i.now.pc before in
    let passed = c.in_ok-why.ensures.passage entry c.in_ok-arrival.ensures.fits in
    let known = subst (λ s. At s c.in_ok-why.field-0) c.in_ok-arrival.ensures.state passed in
    let p = place c.args.i.now c.args.resolution here entry c.args.is_last in
    let on = subst (At here) c.in-On.is known in
    record {
      none =
          stray_there env p on.none
          ∙ ap (λ (fs : List MapFrame). option_map (λ (f : MapFrame). pc_fault f.pc whys.Map) (stray_frame c.args.i.now.pc c.args.i.now.next c.args.is_last fs))
          (sym (c.self.invariant.are ∙ ap (λ (e : Environment). e.map) c.self.view_is))
          ∙ fault_at (stray_frame c.args.i.now.pc c.args.i.now.next c.args.is_last c.self.inside.frames)
          ∙ ap (λ (o : Option ℕ). option_map (λ pc. pc_fault pc whys.Map) o) (sym c.stray.ensures ∙ c.in-None.is);
      is = on.is;
      holds = on.holds;
    }
