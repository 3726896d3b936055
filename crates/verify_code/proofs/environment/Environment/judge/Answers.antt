use Rattle.std.proofs.Common.{◌≡◌, Bool, true, Ok, Option, ap, subst, sym, ◌∙◌}
use Rattle.std.specs.Prelude.{not}
use Rattle.verify_types.specs.declared.why.VerifyWhy.{VerifyWhy}
use Rattle.items.specs.First.{first_some}
use Rattle.verify_types.specs.Faults.{is_shallow, is_why}
use Rattle.verify_code.specs.declared.findings.Findings.{Findings}
use Rattle.verify_code.specs.Findings.{instruction_of, findings_whys}
use Rattle.verify_frames.specs.KnownStates.{type_state}
use Rattle.verify_code.specs.Walks.{IsAfter}
use Rattle.verify_code.proofs.WalkLaws.{broken, typed}
use Rattle.verify_code.proofs.environment.Environment.judge.Goals as goal

pub returns-in-Broken : goal.returns-in-Broken
returns-in-Broken g c = λ entry arrived.
    let env = c.args.self.now in
    let s = type_state c.args.s in
    let why = c.in-Broken.why in
    broken env c.args.i.now c.args.resolution entry c.args.is_last c.args.fits s why c.why_broken.result
    (subst (IsAfter env (instruction_of c.args.i.now c.args.resolution) s) c.in-Broken.is c.in_ok-why.ensures)
    arrived
    (c.why_broken.ensures ∙ ap (λ (f : Findings). first_some (findings_whys f (λ rule. not (is_why rule why)) true true)) c.findings-findings.ensures)

answered : (findings wanted : Findings) (fits on shallow no_deeper : Bool) (why : Option VerifyWhy) → why ≡ first_some (findings_whys findings (λ rule. true) fits shallow)
    → findings ≡ wanted → fits ≡ on → shallow ≡ no_deeper → why ≡ first_some (findings_whys wanted (λ rule. true) on no_deeper)
answered findings wanted fits on shallow no_deeper why e found fit deep = rw (sym found, sym fit, sym deep) e

pub returns-in-Some : goal.returns-in-Some
returns-in-Some g c = λ entry arrived.
    let env = c.args.self.now in
    let s = type_state c.args.s in
    let after = subst (IsAfter env (instruction_of c.args.i.now c.args.resolution) s) c.in-Typed.is c.in_ok-why.ensures in
    typed env c.args.i.now c.args.resolution entry c.args.is_last c.args.fits s (type_state c.in-Typed.after) c.why.result
    after.0
    arrived
    (answered c.findings-findings.result _ c.in_ok-compared-in-Typed.compared.fits _ c.is_shallow-is_shallow.result _ c.why.result c.why.ensures c.findings-findings.ensures c.in_ok-compared-in-Typed.ensures.fits
    (c.is_shallow-is_shallow.ensures ∙ ap (λ t. is_shallow env t) c.in_ok-compared-in-Typed.ensures.same))
    ∙ c.in-Some.is

pub returns-in-None : goal.returns-in-None
returns-in-None g c = λ entry arrived.
    let env = c.args.self.now in
    let s = type_state c.args.s in
    let after = subst (IsAfter env (instruction_of c.args.i.now c.args.resolution) s) c.in-Typed.is c.in_ok-why.ensures in
    record {
      none =
          typed env c.args.i.now c.args.resolution entry c.args.is_last c.args.fits s (type_state c.in-Typed.after) c.why.result after.0 arrived
          (answered c.findings-findings.result _ c.in_ok-compared-in-Typed.compared.fits _ c.is_shallow-is_shallow.result _ c.why.result c.why.ensures c.findings-findings.ensures c.in_ok-compared-in-Typed.ensures.fits
          (c.is_shallow-is_shallow.ensures ∙ ap (λ t. is_shallow env t) c.in_ok-compared-in-Typed.ensures.same))
          ∙ c.in-None.is;
      is = after.0 ∙ ap (λ t. Ok t) (sym c.in_ok-compared-in-Typed.ensures.same);
      holds = c.in_ok-compared-in-Typed.ensures.holds;
    }
