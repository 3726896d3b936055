use Rattle.std.proofs.Common.{◌≡◌, ℕ, sym, ap, subst, ◌∙◌}
use Rattle.std.specs.Option.{is_none}
use Rattle.descriptors.specs.Refusal.{IsMethod, IsFirstBad}
use Rattle.descriptors.proofs.FirstBad.{no_member}
use Rattle.descriptors.proofs.MeaningLaws.{one_signature, signature_meant}
use Rattle.descriptors.proofs.StateLaws.{method_bad, method_text}
use Rattle.descriptors.proofs.methods.method_kind_counted.Goals as goal

pub returns-in-Some-clause-only : goal.returns-in-Some-clause-only
returns-in-Some-clause-only g c = λ s fit e. absurd (no_member IsMethod c.args.units.now c.in-Some.at (method_bad c.args.units.now c.in-Some.at (sym c.in-Some.ensures.first)) (s, fit, e))

pub returns-in-Some-clause-bad : goal.returns-in-Some-clause-bad
returns-in-Some-clause-bad g c = λ at e.
    let same : c.in-Some.at ≡ at = cc in
    subst (λ (n : ℕ). IsFirstBad IsMethod c.args.units.now n) same (method_bad c.args.units.now c.in-Some.at (sym c.in-Some.ensures.first))

pub signature_of-requires : goal.signature_of-requires
signature_of-requires g c = method_text c.args.units.now (sym c.in_default.ensures.first)

pub returns-clause-only : goal.returns-clause-only
returns-clause-only g c = λ s fit e. let found = c.in_ok-signature_of.ensures in one_signature c.in_ok-signature_of.field-0 s found.0 fit (sym found.1 ∙ e)

pub returns-clause-value : goal.returns-clause-value
returns-clause-value g c =
    let found = c.in_ok-signature_of.ensures in
    signature_meant c.args.units.now c.in_ok-signature_of.field-0 (ap is_none (sym c.in_default.ensures.first)) found.0 found.1

pub returns-in-Some-clause-none : goal.returns-in-Some-clause-none
returns-in-Some-clause-none g c = λ at e. ap is_none (sym c.in-Some.ensures.first)
