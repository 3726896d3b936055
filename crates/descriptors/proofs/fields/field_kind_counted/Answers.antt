use Rattle.std.proofs.Common.{◌≡◌, ℕ, sym, ap, subst, ◌∙◌}
use Rattle.std.specs.Option.{is_none}
use Rattle.descriptors.specs.Refusal.{IsField, IsFirstBad}
use Rattle.descriptors.proofs.FirstBad.{no_member}
use Rattle.descriptors.proofs.FrontKind.{field_front, kind_alone}
use Rattle.descriptors.proofs.MeaningLaws.{kind_meant, one_kind}
use Rattle.descriptors.proofs.StateLaws.{field_bad, field_text}
use Rattle.descriptors.proofs.fields.field_kind_counted.Goals as goal

pub returns-in-Some-clause-only : goal.returns-in-Some-clause-only
returns-in-Some-clause-only g c = λ kind fit e. absurd (no_member IsField c.args.units.now c.in-Some.at (field_bad c.args.units.now c.in-Some.at (sym c.in-Some.ensures.first)) (kind, fit, e))

pub returns-in-Some-clause-bad : goal.returns-in-Some-clause-bad
returns-in-Some-clause-bad g c = λ at e.
    let same : c.in-Some.at ≡ at = cc in
    subst (λ (n : ℕ). IsFirstBad IsField c.args.units.now n) same (field_bad c.args.units.now c.in-Some.at (sym c.in-Some.ensures.first))

pub kind_at-requires : goal.kind_at-requires
kind_at-requires g c = field_front c.args.units.now (field_text c.args.units.now (sym c.in_default.ensures.first))

pub returns-clause-found : goal.returns-clause-found
returns-clause-found g c = let found = c.in_ok-kind.ensures in (found.0, kind_alone c.args.units.now _ _ (field_text c.args.units.now (sym c.in_default.ensures.first)) found.0 found.1)

pub returns-clause-only : goal.returns-clause-only
returns-clause-only g c = λ kind fit e.
    let found = c.in_ok-kind.ensures in
    one_kind c.in_ok-kind.kind kind (sym (kind_alone c.args.units.now _ _ (kind, fit, e) found.0 found.1) ∙ e)

pub returns-clause-value : goal.returns-clause-value
returns-clause-value g c =
    let found = c.in_ok-kind.ensures in
    kind_meant c.args.units.now c.in_ok-kind.kind (ap is_none (sym c.in_default.ensures.first))
    (kind_alone c.args.units.now _ _ (field_text c.args.units.now (sym c.in_default.ensures.first)) found.0 found.1)

pub returns-in-Some-clause-none : goal.returns-in-Some-clause-none
returns-in-Some-clause-none g c = λ at e. ap is_none (sym c.in-Some.ensures.first)
