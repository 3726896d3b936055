-- What becomes of a thread after its step.
use Rattle.std.proofs.Common.{◌≡◌, ◌⊎◌, inl, inr, ◌||◌, Bool, true, false, not, refl}
use Rattle.machine.specs.declared.after.After.{After}
use Rattle.machine.specs.declared.after.After.TheVariants.{Goes, Leaves, Waits}
use Rattle.machine.specs.Steps.{outcome_of}

pub goes_by : (ended pinned yields goes : Bool) → ended ≡ false → yields ≡ false → goes ≡ true → ◌≡◌ {A = After} Goes (outcome_of ended pinned yields goes)
goes_by true pinned yields goes e f g = absurd cc
goes_by false true yields true e f g = refl
goes_by false true yields false e f g = absurd cc
goes_by false false true goes e f g = absurd cc
goes_by false false false true e f g = refl
goes_by false false false false e f g = absurd cc

pub leaves_by : (pinned yields goes : Bool) → pinned ≡ false → (yields || not goes) ≡ true → ◌≡◌ {A = After} Leaves (outcome_of false pinned yields goes)
leaves_by true yields goes e f = absurd cc
leaves_by false true goes e f = refl
leaves_by false false true e f = absurd cc
leaves_by false false false e f = refl

pub stays_by : (pinned yields goes : Bool) → pinned ≡ true → goes ≡ true → ◌≡◌ {A = After} Goes (outcome_of false pinned yields goes)
stays_by true yields true e f = refl
stays_by true yields false e f = absurd cc
stays_by false yields goes e f = absurd cc

pub waits_by : (pinned yields goes : Bool) → pinned ≡ true → goes ≡ false → ◌≡◌ {A = After} Waits (outcome_of false pinned yields goes)
waits_by true yields true e f = absurd cc
waits_by true yields false e f = refl
waits_by false yields goes e f = absurd cc

-- it yielded, or doesn't go on
pub yields_or_stops : (yields goes : Bool) → ((goes ≡ true) × (yields ≡ true)) ⊎ (goes ≡ false) → (yields || not goes) ≡ true
yields_or_stops true goes e = refl
yields_or_stops false true (inl e) = absurd (let no = e.1 in cc)
yields_or_stops false true (inr e) = absurd cc
yields_or_stops false false e = refl
