-- What a carrier answers whose thread is pinned and can't go on.
use Rattle.std.proofs.Common.{◌≡◌, ℕ, true, false, Option, refl, ap, sym, ◌∙◌, subst}
use Rattle.machine.specs.Machines.{Known}
use Rattle.carrier_turns.specs.declared.ask.Ask.TheVariants.{Nothing}
use Rattle.carrier_turns.specs.declared.ask.Turn.{Turn}
use Rattle.carrier_turns.specs.declared.ask.Turn.TheVariants.{Run, Nap, Over}
use Rattle.carrier_turns.specs.Turns.{IsNap, is_over}
use Rattle.carrier_turns.specs.Steps.{AnswersUnlessStalled, NapsUnlessStalled, looks_over, looks_stalled, looks_starved, looks_on, naps_over, naps_on}

over_is : (r : Turn) → is_over r ≡ true → r ≡ Over
over_is (Run ask) e = absurd cc
over_is (Nap until) e = absurd cc
over_is Over e = refl

not_over : (r : Turn) → r ≡ Over → is_over r ≡ false → ⊥
not_over r is f = absurd (let e = sym f ∙ ap is_over is in cc)

pub over_after : (old new : Known) (now : ℕ) (r : Turn) → AnswersUnlessStalled old new Nothing r → is_over r ≡ true → NapsUnlessStalled old new now Over
over_after old new now r look over = naps_over (subst (AnswersUnlessStalled old new Nothing) (over_is r over) look) refl

pub naps_after : (old new : Known) (now : ℕ) (r : Turn) (nanos : Option ℕ) → AnswersUnlessStalled old new Nothing r → is_over r ≡ false → IsNap new now nanos
    → NapsUnlessStalled old new now (Nap nanos)
naps_after old new now r nanos (looks_over ended same is) on nap = absurd (not_over r is on)
naps_after old new now r nanos (looks_stalled none same is) on nap = absurd (not_over r is on)
naps_after old new now r nanos (looks_starved none same is) on nap = absurd (not_over r is on)
naps_after old new now r nanos (looks_on none not fed same is) on nap = naps_on nanos (looks_on none not fed same refl) nap refl
