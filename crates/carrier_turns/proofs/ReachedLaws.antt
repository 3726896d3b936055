-- A turn whose time is reached.
use Rattle.std.proofs.Common.{◌≡◌, ◌≤◌, ℕ, true, sym, subst}
use Rattle.machine.specs.Clocks.{IsBefore}
use Rattle.machine.specs.Legal.{IsLegal}
use Rattle.machine.specs.Machines.{Known}
use Rattle.carrier_turns.specs.Acts.{IsAct}
use Rattle.carrier_turns.specs.declared.ask.Turn.{Turn}
use Rattle.carrier_turns.specs.declared.hand.Hand.{Hand}
use Rattle.carrier_turns.specs.Steps.{IsReached, MayAct, NeedsClock, not_awaited, gone_on}
use Rattle.carrier_turns.specs.Turns.{IsTurn, ReadsInTime, wants_nothing}
use Rattle.carrier_turns.proofs.TimedTurnLaws.{act_turn, due_turn, never_before, ticked_acts}

module _ (old mid : Known) (c now least : ℕ) (reached : IsReached old mid c now least) where
  -- a step that needs the clock comes before time goes on
  pub reached_needs : IsLegal mid → (new : Known) (h g : Hand) → NeedsClock mid new h g least → NeedsClock old new h g now
  reached_needs legal new h g needs = by reached
    where
      by : IsReached old mid c now least → NeedsClock old new h g now
      by (not_awaited nobody same so) = subst (λ m. NeedsClock m new h g now) same (subst (NeedsClock mid new h g) so needs)
      by (gone_on awaits entry none told so) = absurd (never_before mid legal (subst (IsBefore mid) so needs.later))

  pub reached_acts : IsLegal mid → (h : Hand) → MayAct old c h → 3 ≤ old.spare → MayAct mid c h
  reached_acts legal h may spare = by reached
    where
      by : IsReached old mid c now least → MayAct mid c h
      by (not_awaited nobody same so) = subst (λ m. MayAct m c h) (sym same) may
      by (gone_on awaits entry none told so) = ticked_acts old mid c now h may spare entry legal none

  pub reached_turn : (new : Known) (h g : Hand) (answer : Turn) → MayAct old c h → (wants_nothing new.told ≡ true → ReadsInTime mid h least)
      → IsAct mid new c now h g answer → IsTurn old new c now h g answer
  reached_turn new h g answer may in_time act = by reached
    where
      by : IsReached old mid c now least → IsTurn old new c now h g answer
      by (not_awaited nobody same so) =
          act_turn old new c now h g answer nobody (λ wants. subst (λ m. ReadsInTime m h now) same (subst (ReadsInTime mid h) so (in_time wants)))
          (subst (λ m. IsAct m new c now h g answer) same act)
      by (gone_on awaits entry none told so) = due_turn old mid new c now h g answer may awaits entry told act
