-- A hand that knows more selected methods is good for the same.
use Rattle.std.proofs.Common.{◌≤◌, ℕ, Option, sym, subst}
use Rattle.continuation.specs.Continuation.{Continuation}
use Rattle.invocation.specs.InvocationCache.{AreSelected, Kept}
use Rattle.machine.specs.Clocks.{IsBefore}
use Rattle.machine.specs.Machines.{Known}
use Rattle.carrier_turns.specs.declared.ask.Ask.{Ask}
use Rattle.carrier_turns.specs.declared.ask.Turn.{Turn}
use Rattle.carrier_turns.specs.declared.hand.Hand.{Hand}
use Rattle.carrier_turns.specs.declared.local.LocalRun.{LocalRun}
use Rattle.carrier_turns.specs.Hands.{HasParts, HoldsRightly, nothing, frozen, leaving, running, stopped, waiting, over}
use Rattle.carrier_turns.specs.Steps.{MayAct, NeedsClock}
use Rattle.carrier_turns.specs.Turns as turns
use Rattle.carrier_turns.specs.Turns.{HoldsNothing, IsActDue, IsDue, IsTurn, MayTick, StepReads}

abbrev with_cache : Hand → Kept → Hand
with_cache h cache = record h { cache = cache }

parts : (h : Hand) (cache : Kept) (m f : Option Continuation) (l : Option LocalRun) (a : Ask) → HasParts h m f l a → HasParts (with_cache h cache) m f l a
parts h cache m f l a x = record { mounted_is = x.mounted_is; frozen_is = x.frozen_is; local_is = x.local_is; asked_is = x.asked_is }

holds : (m : Known) (c : ℕ) (h : Hand) (cache : Kept) → HoldsRightly m c h → HoldsRightly m c (with_cache h cache)
holds m c h cache (nothing has idle) = nothing (parts h cache _ _ _ _ has) idle
holds m c h cache (frozen k has held lives leaves) = frozen k (parts h cache _ _ _ _ has) held lives leaves
holds m c h cache (leaving k has held lives leaves) = leaving k (parts h cache _ _ _ _ has) held lives leaves
holds m c h cache (running k has held owes phase typed) = running k (parts h cache _ _ _ _ has) held owes phase typed
holds m c h cache (stopped k run has held owes phase stops) = stopped k run (parts h cache _ _ _ _ has) held owes phase stops
holds m c h cache (waiting k has held owes other) = waiting k (parts h cache _ _ _ _ has) held owes other
holds m c h cache (over k has held ended) = over k (parts h cache _ _ _ _ has) held ended

may_act : (m : Known) (c : ℕ) (h : Hand) (cache : Kept) → AreSelected m.setting.world cache → MayAct m c h → MayAct m c (with_cache h cache)
may_act m c h cache selected x = record {
  legal = x.legal;
  fits = record { below = x.fits.below; holds = λ works. holds m c h cache (x.fits.holds works); rests = x.fits.rests; selected = selected };
  done = x.done;
  works = x.works;
  going = x.going;
  spare = x.spare;
}

reads : (m : Known) (h : Hand) (cache : Kept) → StepReads m h → StepReads m (with_cache h cache)
reads m h cache r = record { kept = r.kept; mounted = r.mounted; few = r.few; reads = r.reads }

turn : (old new : Known) (c now : ℕ) (h g : Hand) (cache : Kept) (answer : Turn) → IsTurn old new c now (with_cache h cache) g answer → IsTurn old new c now h g answer
turn old new c now h g cache answer x = record {
  appends = x.appends;
  reason = x.reason;
  over = x.over;
  asks = x.asks;
  works = x.works;
  due = λ none fine wants. by (x.due none fine wants);
  told = x.told;
  nearer = x.nearer;
}
  where
    by_act : (m : Known) → IsActDue m new c now (with_cache h cache) answer → IsActDue m new c now h answer
    by_act m (turns.puts_down k holds history) = turns.puts_down k holds history
    by_act m (turns.takes_up t none history) = turns.takes_up t (record { mounted = none.mounted; frozen = none.frozen }) history
    by_act m (turns.naps nanos none empty history is nap) = turns.naps nanos (record { mounted = none.mounted; frozen = none.frozen }) empty history is nap
    by_act m (turns.steps k n pick rest mounted ahead may unread history owes naps) =
        turns.steps k n pick rest mounted ahead may (λ r. unread (record { kept = r.kept; mounted = r.mounted; few = r.few; reads = r.reads })) history owes naps
    by_act m (turns.freezes k mounted may loose history is) = turns.freezes k mounted may loose history is
    by_act m (turns.keeps k nanos mounted held history is nap) = turns.keeps k nanos mounted held history is nap

    by_tick : MayTick old now (with_cache h cache) → MayTick old now h
    by_tick (turns.awaited is) = turns.awaited is
    by_tick (turns.reads r later) = turns.reads (record { kept = r.kept; mounted = r.mounted; few = r.few; reads = r.reads }) later

    by : IsDue old new c now (with_cache h cache) answer → IsDue old new c now h answer
    by (turns.acts nobody in_time due) = turns.acts nobody (λ r. in_time (reads old h cache r)) (by_act old due)
    by (turns.ticks mid may is due) = turns.ticks mid (by_tick may) is (by_act mid due)
    by (turns.ends awaits history ended) = turns.ends awaits history ended

-- ---- after a step that needs the clock

module _ (old mid : Known) (h k : Hand) (now : ℕ) (x : NeedsClock old mid h k now) where
  pub need_acts : (c : ℕ) → MayAct old c h → MayAct mid c k
  need_acts c act =
      subst (λ m. MayAct m c k) (sym x.machine) (subst (MayAct old c) (sym x.hand) (may_act old c h x.cache x.selected act))

  pub need_spare : 3 ≤ old.spare → 3 ≤ mid.spare
  need_spare spare = subst (λ (m : Known). 3 ≤ m.spare) (sym x.machine) spare

  pub need_reads : StepReads mid k
  need_reads = subst (λ m. StepReads m k) (sym x.machine) (subst (StepReads old) (sym x.hand) (reads old h x.cache x.reads))

  pub need_later : IsBefore mid now
  need_later = subst (λ m. IsBefore m now) (sym x.machine) x.later

  pub need_turn : (new : Known) (c time : ℕ) (g : Hand) (answer : Turn) → IsTurn mid new c time k g answer → IsTurn old new c time h g answer
  need_turn new c time g answer done =
      turn old new c time h g x.cache answer
      (subst (λ z. IsTurn old new c time z g answer) x.hand (subst (λ m. IsTurn m new c time k g answer) x.machine done))
