-- The hands of a machine that begins.
use Rattle.std.proofs.Common.{◌≡◌, ◌<◌, ◌+◌, ℕ, zero, suc, true, List, [], ◌∷◌, ◌++◌, length, replicate, Option, Some, None, slice_get, refl, ap, sym, ◌∙◌, subst, arith}
use Rattle.std.proofs.lemmas.List.{length-append}
use Rattle.items.specs.Options.{◌>>=◌}
use Rattle.schedule_model.specs.Entries.{is_idle, is_vacant}
use Rattle.schedule_model.specs.Run.{Scheduled, schedule_of, with_schedule}
use Rattle.schedule_model.specs.Schedule.{opening_schedule}
use Rattle.ref_model.specs.Setting.{Setting}
use Rattle.ref_model.specs.State.{State}
use Rattle.ref_model.specs.Opening.{opening}
use Rattle.ref_model.specs.Looks.{machine_from}
use Rattle.machine.specs.Machines.{Known, at_first}
use Rattle.machine.specs.Hands.{Idle}
use Rattle.carrier_turns.specs.declared.hand.Hand.{Hand}
use Rattle.carrier_turns.specs.Hands.{Fits, HasDone}
use Rattle.carrier_turns.specs.Plays.{AreCarriersIdle, HandsFit, IsReadyHand}

-- so many hands, each of which is ready
pub record AreReady (m : Known) (hands : List Hand) (n : ℕ) : Type 0 where
  pub count : length hands ≡ n
  pub each : (k : ℕ) (h : Hand) → slice_get hands k ≡ Some h → IsReadyHand m k h

pub none_ready : (m : Known) (hands : List Hand) → hands ≡ [] → AreReady m hands 0
none_ready m hands e = subst (λ (hs : List Hand). AreReady m hs 0) (sym e) (record { count = refl; each = λ k h at. absurd cc })

last_of : (hands : List Hand) (g x : Hand) (k : ℕ) → slice_get (hands ++ g ∷ []) k ≡ Some x → (P : ℕ → Hand → Type 0)
    → ((j : ℕ) (y : Hand) → slice_get hands j ≡ Some y → P j y) → P (length hands) g → P k x
last_of [] g x zero e P low last = subst (P 0) (cc) last
last_of [] g x (suc k) e P low last = absurd cc
last_of (h ∷ hs) g x zero e P low last = low 0 x e
last_of (h ∷ hs) g x (suc k) e P low last = last_of hs g x k e (λ j y. P (suc j) y) (λ j y at. low (suc j) y at) last

one_more_ready : (m : Known) (hands : List Hand) (g : Hand) (n : ℕ) → AreReady m hands n → IsReadyHand m n g → AreReady m (hands ++ g ∷ []) (n + 1)
one_more_ready m hands g n so_far ready = record {
  count = length-append hands (g ∷ []) ∙ ap (λ k. k + 1) so_far.count;
  each = λ k x at. last_of hands g x k at (IsReadyHand m) so_far.each (subst (λ i. IsReadyHand m i g) (sym so_far.count) ready);
}

-- the next carrier's hand, which holds nothing, is ready too
pub next_ready : (m : Known) (hands after : List Hand) (g : Hand) (n end : ℕ) → AreCarriersIdle m → AreReady m hands n → after ≡ hands ++ g ∷ [] → n < end
    → end ≡ m.carriers → ((k : Known) (c : ℕ) → c < k.carriers → Idle k c → Fits k c g) → HasDone g → AreReady m after (n + 1)
next_ready m hands after g n end idle so_far all less count fits done =
    let below : n < m.carriers = subst (λ k. n < k) count less in
    subst (λ (hs : List Hand). AreReady m hs (n + 1)) (sym all)
    (one_more_ready m hands g n so_far (record { fits = fits m n below (idle n below); done = done }))

pub all_ready : (m : Known) (hands : List Hand) (n : ℕ) → AreReady m hands n → n ≡ m.carriers → HandsFit m hands
all_ready m hands n ready all = record { count = ready.count ∙ all; fit = ready.each }

vacant_among : (n c : ℕ) → c < n → is_vacant (slice_get (replicate n None) c) ≡ true
vacant_among zero c less = absurd (omega arith)
vacant_among (suc n) zero less = refl
vacant_among (suc n) (suc c) less = vacant_among n c (omega arith)

-- the carriers of a machine that begins are idle
pub idle_at_first : (p : Setting) (carriers : ℕ) → AreCarriersIdle (at_first p carriers)
idle_at_first p carriers c less = λ v given. by v (opening p) given
  where
    by : (v : Scheduled State) (first : Option State) → (first >>= λ r. schedule_of (machine_from p r) carriers []) ≡ Some v → is_idle v.schedule c ≡ true
    by v None given = absurd cc
    by v (Some r) given =
        let same : with_schedule r (opening_schedule carriers) ≡ v = cc in
        subst (λ (w : Scheduled State). is_idle w.schedule c ≡ true) same (vacant_among carriers c less)

-- so a hand that holds nothing is ready for each of them
pub ready_at_first : (m : Known) (p : Setting) (carriers c : ℕ) (h : Hand) → m ≡ at_first p carriers → c < carriers
    → ((k : Known) (i : ℕ) → i < k.carriers → Idle k i → Fits k i h) → HasDone h → IsReadyHand m c h
ready_at_first m p carriers c h first less fits done =
    subst (λ k. IsReadyHand k c h) (sym first)
    (record { fits = fits (at_first p carriers) c less (idle_at_first p carriers c less); done = done })
