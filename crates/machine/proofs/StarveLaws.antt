-- Whether each carrier has a pinned thread that can't go on.
use Rattle.std.proofs.Common.{◌≡◌, ◌⊎◌, inl, inr, ◌<◌, ◌+◌, ℕ, zero, suc, Bool, true, false, List, [], ◌∷◌, Option, None, Some, get_or, length, slice_get, refl, ap, sym, subst, ◌∙◌, arith, not, ◌&&◌, ◌||◌}
use Rattle.std.specs.Prelude.{is_some, nat_lt}
use Rattle.std.specs.List.{list_all, list_any}
use Rattle.std.proofs.lemmas.Bool.{and_from, and_parts, and_right, cases_Bool, or_parts}
use Rattle.std.proofs.lemmas.List.Folds.{list_all_at}
use Rattle.std.proofs.lemmas.Option.{slice_get-get_or}
use Rattle.schedule_model.specs.Look.{Look}
use Rattle.schedule_model.specs.Puts.{all_threads}
use Rattle.schedule_model.specs.Run.{Scheduled}
use Rattle.schedule_model.specs.Stalled.{can_go_on, has_time, is_starved, is_stuck}
use Rattle.ref_model.specs.Setting.{Setting}
use Rattle.ref_model.specs.State.{State}
use Rattle.ref_model.specs.Step.{enabled}
use Rattle.ref_model.specs.Looks.{is_stalled, look_of}
use Rattle.program_state.specs.Deadlines.{deadlines_of}
use Rattle.machine.specs.Pins.{ArePins, GoesFreely}
use Rattle.machine.specs.Stalls.{AreKeptBack, GoesOnHere, is_kept_back}
use Rattle.machine.proofs.StallLaws.{no_time, or_true, timed_has}

no_both : (b : Bool) → b ≡ true → b ≡ false → ⊥
no_both b i j = absurd cc

not_of : (b c : Bool) → not b ≡ c → b ≡ not c
not_of true c e = ap not e
not_of false c e = ap not e

-- ---- lists

all_by : {A : Type 0} (test : A → Bool) (d : A) (xs : List A) → ((c : ℕ) → c < length xs → test (get_or xs c d) ≡ true) → list_all test xs ≡ true
all_by test d [] each = refl
all_by test d (x ∷ xs) each = and_from (test x) (list_all test xs) (each 0 (omega arith)) (all_by test d xs (λ c within. each (suc c) (omega arith)))

-- ---- one carrier

module _ (p : Setting) (v : Scheduled State) (pins : List Bool) (known : ArePins (look_of p.world v.state) v.schedule.mounted pins)
    (goes : (look_of p.world v.state).ended ≡ false) where
  abbrev l : Look
  l = look_of p.world v.state

  abbrev r : State
  r = v.state

  abbrev mounted : List (Option ℕ)
  mounted = v.schedule.mounted

  -- it may step, or has a deadline to come
  goes_on : (t : ℕ) (o : Option ℕ) → deadlines_of r.now r.threads t ≡ o → (enabled r t || is_some o) ≡ true → can_go_on l t ≡ true
  goes_on t None e yes_it = ap (λ b. b || has_time l t) (by (enabled r t) yes_it)
    where
      by : (b : Bool) → (b || false) ≡ true → b ≡ true
      by true f = refl
      by false f = absurd cc
  goes_on t (Some d) e yes_it = or_true (enabled r t) (has_time l t) (timed_has p r t d e).1

  stays : (t : ℕ) (o : Option ℕ) → deadlines_of r.now r.threads t ≡ o → (enabled r t || is_some o) ≡ false → can_go_on l t ≡ false
  stays t None e no_it = ap (λ b. b || has_time l t) (or_parts (enabled r t) false no_it).0 ∙ no_time p r t e
  stays t (Some d) e no_it = absurd (no_both true refl (or_parts (enabled r t) true no_it).1)

  stuck_here : (c : ℕ) (m : Option ℕ) → slice_get mounted c ≡ Some m → is_kept_back r m (get_or pins c false) ≡ true → is_stuck l m ≡ true
  stuck_here c None at kept = absurd cc
  stuck_here c (Some t) at kept =
      let both = and_parts (get_or pins c false) _ kept in
      let off = stays t (deadlines_of r.now r.threads t) refl (not_of (enabled r t || is_some (deadlines_of r.now r.threads t)) true both.1) in
      and_from (l.pinned t) (not (can_go_on l t)) (by off both.0 (known goes c t at)) (ap not off)
    where
      by : can_go_on l t ≡ false → get_or pins c false ≡ true → GoesFreely l t ⊎ (get_or pins c false ≡ l.pinned t) → l.pinned t ≡ true
      by off pin (inl free) = absurd (no_both (l.enabled t) free.0 (or_parts (l.enabled t) (has_time l t) off).0)
      by off pin (inr same) = sym same ∙ pin

  loose_here : (c : ℕ) (m : Option ℕ) → slice_get mounted c ≡ Some m → is_kept_back r m (get_or pins c false) ≡ false → is_stuck l m ≡ false
  loose_here c None at kept = refl
  loose_here c (Some t) at kept = by (get_or pins c false) refl (enabled r t || is_some (deadlines_of r.now r.threads t)) refl
    where
      moves : can_go_on l t ≡ true → (l.pinned t && not (can_go_on l t)) ≡ false
      moves on = and_right (l.pinned t) (not (can_go_on l t)) (ap not on)

      unpinned : (b : Bool) → get_or pins c false ≡ b → b ≡ false → GoesFreely l t ⊎ (get_or pins c false ≡ l.pinned t) → (l.pinned t && not (can_go_on l t)) ≡ false
      unpinned b e off (inl free) = moves (ap (λ x. x || has_time l t) free.0)
      unpinned b e off (inr same) = ap (λ x. x && not (can_go_on l t)) (sym same ∙ e ∙ off)

      by : (b : Bool) → get_or pins c false ≡ b → (g : Bool) → (enabled r t || is_some (deadlines_of r.now r.threads t)) ≡ g → (l.pinned t && not (can_go_on l t)) ≡ false
      by false e g f = unpinned false e refl (known goes c t at)
      by true e true f = moves (goes_on t (deadlines_of r.now r.threads t) refl f)
      by true e false f =
          let yes_it : (get_or pins c false && not (enabled r t || is_some (deadlines_of r.now r.threads t))) ≡ true =
          and_from (get_or pins c false) _ e (ap not f) in absurd (no_both (get_or pins c false && not (enabled r t || is_some (deadlines_of r.now r.threads t))) yes_it kept)

  -- ---- all carriers

  some_goes : is_stalled p.world r ≡ false → list_any (can_go_on l) (all_threads l) ≡ true
  some_goes going = by (list_any (can_go_on l) (all_threads l)) refl
    where
      by : (b : Bool) → list_any (can_go_on l) (all_threads l) ≡ b → list_any (can_go_on l) (all_threads l) ≡ true
      by true e = e
      by false e =
          let stalled : is_stalled p.world r ≡ true = and_from (not l.ended) (not (list_any (can_go_on l) (all_threads l))) (ap not goes) (ap not e) in
          absurd (no_both (is_stalled p.world r) stalled going)

  pub starves : is_stalled p.world r ≡ false → AreKeptBack r mounted pins → is_starved l v.schedule ≡ true
  starves going kept =
      and_from (not l.ended) (list_all (is_stuck l) mounted && list_any (can_go_on l) (all_threads l)) (ap not goes)
      (and_from (list_all (is_stuck l) mounted) (list_any (can_go_on l) (all_threads l))
      (all_by (is_stuck l) None mounted (λ c within. stuck_here c (get_or mounted c None) (slice_get-get_or mounted c None within) (kept c within))) (some_goes going))

  pub feeds : (c : ℕ) → GoesOnHere r mounted pins c → is_starved l v.schedule ≡ false
  feeds c here =
      let loose = list_all_at (is_stuck l) mounted c None here.there (loose_here c (get_or mounted c None) (slice_get-get_or mounted c None here.there) here.goes) in
      and_right (not l.ended) (list_all (is_stuck l) mounted && list_any (can_go_on l) (all_threads l))
      (ap (λ b. b && list_any (can_go_on l) (all_threads l)) loose)
