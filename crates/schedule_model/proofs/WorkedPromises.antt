-- A machine that keeps what it owes, so that the laws speak of something: one thread, which runs for ever.
use Rattle.std.proofs.Common.{◌≡◌, ◌≢◌, ◌<◌, ℕ, zero, suc, Bool, true, false, [], ◌∷◌, Option, None, Some, refl, arith}
use Rattle.schedule_model.specs.Look.{Look, IsLook, in_entry_list, in_wait_list, is_live}
use Rattle.schedule_model.specs.Run.{Machine}
use Rattle.schedule_model.specs.Changes.{Changes, KeepsPromises}
use Rattle.schedule_model.proofs.WorkedLooks.{runs, seen, showing}

abbrev main : Look
main = seen 0 [] (runs ∷ [])

abbrev busy : Machine ℕ
busy = record (showing [] []) { look = λ r. main }

steps_live : (t : ℕ) → main.enabled t ≡ true → is_live (main.spot t) ≡ true
steps_live zero e = refl
steps_live (suc t) e = absurd cc

live_made : (t : ℕ) → is_live (main.spot t) ≡ true → t < main.threads
live_made zero e = omega arith
live_made (suc t) e = absurd cc

none_waits : (t o : ℕ) → main.spot t ≡ in_entry_list o → ⊥
none_waits zero o e = cc
none_waits (suc t) o e = cc

not_pinned : (t : ℕ) → main.pinned t ≡ false
not_pinned zero = refl
not_pinned (suc t) = refl

not_waiting : (t o : ℕ) → main.spot t ≡ in_wait_list o → main.enabled t ≡ false
not_waiting zero o e = absurd cc
not_waiting (suc t) o e = refl

main_is_look : IsLook main
main_is_look =
    record {
      live = steps_live;
      waits = not_waiting;
      line = λ t o goes e. absurd (none_waits t o e);
      over = λ t e. absurd cc;
      pinned = λ t e. absurd (both (main.pinned t) e (not_pinned t));
      made = live_made;
    }
  where
    both : (b : Bool) → b ≡ true → b ≡ false → ⊥
    both b i j = cc

nothing_changes : (by : Option ℕ) → Changes main main by
nothing_changes by =
    record {
      in_line = λ t o other e. e;
      ready = λ t other e on. (e, on);
      taken = λ t o is e. absurd (none_waits t o e);
      came = λ t o was now e. absurd (none_waits t o e);
      begun = λ t was now. absurd (both (is_live (main.spot t)) now was);
      pinned = λ t other. refl;
      over = λ t other e. e;
    }
  where
    both : (b : Bool) → b ≡ true → b ≡ false → ⊥
    both b i j = cc

busy_keeps : KeepsPromises busy
busy_keeps =
    record {
      looks = λ r reached. main_is_look;
      steps = λ r q t n pick reached next goes. nothing_changes (Some t);
      ticks = λ r q now reached next goes. nothing_changes None;
      main = refl;
      main_goes = λ goes. refl;
      alone = alone;
      unpinned = not_pinned;
    }
  where
    alone : (t : ℕ) → t ≢ 0 → is_live (main.spot t) ≡ false
    alone zero h = absurd (h refl)
    alone (suc t) h = refl
