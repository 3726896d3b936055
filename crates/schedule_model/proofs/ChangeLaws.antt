-- How a machine shows that its steps change no more than they may.
use Rattle.std.proofs.Common.{◌≡◌, ℕ, true, false, Some, sym, ◌∙◌, ap, subst, inl, inr, ◌||◌}
use Rattle.schedule_model.specs.Look.{Look, absent, unstarted, in_no_list, in_wait_list, in_entry_list, done, is_live, is_in_line}
use Rattle.schedule_model.specs.Changes.{CameToLine, IsOther, ThreadChange, stays, is_made, starts, wakes}
use Rattle.schedule_model.specs.Laws.{StepsByTheLast, StepsByThreads, TicksByThreads}
use Rattle.schedule_model.proofs.PutLaws.{no_both, other_or}

in_line_stays : (before after : Look) (t o : ℕ) → ThreadChange before after t → before.spot t ≡ in_entry_list o → after.spot t ≡ in_entry_list o
in_line_stays before after t o (stays same ready pins) e = same ∙ e
in_line_stays before after t o (is_made was now pins) e = let x : absent ≡ in_entry_list o = sym was ∙ e in absurd cc
in_line_stays before after t o (starts was goes pins) e = let x : unstarted ≡ in_entry_list o = sym was ∙ e in absurd cc
in_line_stays before after t o (wakes p q was now pins) e = let x : in_wait_list p ≡ in_entry_list o = sym was ∙ e in absurd cc

ready_stays : (before after : Look) (t : ℕ) → ThreadChange before after t → before.spot t ≡ in_no_list → before.enabled t ≡ true
    → (after.spot t ≡ in_no_list) × (after.enabled t ≡ true)
ready_stays before after t (stays same ready pins) e on = (same ∙ e, ready e on)
ready_stays before after t (is_made was now pins) e on = let x : absent ≡ in_no_list = sym was ∙ e in absurd cc
ready_stays before after t (starts was goes pins) e on = let x : unstarted ≡ in_no_list = sym was ∙ e in absurd cc
ready_stays before after t (wakes p q was now pins) e on = let x : in_wait_list p ≡ in_no_list = sym was ∙ e in absurd cc

came_by : (before after : Look) (t o : ℕ) → ThreadChange before after t → after.spot t ≡ in_entry_list o → CameToLine before t o
came_by before after t o (stays same ready pins) e = inl (sym same ∙ e)
came_by before after t o (is_made was now pins) e = inr (inl (ap is_live was))
came_by before after t o (starts was goes pins) e = inr (inl (ap is_live was))
came_by before after t o (wakes p q was now pins) e = inr (inr (p, was))

begun_by : (before after : Look) (t : ℕ) → ThreadChange before after t → is_live (before.spot t) ≡ false → is_live (after.spot t) ≡ true
    → (after.enabled t || is_in_line (after.spot t)) ≡ true
begun_by before after t (stays same ready pins) was now = absurd (no_both (is_live (after.spot t)) now (ap is_live same ∙ was))
begun_by before after t (is_made from to pins) was now = absurd (no_both (is_live (after.spot t)) now (ap is_live to))
begun_by before after t (starts from goes pins) was now = goes
begun_by before after t (wakes p q from to pins) was now = absurd (no_both (is_live (before.spot t)) (ap is_live from) was)

pins_stay : (before after : Look) (t : ℕ) → ThreadChange before after t → after.pinned t ≡ before.pinned t
pins_stay before after t (stays same ready pins) = pins
pins_stay before after t (is_made was now pins) = pins
pins_stay before after t (starts was goes pins) = pins
pins_stay before after t (wakes p q was now pins) = pins

done_stays : (before after : Look) (t : ℕ) → ThreadChange before after t → before.spot t ≡ done → after.spot t ≡ done
done_stays before after t (stays same ready pins) e = same ∙ e
done_stays before after t (is_made was now pins) e = let x : absent ≡ done = sym was ∙ e in absurd cc
done_stays before after t (starts was goes pins) e = let x : unstarted ≡ done = sym was ∙ e in absurd cc
done_stays before after t (wakes p q was now pins) e = let x : in_wait_list p ≡ done = sym was ∙ e in absurd cc

pub ticks_by_threads : TicksByThreads
ticks_by_threads before after each =
    record {
      in_line = λ t o other e. in_line_stays before after t o (each t) e;
      ready = λ t other e on. ready_stays before after t (each t) e on;
      taken = λ t o is e. absurd cc;
      came = λ t o was now e. came_by before after t o (each t) e;
      begun = λ t was now. begun_by before after t (each t) was now;
      pinned = λ t other. pins_stay before after t (each t);
      over = λ t other e. done_stays before after t (each t) e;
    }

pub steps_by_threads : StepsByThreads
steps_by_threads before after t own each =
    record {
      in_line = λ u o other e. in_line_stays before after u o (at u other) e;
      ready = λ u other e on. ready_stays before after u (at u other) e on;
      taken = λ u o is e. let same : t ≡ u = cc in own.taken o (ap before.spot same ∙ e);
      came = λ u o was now e.
          elim (other_or (Some t) u) [
            | inl me ↦ let same : t ≡ u = cc in absurd (no_both (before.owned o) (own.came o (ap after.spot same ∙ e)) was)
            | inr other ↦ came_by before after u o (at u other) e
          ];
      begun = λ u was now.
          elim (other_or (Some t) u) [
            | inl me ↦ let same : t ≡ u = cc in absurd (no_both (is_live (before.spot u)) (subst (λ x. is_live (before.spot x) ≡ true) same own.live) was)
            | inr other ↦ begun_by before after u (at u other) was now
          ];
      pinned = λ u other. pins_stay before after u (at u other);
      over = λ u other e. done_stays before after u (at u other) e;
    }
  where
    at : (u : ℕ) → IsOther (Some t) u → ThreadChange before after u
    at u other = each u (λ e. other (ap Some (sym e)))

pub steps_by_the_last : StepsByTheLast
steps_by_the_last before between after t loc change =
    record {
      in_line = λ u o other e. change.in_line u o other (loc.spot u ∙ e);
      ready = λ u other e on. change.ready u other (loc.spot u ∙ e) (loc.enabled u ∙ on);
      taken = λ u o is e. change.taken u o is (loc.spot u ∙ e);
      came = λ u o was now e. back u o (change.came u o (loc.owned o ∙ was) now e);
      begun = λ u was now. change.begun u (ap is_live (loc.spot u) ∙ was) now;
      pinned = λ u other. change.pinned u other ∙ loc.pinned u (λ e. other (ap Some (sym e)));
      over = λ u other e. change.over u other (loc.spot u ∙ e);
    }
  where
    back : (u o : ℕ) → CameToLine between u o → CameToLine before u o
    back u o (inl e) = inl (sym (loc.spot u) ∙ e)
    back u o (inr (inl dead)) = inr (inl (sym (ap is_live (loc.spot u)) ∙ dead))
    back u o (inr (inr wait)) = inr (inr (wait.0, sym (loc.spot u) ∙ wait.1))
