-- Which entries can starve threads.
use Rattle.std.proofs.Common.{◌≡◌, ◌<◌, ◌==◌, ℕ, zero, suc, Bool, true, false, List, [], ◌∷◌, Option, None, Some, length, set, slice_get, ap, subst, refl, arith, cond, inl, inr, not, ◌&&◌}
use Rattle.std.specs.List.{list_all, list_any}
use Rattle.std.proofs.lemmas.Bool.{cases_Bool, eq-eqb, and_left, and_right, and_parts}
use Rattle.std.proofs.lemmas.Option.{slice_get_within}
use Rattle.items.proofs.Binds.{some_is}
use Rattle.run_deques.specs.Take.{next}
use Rattle.schedule_model.specs.Look.{Look}
use Rattle.schedule_model.specs.Schedule.{Schedule}
use Rattle.schedule_model.specs.Puts.{all_threads}
use Rattle.schedule_model.specs.Entries.{after_unmount, has_mounted, is_idle, may_unmount, mounted_from, where_allowed}
use Rattle.schedule_model.specs.Run.{Machine}
use Rattle.schedule_model.specs.Stalled.{can_go_on, is_starved, is_stuck}
use Rattle.schedule_model.specs.Laws.{MountsStarveNobody, StalledIsNotStarved, UnmountsStarveNobody}
use Rattle.schedule_model.proofs.EntryLaws.{allowed_is, holds_is, taken_in, vacant_is}
use Rattle.schedule_model.proofs.RunLaws.{scheduled}

-- one that fails, put at a place of the list
all_but : (p : Option ℕ → Bool) (xs : List (Option ℕ)) (c : ℕ) (x : Option ℕ) → c < length xs → p x ≡ false → list_all p (set xs c x) ≡ false
all_but p [] c x h e = absurd (omega arith)
all_but p (y ∷ ys) zero x h e = and_left (p x) (list_all p ys) e
all_but p (y ∷ ys) (suc c) x h e = and_right (p y) (list_all p (set ys c x)) (all_but p ys c x (omega arith) e)

not_starved : (l : Look) (s : Schedule) → list_all (is_stuck l) s.mounted ≡ false → is_starved l s ≡ false
not_starved l s e = and_right (not l.ended) _ (and_left (list_all (is_stuck l) s.mounted) (list_any (can_go_on l) (all_threads l)) e)

not_true : (b : Bool) → not b ≡ true → b ≡ false
not_true true e = absurd cc
not_true false e = refl

pub mounts_starve_nobody : {S : Type 0} (m : Machine S) → MountsStarveNobody m
mounts_starve_nobody m v a c t after e =
    let found = some_is (next s.deques c) (λ found. where_allowed (not l.ended && (is_idle s c && (found.1 == t))) (mounted_from l s c found)) after e in
    let given = allowed_is (not l.ended && (is_idle s c && (found.0.1 == t))) (mounted_from l s c found.0) after found.2 in
    let goes = not_true l.ended (and_parts (not l.ended) _ given.0).0 in
    let idle = (and_parts (is_idle s c) (found.0.1 == t) (and_parts (not l.ended) _ given.0).1).0 in
    let within = slice_get_within s.mounted c None (vacant_is (slice_get s.mounted c) idle) in
    subst (λ x. is_starved l x ≡ false) given.1
    (not_starved l (mounted_from l s c found.0) (all_but (is_stuck l) s.mounted c (Some found.0.1) within (and_left (l.pinned found.0.1) _ (loose found.0 goes idle found.1))))
  where
    l : Look
    l = m.look v.state

    s : Schedule
    s = v.schedule

    loose : (found : ℕ × ℕ) → l.ended ≡ false → is_idle s c ≡ true → next s.deques c ≡ Some found → l.pinned found.1 ≡ false
    loose found goes idle first =
        let is = (scheduled m v a).1 in
        elim (cases_Bool (l.pinned found.1)) [
          | inr free ↦ free
          | inl pinned ↦
              let here : ◌≡◌ {A = ℕ} (cond (found.1 == found.1) 1 0) 1 = ap (λ b. cond b 1 0) (eq-eqb found.1 found.1 refl) in
              absurd (omega (arith, (is.going goes).held.pinned found.1 pinned, taken_in l s c found is.sizes idle first found.1, here, is.once found.1))
        ]

pub unmounts_starve_nobody : UnmountsStarveNobody
unmounts_starve_nobody l s after c t e =
    let given = allowed_is (may_unmount l s c t) (after_unmount l s c t) after e in
    let here = holds_is t (slice_get s.mounted c) (and_parts (has_mounted s c t) _ given.0).0 in
    subst (λ x. is_starved l x ≡ false) given.1
    (not_starved l (after_unmount l s c t) (all_but (is_stuck l) s.mounted c None (slice_get_within s.mounted c (Some t) here) refl))

pub stalled_not_starved : StalledIsNotStarved
stalled_not_starved l s e =
    let none = not_true (list_any (can_go_on l) (all_threads l)) (and_parts (not l.ended) _ e).1 in
    and_right (not l.ended) _ (and_right (list_all (is_stuck l) s.mounted) (list_any (can_go_on l) (all_threads l)) none)
