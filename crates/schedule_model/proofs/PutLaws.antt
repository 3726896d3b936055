-- What a step or a tick does to the places of threads and to the lists of monitors.
use Rattle.std.proofs.Common.{◌≡◌, ◌+◌, ◌<◌, ◌≤◌, ◌==◌, ℕ, Bool, true, false, List, [], ◌∷◌, Option, None, Some, length, sym, ◌∙◌, ap, subst, refl, arith, ◌⊎◌, inl, inr, not, ◌&&◌, ◌||◌}
use Rattle.std.specs.List.{filter}
use Rattle.std.proofs.lemmas.Bool.{cases_Bool, cases_lt, eq-eqb, eqb-true, or_left, or_right, or_from, and_parts, or_cases, and_from}
use Rattle.std.proofs.lemmas.Bool.Decides.{eqb_tells}
use Rattle.thread_lists.specs.Lists.{count}
use Rattle.thread_lists.proofs.CountLaws.{count-append, count-here, total-push}
use Rattle.schedule_model.specs.Look.{Look, IsLook, Spot, absent, unstarted, in_no_list, in_wait_list, in_entry_list, done, is_live, is_entering, is_in_line, is_in_wait_list, is_waiting}
use Rattle.schedule_model.specs.Schedule.{Schedule, in_deques, on_carriers, places}
use Rattle.schedule_model.specs.Puts.{is_at_free, is_first, is_made_enabled, is_moved_to_free, is_next_in_line, is_started, is_to_run, put_by, after_change, updated_list}
use Rattle.schedule_model.specs.Woken.{AreListed, AreWoken, SomeoneComes, once_if}
use Rattle.schedule_model.specs.Changes.{Changes, IsOther}
use Rattle.schedule_model.proofs.ListLaws.{IsOrder, count-filter_le, count-filter_no, count-filter_yes}

-- ---- the lists of monitors

pub updated-count : (belongs : Spot → Bool) (before after : Look) (order list : List ℕ) (t : ℕ)
    → ((x : Spot) → belongs x ≡ true → is_live x ≡ true) → IsLook after → IsOrder after order
    → count t list ≡ once_if (belongs (before.spot t))
    → count t (updated_list belongs before after order list) ≡ once_if (belongs (after.spot t))
updated-count belongs before after order list t live look in_order old =
    elim (cases_Bool (belongs (after.spot t))) [
      | inl held ↦
          let stays = count-filter_yes t (λ u. belongs (after.spot u)) list held in
          let made = look.made t (live (after.spot t) held) in
          elim (cases_Bool (belongs (before.spot t))) [
            | inl was ↦
                let comes = count-filter_no t (λ u. belongs (after.spot u) && not (belongs (before.spot u))) order (ap (λ b. belongs (after.spot t) && not b) was ∙ ap (λ b. b && false) held) in
                let here : count t list ≡ 1 = old ∙ ap once_if was in
                let all : count t (updated_list belongs before after order list) ≡ 1 = omega (arith, joined, stays, comes, here) in
                all ∙ sym (ap once_if held)
            | inr was ↦
                let comes = count-filter_yes t (λ u. belongs (after.spot u) && not (belongs (before.spot u))) order (ap (λ b. belongs (after.spot t) && not b) was ∙ ap (λ b. b && true) held) in
                let here : count t list ≡ 0 = old ∙ ap once_if was in
                let all : count t (updated_list belongs before after order list) ≡ 1 = omega (arith, joined, stays, comes, here, in_order.once t made) in
                all ∙ sym (ap once_if held)
          ]
      | inr gone ↦
          let stays = count-filter_no t (λ u. belongs (after.spot u)) list gone in
          let comes = count-filter_no t (λ u. belongs (after.spot u) && not (belongs (before.spot u))) order (ap (λ b. b && not (belongs (before.spot t))) gone) in
          joined ∙ ap (λ n. n + count t coming) stays ∙ ap (λ n. 0 + n) comes ∙ sym (ap once_if gone)
    ]
  where
    coming : List ℕ
    coming = filter (λ u. belongs (after.spot u) && not (belongs (before.spot u))) order

    joined : count t (updated_list belongs before after order list) ≡ count t (filter (λ u. belongs (after.spot u)) list) + count t coming
    joined = count-append t (filter (λ u. belongs (after.spot u)) list) coming

-- ---- spots

pub line_of : (x : Spot) → is_in_line x ≡ true → (o : ℕ) × (x ≡ in_entry_list o)
line_of absent e = absurd cc
line_of unstarted e = absurd cc
line_of in_no_list e = absurd cc
line_of (in_wait_list p) e = absurd cc
line_of (in_entry_list p) e = (p, refl)
line_of done e = absurd cc

pub entering_is : (o : ℕ) (x : Spot) → is_entering o x ≡ true → x ≡ in_entry_list o
entering_is o absent e = absurd cc
entering_is o unstarted e = absurd cc
entering_is o in_no_list e = absurd cc
entering_is o (in_wait_list p) e = absurd cc
entering_is o (in_entry_list p) e = ap in_entry_list (eqb-true p o e)
entering_is o done e = absurd cc

pub entering_live : (o : ℕ) (x : Spot) → is_entering o x ≡ true → is_live x ≡ true
entering_live o x e = subst (λ y. is_live y ≡ true) (sym (entering_is o x e)) refl

pub waiting_live : (o : ℕ) (x : Spot) → is_waiting o x ≡ true → is_live x ≡ true
waiting_live o absent e = absurd cc
waiting_live o unstarted e = absurd cc
waiting_live o in_no_list e = absurd cc
waiting_live o (in_wait_list p) e = refl
waiting_live o (in_entry_list p) e = absurd cc
waiting_live o done e = absurd cc

pub entering_at : (o : ℕ) (x : Spot) → x ≡ in_entry_list o → is_entering o x ≡ true
entering_at o x e = subst (λ y. is_entering o y ≡ true) (sym e) (eq-eqb o o refl)

pub no_list : (x : Spot) → is_live x ≡ true → is_in_line x ≡ false → ((o : ℕ) → x ≡ in_wait_list o → ⊥) → x ≡ in_no_list
no_list absent l e w = absurd cc
no_list unstarted l e w = absurd cc
no_list in_no_list l e w = refl
no_list (in_wait_list p) l e w = absurd (w p refl)
no_list (in_entry_list p) l e w = absurd cc
no_list done l e w = absurd cc

at_free : (after : Look) (x : Spot) → is_at_free after x ≡ true → is_in_line x ≡ true
at_free after absent e = absurd cc
at_free after unstarted e = absurd cc
at_free after in_no_list e = absurd cc
at_free after (in_wait_list p) e = absurd cc
at_free after (in_entry_list p) e = refl
at_free after done e = absurd cc

next_in_line : (before after : Look) (lists : ℕ → List ℕ) (t : ℕ) (x : Spot) → is_next_in_line before after lists t x ≡ true → is_in_line x ≡ true
next_in_line before after lists t absent e = absurd cc
next_in_line before after lists t unstarted e = absurd cc
next_in_line before after lists t in_no_list e = absurd cc
next_in_line before after lists t (in_wait_list p) e = absurd cc
next_in_line before after lists t (in_entry_list p) e = refl
next_in_line before after lists t done e = absurd cc

pub in_line_live : (x : Spot) → is_in_line x ≡ true → is_live x ≡ true
in_line_live x e = let w = line_of x e in subst (λ y. is_live y ≡ true) (sym w.1) refl

pub no_both : (b : Bool) → b ≡ true → b ≡ false → ⊥
no_both b i j = absurd cc

-- a thread is the one that steps, or another
pub other_or : (by : Option ℕ) (t : ℕ) → (by ≡ Some t) ⊎ IsOther by t
other_or None t = inr (λ e. cc)
other_or (Some u) t = elim (eqb_tells u t) [ inl w ↦ inl (ap Some w.1) | inr w ↦ inr (λ e. w.1 cc) ]

-- the first of a list
first_of : (t : ℕ) (xs : List ℕ) → 0 < count t xs → (u : ℕ) × (is_first xs u ≡ true) × (0 < count u xs)
first_of t [] h = absurd (omega arith)
first_of t (x ∷ xs) h = (x, eq-eqb x x refl, count-here x xs)

-- ---- the places of threads

module _ (before after : Look) (c : ℕ) (order : List ℕ) (coming : ℕ → List ℕ) (s : Schedule) (owes : ℕ → Bool) where
  -- a step of a thread whose carrier owes this much, or a tick
  abbrev pub change_with : Schedule
  change_with = record (after_change before after c order coming s) { owes = owes }

  abbrev enters : ℕ → List ℕ
  enters = λ o. updated_list (is_entering o) before after (coming o) (s.entry_list o)

  abbrev put : List ℕ
  put = put_by before after enters s order

  pub queued : (t : ℕ) → c < length s.deques → in_deques t change_with ≡ in_deques t s + count t put
  queued t inside = total-push t s.deques c put inside

  pub placed : (t : ℕ) → c < length s.deques → places t change_with ≡ places t s + count t put
  placed t inside = omega (arith, queued t inside)

  put-in : (t : ℕ) → IsOrder after order → is_to_run before after enters t ≡ true → places t s ≡ 0 → t < after.threads → count t put ≡ 1
  put-in t in_order runs none made =
      count-filter_yes t (λ u. is_to_run before after enters u && (places u s == 0)) order (and_from (is_to_run before after enters t) (places t s == 0) runs (eq-eqb (places t s) 0 none)) ∙ in_order.once t made

  put-out : (t : ℕ) → 0 < count t put → (is_to_run before after enters t ≡ true) × (places t s ≡ 0)
  put-out t h =
      elim (cases_Bool (is_to_run before after enters t && (places t s == 0))) [
        | inl e ↦
            let parts = and_parts (is_to_run before after enters t) (places t s == 0) e in
            (parts.0, eqb-true (places t s) 0 parts.1)
        | inr e ↦ absurd (omega (arith, h, count-filter_no t (λ u. is_to_run before after enters u && (places u s == 0)) order e))
      ]

  pub change_once : c < length s.deques → IsOrder after order → ((t : ℕ) → places t s ≤ 1) → (t : ℕ) → places t change_with ≤ 1
  change_once inside in_order once t =
      elim (cases_lt 0 (count t put)) [
        | inl h ↦ omega (arith, placed t inside, (put-out t h).1, count-filter_le t (λ u. is_to_run before after enters u && (places u s == 0)) order, in_order.most t)
        | inr z ↦ omega (arith, placed t inside, z, once t)
      ]

  runs_placed : c < length s.deques → IsOrder after order → (t : ℕ) → is_to_run before after enters t ≡ true → t < after.threads → 0 < places t change_with
  runs_placed inside in_order t runs made =
      elim (cases_lt 0 (places t s)) [
        | inl h ↦ omega (arith, placed t inside, h)
        | inr z ↦ omega (arith, placed t inside, put-in t in_order runs (omega (arith, z)) made)
      ]

  pub change_listed : IsLook after → ((o : ℕ) → IsOrder after (coming o)) → AreListed before s → AreListed after change_with
  change_listed look orders listed =
      record {
        waits = λ t o. updated-count (is_waiting o) before after (coming o) (s.wait_list o) t (waiting_live o) look (orders o) (listed.waits t o);
        enters = λ t o. updated-count (is_entering o) before after (coming o) (s.entry_list o) t (entering_live o) look (orders o) (listed.enters t o);
      }

  -- what the laws below stand on
  pub record Facts (by : Option ℕ) : Type 0 where
    pub inside : c < length s.deques
    pub in_order : IsOrder after order
    pub orders : (o : ℕ) → IsOrder after (coming o)
    pub old : IsLook before
    pub look : IsLook after
    pub change : Changes before after by
    pub on : (t : ℕ) → by ≡ Some t → 0 < on_carriers t s
    pub once : (t : ℕ) → places t s ≤ 1
    pub listed : AreListed before s
    pub woken : AreWoken before s

  made_enabled : (by : Option ℕ) → Facts by → (t : ℕ) → after.enabled t ≡ true → is_in_line (after.spot t) ≡ false → places t s ≡ 0 → is_made_enabled before after t ≡ true
  made_enabled by f t now off none =
      elim (cases_Bool (before.enabled t)) [
        | inr was ↦
            and_from (not (before.enabled t)) (after.enabled t && not (is_in_line (after.spot t))) (ap not was) (and_from (after.enabled t) (not (is_in_line (after.spot t))) now (ap not off))
        | inl was ↦
            elim (cases_Bool (is_in_line (before.spot t))) [
              | inl line ↦
                  let w = line_of (before.spot t) line in
                  let stays = f.change.in_line t w.0 (λ e. absurd (omega (arith, f.on t e, none))) w.1 in
                  absurd (no_both (is_in_line (after.spot t)) (ap is_in_line stays) off)
              | inr free ↦ absurd (omega (arith, f.woken.ready t was free, none))
            ]
      ]

  change_ready : (by : Option ℕ) → Facts by → (t : ℕ) → after.enabled t ≡ true → is_in_line (after.spot t) ≡ false → 0 < places t change_with
  change_ready by f t now off =
      elim (cases_lt 0 (places t s)) [
        | inl h ↦ omega (arith, placed t f.inside, h)
        | inr z ↦
            let e = made_enabled by f t now off (omega (arith, z)) in
            let runs = or_right (is_started (before.spot t) (after.spot t)) _ (or_left (is_made_enabled before after t) _ e) in
            runs_placed f.inside f.in_order t runs (f.look.made t (f.look.live t now))
      ]

  line_next : (by : Option ℕ) → Facts by → (t o : ℕ) → after.spot t ≡ in_entry_list o → before.owned o ≡ true → after.owned o ≡ false → SomeoneComes after change_with o
  line_next by f t o here was now =
      let listed = change_listed f.look f.orders f.listed in
      let there : count t (enters o) ≡ 1 = listed.enters t o ∙ ap once_if (entering_at o (after.spot t) here) in
      let first = first_of t (enters o) (omega (arith, there)) in
      let spot = is_there o first.0 (listed.enters first.0 o) first.2 in
      let next : is_next_in_line before after enters first.0 (after.spot first.0) ≡ true =
      subst (λ x. is_next_in_line before after enters first.0 x ≡ true) (sym spot) (and_from (before.owned o) _ was (and_from (not (after.owned o)) _ (ap not now) first.1)) in
      let runs = or_right (is_started (before.spot first.0) (after.spot first.0)) _ (or_right (is_made_enabled before after first.0) _ (or_right (is_moved_to_free after (before.spot first.0) (after.spot first.0)) _ next)) in
      record {
        thread = first.0;
        in_line = spot;
        placed = runs_placed f.inside f.in_order first.0 runs (f.look.made first.0 (ap is_live spot));
      }
    where
      is_there : (o u : ℕ) → count u (enters o) ≡ once_if (is_entering o (after.spot u)) → 0 < count u (enters o) → after.spot u ≡ in_entry_list o
      is_there o u e h =
          elim (cases_Bool (is_entering o (after.spot u))) [
            | inl w ↦ entering_is o (after.spot u) w
            | inr w ↦ let none : count u (enters o) ≡ 0 = e ∙ ap once_if w in absurd (omega (arith, none, h))
          ]

  line_free : (by : Option ℕ) → Facts by → (t o : ℕ) → after.spot t ≡ in_entry_list o → before.owned o ≡ false → after.owned o ≡ false → SomeoneComes after change_with o
  line_free by f t o here was now =
      elim (f.change.came t o was now here) [
        | inl lined ↦
            let w = f.woken.line t o lined was in
            elim (other_or by w.thread) [
              | inl me ↦ absurd (no_both (after.owned o) (f.change.taken w.thread o me w.in_line) now)
              | inr other ↦
                  record {
                    thread = w.thread;
                    in_line = f.change.in_line w.thread o other w.in_line;
                    placed = omega (arith, placed w.thread f.inside, w.placed);
                  }
            ]
        | inr came ↦ record { thread = t; in_line = here; placed = runs_placed f.inside f.in_order t (comes came) (f.look.made t live) }
      ]
    where
      live : is_live (after.spot t) ≡ true
      live = ap is_live here

      comes : (is_live (before.spot t) ≡ false) ⊎ ((p : ℕ) × (before.spot t ≡ in_wait_list p)) → is_to_run before after enters t ≡ true
      comes (inl dead) = or_left (is_started (before.spot t) (after.spot t)) _ (and_from (not (is_live (before.spot t))) _ (ap not dead) live)
      comes (inr wait) =
          let moved : is_moved_to_free after (before.spot t) (after.spot t) ≡ true =
          and_from (is_in_wait_list (before.spot t)) _ (ap is_in_wait_list wait.1) (ap (is_at_free after) here ∙ ap not now) in
          or_right (is_started (before.spot t) (after.spot t)) _ (or_right (is_made_enabled before after t) _ (or_left (is_moved_to_free after (before.spot t) (after.spot t)) _ moved))

  change_line : (by : Option ℕ) → Facts by → (t o : ℕ) → after.spot t ≡ in_entry_list o → after.owned o ≡ false → SomeoneComes after change_with o
  change_line by f t o here now =
      elim (cases_Bool (before.owned o)) [
        | inl was ↦ line_next by f t o here was now
        | inr was ↦ line_free by f t o here was now
      ]

  abbrev Goes : ℕ → Type 0
  Goes t = (is_live (after.spot t) ≡ true) × ((after.enabled t || is_in_line (after.spot t)) ≡ true)

  goes_in_line : (t : ℕ) → is_in_line (after.spot t) ≡ true → Goes t
  goes_in_line t e = (in_line_live (after.spot t) e, or_right (after.enabled t) (is_in_line (after.spot t)) e)

  -- who was put into the deque
  put_goes : (by : Option ℕ) → Facts by → (t : ℕ) → is_to_run before after enters t ≡ true → Goes t
  put_goes by f t runs =
      elim (or_cases (is_started (before.spot t) (after.spot t)) _ runs) [
        | inl e ↦
            let parts = and_parts (not (is_live (before.spot t))) (is_live (after.spot t)) e in
            (parts.1, f.change.begun t (dead (is_live (before.spot t)) parts.0) parts.1)
        | inr rest ↦
            elim (or_cases (is_made_enabled before after t) _ rest) [
              | inl e ↦
                  let parts = and_parts (not (before.enabled t)) _ e in
                  let now = (and_parts (after.enabled t) (not (is_in_line (after.spot t))) parts.1).0 in
                  (f.look.live t now, or_left (after.enabled t) (is_in_line (after.spot t)) now)
              | inr last ↦
                  elim (or_cases (is_moved_to_free after (before.spot t) (after.spot t)) _ last) [
                    | inl e ↦ goes_in_line t (at_free after (after.spot t) (and_parts (is_in_wait_list (before.spot t)) _ e).1)
                    | inr e ↦ goes_in_line t (next_in_line before after enters t (after.spot t) e)
                  ]
            ]
      ]
    where
      dead : (b : Bool) → not b ≡ true → b ≡ false
      dead true e = absurd cc
      dead false e = refl

  -- who was in a deque before
  stay_goes : (by : Option ℕ) → Facts by → (t : ℕ) → 0 < in_deques t s → Goes t
  stay_goes by f t h =
      let was = f.woken.deques t h in
      let other : IsOther by t = λ e. absurd (omega (arith, f.on t e, h, f.once t)) in
      elim (cases_Bool (is_in_line (before.spot t))) [
        | inl line ↦
            let w = line_of (before.spot t) line in
            goes_in_line t (ap is_in_line (f.change.in_line t w.0 other w.1))
        | inr free ↦
            let on = enabled_of (before.enabled t) (is_in_line (before.spot t)) was.1 free in
            let spot = no_list (before.spot t) was.0 free (λ o e. no_both (before.enabled t) on (f.old.waits t o e)) in
            let stays = f.change.ready t other spot on in
            (ap is_live stays.0, or_left (after.enabled t) (is_in_line (after.spot t)) stays.1)
      ]
    where
      enabled_of : (a b : Bool) → (a || b) ≡ true → b ≡ false → a ≡ true
      enabled_of true b e z = refl
      enabled_of false b e z = absurd (no_both b e z)

  pub change_woken : (by : Option ℕ) → Facts by → AreWoken after change_with
  change_woken by f =
      record {
        ready = change_ready by f;
        line = change_line by f;
        deques = λ t h.
            elim (cases_lt 0 (in_deques t s)) [
              | inl q ↦ stay_goes by f t q
              | inr z ↦ put_goes by f t (put-out t (omega (arith, queued t f.inside, h, z))).0
            ];
      }

  -- Of the threads that are in no place and in no line, those are put that may step now: who was enabled before has a place.
  pub put_is_now : (by : Option ℕ) → Facts by → (t : ℕ) → places t s ≡ 0 → is_in_line (after.spot t) ≡ false → is_to_run before after enters t ≡ after.enabled t
  put_is_now by f t none off =
      elim (cases_Bool (after.enabled t)) [
        | inl on ↦
            or_right (is_started (before.spot t) (after.spot t)) _ (or_left (is_made_enabled before after t) _ (made_enabled by f t on off none)) ∙ sym on
        | inr off_now ↦
            elim (cases_Bool (is_to_run before after enters t)) [
              | inr stays ↦ stays ∙ sym off_now
              | inl runs ↦
                  let goes = put_goes by f t runs in
                  absurd (no_both (after.enabled t || is_in_line (after.spot t)) goes.1 (or_from (after.enabled t) (is_in_line (after.spot t)) off_now off))
            ]
      ]
