-- So many steps of main alone as one likes, where they end the program.
use Rattle.std.proofs.Common.{◌≡◌, inl, inr, ℕ, zero, suc, ◌+◌, ◌-◌, ◌≤◌, true, false, Bool, List, [], ◌∷◌, Option, Some, None, refl, ap, sym, ◌∙◌, arith, cond}
use Rattle.std.specs.Prelude.{is_some, if◌then◌else◌}
use Rattle.std.proofs.lemmas.Bool.{cases_lt}
use Rattle.items.specs.First.{Each}
use Rattle.items.specs.Options.{◌>>=◌}
use Rattle.items.proofs.Binds.{some_is, bind_is}
use Rattle.history.specs.declared.entry.Entry.{Entry}
use Rattle.history.specs.Java.{is_java, java}
use Rattle.ref_model.specs.declared.ending.Ending.{Ending}
use Rattle.ref_model.specs.Setting.{Setting}
use Rattle.ref_model.specs.State.{State}
use Rattle.ref_model.specs.Ending.{ending}
use Rattle.ref_model.specs.Opening.{opening}
use Rattle.ref_model.specs.Resuming.{next_asks}
use Rattle.ref_model.specs.Alone.{alone, needs_others, stepped_alone}
use Rattle.ref_model.specs.Step.{enabled, step, thread_step}
use Rattle.ref_model.specs.Run.{steps}
use Rattle.schedule_soundness.specs.AloneLaws.{is_tick}
use Rattle.schedule_soundness.proofs.Steps.{guarded}
use Rattle.schedule_soundness.proofs.AloneLaws.{from, from_more, from_opening, some_from}
use Rattle.schedule_soundness.proofs.Ahead.{going}

-- ---- past the end

pub over_alone : (p : Setting) (r : State) (told : Ending) → ending r ≡ Some told → stepped_alone p r ≡ Some r
over_alone p r told over = ap (λ b. cond b (Some r) (cond (next_asks p.world r 0 needs_others) None (step p r 0 None))) (ap is_some over)

pub from_over : (p : Setting) (n : ℕ) (r : State) (told : Ending) → ending r ≡ Some told → from p n (Some r) ≡ Some r
from_over p zero r told over = refl
from_over p (suc n) r told over =
    ap (λ o. o >>= stepped_alone p) (from_over p n r told over) ∙ over_alone p r told over

-- more steps than to the end lead to the end
pub from_past : (p : Setting) (few many : ℕ) (o : Option State) (q : State) (told : Ending) → few ≤ many → ending q ≡ Some told → from p few o ≡ Some q
    → from p many o ≡ Some q
from_past p few many o q told low over e =
    let split : many ≡ few + (many - few) = omega arith in
    ap (λ n. from p n o) split ∙ from_more p few (many - few) o ∙ ap (from p (many - few)) e ∙ from_over p (many - few) q told over

-- Where so many steps of main alone end the program, any number of them is defined: fewer, or more.
pub alone_any : (p : Setting) (n : ℕ) (q : State) (told : Ending) → alone p n ≡ Some q → ending q ≡ Some told → (j : ℕ)
    → (r : State) × (alone p j ≡ Some r)
alone_any p n q told made over j =
    elim (cases_lt n j) [
      | inl past ↦ (q, from_opening p j ∙ from_past p n j (opening p) q told (omega (arith, past)) over whole)
      | inr up ↦ fewer (n - j) (omega (arith, up))
    ]
  where
    whole : from p n (opening p) ≡ Some q
    whole = sym (from_opening p n) ∙ made

    fewer : (more : ℕ) → n ≡ j + more → (r : State) × (alone p j ≡ Some r)
    fewer more is =
        let split : from p more (from p j (opening p)) ≡ Some q =
        sym (from_more p j more (opening p)) ∙ ap (λ m. from p m (opening p)) (sym is) ∙ whole in
        let r = some_from p more (from p j (opening p)) q split in
        (r.0, from_opening p j ∙ r.1)

-- ---- one step, where the program goes on

-- main's next step asks for no start, and doesn't read the clock
pub record StepsAlone (p : Setting) (r q : State) : Type 0 where
  pub asks : next_asks p.world r 0 needs_others ≡ false
  pub made : step p r 0 None ≡ Some q

pub steps_alone : (p : Setting) (r q : State) → ending r ≡ None → stepped_alone p r ≡ Some q → StepsAlone p r q
steps_alone p r q goes e = by (ending r) (next_asks p.world r 0 needs_others) refl goes e
  where
    by : (o : Option Ending) (b : Bool) → next_asks p.world r 0 needs_others ≡ b → o ≡ None
        → (if is_some o then Some r else if b then None else step p r 0 None) ≡ Some q → StepsAlone p r q
    by (Some x) b is goes e = absurd cc
    by None true is goes e = absurd cc
    by None false is goes e = record { asks = is; made = e }

-- so it is where any number of steps is defined
pub next_alone : (p : Setting) (j : ℕ) (r : State) → ((k : ℕ) → (s : State) × (alone p k ≡ Some s)) → alone p j ≡ Some r → ending r ≡ None
    → (q : State) × (alone p (suc j) ≡ Some q) × StepsAlone p r q
next_alone p j r any here goes =
    let q = any (suc j) in
    let next : stepped_alone p r ≡ Some q.0 = sym (bind_is (alone p j) (stepped_alone p) r (stepped_alone p r) here refl) ∙ q.1 in
    (q.0, q.1, steps_alone p r q.0 goes next)

-- what is reached by steps from where main alone comes, it comes to
pub alone_ahead : (p : Setting) (j n : ℕ) (r q : State) → ((k : ℕ) → (s : State) × (alone p k ≡ Some s)) → alone p j ≡ Some r → steps p n r 0 ≡ Some q
    → (k : ℕ) × (alone p k ≡ Some q)
alone_ahead p j zero r q any here e = (j, here ∙ e)
alone_ahead p j (suc n) r q any here e =
    let s = some_is (steps p n r 0) (λ s. step p s 0 None) q e in
    let before = alone_ahead p j n r s.0 any here s.1 in
    let goes = going s.0 0 (guarded (enabled s.0 0) (thread_step p.world s.0 0) q s.2).0 in
    let next = next_alone p before.0 s.0 any before.1 goes in
    (suc before.0, next.1 ∙ sym next.2.made ∙ s.2)

-- ---- histories without ticks

pub each_java : (es : List Entry) → Each (λ (e : Entry). is_tick e.what ≡ false) es → Each (λ (e : Entry). is_tick e.what ≡ false) (java es)
each_java [] each = tt
each_java (e ∷ es) each = by (is_java e.what) (each_java es each.1)
  where
    by : (b : Bool) → Each (λ (e : Entry). is_tick e.what ≡ false) (java es)
        → Each (λ (e : Entry). is_tick e.what ≡ false) (cond b (e ∷ java es) (java es))
    by true rest = (each.0, rest)
    by false rest = rest
