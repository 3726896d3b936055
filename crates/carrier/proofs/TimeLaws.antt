-- The entries of time in a history that grows by turns.
use Rattle.std.proofs.Common.{◌≡◌, ◌≢◌, ◌⊎◌, inl, inr, ℕ, suc, Bool, true, false, List, [], ◌∷◌, ◌++◌, Option, Some, None, refl, ap, sym, ◌∙◌, subst}
use Rattle.std.specs.Prelude.{is_some}
use Rattle.std.proofs.lemmas.List.{append-nil}
use Rattle.items.specs.First.{Each}
use Rattle.items.proofs.Binds.{bind_is}
use Rattle.history.specs.declared.entry.Entry.{Entry}
use Rattle.history.specs.declared.entry.What.{What}
use Rattle.history.specs.declared.entry.What.TheVariants.{Clock, Mount, Step, Unmount}
use Rattle.schedule_model.specs.Run.{Scheduled, schedule_of}
use Rattle.ref_model.specs.declared.ending.Ending.{Ending}
use Rattle.ref_model.specs.declared.ending.Ending.TheVariants.{Halted}
use Rattle.ref_model.specs.Setting.{Setting}
use Rattle.ref_model.specs.State.{State}
use Rattle.ref_model.specs.Opening.{opening}
use Rattle.ref_model.specs.Looks.{machine_from}
use Rattle.schedule_soundness.specs.ClockLaws.{HasReason, awaited, read}
use Rattle.machine.specs.Legal.{IsLegal, Works}
use Rattle.machine.specs.Machines.{Known, machine_ending, scheduled}
use Rattle.carrier_turns.specs.declared.hand.Hand.{Hand}
use Rattle.carrier_turns.specs.declared.ask.Turn.{Turn}
use Rattle.carrier.specs.Shared.{MachineAndClock}
use Rattle.carrier.specs.Runs.{AreGivenTimes, IsGivenTime, IsTimed}
use Rattle.carrier_turns.specs.Turns as turns
use Rattle.carrier_turns.specs.Turns.{AreActs, AreOfTurn, HadReason, IsTurn, entry_by}
use Rattle.carrier_turns.proofs.EndingLaws.{halted_ends}
use Rattle.carrier_turns.proofs.EntryLaws.{first_entry}

-- ---- where an entry lies in two lists

-- in the first, or in the second
abbrev Lies : List Entry → List Entry → List Entry → Entry → List Entry → Type 0
Lies xs ys front e later =
    ((k : List Entry) × (xs ≡ front ++ e ∷ k) × (later ≡ k ++ ys)) ⊎ ((k : List Entry) × (front ≡ xs ++ k) × (ys ≡ k ++ e ∷ later))

lies : (xs ys front : List Entry) (e : Entry) (later : List Entry) → xs ++ ys ≡ front ++ e ∷ later → Lies xs ys front e later
lies [] ys front e later is = inr (front, refl, is)
lies (x ∷ xs) ys [] e later is = inl (xs, ap (λ y. y ∷ xs) (head is), sym (tail is))
  where
    head : x ∷ (xs ++ ys) ≡ e ∷ later → x ≡ e
    head is = cc

    tail : x ∷ (xs ++ ys) ≡ e ∷ later → xs ++ ys ≡ later
    tail is = cc
lies (x ∷ xs) ys (f ∷ front) e later is = by (lies xs ys front e later (tail is))
  where
    head : x ∷ (xs ++ ys) ≡ f ∷ (front ++ e ∷ later) → x ≡ f
    head is = cc

    tail : x ∷ (xs ++ ys) ≡ f ∷ (front ++ e ∷ later) → xs ++ ys ≡ front ++ e ∷ later
    tail is = cc

    by : Lies xs ys front e later → Lies (x ∷ xs) ys (f ∷ front) e later
    by (inl h) = inl (h.0, ap (λ zs. x ∷ zs) h.1 ∙ ap (λ y. y ∷ (front ++ e ∷ h.0)) (head is), h.2)
    by (inr h) = inr (h.0, ap (λ y. y ∷ front) (sym (head is)) ∙ ap (λ zs. x ∷ zs) h.1, h.2)

-- ---- the numbers

each_append : (P : Entry → Type 0) (xs ys : List Entry) → Each P xs → Each P ys → Each P (xs ++ ys)
each_append P [] ys a b = b
each_append P (x ∷ xs) ys a b = (a.0, each_append P xs ys a.1 b)

acts_given : (gives : ℕ → Bool) (c : ℕ) (es : List Entry) → AreActs c es → AreGivenTimes gives es
acts_given gives c es (turns.none is) = subst (AreGivenTimes gives) (sym is) tt
acts_given gives c es (turns.mount t is) = subst (AreGivenTimes gives) (sym is) (λ now e. absurd cc, tt)
acts_given gives c es (turns.unmount t is) = subst (AreGivenTimes gives) (sym is) (λ now e. absurd cc, tt)
acts_given gives c es (turns.step t n pick is) = subst (AreGivenTimes gives) (sym is) (λ now e. absurd cc, tt)
acts_given gives c es (turns.last_step t n pick is) = subst (AreGivenTimes gives) (sym is) (λ now e. absurd cc, (λ now e. absurd cc, tt))

same_time : (a b : ℕ) → ◌≡◌ {A = What} (Clock a) (Clock b) → a ≡ b
same_time a b e = cc

turn_given : (gives : ℕ → Bool) (c now : ℕ) (es : List Entry) → gives now ≡ true → AreOfTurn c now es → AreGivenTimes gives es
turn_given gives c now es given (turns.acts are) = acts_given gives c es are
turn_given gives c now es given (turns.timed later are is) =
    subst (AreGivenTimes gives) (sym is) (λ n e. subst (λ i. gives i ≡ true) (same_time now n e) given, acts_given gives c later are)

-- ---- the reasons

-- a reason stays one before more entries
reason_stays : (p : Setting) (r : State) (c now : ℕ) (later more : List Entry) → HasReason p r c now later → HasReason p r c now (later ++ more)
reason_stays p r c now later more (awaited is) = awaited is
reason_stays p r c now later more (read t n rest is reads) = read t n (rest ++ more) (ap (λ es. es ++ more) is) reads

-- only the first entry of a turn may be of time
no_tick : (c d now : ℕ) (what : What) (es later : List Entry) → (what ≡ Clock now → ⊥) → entry_by c what ∷ es ≡ entry_by d (Clock now) ∷ later → ⊥
no_tick c d now what es later other e =
    other (ap (λ (x : Entry). x.what) (first_entry (entry_by c what) (entry_by d (Clock now)) es later e))

none_of_one : (c d now : ℕ) (what : What) (later : List Entry) → (what ≡ Clock now → ⊥) → (k : List Entry)
    → entry_by c what ∷ [] ≡ k ++ entry_by d (Clock now) ∷ later → ⊥
none_of_one c d now what later other [] e = no_tick c d now what [] later other e
none_of_one c d now what later other (x ∷ []) e = cc
none_of_one c d now what later other (x ∷ y ∷ k) e = cc

rest_is : (x y : Entry) (xs ys : List Entry) → x ∷ xs ≡ y ∷ ys → xs ≡ ys
rest_is x y xs ys e = cc

acts_none : (c : ℕ) (es k later : List Entry) (d now : ℕ) → AreActs c es → es ≡ k ++ entry_by d (Clock now) ∷ later → ⊥
acts_none c es k later d now (turns.none is) e = by k (sym is ∙ e)
  where
    by : (k : List Entry) → [] ≡ k ++ entry_by d (Clock now) ∷ later → ⊥
    by [] e = cc
    by (x ∷ k) e = cc
acts_none c es k later d now (turns.mount t is) e = none_of_one c d now (Mount t) later (λ f. absurd cc) k (sym is ∙ e)
acts_none c es k later d now (turns.unmount t is) e = none_of_one c d now (Unmount t) later (λ f. absurd cc) k (sym is ∙ e)
acts_none c es k later d now (turns.step t n pick is) e = none_of_one c d now (Step t (suc n) pick) later (λ f. absurd cc) k (sym is ∙ e)
acts_none c es k later d now (turns.last_step t n pick is) e = by k (sym is ∙ e)
  where
    by : (k : List Entry) → entry_by c (Step t (suc n) pick) ∷ entry_by c (Unmount t) ∷ [] ≡ k ++ entry_by d (Clock now) ∷ later → ⊥
    by [] e = no_tick c d now (Step t (suc n) pick) (entry_by c (Unmount t) ∷ []) later (λ f. absurd cc) e
    by (x ∷ k) e =
        none_of_one c d now (Unmount t) later (λ f. absurd cc) k
        (rest_is (entry_by c (Step t (suc n) pick)) x (entry_by c (Unmount t) ∷ []) (k ++ entry_by d (Clock now) ∷ later) e)

-- an entry of time in a turn is its first, and the turn's own
record TimeOf (c now d n : ℕ) (es k later : List Entry) : Type 0 where
  none : k ≡ []
  carrier : d ≡ c
  time : n ≡ now

timed_first : (c now d n : ℕ) (es k later : List Entry) → AreOfTurn c now es → es ≡ k ++ entry_by d (Clock n) ∷ later → TimeOf c now d n es k later
timed_first c now d n es k later (turns.acts are) e = absurd (acts_none c es k later d n are e)
timed_first c now d n es k later (turns.timed rest are is) e = by k (sym is ∙ e)
  where
    by : (k : List Entry) → entry_by c (Clock now) ∷ rest ≡ k ++ entry_by d (Clock n) ∷ later → TimeOf c now d n es k later
    by [] e =
        let first = first_entry (entry_by c (Clock now)) (entry_by d (Clock n)) rest later e in
        record {
          none = refl;
          carrier = sym (ap (λ (x : Entry). x.carrier) first);
          time = sym (same_time now n (ap (λ (x : Entry). x.what) first));
        }
    by (x ∷ k) e = absurd (acts_none c rest k later d n are (rest_is (entry_by c (Clock now)) x rest (k ++ entry_by d (Clock n) ∷ later) e))

-- ---- a turn

-- the entries behind others are told by both
back_is : (xs ys zs : List Entry) → xs ++ ys ≡ xs ++ zs → ys ≡ zs
back_is [] ys zs e = e
back_is (x ∷ xs) ys zs e = back_is xs ys zs (tail e)
  where
    tail : (x ∷ xs) ++ ys ≡ (x ∷ xs) ++ zs → xs ++ ys ≡ xs ++ zs
    tail e = cc

-- an entry of time of a machine that works had a reason, or is the last of a turn with which the run was given up
module _ (gives : ℕ → Bool) (old new : Known) (c now : ℕ) (h g : Hand) (answer : Turn) (legal : IsLegal old) (turn : IsTurn old new c now h g answer)
    (ended : is_some (machine_ending old) ≡ true → new ≡ old) (timed : IsTimed gives old) where
  abbrev es : List Entry
  es = turn.appends.entries

  -- The reason of an entry in the history before: more entries follow it only where the run wasn't given up.
  in_old : (first : State) → opening old.setting ≡ Some first → (front rest : List Entry) (d n : ℕ) (v : Scheduled State)
      → old.history ≡ front ++ entry_by d (Clock n) ∷ rest → schedule_of (machine_from old.setting first) old.carriers front ≡ Some v
      → (rest ≢ []) ⊎ Works old → HasReason old.setting v.state d n (rest ++ es)
  in_old first begins front rest d n v is runs (inl more) = reason_stays old.setting v.state d n rest es (timed.before first begins front rest d n v more is runs)
  in_old first begins front rest d n v is runs (inr works) = reason_stays old.setting v.state d n rest es (timed.reasons works first begins front rest d n v is runs)

  -- The reason of the turn's entry, or the run was given up.
  in_turn : (first : State) → opening old.setting ≡ Some first → (front later k : List Entry) (d n : ℕ) (v : Scheduled State) → front ≡ old.history ++ k
      → es ≡ k ++ entry_by d (Clock n) ∷ later → schedule_of (machine_from old.setting first) old.carriers front ≡ Some v
      → HasReason old.setting v.state d n later ⊎ ((new.told ≡ Some Halted) × (later ≡ []))
  in_turn first begins front later k d n v is lies_ runs = by (turn.reason later own)
    where
      at : TimeOf c now d n es k later
      at = timed_first c now d n es k later turn.appends.of_turn lies_

      there : scheduled old ≡ Some v
      there =
          bind_is (opening old.setting) (λ r. schedule_of (machine_from old.setting r) old.carriers old.history) first (Some v) begins
          (ap (schedule_of (machine_from old.setting first) old.carriers) (sym (is ∙ ap (λ xs. old.history ++ xs) at.none ∙ append-nil old.history)) ∙ runs)

      own : es ≡ entry_by c (Clock now) ∷ later
      own =
          lies_ ∙ ap (λ xs. xs ++ entry_by d (Clock n) ∷ later) at.none ∙ ap (λ i. entry_by i (Clock n) ∷ later) at.carrier
          ∙ ap (λ i. entry_by c (Clock i) ∷ later) at.time

      by : HadReason old new c now later → HasReason old.setting v.state d n later ⊎ ((new.told ≡ Some Halted) × (later ≡ []))
      by (inl reason) =
          inl (subst (λ i. HasReason old.setting v.state i n later) (sym at.carrier)
          (subst (λ i. HasReason old.setting v.state c i later) (sym at.time) (reason v there)))
      by (inr given) = inr given

  -- what the history after the turn begins with, the machine before it began with, too
  began : (first : State) → opening new.setting ≡ Some first → opening old.setting ≡ Some first
  began first begins = ap opening (sym turn.appends.setting) ∙ begins

  ran : (first : State) (front : List Entry) (v : Scheduled State) → schedule_of (machine_from new.setting first) new.carriers front ≡ Some v
      → schedule_of (machine_from old.setting first) old.carriers front ≡ Some v
  ran first front v runs =
      ap (λ (q : Setting). schedule_of (machine_from q first) old.carriers front) (sym turn.appends.setting)
      ∙ ap (λ k. schedule_of (machine_from new.setting first) k front) (sym turn.appends.carriers) ∙ runs

  -- where a turn appends nothing, or wasn't made
  works_or_none : (es ≡ []) ⊎ Works old
  works_or_none = by (machine_ending old) refl
    where
      by : (o : Option Ending) → machine_ending old ≡ o → (es ≡ []) ⊎ Works old
      by None none = inr (λ halted. absurd (let bad : true ≡ false = sym (halted_ends old legal halted) ∙ ap is_some none in cc))
      by (Some told) some =
          let same : old.history ++ es ≡ old.history ++ [] = sym turn.appends.history ∙ ap (λ (m : Known). m.history) (ended (ap is_some some)) ∙ sym (append-nil old.history) in
          inl (back_is old.history es [] same)

  inner_or_works : (k later : List Entry) → later ≢ [] → later ≡ k ++ es → (k ≢ []) ⊎ Works old
  inner_or_works k later more is = by works_or_none
    where
      by : (es ≡ []) ⊎ Works old → (k ≢ []) ⊎ Works old
      by (inl none) = inl (λ empty. more (is ∙ ap (λ xs. xs ++ es) empty ∙ none))
      by (inr works) = inr works

  pub timed_after : gives now ≡ true → IsTimed gives new
  timed_after given = record {
    times = subst (AreGivenTimes gives) (sym turn.appends.history)
        (each_append (λ (e : Entry). IsGivenTime gives e.what) old.history es timed.times (turn_given gives c now es given turn.appends.of_turn));
    before = λ first begins front later d n v more is runs.
        subst (λ (q : Setting). HasReason q v.state d n later) (sym turn.appends.setting)
        (before first (began first begins) front later d n v more (ran first front v runs) (lies old.history es front (entry_by d (Clock n)) later (sym turn.appends.history ∙ is)));
    reasons = λ works first begins front later d n v is runs.
        subst (λ (q : Setting). HasReason q v.state d n later) (sym turn.appends.setting)
        (all works first (began first begins) front later d n v (ran first front v runs) (lies old.history es front (entry_by d (Clock n)) later (sym turn.appends.history ∙ is)));
  }
    where
      before : (first : State) → opening old.setting ≡ Some first → (front later : List Entry) (d n : ℕ) (v : Scheduled State) → later ≢ []
          → schedule_of (machine_from old.setting first) old.carriers front ≡ Some v → Lies old.history turn.appends.entries front (entry_by d (Clock n)) later
          → HasReason old.setting v.state d n later
      before first begins front later d n v more runs (inl l) =
          subst (HasReason old.setting v.state d n) (sym l.2) (in_old first begins front l.0 d n v l.1 runs (inner_or_works l.0 later more l.2))
      before first begins front later d n v more runs (inr l) = by (in_turn first begins front later l.0 d n v l.1 l.2 runs)
        where
          by : HasReason old.setting v.state d n later ⊎ ((new.told ≡ Some Halted) × (later ≡ [])) → HasReason old.setting v.state d n later
          by (inl reason) = reason
          by (inr given_up) = absurd (more given_up.1)

      all : Works new → (first : State) → opening old.setting ≡ Some first → (front later : List Entry) (d n : ℕ) (v : Scheduled State)
          → schedule_of (machine_from old.setting first) old.carriers front ≡ Some v → Lies old.history turn.appends.entries front (entry_by d (Clock n)) later
          → HasReason old.setting v.state d n later
      all works first begins front later d n v runs (inl l) =
          subst (HasReason old.setting v.state d n) (sym l.2) (in_old first begins front l.0 d n v l.1 runs (inr works_before))
        where
          works_before : Works old
          works_before = λ halted. works (ap (λ (m : Known). m.told) (ended (halted_ends old legal halted)) ∙ halted)
      all works first begins front later d n v runs (inr l) = by (in_turn first begins front later l.0 d n v l.1 l.2 runs)
        where
          by : HasReason old.setting v.state d n later ⊎ ((new.told ≡ Some Halted) × (later ≡ [])) → HasReason old.setting v.state d n later
          by (inl reason) = reason
          by (inr given_up) = absurd (works given_up.0)

-- the clock of a machine, which is seen as its parts
pub given_at : {C : Type 0} (gives : C → ℕ → Bool) (t u : MachineAndClock C) (now : ℕ) → t ≡ u → gives u.clock now ≡ true → gives t.clock now ≡ true
given_at gives t u now same given = ap (λ k. gives k.clock now) same ∙ given

pub timed_at_first : (gives : ℕ → Bool) (m : Known) → m.history ≡ [] → IsTimed gives m
timed_at_first gives m none = record {
  times = subst (AreGivenTimes gives) (sym none) tt;
  before = λ first begins front later c now v more is runs. absurd (by (entry_by c (Clock now)) later front (sym none ∙ is));
  reasons = λ works first begins front later c now v is runs. absurd (by (entry_by c (Clock now)) later front (sym none ∙ is));
}
  where
    by : (e : Entry) (later front : List Entry) → [] ≡ front ++ e ∷ later → ⊥
    by e later [] is = cc
    by e later (x ∷ front) is = cc
