-- Each step of a turn keeps the rule.
use Rattle.std.proofs.Common.{◌≡◌, ◌≢◌, ◌+◌, ◌==◌, ℕ, zero, suc, Bool, true, false, true≢false, Option, Some, None, List, [], ◌∷◌, ◌++◌, length, take, set, refl, sym, ap, subst, ◌∙◌, inl, inr, arith, length-append, eq-eqb, ne_eqb, eqb}
use Rattle.std.proofs.lemmas.Bool.{false≢true}
use Rattle.std.specs.Prelude.{MatchBool, slice_index}
use Rattle.std.proofs.lemmas.List.{append-nil}
use mathlib.Core.Option.{Option as Maybe, some, none}
use mathlib.Core.List.{IsPrefix}
use lib.ListN.{get_elem?}
use prog.Atomic.{either}
use Rattle.atomic_table.specs.Table.{State, Act, keeps, takes, gives, Allows, Valid, homes_after, carried_after, step}
use Rattle.atomic_table.proofs.Lists.{set_again}
use Rattle.history.specs.declared.entry.Entry.{Entry}
use Rattle.history.specs.Carriers.{made_by}
use Rattle.turn_lock.specs.declared.view.View.{View}
use Rattle.turn_lock.specs.Views.{note, view, view_of}
use Rattle.turn_lock.specs.Rules.{IsAt, Agrees, IsInOrder}
use Rattle.turn_lock.specs.Moves.{Mine, Stays, PutsDown, PicksUp, Gives, HasTaken, Takes, Counts}
use Rattle.turn_lock.proofs.EntryLaws.{itself, one_place}
use Rattle.turn_lock.proofs.StepLaws.{Goes, Says, moves, nobody_has, alone, sits, says_note}

module _ {V C : Type 0} (history : V → List Entry) (setting : V → C) (initial : V) (seats : ℕ) where
  abbrev InOrder : State (Option V) View → Type 0
  InOrder s = IsInOrder history setting initial seats s

  abbrev Agree : ℕ → ℕ → List (Maybe (Option V)) → List View → List Entry → Type 0
  Agree turn count homes views log = Agrees history setting initial seats turn count homes views log

  -- the table, by its parts
  abbrev parts : List ℕ → List (Maybe (Option V)) → List View → State (Option V) View
  parts words homes views = record { words = words; homes = homes; views = views }

  -- a next view and an act, with what they tell
  abbrev Next : ℕ → Mine V → ℕ → (ℕ → ℕ) → (ℕ → Mine V → Type 0) → List ℕ → List (Maybe (Option V)) → List View → Type 0
  Next id me i f then words homes views =
      (w : View) × (a : Act (Option V)) × Valid homes me.1 a
      × InOrder (parts (set words i (f (slice_index words i))) (homes_after homes me.1 a) (set views id w))
      × then (slice_index words i) (w, carried_after me.1 a)

  -- a step is allowed where it has a next view in each table of three words
  allowed : (slots id : ℕ) (me : Mine V) (i : ℕ) (f : ℕ → ℕ) (then : ℕ → Mine V → Type 0)
      → ((turn count waiting : ℕ) (homes : List (Maybe (Option V))) (views : List View) (log : List Entry) → Agree turn count homes views log → length homes ≡ slots → IsAt views id me.0
      → Next id me i f then (turn ∷ count ∷ waiting ∷ []) homes views)
      → Allows InOrder slots id me i f then
  allowed slots id me i f then next s o long at _ =
      subst (λ ws. Next id me i f then ws s.homes s.views) (sym o.words) (next o.turn o.count o.waiting s.homes s.views o.log o.agrees long at)

  ordered : (turn count waiting : ℕ) (homes : List (Maybe (Option V))) (views : List View) (log : List Entry) → Agree turn count homes views log → InOrder (parts (turn ∷ count ∷ waiting ∷ []) homes views)
  ordered turn count waiting homes views log all = record { turn = turn; count = count; waiting = waiting; log = log; words = refl; agrees = all }

  -- the same with the view of a seat written again
  again : (turn count waiting : ℕ) (homes : List (Maybe (Option V))) (views : List View) (log : List Entry) (id : ℕ) (v : View) → IsAt views id v → Agree turn count homes views log
      → InOrder (parts (turn ∷ count ∷ waiting ∷ []) homes (set views id v))
  again turn count waiting homes views log id v at all =
      subst (λ vs. InOrder (parts (turn ∷ count ∷ waiting ∷ []) homes vs)) (sym (set_again views id v at)) (ordered turn count waiting homes views log all)

  -- any change of the third word
  pub stays : (slots id : ℕ) (me : Mine V) (f : ℕ → ℕ) (k : ℕ) → Allows InOrder slots id me 2 f (Stays (step slots 2 k 0 none) me)
  stays slots id me f k = allowed slots id me 2 f (Stays (step slots 2 k 0 none) me)
      (λ turn count waiting homes views log all long at. (me.0, keeps, tt, again turn count (f waiting) homes views log id me.0 at all, refl))

  -- ---- taking the turn

  module _ (admits : V → Type 0) (fits : (m : V) → setting m ≡ setting initial → admits m) where
    free_turn : (slots id number mine : ℕ) (seen : List Entry) → mine ≡ number + 1 → (count waiting : ℕ) (homes : List (Maybe (Option V))) (views : List View) (log : List Entry)
        → Agree 0 count homes views log → IsAt views id (view_of false number seen)
        → Next id (view_of false number seen, []) 0 (λ n. either (n == 0) mine n) (Takes history admits (step slots 0 0 mine none) (view_of false number seen, [])) (0 ∷ count ∷ waiting ∷ []) homes views
    free_turn slots id number mine seen is count waiting homes views log all at =
        let home = all.home refl in
        let right = says_note history setting initial seats 0 count homes views log id (view_of false number seen) number seen all at refl in
        let w = view true true (note number (history home.value) ∷ []) in
        let homes' = set homes 0 none in
        let goes : Goes log (view_of false number seen) w log = record {
          number = number;
          seen = seen;
          now_seen = history home.value;
          new = [];
          was = refl;
          becomes = refl;
          grows = sym (append-nil log);
          own = tt;
          begins = subst (λ es. IsPrefix es log) (sym home.all) (itself log);
          exact = ap (made_by number) (sym home.all);
        } in
        let says : Says history setting initial seats mine homes' log w = record {
          turn_is = λ h. record { number = number; others = []; notes = ap (λ es. note number es ∷ []) home.all; named = is };
          empty = λ h e. absurd (true≢false e);
          home = λ e. absurd (omega arith);
          held = inr refl;
        } in (
          w,
          takes 0 (Some home.value),
          ap (λ hs. get_elem? hs 0) home.there,
          record {
            turn = mine;
            count = length log;
            waiting = waiting;
            log = log;
            words = ap (λ n. mine ∷ n ∷ waiting ∷ []) all.counts;
            agrees = moves history setting initial seats 0 count mine homes homes' views log log id (view_of false number seen) w all at
                (λ j u apart there. nobody_has history setting initial seats count homes views log all j u there) goes says;
          },
          (
            home.value,
            record {
              after = refl;
              begins = subst (λ es. IsPrefix seen es) (sym home.all) right.begins;
              exact = ap (made_by number) home.all ∙ right.exact;
              admitted = fits home.value home.same;
            },
          ),
        )

    taken_turn : (slots id number mine : ℕ) (seen : List Entry) (turn count waiting : ℕ) (homes : List (Maybe (Option V))) (views : List View) (log : List Entry)
        → turn ≢ 0 → Agree turn count homes views log → IsAt views id (view_of false number seen)
        → Next id (view_of false number seen, []) 0 (λ n. either (n == 0) mine n) (Takes history admits (step slots 0 0 mine none) (view_of false number seen, [])) (turn ∷ count ∷ waiting ∷ []) homes views
    taken_turn slots id number mine seen turn count waiting homes views log taken all at =
        let test : eqb turn 0 ≡ false = ne_eqb turn 0 taken in
        let me : Mine V = (view_of false number seen, []) in (
          me.0,
          keeps,
          tt,
          subst (λ b. InOrder (parts (either b mine turn ∷ count ∷ waiting ∷ []) homes (set views id me.0))) (sym test) (again turn count waiting homes views log id me.0 at all),
          subst (λ b. MatchBool b ((value : V) × HasTaken history admits me value me) (me ≡ me)) (sym test) refl,
        )

    takes_at : (slots id number mine : ℕ) (seen : List Entry) → mine ≡ number + 1
        → Allows InOrder slots id (view_of false number seen, []) 0 (λ n. either (n == 0) mine n) (Takes history admits (step slots 0 0 mine none) (view_of false number seen, []))
    takes_at slots id number mine seen is =
        allowed slots id (view_of false number seen, []) 0 (λ n. either (n == 0) mine n) (Takes history admits (step slots 0 0 mine none) (view_of false number seen, [])) by
      where
        by : (turn count waiting : ℕ) (homes : List (Maybe (Option V))) (views : List View) (log : List Entry) → Agree turn count homes views log → length homes ≡ slots → IsAt views id (view_of false number seen)
            → Next id (view_of false number seen, []) 0 (λ n. either (n == 0) mine n) (Takes history admits (step slots 0 0 mine none) (view_of false number seen, [])) (turn ∷ count ∷ waiting ∷ []) homes views
        by zero count waiting homes views log all long at = free_turn slots id number mine seen is count waiting homes views log all at
        by (suc t) count waiting homes views log all long at = taken_turn slots id number mine seen (suc t) count waiting homes views log (λ e. absurd (omega arith)) all at

    pub takes_turn : (slots id number mine : ℕ) (seen : List Entry) (me : Mine V) → mine ≡ number + 1 → me ≡ (view_of false number seen, [])
        → Allows InOrder slots id me 0 (λ n. either (n == 0) mine n) (Takes history admits (step slots 0 0 mine none) me)
    takes_turn slots id number mine seen me is same =
        subst (λ (m : Mine V). Allows InOrder slots id m 0 (λ n. either (n == 0) mine n) (Takes history admits (step slots 0 0 mine none) m)) (sym same) (takes_at slots id number mine seen is)

  -- ---- with the turn

  -- the same history seen, by a seat that keeps the turn
  stay_seen : (log : List Entry) (number : ℕ) (seen : List Entry) (slot slot' : Bool) → seen ≡ log → Goes log (view true slot (note number seen ∷ [])) (view true slot' (note number seen ∷ [])) log
  stay_seen log number seen slot slot' all = record {
    number = number;
    seen = seen;
    now_seen = seen;
    new = [];
    was = refl;
    becomes = refl;
    grows = sym (append-nil log);
    own = tt;
    begins = subst (λ es. IsPrefix es log) (sym all) (itself log);
    exact = ap (made_by number) (sym all);
  }

  -- what a seat says that keeps the turn
  keeps_turn : (turn : ℕ) (homes : List (Maybe (Option V))) (log : List Entry) (number : ℕ) (seen : List Entry) (slot : Bool) → seen ≡ log → turn ≡ number + 1
      → (slot ≡ false → homes ≡ some None ∷ []) → Says history setting initial seats turn homes log (view true slot (note number seen ∷ []))
  keeps_turn turn homes log number seen slot all named left = record {
    turn_is = λ h. record { number = number; others = []; notes = ap (λ es. note number es ∷ []) all; named = named };
    empty = λ h e. left e;
    home = λ e. absurd (omega arith);
    held = inr refl;
  }

  down_at : (slots id number : ℕ) (seen : List Entry) → slots ≡ 1
      → Allows InOrder slots id (view true true (note number seen ∷ []), (0, None) ∷ []) 0 (λ n. n) (PutsDown (step slots 0 0 0 none) (view true true (note number seen ∷ []), (0, None) ∷ []))
  down_at slots id number seen one =
      let v = view true true (note number seen ∷ []) in
      let w = view true false (note number seen ∷ []) in
      allowed slots id (v, (0, None) ∷ []) 0 (λ n. n) (PutsDown (step slots 0 0 0 none) (v, (0, None) ∷ []))
      (λ turn count waiting homes views log all long at.
      let mine = sits history setting initial seats turn count homes views log id v number seen all at refl refl in
      let empty : set homes 0 (some None) ≡ some None ∷ [] = one_place homes (some None) (long ∙ one) in (
        w,
        gives,
        tt,
        record {
          turn = turn;
          count = length log;
          waiting = waiting;
          log = log;
          words = ap (λ n. turn ∷ n ∷ waiting ∷ []) all.counts;
          agrees = moves history setting initial seats turn count turn homes (set homes 0 (some None)) views log log id v w all at
              (alone history setting initial seats turn count homes views log id v all at refl)
              (stay_seen log number seen true false mine.all)
              (keeps_turn turn (set homes 0 (some None)) log number seen false mine.all mine.named (λ _. empty));
        },
        refl,
      ))

  pub puts_down : (slots id number : ℕ) (seen : List Entry) (me : Mine V) → slots ≡ 1 → me ≡ (view true true (note number seen ∷ []), (0, None) ∷ [])
      → Allows InOrder slots id me 0 (λ n. n) (PutsDown (step slots 0 0 0 none) me)
  puts_down slots id number seen me one same =
      subst (λ (m : Mine V). Allows InOrder slots id m 0 (λ n. n) (PutsDown (step slots 0 0 0 none) m)) (sym same) (down_at slots id number seen one)

  up_at : (slots id number : ℕ) (seen : List Entry)
      → Allows InOrder slots id (view_of true number seen, []) 0 (λ n. n) (PicksUp (step slots 0 0 0 none) (view_of true number seen, []))
  up_at slots id number seen =
      let v = view_of true number seen in
      let w = view true true (note number seen ∷ []) in
      allowed slots id (v, []) 0 (λ n. n) (PicksUp (step slots 0 0 0 none) (v, []))
      (λ turn count waiting homes views log all long at.
      let mine = sits history setting initial seats turn count homes views log id v number seen all at refl refl in
      let empty = (all.knows id v at).empty refl refl in (
        w,
        takes 0 None,
        ap (λ hs. get_elem? hs 0) empty,
        record {
          turn = turn;
          count = length log;
          waiting = waiting;
          log = log;
          words = ap (λ n. turn ∷ n ∷ waiting ∷ []) all.counts;
          agrees = moves history setting initial seats turn count turn homes (set homes 0 none) views log log id v w all at
              (alone history setting initial seats turn count homes views log id v all at refl)
              (stay_seen log number seen false true mine.all)
              (keeps_turn turn (set homes 0 none) log number seen true mine.all mine.named (λ e. absurd (true≢false e)));
        },
        refl,
      ))

  pub picks_up : (slots id number : ℕ) (seen : List Entry) (me : Mine V) → me ≡ (view_of true number seen, [])
      → Allows InOrder slots id me 0 (λ n. n) (PicksUp (step slots 0 0 0 none) me)
  picks_up slots id number seen me same =
      subst (λ (m : Mine V). Allows InOrder slots id m 0 (λ n. n) (PicksUp (step slots 0 0 0 none) m)) (sym same) (up_at slots id number seen)

  -- the next entry is counted: the word was what the seat had seen, and is one more
  count_at : (slots id number old : ℕ) (seen : List Entry) (slot : List (ℕ × Option V)) (value : V) (e : Entry)
      → old ≡ length seen → e.carrier ≡ number → take (old + 1) (history value) ≡ seen ++ e ∷ []
      → Allows InOrder slots id (view true true (note number seen ∷ []), slot) 1 (λ n. either (n == old) (old + 1) n)
      (Counts history (step slots 1 old (old + 1) (some (Some value))) (view true true (note number seen ∷ []), slot))
  count_at slots id number old seen slot value e counted own next =
      let v = view true true (note number seen ∷ []) in
      let now = take (length seen + 1) (history value) in
      let more : now ≡ seen ++ e ∷ [] = ap (λ n. take (n + 1) (history value)) (sym counted) ∙ next in
      let w = view true true (note number now ∷ []) in
      allowed slots id (v, slot) 1 (λ n. either (n == old) (old + 1) n) (Counts history (step slots 1 old (old + 1) (some (Some value))) (v, slot))
      (λ turn count waiting homes views log all long at.
      let mine = sits history setting initial seats turn count homes views log id v number seen all at refl refl in
      let log' = log ++ e ∷ [] in
      let grown : now ≡ log' = more ∙ ap (λ es. es ++ e ∷ []) mine.all in
      let hit : eqb count old ≡ true = eq-eqb count old (all.counts ∙ ap length (sym mine.all) ∙ sym counted) in
      let long' : old + 1 ≡ length log' = omega (arith, length-append log (e ∷ []), ap length mine.all) in
      let goes : Goes log v w log' = record {
        number = number;
        seen = seen;
        now_seen = now;
        new = e ∷ [];
        was = refl;
        becomes = refl;
        grows = refl;
        own = (own, tt);
        begins = subst (λ es. IsPrefix es log') (sym grown) (itself log');
        exact = ap (made_by number) (sym grown);
      } in (
        w,
        keeps,
        tt,
        record {
          turn = turn;
          count = length log';
          waiting = waiting;
          log = log';
          words = ap (λ b. turn ∷ either b (old + 1) count ∷ waiting ∷ []) hit ∙ ap (λ n. turn ∷ n ∷ waiting ∷ []) long';
          agrees = moves history setting initial seats turn count turn homes homes views log log' id v w all at
              (alone history setting initial seats turn count homes views log id v all at refl)
              goes
              (keeps_turn turn homes log' number now true grown mine.named (λ x. absurd (true≢false x)));
        },
        refl,
      ))

  pub counts_one : (slots id number old : ℕ) (seen : List Entry) (me : Mine V) (value : V) (e : Entry)
      → me.0 ≡ view true true (note number seen ∷ []) → old ≡ length seen → e.carrier ≡ number → take (old + 1) (history value) ≡ seen ++ e ∷ []
      → Allows InOrder slots id me 1 (λ n. either (n == old) (old + 1) n) (Counts history (step slots 1 old (old + 1) (some (Some value))) me)
  counts_one slots id number old seen me value e same counted own next =
      subst (λ (v : View). Allows InOrder slots id (v, me.1) 1 (λ n. either (n == old) (old + 1) n) (Counts history (step slots 1 old (old + 1) (some (Some value))) (v, me.1))) (sym same)
      (count_at slots id number old seen me.1 value e counted own next)

  give_at : (slots id number : ℕ) (seen : List Entry) (value : V) → slots ≡ 1 → history value ≡ seen → setting value ≡ setting initial
      → Allows InOrder slots id (view true true (note number seen ∷ []), (0, Some value) ∷ []) 0 (λ _. 0)
      (λ _. Gives (step slots 0 0 0 none) (view true true (note number seen ∷ []), (0, Some value) ∷ []) 0)
  give_at slots id number seen value one whole same =
      let v = view true true (note number seen ∷ []) in
      let w = view_of false number seen in
      allowed slots id (v, (0, Some value) ∷ []) 0 (λ _. 0) (λ _. Gives (step slots 0 0 0 none) (v, (0, Some value) ∷ []) 0)
      (λ turn count waiting homes views log all long at.
      let mine = sits history setting initial seats turn count homes views log id v number seen all at refl refl in
      let homes' = set homes 0 (some (Some value)) in
      let goes : Goes log v w log = record {
        number = number;
        seen = seen;
        now_seen = seen;
        new = [];
        was = refl;
        becomes = refl;
        grows = sym (append-nil log);
        own = tt;
        begins = subst (λ es. IsPrefix es log) (sym mine.all) (itself log);
        exact = ap (made_by number) (sym mine.all);
      } in
      let says : Says history setting initial seats 0 homes' log w = record {
        turn_is = λ h. absurd (false≢true h);
        empty = λ h e. absurd (false≢true h);
        home = λ _. record { value = value; there = one_place homes (some (Some value)) (long ∙ one); same = same; all = whole ∙ mine.all };
        held = inl refl;
      } in (
        w,
        gives,
        tt,
        record {
          turn = 0;
          count = length log;
          waiting = waiting;
          log = log;
          words = ap (λ n. 0 ∷ n ∷ waiting ∷ []) all.counts;
          agrees = moves history setting initial seats turn count 0 homes homes' views log log id v w all at
              (alone history setting initial seats turn count homes views log id v all at refl) goes says;
        },
        refl,
      ))

  pub gives_turn : (slots id number : ℕ) (seen : List Entry) (me : Mine V) (value : V) → slots ≡ 1 → me ≡ (view true true (note number seen ∷ []), (0, Some value) ∷ [])
      → history value ≡ seen → setting value ≡ setting initial
      → Allows InOrder slots id me 0 (λ _. 0) (λ _. Gives (step slots 0 0 0 none) me 0)
  gives_turn slots id number seen me value one same whole fits =
      subst (λ (m : Mine V). Allows InOrder slots id m 0 (λ _. 0) (λ _. Gives (step slots 0 0 0 none) m 0)) (sym same) (give_at slots id number seen value one whole fits)
