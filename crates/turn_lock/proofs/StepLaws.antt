-- What a step of one seat leaves of the rule.
use Rattle.std.proofs.Common.{◌≡◌, ◌≢◌, ◌≤◌, ◌+◌, ◌⊎◌, ℕ, true, false, Option, None, List, [], ◌∷◌, ◌++◌, length, set, refl, sym, ap, subst, ◌∙◌, inl, inr, ⊎_elim, arith}
use mathlib.Core.Option.{Option as Maybe, some}
use mathlib.Core.List.{IsPrefix}
use Rattle.atomic_table.proofs.Lists.{at_set}
use Rattle.history.specs.declared.entry.Entry.{Entry}
use Rattle.history.specs.Carriers.{made_by}
use Rattle.turn_lock.specs.declared.view.View.{View}
use Rattle.turn_lock.specs.Views.{note, number_in, seen_in, HasNote, IsRight, AreRight, AreApart}
use Rattle.turn_lock.specs.Rules.{IsAt, HasTurn, Knows, IsHome, Agrees}
use Rattle.turn_lock.proofs.EntryLaws.{AllBy, others_made, put_there}
use Rattle.turn_lock.proofs.NoteLaws.{right_later}

-- one seat goes from a view to another, and adds entries of its own to the history
pub record Goes (log : List Entry) (v w : View) (next : List Entry) : Type 0 where
  pub number : ℕ
  pub seen : List Entry
  pub now_seen : List Entry
  pub new : List Entry
  pub was : v.notes ≡ note number seen ∷ []
  pub becomes : w.notes ≡ note number now_seen ∷ []
  pub grows : next ≡ log ++ new
  pub own : AllBy number new
  pub begins : IsPrefix now_seen next
  pub exact : made_by number next ≡ made_by number now_seen

module _ {V C : Type 0} (history : V → List Entry) (setting : V → C) (initial : V) (seats : ℕ) where
  -- what the seat then says of the turn and of the slot
  pub record Says (turn : ℕ) (homes : List (Maybe (Option V))) (next : List Entry) (w : View) : Type 0 where
    pub turn_is : w.holds ≡ true → HasTurn turn next w
    pub empty : w.holds ≡ true → w.has_slot ≡ false → homes ≡ some None ∷ []
    pub home : turn ≡ 0 → IsHome history setting initial homes next
    pub held : (turn ≡ 0) ⊎ (w.holds ≡ true)

  abbrev pub Nobody : List View → ℕ → Type 0
  Nobody views id = (j : ℕ) (u : View) → j ≢ id → IsAt views j u → ¬ (u.holds ≡ true)

  pub moves : (turn count turn' : ℕ) (homes homes' : List (Maybe (Option V))) (views : List View) (log next : List Entry) (id : ℕ) (v w : View)
      → Agrees history setting initial seats turn count homes views log → IsAt views id v → Nobody views id
      → Goes log v w next → Says turn' homes' next w → Agrees history setting initial seats turn' (length next) homes' (set views id w) next
  moves turn count turn' homes homes' views log next id v w all at nobody goes says = record {
    counts = refl;
    others = λ k above. ap (made_by k) goes.grows ∙ others_made k goes.number log goes.new (λ same. not_own k above same) goes.own ∙ all.others k above;
    knows = λ j u there. ⊎_elim
        (λ (t : (j ≡ id) × (w ≡ u)). subst (Knows seats turn' homes' next) t.1 mine)
        (λ (t : (j ≢ id) × IsAt views j u). theirs j u t.0 t.1)
        (at_set views id j w u there);
    separate = λ i j u x apart there here. between i j u x apart (at_set views id i w u there) (at_set views id j w x here);
    home = says.home;
    held = ⊎_elim inl (λ h. inr (record { seat = id; known = w; there = put_there views id v w at; holds = h })) says.held;
  }
    where
      before : Knows seats turn homes log v
      before = all.knows id v at

      below : IsRight seats log (note goes.number goes.seen)
      below = (subst (AreRight seats log) goes.was before.right).0

      not_own : (k : ℕ) → seats ≤ k → k ≡ goes.number → ⊥
      not_own k above same = let b = below.below in omega arith

      mine : Knows seats turn' homes' next w
      mine = record {
        right = subst (AreRight seats next) (sym goes.becomes) (record { below = below.below; begins = goes.begins; exact = goes.exact }, tt);
        apart = subst AreApart (sym goes.becomes) ((λ has. has), tt);
        turn_is = says.turn_is;
        empty = says.empty;
      }

      had : (k : ℕ) → HasNote k w.notes → HasNote k v.notes
      had k has = subst (HasNote k) (sym goes.was) (subst (HasNote k) goes.becomes has)

      theirs : (j : ℕ) (u : View) → j ≢ id → IsAt views j u → Knows seats turn' homes' next u
      theirs j u apart there =
          let known = all.knows j u there in
          let free : ¬ HasNote goes.number u.notes = λ has. all.separate id j v u (λ e. apart (sym e)) at there goes.number (subst (HasNote goes.number) (sym goes.was) (inl refl)) has in
          record {
            right = subst (λ es. AreRight seats es u.notes) (sym goes.grows) (right_later seats goes.number log goes.new u.notes free goes.own known.right);
            apart = known.apart;
            turn_is = λ h. absurd (nobody j u apart there h);
            empty = λ h _. absurd (nobody j u apart there h);
          }

      between : (i j : ℕ) (u x : View) → i ≢ j → ((i ≡ id) × (w ≡ u)) ⊎ ((i ≢ id) × IsAt views i u) → ((j ≡ id) × (w ≡ x)) ⊎ ((j ≢ id) × IsAt views j x)
          → (k : ℕ) → HasNote k u.notes → ¬ HasNote k x.notes
      between i j u x apart (inl s) (inl t) k has and = apart (s.0 ∙ sym t.0)
      between i j u x apart (inl s) (inr t) k has and = all.separate id j v x (λ e. t.0 (sym e)) at t.1 k (had k (subst (λ (y : View). HasNote k y.notes) (sym s.1) has)) and
      between i j u x apart (inr s) (inl t) k has and = all.separate i id u v s.0 s.1 at k has (had k (subst (λ (y : View). HasNote k y.notes) (sym t.1) and))
      between i j u x apart (inr s) (inr t) k has and = all.separate i j u x apart s.1 t.1 k has and

  -- where the turn is free, no seat has it
  pub nobody_has : (count : ℕ) (homes : List (Maybe (Option V))) (views : List View) (log : List Entry) → Agrees history setting initial seats 0 count homes views log
      → (j : ℕ) (u : View) → IsAt views j u → ¬ (u.holds ≡ true)
  nobody_has count homes views log all j u there h = let t = (all.knows j u there).turn_is h in let n = t.named in omega arith

  -- where one seat has the turn, no other has it
  pub alone : (turn count : ℕ) (homes : List (Maybe (Option V))) (views : List View) (log : List Entry) (id : ℕ) (v : View)
      → Agrees history setting initial seats turn count homes views log → IsAt views id v → v.holds ≡ true → Nobody views id
  alone turn count homes views log id v all at holds j u apart there h =
      let mine = (all.knows id v at).turn_is holds in
      let theirs = (all.knows j u there).turn_is h in
      let same : mine.number ≡ theirs.number = (let a = mine.named in let b = theirs.named in omega arith) in
      all.separate id j v u (λ e. apart (sym e)) at there mine.number
      (subst (HasNote mine.number) (sym mine.notes) (inl refl))
      (subst (HasNote mine.number) (sym theirs.notes) (inl (sym same)))

  -- what a seat with one note knows while it has the turn
  pub record Sits (turn : ℕ) (log : List Entry) (number : ℕ) (seen : List Entry) : Type 0 where
    pub all : seen ≡ log
    pub named : turn ≡ number + 1

  pub sits : (turn count : ℕ) (homes : List (Maybe (Option V))) (views : List View) (log : List Entry) (id : ℕ) (v : View) (number : ℕ) (seen : List Entry)
      → Agrees history setting initial seats turn count homes views log → IsAt views id v → v.holds ≡ true → v.notes ≡ note number seen ∷ []
      → Sits turn log number seen
  sits turn count homes views log id v number seen all at holds is =
      let mine = (all.knows id v at).turn_is holds in
      let same = sym is ∙ mine.notes in
      record { all = ap seen_in same; named = mine.named ∙ ap (λ ns. number_in ns + 1) (sym same) }

  -- what the note of a seat with one note says
  pub says_note : (turn count : ℕ) (homes : List (Maybe (Option V))) (views : List View) (log : List Entry) (id : ℕ) (v : View) (number : ℕ) (seen : List Entry)
      → Agrees history setting initial seats turn count homes views log → IsAt views id v → v.notes ≡ note number seen ∷ [] → IsRight seats log (note number seen)
  says_note turn count homes views log id v number seen all at is = (subst (AreRight seats log) is (all.knows id v at).right).0
