-- Rows of one handler that are taken together.
use Rattle.std.proofs.Common.{◌≡◌, ℕ, ◌<◌, ◌≤◌, min, max, Bool, true, false, get_or, List, [], ◌∷◌, ◌++◌, length, Option, Some, None, refl, ap, sym, subst, ◌∙◌, arith}
use Rattle.std.specs.Prelude.{◌&&◌, ◌||◌, not, drop, map, nat_le, nat_lt}
use Rattle.std.specs.List.{list_all}
use Rattle.std.proofs.lemmas.Bool.{ltb-true, ltb-false, leb-true, leb-false, le-leb, lt-ltb, and_parts, and_from}
use Rattle.std.proofs.lemmas.List.{append-nil, map-append}
use Rattle.std.proofs.lemmas.List.Folds.{list_all-append}
use Rattle.class_model.specs.declared.attribute.Row.{Row}
use Rattle.verify_types.specs.Environment.{Handler, with_catches}
use Rattle.verify_code.specs.declared.guards.Caught.{Caught}
use Rattle.verify_code.specs.declared.guards.Guard.{Guard}
use Rattle.verify_code.specs.Guards.{AskAlike, Meet, asks, guard_in, opened}

pub alike_itself : (hs : List Handler) → AskAlike hs hs
alike_itself hs = record { same = λ pc test. refl }

-- ---- two in one

same_test : (a b : Bool) → (a ≡ true → b ≡ true) → (b ≡ true → a ≡ true) → a ≡ b
same_test true true f g = refl
same_test true false f g = sym (f refl)
same_test false true f g = g refl
same_test false false f g = refl

abbrev In : ℕ → ℕ → ℕ → Bool
In start end pc = nat_le start pc && nat_lt pc end

in_low : (start end pc : ℕ) → In start end pc ≡ true → start ≤ pc
in_low start end pc e = leb-true start pc (and_parts (nat_le start pc) (nat_lt pc end) e).0

in_high : (start end pc : ℕ) → In start end pc ≡ true → pc < end
in_high start end pc e = ltb-true pc end (and_parts (nat_le start pc) (nat_lt pc end) e).1

is_in : (start end pc : ℕ) → start ≤ pc → pc < end → In start end pc ≡ true
is_in start end pc low high = and_from (nat_le start pc) (nat_lt pc end) (le-leb start pc low) (lt-ltb pc end high)

or_left : (a b : Bool) → a ≡ true → (a || b) ≡ true
or_left true b e = refl
or_left false b e = absurd cc

or_right : (a b : Bool) → b ≡ true → (a || b) ≡ true
or_right true b e = refl
or_right false b e = e

-- a number in both ranges together is in one of them, where they meet
parted : (s t e f pc : ℕ) (b : Bool) → In s e pc ≡ b → s ≤ f → t ≤ e → min s t ≤ pc → pc < max e f → (b || In t f pc) ≡ true
parted s t e f pc true is one two low high = refl
parted s t e f pc false is one two low high = by_low (nat_le s pc) refl
  where
    outside : s ≤ pc → e ≤ pc
    outside h = by_high (nat_lt pc e) refl
      where
        by_high : (c : Bool) → nat_lt pc e ≡ c → e ≤ pc
        by_high true u = absurd cc_of
          where
            cc_of : ⊥
            cc_of = let yes_in : In s e pc ≡ true = is_in s e pc h (ltb-true pc e u) in absurd cc
        by_high false u = ltb-false pc e u

    by_low : (c : Bool) → nat_le s pc ≡ c → In t f pc ≡ true
    by_low true u = let past = outside (leb-true s pc u) in is_in t f pc (omega arith) (omega arith)
    by_low false u = let below = leb-false s pc u in is_in t f pc (omega arith) (omega arith)

both_in : (s t e f pc : ℕ) → s ≤ f → t ≤ e → In (min s t) (max e f) pc ≡ (In s e pc || In t f pc)
both_in s t e f pc one two =
    same_test (In (min s t) (max e f) pc) (In s e pc || In t f pc)
    (λ h. parted s t e f pc (In s e pc) refl one two (in_low (min s t) (max e f) pc h) (in_high (min s t) (max e f) pc h))
    (λ h. of_one (In s e pc) refl h)
  where
    of_one : (b : Bool) → In s e pc ≡ b → (b || In t f pc) ≡ true → In (min s t) (max e f) pc ≡ true
    of_one true is h = is_in (min s t) (max e f) pc (omega (arith, in_low s e pc is)) (omega (arith, in_high s e pc is))
    of_one false is h = is_in (min s t) (max e f) pc (omega (arith, in_low t f pc h)) (omega (arith, in_high t f pc h))

two_ask : (a b t : Bool) → ((not (a || b) || t) && true) ≡ ((not a || t) && ((not b || t) && true))
two_ask true true true = refl
two_ask true true false = refl
two_ask true false true = refl
two_ask true false false = refl
two_ask false true true = refl
two_ask false true false = refl
two_ask false false true = refl
two_ask false false false = refl

abbrev caught_of : Guard → Caught
caught_of g = record { handler = g.row.handler; catch = g.catch }

pub join_alike : (a b g : Guard) (one other : Caught) → one ≡ caught_of a → other ≡ caught_of b → Some one ≡ Some other → Meet a.row b.row → g.row.start ≡ min a.row.start b.row.start → g.row.end ≡ max a.row.end b.row.end → g.row.handler ≡ a.row.handler → g.catch ≡ a.catch → AskAlike (guard_in g ∷ []) (guard_in a ∷ guard_in b ∷ [])
join_alike a b g one other of_a of_b same meet start end handler catch = record {
  same = λ pc test.
      let equal : one ≡ other = cc in
      let alike : caught_of a ≡ caught_of b = sym of_a ∙ equal ∙ of_b in
      let covered : In g.row.start g.row.end pc ≡ (In a.row.start a.row.end pc || In b.row.start b.row.end pc) =
      ap (λ n. In n g.row.end pc) start ∙ ap (λ n. In (min a.row.start b.row.start) n pc) end ∙ both_in a.row.start b.row.start a.row.end b.row.end pc meet.first meet.second in
      ap (λ c. (not c || test g.row.handler g.catch) && true) covered
      ∙ ap (λ n. (not (In a.row.start a.row.end pc || In b.row.start b.row.end pc) || test n g.catch) && true) handler
      ∙ ap (λ o. (not (In a.row.start a.row.end pc || In b.row.start b.row.end pc) || test a.row.handler o) && true) catch
      ∙ two_ask (In a.row.start a.row.end pc) (In b.row.start b.row.end pc) (test a.row.handler a.catch)
      ∙ ap (λ (x : Caught). (not (In a.row.start a.row.end pc) || test a.row.handler a.catch) && ((not (In b.row.start b.row.end pc) || test x.handler x.catch) && true)) alike;
}

-- ---- after others

pub put_none : (hs : List Handler) (g : Handler) → AskAlike (hs ++ g ∷ []) ((hs ++ []) ++ g ∷ [])
put_none hs g = subst (λ (xs : List Handler). AskAlike (hs ++ g ∷ []) (xs ++ g ∷ [])) (sym (append-nil hs)) (alike_itself (hs ++ g ∷ []))

grouped : (a b c : Bool) → (a && (b && c)) ≡ ((a && b) && c)
grouped true b c = refl
grouped false b c = refl

pub put_joined : (hs : List Handler) (g a b : Handler) → AskAlike (g ∷ []) (a ∷ b ∷ []) → AskAlike (hs ++ g ∷ []) ((hs ++ a ∷ []) ++ b ∷ [])
put_joined hs g a b h = record {
  same = λ pc test.
      let f = asks pc test in
      list_all-append f hs (g ∷ [])
      ∙ ap (λ x. list_all f hs && x) (h.same pc test)
      ∙ ap (λ x. list_all f hs && x) (list_all-append f (a ∷ []) (b ∷ []))
      ∙ grouped (list_all f hs) (list_all f (a ∷ [])) (list_all f (b ∷ []))
      ∙ ap (λ x. x && list_all f (b ∷ [])) (sym (list_all-append f hs (a ∷ [])))
      ∙ sym (list_all-append f (hs ++ a ∷ []) (b ∷ []));
}

pub put_behind : (gs now : List Guard) (a b : Guard) → now ≡ gs ++ a ∷ [] → AskAlike (map guard_in now ++ guard_in b ∷ []) ((map guard_in gs ++ guard_in a ∷ []) ++ guard_in b ∷ [])
put_behind gs now a b e =
    subst (λ (hs : List Handler). AskAlike (hs ++ guard_in b ∷ []) ((map guard_in gs ++ guard_in a ∷ []) ++ guard_in b ∷ []))
    (sym (ap (λ xs. map guard_in xs) e ∙ map-append guard_in gs (a ∷ []))) (alike_itself ((map guard_in gs ++ guard_in a ∷ []) ++ guard_in b ∷ []))

-- ---- all rows

-- these and what is left of the rows ask what all rows ask
pub record Gathered (rows : List Row) (catches : List (Option ℕ)) (gs : List Guard) (last : Option Guard) (rest : List Row) (left : List (Option ℕ)) : Type 0 where
  pub alike : AskAlike ((map guard_in gs ++ opened last) ++ with_catches rest left) (with_catches rows catches)

pub gather_none : (rows : List Row) (catches : List (Option ℕ)) → Gathered rows catches [] None rows catches
gather_none rows catches = record { alike = alike_itself (with_catches rows catches) }

pub gather_one : (rows rest behind : List Row) (row : Row) (catches left after : List (Option ℕ)) (gs now : List Guard) (last : Option Guard) (next put : Guard) → Gathered rows catches gs last rest left → rest ≡ row ∷ behind
    → next.row ≡ row → next.catch ≡ get_or left 0 None → after ≡ drop 1 left → AskAlike (map guard_in now ++ guard_in put ∷ []) ((map guard_in gs ++ opened last) ++ guard_in next ∷ []) → Gathered rows catches now (Some put) behind after
gather_one rows rest behind row catches left after gs now last next put h e is catch further alike = record {
  alike = record {
    same = λ pc test.
        let f = asks pc test in
        let before = map guard_in gs ++ opened last in
        let one : guard_in next ≡ record { row = row; catch = get_or left 0 None } = ap (λ r. record { row = r; catch = next.catch }) is ∙ ap (λ o. record { row = row; catch = o }) catch in
        let whole : guard_in next ∷ with_catches behind after ≡ with_catches rest left =
        ap (λ x. x ∷ with_catches behind after) one ∙ ap (λ cs. record { row = row; catch = get_or left 0 None } ∷ with_catches behind cs) further ∙ ap (λ rs. with_catches rs left) (sym e) in
        list_all-append f (map guard_in now ++ guard_in put ∷ []) (with_catches behind after)
        ∙ ap (λ x. x && list_all f (with_catches behind after)) (alike.same pc test ∙ list_all-append f before (guard_in next ∷ []))
        ∙ sym (grouped (list_all f before) (list_all f (guard_in next ∷ [])) (list_all f (with_catches behind after)))
        ∙ ap (λ x. list_all f before && x) (sym (list_all-append f (guard_in next ∷ []) (with_catches behind after)) ∙ ap (λ hs. list_all f hs) whole)
        ∙ sym (list_all-append f before (with_catches rest left))
        ∙ h.alike.same pc test;
  };
}

none_left : (rest : List Row) (left : List (Option ℕ)) → length rest ≡ 0 → with_catches rest left ≡ []
none_left [] left e = refl
none_left (r ∷ rest) left e = absurd (omega arith)

pub gathered_all : (rows rest : List Row) (catches left : List (Option ℕ)) (gs : List Guard) (last : Option Guard) (all : List Handler) → Gathered rows catches gs last rest left → length rest ≡ 0 → all ≡ map guard_in gs ++ opened last → AskAlike all (with_catches rows catches)
gathered_all rows rest catches left gs last all h few e =
    subst (λ (hs : List Handler). AskAlike hs (with_catches rows catches))
    (ap (λ hs. (map guard_in gs ++ opened last) ++ hs) (none_left rest left few) ∙ append-nil (map guard_in gs ++ opened last) ∙ sym e) h.alike
