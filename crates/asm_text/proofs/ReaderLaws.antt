-- Each reader reads just the words that say its value.
use Rattle.std.proofs.Common.{◌≡◌, ℕ, zero, suc, ◌+◌, ◌-◌, ◌^◌, ◌<◌, ◌≤◌, ℤ, true, false, List, [], ◌∷◌, ◌++◌, length, take, drop, map, Option, Some, None, refl, sym, ap, subst, ◌∙◌, append_assoc, append-nil, length-append, arith, inl, inr, eqb, ltb}
use Rattle.std.specs.Prelude.{decimal, nat_eq}
use Rattle.std.specs.Fmt.{signed_decimal}
use Rattle.std.specs.List.{flat_map, AllByRecursion}
use Rattle.std.specs.Cmp.Lexicographic.{pointwise, same_text}
use Rattle.std.proofs.lemmas.Bool.{ltb-false, le-ltb, eq-eqb}
use Rattle.std.proofs.lemmas.List.{take_at, drop_at, take-append-drop, length-drop}
use Rattle.items.specs.Options.{◌>>=◌}
use Rattle.items.proofs.Binds.{some_is, bind_is}
use Rattle.asm_text.specs.Words.{same_word, is_word, IsWord}
use Rattle.asm_text.specs.Numbers.{number_of, int_of}
use Rattle.asm_text.specs.Mnemonics.{named}
use Rattle.asm_text.specs.Parsing.{Words, Reader, after, name_at, number_at, int_at, both, behind, ended, whole, many_by, many, all_of, split_last}
use Rattle.asm_text.proofs.Tests.{bool_cases, cond_some, cond_none, some, some_same}
use Rattle.asm_text.proofs.NumberLaws.{IsInt, number_takes, number_again, int_takes, int_again}

-- what is read is these words, and they are read again
pub record IsReader {A : Type 0} (spell : A → Words) (Fits : A → Type 0) (reader : Reader A) : Type 0 where
  pub takes : (ws : Words) (x : A × Words) → reader ws ≡ Some x → (ws ≡ spell x.0 ++ x.1) × Fits x.0
  pub again : (a : A) (rest : Words) → Fits a → reader (spell a ++ rest) ≡ Some (a, rest)

-- ---- single words

pointwise_same : (xs : List ℕ) → pointwise nat_eq xs xs ≡ true
pointwise_same [] = refl
pointwise_same (x ∷ xs) = let here : eqb x x ≡ true = eq-eqb x x refl in rw (here, pointwise_same xs) refl

pub same_is : (w text : List ℕ) → same_word w text ≡ true → w ≡ text
same_is w text e = same_text w text (sym e)

pub same_again : (w : List ℕ) → same_word w w ≡ true
same_again w = pointwise_same w

abbrev one : List ℕ → Words
one w = w ∷ []

pub name_reader : IsReader one IsWord name_at
name_reader = record { takes = takes; again = again }
  where
    takes : (ws : Words) (x : List ℕ × Words) → name_at ws ≡ Some x → (ws ≡ one x.0 ++ x.1) × IsWord x.0
    takes [] x e = absurd cc
    takes (w ∷ ws) x e =
        let t = cond_some (is_word w) (Some (w, ws)) x e in
        subst (λ (y : List ℕ × Words). ((w ∷ ws) ≡ one y.0 ++ y.1) × IsWord y.0) (some_same (w, ws) x t.1) (refl, t.0)

    again : (w : List ℕ) (rest : Words) → IsWord w → name_at (one w ++ rest) ≡ Some (w, rest)
    again w rest is = rw is refl

pub number_reader : (most : ℕ) → most < 2 ^ 64 → IsReader (λ n. one (decimal n)) (λ n. n ≤ most) (number_at most)
number_reader most big = record { takes = takes; again = again }
  where
    takes : (ws : Words) (x : ℕ × Words) → number_at most ws ≡ Some x → (ws ≡ one (decimal x.0) ++ x.1) × (x.0 ≤ most)
    takes [] x e = absurd cc
    takes (w ∷ ws) x e =
        let s = some_is (number_of most w) (λ n. Some (n, ws)) x e in
        let n = number_takes most w s.0 big s.1 in
        subst (λ (y : ℕ × Words). ((w ∷ ws) ≡ one (decimal y.0) ++ y.1) × (y.0 ≤ most)) (some_same (s.0, ws) x s.2) (ap (λ (v : List ℕ). v ∷ ws) n.0, n.1)

    again : (n : ℕ) (rest : Words) → n ≤ most → number_at most (one (decimal n) ++ rest) ≡ Some (n, rest)
    again n rest low = bind_is (number_of most (decimal n)) (λ n. Some (n, rest)) n (Some (n, rest)) (number_again most n big low) refl

pub int_reader : (most : ℕ) → most + 1 < 2 ^ 64 → IsReader (λ z. one (signed_decimal z)) (IsInt most) (int_at most)
int_reader most big = record { takes = takes; again = again }
  where
    takes : (ws : Words) (x : ℤ × Words) → int_at most ws ≡ Some x → (ws ≡ one (signed_decimal x.0) ++ x.1) × IsInt most x.0
    takes [] x e = absurd cc
    takes (w ∷ ws) x e =
        let s = some_is (int_of most w) (λ n. Some (n, ws)) x e in
        let n = int_takes most w s.0 big s.1 in
        subst (λ (y : ℤ × Words). ((w ∷ ws) ≡ one (signed_decimal y.0) ++ y.1) × IsInt most y.0) (some_same (s.0, ws) x s.2) (ap (λ (v : List ℕ). v ∷ ws) n.0, n.1)

    again : (z : ℤ) (rest : Words) → IsInt most z → int_at most (one (signed_decimal z) ++ rest) ≡ Some (z, rest)
    again z rest is = bind_is (int_of most (signed_decimal z)) (λ n. Some (n, rest)) z (Some (z, rest)) (int_again most z big is) refl

pub after_takes : (text : List ℕ) (ws rest : Words) → after text ws ≡ Some rest → ws ≡ text ∷ rest
after_takes text [] rest e = absurd cc
after_takes text (w ∷ ws) rest e =
    let t = cond_some (same_word w text) (Some ws) rest e in
    (λ i. same_is w text t.0 i ∷ some_same ws rest t.1 i)

pub after_again : (text : List ℕ) (rest : Words) → after text (text ∷ rest) ≡ Some rest
after_again text rest = rw (same_again text) refl

-- ---- readers of readers

module _ {A B : Type 0} {s : A → Words} {t : B → Words} {F : A → Type 0} {G : B → Type 0} {first : Reader A} {second : Reader B} where
  pub both_reader : IsReader s F first → IsReader t G second → IsReader (λ x. s x.0 ++ t x.1) (λ x. F x.0 × G x.1) (both first second)
  both_reader f g = record { takes = takes; again = again }
    where
      takes : (ws : Words) (x : (A × B) × Words) → both first second ws ≡ Some x → (ws ≡ (s x.0.0 ++ t x.0.1) ++ x.1) × (F x.0.0 × G x.0.1)
      takes ws x e =
          let a = some_is (first ws) (λ x. second x.1 >>= λ y. Some ((x.0, y.0), y.1)) x e in
          let b = some_is (second a.0.1) (λ y. Some ((a.0.0, y.0), y.1)) x a.2 in
          let here = f.takes ws a.0 a.1 in
          let there = g.takes a.0.1 b.0 b.1 in
          subst (λ (y : (A × B) × Words). (ws ≡ (s y.0.0 ++ t y.0.1) ++ y.1) × (F y.0.0 × G y.0.1)) (some_same ((a.0.0, b.0.0), b.0.1) x b.2)
          (here.0 ∙ ap (λ (r : Words). s a.0.0 ++ r) there.0 ∙ sym (append_assoc (s a.0.0) (t b.0.0) b.0.1), (here.1, there.1))

      again : (x : A × B) (rest : Words) → F x.0 × G x.1 → both first second ((s x.0 ++ t x.1) ++ rest) ≡ Some (x, rest)
      again x rest fits =
          ap (both first second) (append_assoc (s x.0) (t x.1) rest)
          ∙ bind_is (first (s x.0 ++ (t x.1 ++ rest))) (λ x. second x.1 >>= λ y. Some ((x.0, y.0), y.1)) (x.0, t x.1 ++ rest) (Some (x, rest)) (f.again x.0 (t x.1 ++ rest) fits.0)
          (bind_is (second (t x.1 ++ rest)) (λ y. Some ((x.0, y.0), y.1)) (x.1, rest) (Some (x, rest)) (g.again x.1 rest fits.1) refl)

module _ {A : Type 0} {s : A → Words} {F : A → Type 0} {reader : Reader A} where
  pub behind_reader : (text : List ℕ) → IsReader s F reader → IsReader (λ x. text ∷ s x) F (behind text reader)
  behind_reader text f = record { takes = takes; again = again }
    where
      takes : (ws : Words) (x : A × Words) → behind text reader ws ≡ Some x → (ws ≡ (text ∷ s x.0) ++ x.1) × F x.0
      takes ws x e =
          let a = some_is (after text ws) reader x e in
          let r = f.takes a.0 x a.2 in
          (after_takes text ws a.0 a.1 ∙ ap (λ (r : Words). text ∷ r) r.0, r.1)

      again : (x : A) (rest : Words) → F x → behind text reader ((text ∷ s x) ++ rest) ≡ Some (x, rest)
      again x rest fits = bind_is (after text (text ∷ (s x ++ rest))) reader (s x ++ rest) (Some (x, rest)) (after_again text (s x ++ rest)) (f.again x rest fits)

pub ended_is : {A : Type 0} (x y : A) (ws : Words) → ended x ws ≡ Some y → (ws ≡ []) × (x ≡ y)
ended_is x y [] e = (refl, some_same x y e)
ended_is x y (w ∷ ws) e = absurd cc

-- a value behind which no word is left, and what is made of it
pub record IsMade {A B : Type 0} (make : A → B) (spell : A → Words) (Fits : A → Type 0) (ws : Words) (b : B) : Type 0 where
  pub value : A
  pub made : make value ≡ b
  pub parts : ws ≡ spell value
  pub fits : Fits value

module _ {A B : Type 0} {s : A → Words} {F : A → Type 0} {reader : Reader A} (make : A → B) (f : IsReader s F reader) where
  pub whole_takes : (ws : Words) (b : B) → whole make reader ws ≡ Some b → IsMade make s F ws b
  whole_takes ws b e =
      let a = some_is (reader ws) (λ x. ended (make x.0) x.1) b e in
      let end = ended_is (make a.0.0) b a.0.1 a.2 in
      let r = f.takes ws a.0 a.1 in
      record { value = a.0.0; made = end.1; parts = r.0 ∙ ap (λ (t : Words). s a.0.0 ++ t) end.0 ∙ append-nil (s a.0.0); fits = r.1 }

  pub whole_again : (x : A) → F x → whole make reader (s x) ≡ Some (make x)
  whole_again x fits =
      ap (whole make reader) (sym (append-nil (s x)))
      ∙ bind_is (reader (s x ++ [])) (λ x. ended (make x.0) x.1) (x, []) (Some (make x)) (f.again x [] fits) refl

-- ---- lists

module _ {A : Type 0} {s : A → Words} {F : A → Type 0} {reader : Reader A} (f : IsReader s F reader) where
  abbrev pub TakesMany : Words → List A × Words → Type 0
  TakesMany ws r = (ws ≡ flat_map s r.0 ++ r.1) × AllByRecursion F r.0

  many_by_takes : (n : ℕ) (ws : Words) (o : Option (A × Words)) → reader ws ≡ o → ((rest : Words) → TakesMany rest (many reader n rest))
      → TakesMany ws (many_by o ws (λ rest. many reader n rest))
  many_by_takes n ws None e others = (refl, tt)
  many_by_takes n ws (Some x) e others =
      let here = f.takes ws x e in
      let rest = others x.1 in
      (here.0 ∙ ap (λ (t : Words). s x.0 ++ t) rest.0 ∙ sym (append_assoc (s x.0) (flat_map s (many reader n x.1).0) (many reader n x.1).1), (here.1, rest.1))

  pub many_takes : (n : ℕ) (ws : Words) → TakesMany ws (many reader n ws)
  many_takes zero ws = (refl, tt)
  many_takes (suc n) ws = many_by_takes n ws (reader ws) refl (λ rest. many_takes n rest)

  -- and no more behind them
  many_again : (n : ℕ) (xs : List A) (rest : Words) → AllByRecursion F xs → reader rest ≡ None → length xs ≤ n → many reader n (flat_map s xs ++ rest) ≡ (xs, rest)
  many_again zero [] rest fits none low = refl
  many_again zero (x ∷ xs) rest fits none low = absurd (omega arith)
  many_again (suc n) [] rest fits none low = ap (λ o. many_by o rest (λ rest. many reader n rest)) none
  many_again (suc n) (x ∷ xs) rest fits none low =
      let others = many_again n xs rest fits.1 none (omega arith) in
      ap (many reader (suc n)) (append_assoc (s x) (flat_map s xs) rest)
      ∙ ap (λ o. many_by o (s x ++ (flat_map s xs ++ rest)) (λ rest. many reader n rest)) (f.again x (flat_map s xs ++ rest) fits.0)
      ∙ ap (λ (r : List A × Words). (x ∷ r.0, r.1)) others

  as_long : ((x : A) → 0 < length (s x)) → (xs : List A) (rest : Words) → length xs ≤ length (flat_map s xs ++ rest)
  as_long some [] rest = omega arith
  as_long some (x ∷ xs) rest =
      let parts = ap length (append_assoc (s x) (flat_map s xs) rest) in
      omega (arith, parts, length-append (s x) (flat_map s xs ++ rest), as_long some xs rest, some x)

  -- as many as there are words suffice
  pub list_again : ((x : A) → 0 < length (s x)) → (xs : List A) (rest : Words) → AllByRecursion F xs → reader rest ≡ None
      → many reader (length (flat_map s xs ++ rest)) (flat_map s xs ++ rest) ≡ (xs, rest)
  list_again some xs rest fits none = many_again (length (flat_map s xs ++ rest)) xs rest fits none (as_long some xs rest)

  pub all_takes : (ws : Words) (xs : List A) → all_of reader ws ≡ Some xs → (ws ≡ flat_map s xs) × AllByRecursion F xs
  all_takes ws xs e =
      let r = many reader (length ws) ws in
      let end = ended_is r.0 xs r.1 e in
      let h = many_takes (length ws) ws in
      subst (λ (ys : List A). (ws ≡ flat_map s ys) × AllByRecursion F ys) end.1 (h.0 ∙ ap (λ (t : Words). flat_map s r.0 ++ t) end.0 ∙ append-nil (flat_map s r.0), h.1)

  pub all_again : ((x : A) → 0 < length (s x)) → (xs : List A) → AllByRecursion F xs → reader [] ≡ None → all_of reader (flat_map s xs) ≡ Some xs
  all_again some xs fits none =
      ap (all_of reader) (sym (append-nil (flat_map s xs))) ∙ ap (λ (r : List A × Words). ended r.0 r.1) (list_again some xs [] fits none)

-- the words of values with a word each
pub one_each : {A : Type 0} (g : A → List ℕ) (xs : List A) → flat_map (λ x. one (g x)) xs ≡ map g xs
one_each g [] = refl
one_each g (x ∷ xs) = ap (λ (ws : Words). g x ∷ ws) (one_each g xs)

pub ones : (ws : Words) → flat_map one ws ≡ ws
ones [] = refl
ones (w ∷ ws) = ap (λ (vs : Words). w ∷ vs) (ones ws)

-- ---- the last words

split_size : (n count : ℕ) → count ≤ n → n - (n - count) ≡ count
split_size n count enough = omega arith

pub split_takes : (count : ℕ) (ws front back : Words) → split_last count ws ≡ Some (front, back) → (ws ≡ front ++ back) × (length back ≡ count)
split_takes count ws front back e =
    let t = cond_none (ltb (length ws) count) (Some (take (length ws - count) ws, drop (length ws - count) ws)) (front, back) e in
    let both : (take (length ws - count) ws, drop (length ws - count) ws) ≡ (front, back) = some_same _ _ t.1 in
    let front_is : take (length ws - count) ws ≡ front = ap (λ (p : Words × Words). p.0) both in
    let back_is : drop (length ws - count) ws ≡ back = ap (λ (p : Words × Words). p.1) both in
    let enough : count ≤ length ws = ltb-false _ _ t.0 in
    let size : length back ≡ length ws - (length ws - count) = ap length (sym back_is) ∙ length-drop (length ws - count) ws in
    let left : length ws - (length ws - count) ≡ count = split_size (length ws) count enough in
    (sym (take-append-drop (length ws - count) ws) ∙ (λ i. front_is i ++ back_is i), size ∙ left)

pub split_again : (front back : Words) → split_last (length back) (front ++ back) ≡ Some (front, back)
split_again front back =
    let size = length-append front back in
    let enough : ltb (length (front ++ back)) (length back) ≡ false = le-ltb _ _ (omega (arith, size)) in
    let at : length (front ++ back) - length back ≡ length front = omega (arith, size) in
    rw enough (λ i. some (front_at (sym at) i, back_at (sym at) i))
  where
    front_at : length front ≡ length (front ++ back) - length back → take (length (front ++ back) - length back) (front ++ back) ≡ front
    front_at e = take_at front back _ e

    back_at : length front ≡ length (front ++ back) - length back → drop (length (front ++ back) - length back) (front ++ back) ≡ back
    back_at e = drop_at front back _ e

-- ---- tables of words

pub named_takes : {A : Type 0} (word : A → List ℕ) (rows : List (List ℕ × A)) (w : List ℕ) (x : A) → AllByRecursion (λ row. row.0 ≡ word row.1) rows → named rows w ≡ Some x → w ≡ word x
named_takes word [] w x is e = absurd cc
named_takes word (row ∷ rows) w x is e =
    elim (bool_cases (same_word w row.0)) [
      | inl h ↦
          let f : some row.1 ≡ Some x = rw h at e in
          same_is w row.0 h ∙ is.0 ∙ ap word (some_same row.1 x f)
      | inr h ↦
          let f : named rows w ≡ Some x = rw h at e in
          named_takes word rows w x is.1 f
    ]
