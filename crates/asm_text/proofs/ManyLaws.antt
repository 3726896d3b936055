-- As many values as there are: how a loop reads them, one after the other.
use Rattle.std.proofs.Common.{◌≡◌, ℕ, suc, ◌+◌, ◌-◌, ◌<◌, ◌≤◌, List, [], ◌∷◌, ◌++◌, Some, None, refl, sym, ap, subst, ◌∙◌, append_assoc, append-nil, arith}
use Rattle.asm_text.specs.Parsing.{Words, Reader, many, many_by}

-- these values were read, and the rest has no more than so many
pub record SoFar {A : Type 0} (reader : Reader A) (all : List A × Words) (left : ℕ) (out : List A) (rest : Words) : Type 0 where
  pub values : all.0 ≡ out ++ (many reader left rest).0
  pub end : all.1 ≡ (many reader left rest).1

module _ {A : Type 0} (reader : Reader A) where
  pub many_begun : (n : ℕ) (ws : Words) → SoFar reader (many reader n ws) (n - 0) [] ws
  many_begun n ws = let e : n ≡ n - 0 = omega arith in subst (λ (k : ℕ). SoFar reader (many reader n ws) k [] ws) e (record { values = refl; end = refl })

  more_by : (all : List A × Words) (n : ℕ) (out new : List A) (rest : Words) (x : A) (behind : Words) → SoFar reader all (suc n) out rest → reader rest ≡ Some (x, behind)
      → new ≡ out ++ x ∷ [] → SoFar reader all n new behind
  more_by all n out new rest x behind h e pushed =
      let step : many reader (suc n) rest ≡ (x ∷ (many reader n behind).0, (many reader n behind).1) = ap (λ o. many_by o rest (λ ws. many reader n ws)) e in
      record {
        values = h.values ∙ ap (λ (r : List A × Words). out ++ r.0) step ∙ sym (append_assoc out (x ∷ []) (many reader n behind).0) ∙ ap (λ (xs : List A). xs ++ (many reader n behind).0) (sym pushed);
        end = h.end ∙ ap (λ (r : List A × Words). r.1) step;
      }

  -- one more value
  pub many_more : (all : List A × Words) (n at : ℕ) (out new : List A) (rest : Words) (x : A) (behind : Words) → at < n → SoFar reader all (n - at) out rest
      → reader rest ≡ Some (x, behind) → new ≡ out ++ x ∷ [] → SoFar reader all (n - (at + 1)) new behind
  many_more all n at out new rest x behind below h e pushed =
      let left : n - at ≡ suc (n - (at + 1)) = omega arith in
      more_by all (n - (at + 1)) out new rest x behind (subst (λ (k : ℕ). SoFar reader all k out rest) left h) e pushed

  stop_by : (all : List A × Words) (n : ℕ) (out : List A) (rest : Words) → SoFar reader all (suc n) out rest → reader rest ≡ None → (out, rest) ≡ all
  stop_by all n out rest h e =
      let step : many reader (suc n) rest ≡ ([], rest) = ap (λ o. many_by o rest (λ ws. many reader n ws)) e in
      let values : out ≡ all.0 = sym (append-nil out) ∙ ap (λ (r : List A × Words). out ++ r.0) (sym step) ∙ sym h.values in
      let end : rest ≡ all.1 = ap (λ (r : List A × Words). r.1) (sym step) ∙ sym h.end in
      λ i. (values i, end i)

  -- no more value
  pub many_stop : (all : List A × Words) (n at : ℕ) (out : List A) (rest : Words) → at < n → SoFar reader all (n - at) out rest → reader rest ≡ None → (out, rest) ≡ all
  many_stop all n at out rest below h e =
      let left : n - at ≡ suc (n - (at + 1)) = omega arith in
      stop_by all (n - (at + 1)) out rest (subst (λ (k : ℕ). SoFar reader all k out rest) left h) e

  end_by : (all : List A × Words) (out : List A) (rest : Words) → SoFar reader all 0 out rest → (out, rest) ≡ all
  end_by all out rest h =
      let values : out ≡ all.0 = sym (append-nil out) ∙ sym h.values in
      let end : rest ≡ all.1 = sym h.end in
      λ i. (values i, end i)

  -- no more is looked for
  pub many_end : (all : List A × Words) (n at : ℕ) (out : List A) (rest : Words) → n ≤ at → SoFar reader all (n - at) out rest → (out, rest) ≡ all
  many_end all n at out rest past h = let none : n - at ≡ 0 = omega arith in end_by all out rest (subst (λ (k : ℕ). SoFar reader all k out rest) none h)
