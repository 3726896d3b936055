-- Entries of one carrier in a history that grows, and the beginnings of a list.
use Rattle.std.proofs.Common.{◌≡◌, ◌≢◌, ◌<◌, ◌≤◌, ℕ, zero, suc, cond, List, [], ◌∷◌, ◌++◌, length, take, set, refl, sym, ap, ◌∙◌, arith, ne_eqb}
use Rattle.std.specs.Prelude.{All}
use Rattle.std.proofs.lemmas.List.{append-nil, append_assoc}
use Rattle.std.proofs.lemmas.List.Elements.{filter-append, All-head, All-tail}
use mathlib.Core.List.{IsPrefix}
use mathlib.Core.Option.{some, some-ne-none}
use lib.ListN.{get_elem?}
use Rattle.history.specs.declared.entry.Entry.{Entry}
use Rattle.history.specs.Carriers.{made_by}

-- all of these entries are of one carrier
abbrev pub AllBy : ℕ → List Entry → Type 0
AllBy c [] = Unit {0}
AllBy c (e ∷ es) = (e.carrier ≡ c) × AllBy c es

pub all_by : (c : ℕ) (es : List Entry) → All (λ (e : Entry). e.carrier ≡ c) es → AllBy c es
all_by c [] own = tt
all_by c (e ∷ es) own = (All-head (λ (x : Entry). x.carrier ≡ c) e es own, all_by c es (All-tail (λ (x : Entry). x.carrier ≡ c) e es own))

none_made : (k c : ℕ) (es : List Entry) → k ≢ c → AllBy c es → made_by k es ≡ []
none_made k c [] apart own = refl
none_made k c (e ∷ es) apart own =
    ap (λ b. cond b (e ∷ made_by k es) (made_by k es)) (ne_eqb e.carrier k (λ same. apart (sym same ∙ own.0))) ∙ none_made k c es apart own.1

-- entries of one carrier add nothing to what another has made
pub others_made : (k c : ℕ) (log new : List Entry) → k ≢ c → AllBy c new → made_by k (log ++ new) ≡ made_by k log
others_made k c log new apart own =
    filter-append (λ (e : Entry). _) log new ∙ ap (λ es. made_by k log ++ es) (none_made k c new apart own) ∙ append-nil (made_by k log)

-- the entries made by c are known for a list that goes on as far as the other
pub made_on : (c : ℕ) (seen log new : List Entry) → made_by c log ≡ made_by c seen → made_by c (log ++ new) ≡ made_by c (seen ++ new)
made_on c seen log new same = filter-append (λ (e : Entry). _) log new ∙ ap (λ es. es ++ made_by c new) same ∙ sym (filter-append (λ (e : Entry). _) seen new)

pub longer : (seen log new : List Entry) → IsPrefix seen log → IsPrefix seen (log ++ new)
longer seen log new begins = (begins.0 ++ new, sym (append_assoc seen begins.0 new) ∙ ap (λ es. es ++ new) begins.1)

pub itself : (log : List Entry) → IsPrefix log log
itself log = ([], append-nil log)

-- the next entry of a list that begins with what was seen, and has entries of one carrier behind it
pub next_entry : (c : ℕ) (seen new : List Entry) (n : ℕ) → length seen ≤ n → n < length (seen ++ new) → AllBy c new
    → (e : Entry) × (e.carrier ≡ c) × (take (suc n) (seen ++ new) ≡ take n (seen ++ new) ++ e ∷ [])
next_entry c [] [] n from below own = absurd (omega arith)
next_entry c [] (e ∷ es) zero from below own = (e, own.0, refl)
next_entry c [] (e ∷ es) (suc n) from below own =
    let r = next_entry c [] es n (omega arith) (omega arith) own.1 in (r.0, r.1, ap (λ xs. e ∷ xs) r.2)
next_entry c (s ∷ ss) new zero from below own = absurd (omega arith)
next_entry c (s ∷ ss) new (suc n) from below own =
    let r = next_entry c ss new n (omega arith) (omega arith) own in (r.0, r.1, ap (λ xs. s ∷ xs) r.2)

module _ {A : Type 0} where
  pub put_there : (l : List A) (i : ℕ) (a b : A) → get_elem? l i ≡ some a → get_elem? (set l i b) i ≡ some b
  put_there [] i a b there = absurd (some-ne-none a (sym there))
  put_there (x ∷ xs) zero a b there = refl
  put_there (x ∷ xs) (suc i) a b there = put_there xs i a b there

  pub one_place : (l : List A) (a : A) → length l ≡ 1 → set l 0 a ≡ a ∷ []
  one_place [] a one = absurd (omega arith)
  one_place (x ∷ []) a one = refl
  one_place (x ∷ y ∷ ys) a one = absurd (omega arith)
