-- One text more among numbered texts.
use Rattle.std.proofs.Common.{◌≡◌, ◌≢◌, ℕ, ◌<◌, ◌≤◌, true, false, cond, List, [], ◌∷◌, ◌++◌, length, Option, Some, None, is_some, refl, sym, ap, subst, ◌∙◌, ⊎_elim, arith, length-append}
use Rattle.std.specs.Prelude.{slice_get}
use Rattle.std.specs.Option.{option_and_then, option_or}
use Rattle.std.specs.Ordering.{is_eq, nat_cmp}
use Rattle.std.specs.Cmp.Lexicographic.{bytes_decides}
use Rattle.std.specs.Prelude.{Result, Ok, Err, OnErr}
use Rattle.std.specs.BTreeMap.{get, is_at, Updates}
use Rattle.std.specs.Map.{lookup}
use Rattle.std.specs.Cmp.{unsigned_ties}
use Rattle.std.proofs.lemmas.Option.{slice_get_past, slice_get-get_or}
use Rattle.std.proofs.Math.ListN.{get_or-append}
use Rattle.std.proofs.Math.Seq.{get_or-append_seam}
use Rattle.std.proofs.lemmas.Bool.{cases_Bool, cases_lt, cases_eq}
use Rattle.class_grammar.specs.Text.{same_text}
use Rattle.link_resolution.specs.Names.{at_text, Adds}
use Rattle.link_resolution.specs.declared.text_numbers.Numbered.{Numbered}
use Rattle.link_resolution.specs.declared.text_numbers.TextNumbers.{TextNumbers}
use Rattle.link_resolution.specs.TextNumbers.{AddsText, IsAlike, found, hash_of, number_at, number_if}

none_front : (f o : Option ℕ) → option_or f o ≡ None → f ≡ None
none_front None o e = refl
none_front (Some x) o e = absurd cc

none_back : (f o : Option ℕ) → option_or f o ≡ None → o ≡ None
none_back None o e = e
none_back (Some x) o e = absurd cc

or_or : (a b c : Option ℕ) → option_or a (option_or b c) ≡ option_or (option_or a b) c
or_or None b c = refl
or_or (Some x) b c = refl

or_none : (o : Option ℕ) → o ≡ option_or o None
or_none None = refl
or_none (Some x) = refl

or_known : (o c : Option ℕ) → is_some o ≡ true → o ≡ option_or o c
or_known None c s = cc
or_known (Some x) c s = refl

is_none : (o : Option ℕ) → is_some o ≡ false → o ≡ None
is_none None s = refl
is_none (Some x) s = absurd cc

same_is : (a b : List ℕ) → same_text a b ≡ true → a ≡ b
same_is a b y = (bytes_decides a b).0 y

-- ---- where the text has a number

pub adds_known : (t : TextNumbers) (name : List ℕ) (x : ℕ) → is_some (number_at t name) ≡ true → AddsText t name x t
adds_known t name x known text =
    ⊎_elim
    (λ (y : same_text name text ≡ true). or_known (number_at t text) (cond (same_text name text) (Some x) None) (subst (λ (u : List ℕ). is_some (number_at t u) ≡ true) (same_is name text y) known))
    (λ (n : same_text name text ≡ false). or_none (number_at t text) ∙ ap (λ b. option_or (number_at t text) (cond b (Some x) None)) (sym n))
    (cases_Bool (same_text name text))

-- ---- where another text has its hash

pub other_is_free : (t : TextNumbers) (name : List ℕ) → number_at t name ≡ None → is_some (at_text t.others name) ≡ false
other_is_free t name e = ap is_some (none_back (found t.texts.items name (get nat_cmp t.first (hash_of name))) (at_text t.others name) e)

pub adds_other : (t u : TextNumbers) (name : List ℕ) (x : ℕ) → u.texts.items ≡ t.texts.items → u.first ≡ t.first → Adds t.others name x u.others → AddsText t name x u
adds_other t u name x k f adds text =
    (λ i. option_or (found (k i) text (get nat_cmp (f i) (hash_of text))) (at_text u.others text))
    ∙ ap (option_or (found t.texts.items text (get nat_cmp t.first (hash_of text)))) (adds text)
    ∙ or_or (found t.texts.items text (get nat_cmp t.first (hash_of text))) (at_text t.others text) (cond (same_text name text) (Some x) None)

-- ---- where no text has its hash

get_front : {X : Type 0} (xs : List X) (y : X) (n : ℕ) → n < length xs → slice_get (xs ++ y ∷ []) n ≡ slice_get xs n
get_front xs y n h =
    let wide : n < length (xs ++ y ∷ []) = simp length-append (omega arith) in
    slice_get-get_or (xs ++ y ∷ []) n y wide ∙ ap Some (get_or-append xs (y ∷ []) y n h) ∙ sym (slice_get-get_or xs n y h)

get_last : {X : Type 0} (xs : List X) (y : X) → slice_get (xs ++ y ∷ []) (length xs) ≡ Some y
get_last xs y =
    let wide : length xs < length (xs ++ y ∷ []) = simp length-append (omega arith) in
    slice_get-get_or (xs ++ y ∷ []) (length xs) y wide ∙ ap Some (get_or-append_seam xs y [] y)

-- another text is found at no new place
front_at : (texts : List Numbered) (e : Numbered) (text : List ℕ) (n : ℕ) → same_text e.text text ≡ false
    → found (texts ++ e ∷ []) text (Some n) ≡ found texts text (Some n)
front_at texts e text n other =
    ⊎_elim
    (λ (lt : n < length texts). ap (option_and_then (number_if text)) (get_front texts e n lt))
    (λ (ge : length texts ≤ n).
    ⊎_elim
    (λ (at : n ≡ length texts).
    ap (λ k. option_and_then (number_if text) (slice_get (texts ++ e ∷ []) k)) at
    ∙ ap (option_and_then (number_if text)) (get_last texts e)
    ∙ ap (λ b. cond b (Some e.number) None) other
    ∙ ap (option_and_then (number_if text)) (sym (slice_get_past texts n ge)))
    (λ (ne : n ≢ length texts).
    let past : length (texts ++ e ∷ []) ≤ n = simp length-append (omega arith) in
    ap (option_and_then (number_if text)) (slice_get_past (texts ++ e ∷ []) n past ∙ sym (slice_get_past texts n ge)))
    (cases_eq n (length texts)))
    (cases_lt n (length texts))

front_still : (texts : List Numbered) (e : Numbered) (text : List ℕ) (place : Option ℕ) → same_text e.text text ≡ false
    → found (texts ++ e ∷ []) text place ≡ found texts text place
front_still texts e text None other = refl
front_still texts e text (Some n) other = front_at texts e text n other

-- more is texts, but nothing has its place
pub alike : (t u : TextNumbers) (e : Numbered) (name : List ℕ) (hash : ℕ) → hash ≡ hash_of name → e.text ≡ name → get nat_cmp t.first hash ≡ None
    → u.texts.items ≡ t.texts.items ++ e ∷ [] → u.first.entries ≡ t.first.entries → u.others ≡ t.others → IsAlike t u
alike t u e name hash h is free k f o text =
    let key : hash ≡ hash_of e.text = h ∙ ap hash_of (sym is) in
    let got : get nat_cmp u.first (hash_of text) ≡ get nat_cmp t.first (hash_of text) = ap (lookup (is_at (nat_cmp (hash_of text)))) f in
    (λ i. option_or (found (k i) text (got i)) (at_text (o i) text))
    ∙ ap (λ r. option_or r (at_text t.others text))
    (⊎_elim
    (λ (y : same_text e.text text ≡ true).
    let none : get nat_cmp t.first (hash_of text) ≡ None = ap (get nat_cmp t.first) (sym (key ∙ ap hash_of (same_is e.text text y))) ∙ free in
    ap (found (t.texts.items ++ e ∷ []) text) none ∙ sym (ap (found t.texts.items text) none))
    (λ (n : same_text e.text text ≡ false). front_still t.texts.items e text (get nat_cmp t.first (hash_of text)) n)
    (cases_Bool (same_text e.text text)))

pub on_err : {T E : Type 0} (r : Result T E) (P : Type 0) → P → OnErr r P
on_err (Ok x) P p = tt
on_err (Err e) P p = p

here_place : (texts : List Numbered) (e : Numbered) → found (texts ++ e ∷ []) e.text (Some (length texts)) ≡ Some e.number
here_place texts e =
    ap (option_and_then (number_if e.text)) (get_last texts e)
    ∙ ap (λ b. cond b (Some e.number) None) ((bytes_decides e.text e.text).1 refl)

pub adds_first : (t u : TextNumbers) (e : Numbered) → get nat_cmp t.first (hash_of e.text) ≡ None → number_at t e.text ≡ None
    → u.texts.items ≡ t.texts.items ++ e ∷ [] → Updates nat_cmp t.first u.first (hash_of e.text) (Some (length t.texts.items)) → u.others ≡ t.others → AddsText t e.text e.number u
adds_first t u e free none k up o text =
    let key = hash_of e.text in
    let got : get nat_cmp u.first (hash_of text) ≡ cond (is_eq (nat_cmp key (hash_of text))) (Some (length t.texts.items)) (get nat_cmp t.first (hash_of text)) = up.0 (hash_of text) in
    (λ i. option_or (found (k i) text (got i)) (at_text (o i) text))
    ∙ ⊎_elim
    (λ (y : same_text e.text text ≡ true).
    let is : e.text ≡ text = same_is e.text text y in
    subst (λ (s : List ℕ). option_or (found (t.texts.items ++ e ∷ []) s (cond (is_eq (nat_cmp key (hash_of s))) (Some (length t.texts.items)) (get nat_cmp t.first (hash_of s)))) (at_text t.others s)
    ≡ option_or (number_at t s) (cond (same_text e.text s) (Some e.number) None)) is itself)
    (λ (n : same_text e.text text ≡ false).
    ap (λ r. option_or r (at_text t.others text))
    (⊎_elim
    (λ (h : is_eq (nat_cmp key (hash_of text)) ≡ true).
    let old : get nat_cmp t.first (hash_of text) ≡ None = ap (get nat_cmp t.first) (sym (hash_is key (hash_of text) h)) ∙ free in
    ap (λ b. found (t.texts.items ++ e ∷ []) text (cond b (Some (length t.texts.items)) (get nat_cmp t.first (hash_of text)))) h
    ∙ front_still t.texts.items e text (Some (length t.texts.items)) n
    ∙ ap (option_and_then (number_if text)) (slice_get_past t.texts.items (length t.texts.items) (omega arith))
    ∙ sym (ap (found t.texts.items text) old))
    (λ (h : is_eq (nat_cmp key (hash_of text)) ≡ false).
    ap (λ b. found (t.texts.items ++ e ∷ []) text (cond b (Some (length t.texts.items)) (get nat_cmp t.first (hash_of text)))) h
    ∙ front_still t.texts.items e text (get nat_cmp t.first (hash_of text)) n)
    (cases_Bool (is_eq (nat_cmp key (hash_of text)))))
    ∙ or_none (number_at t text) ∙ ap (λ b. option_or (number_at t text) (cond b (Some e.number) None)) (sym n))
    (cases_Bool (same_text e.text text))
  where
    hash_is : (a b : ℕ) → is_eq (nat_cmp a b) ≡ true → a ≡ b
    hash_is a b h = grind (arith, unsigned_ties)

    itself : option_or (found (t.texts.items ++ e ∷ []) e.text (cond (is_eq (nat_cmp (hash_of e.text) (hash_of e.text))) (Some (length t.texts.items)) (get nat_cmp t.first (hash_of e.text)))) (at_text t.others e.text)
        ≡ option_or (number_at t e.text) (cond (same_text e.text e.text) (Some e.number) None)
    itself =
        let tie : is_eq (nat_cmp (hash_of e.text) (hash_of e.text)) ≡ true = sym (unsigned_ties (hash_of e.text) (hash_of e.text)) ∙ grind arith in
        ap (λ b. option_or (found (t.texts.items ++ e ∷ []) e.text (cond b (Some (length t.texts.items)) (get nat_cmp t.first (hash_of e.text)))) (at_text t.others e.text)) tie
        ∙ ap (λ r. option_or r (at_text t.others e.text)) (here_place t.texts.items e)
        ∙ sym (ap (λ r. option_or r (cond (same_text e.text e.text) (Some e.number) None)) none ∙ ap (λ b. cond b (Some e.number) None) ((bytes_decides e.text e.text).1 refl))

pub adds_numbered : (t u : TextNumbers) (e : Numbered) (name : List ℕ) (hash place : ℕ) → hash ≡ hash_of name → e.text ≡ name → get nat_cmp t.first hash ≡ None → number_at t name ≡ None
    → u.texts.items ≡ t.texts.items ++ e ∷ [] → Updates nat_cmp t.first u.first hash (Some place) → place ≡ length t.texts.items → u.others ≡ t.others → AddsText t name e.number u
adds_numbered t u e name hash place h is free none k up at o =
    let key : hash ≡ hash_of e.text = h ∙ ap hash_of (sym is) in
    let all : AddsText t e.text e.number u =
    adds_first t u e (ap (get nat_cmp t.first) (sym key) ∙ free) (ap (number_at t) is ∙ none) k
    (subst (λ (n : ℕ). Updates nat_cmp t.first u.first n (Some (length t.texts.items))) key (subst (λ (n : ℕ). Updates nat_cmp t.first u.first hash (Some n)) at up)) o in
    subst (λ (s : List ℕ). AddsText t s e.number u) is all
