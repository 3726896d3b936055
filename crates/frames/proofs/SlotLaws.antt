-- Runs of slots: read one by one, after a write, and joined.
use Rattle.std.proofs.Common.{ℕ, zero, suc, ◌≡◌, ◌+◌, ◌<◌, ◌≤◌, List, [], ◌∷◌, ◌++◌, length, take, drop, reverse, replicate, Some, refl, ap, sym, ◌∙◌, arith, drop-cons}
use Rattle.std.proofs.lemmas.List.{get_or-set_other, reverse-append, get_or-drop}
use Rattle.std.proofs.lemmas.Grind.{get_or-set_at}
use Rattle.std.specs.Prelude.{slice_get, slice_set}
use Rattle.instruction_rows.specs.declared.value.Slot.{Slot}
use Rattle.instruction_rows.specs.declared.value.Slot.TheVariants.{Second}
use Rattle.frames.specs.Slots.{slot_at, ascending, descending}

pub cons_is : {A : Type 0} {x y : A} {xs ys : List A} → x ≡ y → xs ≡ ys → x ∷ xs ≡ y ∷ ys
cons_is p q = λ i. p i ∷ q i

-- two lists have the same slots from one index up to another
pub record Agree (low high : ℕ) (xs ys : List Slot) : Type 0 where
  pub same : (i : ℕ) → low ≤ i → i < high → slot_at ys i ≡ slot_at xs i

pub agree_within : (low high low' high' : ℕ) (xs ys : List Slot) → low ≤ low' → high' ≤ high → Agree low high xs ys → Agree low' high' xs ys
agree_within low high low' high' xs ys l h agree = record { same = λ i a b. agree.same i (omega arith) (omega arith) }

pub ascending_agree : (n from : ℕ) (xs ys : List Slot) → Agree from (from + n) xs ys → ascending ys from n ≡ ascending xs from n
ascending_agree zero from xs ys agree = refl
ascending_agree (suc n) from xs ys agree =
    cons_is (agree.same from (omega arith) (omega arith))
    (ascending_agree n (suc from) xs ys (agree_within from (from + suc n) (suc from) (suc from + n) xs ys (omega arith) (omega arith) agree))

pub descending_agree : (n from : ℕ) (xs ys : List Slot) → Agree from (from + n) xs ys → descending ys from n ≡ descending xs from n
descending_agree zero from xs ys agree = refl
descending_agree (suc n) from xs ys agree =
    cons_is (agree.same (from + n) (omega arith) (omega arith))
    (descending_agree n from xs ys (agree_within from (from + suc n) from (from + n) xs ys (omega arith) (omega arith) agree))

-- a write leaves what lies below and above
pub agree_below : (low high at : ℕ) (xs : List Slot) (x : Slot) → high ≤ at → Agree low high xs (slice_set xs at x)
agree_below low high at xs x h = record { same = λ i a b. get_or-set_other xs at i x Second (omega arith) }

pub agree_above : (low high at : ℕ) (xs : List Slot) (x : Slot) → at < low → Agree low high xs (slice_set xs at x)
agree_above low high at xs x h = record { same = λ i a b. get_or-set_other xs at i x Second (omega arith) }

pub length-ascending : (n from : ℕ) (slots : List Slot) → length (ascending slots from n) ≡ n
length-ascending zero from slots = refl
length-ascending (suc n) from slots = ap suc (length-ascending n (suc from) slots)

pub length-descending : (n from : ℕ) (slots : List Slot) → length (descending slots from n) ≡ n
length-descending zero from slots = refl
length-descending (suc n) from slots = ap suc (length-descending n from slots)

pub get_ascending : (n from i : ℕ) (slots : List Slot) → i < n → slice_get (ascending slots from n) i ≡ Some (slot_at slots (from + i))
get_ascending zero from i slots h = absurd (omega arith)
get_ascending (suc n) from zero slots h = let e : from ≡ from + 0 = omega arith in ap (λ k. Some (slot_at slots k)) e
get_ascending (suc n) from (suc i) slots h =
    let e : suc from + i ≡ from + suc i = omega arith in
    get_ascending n (suc from) i slots (omega arith) ∙ ap (λ k. Some (slot_at slots k)) e

pub get_descending : (n from i at : ℕ) (slots : List Slot) → at + suc i ≡ from + n → i < n → slice_get (descending slots from n) i ≡ Some (slot_at slots at)
get_descending zero from i at slots e h = absurd (omega arith)
get_descending (suc n) from zero at slots e h = let is : from + n ≡ at = omega arith in ap (λ k. Some (slot_at slots k)) is
get_descending (suc n) from (suc i) at slots e h = get_descending n from i at slots (omega arith) (omega arith)

pub set_ascending : (n from i at : ℕ) (slots : List Slot) (x : Slot) → at ≡ from + i → i < n → at < length slots → ascending (slice_set slots at x) from n ≡ slice_set (ascending slots from n) i x
set_ascending zero from i at slots x e h l = absurd (omega arith)
set_ascending (suc n) from zero at slots x e h l =
    cons_is (get_or-set_at slots at from x Second (omega arith) l)
    (ascending_agree n (suc from) slots (slice_set slots at x) (agree_above (suc from) (suc from + n) at slots x (omega arith)))
set_ascending (suc n) from (suc i) at slots x e h l =
    cons_is (get_or-set_other slots at from x Second (omega arith))
    (set_ascending n (suc from) i at slots x (omega arith) (omega arith) l)

pub ascending_more : (n from : ℕ) (slots : List Slot) → ascending slots from (suc n) ≡ ascending slots from n ++ slot_at slots (from + n) ∷ []
ascending_more zero from slots = let e : from ≡ from + 0 = omega arith in ap (λ k. slot_at slots k ∷ []) e
ascending_more (suc n) from slots =
    let e : suc from + n ≡ from + suc n = omega arith in
    cons_is refl (ascending_more n (suc from) slots ∙ ap (λ k. ascending slots (suc from) n ++ slot_at slots k ∷ []) e)

pub reverse_descending : (n from : ℕ) (slots : List Slot) → reverse (descending slots from n) ≡ ascending slots from n
reverse_descending zero from slots = refl
reverse_descending (suc n) from slots =
    let x = slot_at slots (from + n) in
    reverse-append (x ∷ []) (descending slots from n) ∙ ap (λ xs. xs ++ x ∷ []) (reverse_descending n from slots) ∙ sym (ascending_more n from slots)

pub take_descending : (n args rest from : ℕ) (slots : List Slot) → n ≡ rest + args → take args (descending slots from n) ≡ descending slots (from + rest) args
take_descending n zero rest from slots e = refl
take_descending zero (suc args) rest from slots e = absurd (omega arith)
take_descending (suc n) (suc args) rest from slots e =
    let at : from + n ≡ from + rest + args = omega arith in
    cons_is (ap (slot_at slots) at) (take_descending n args rest from slots (omega arith))

pub drop_descending : (n args rest from : ℕ) (slots : List Slot) → n ≡ rest + args → drop args (descending slots from n) ≡ descending slots from rest
drop_descending n zero rest from slots e = let is : n ≡ rest = omega arith in ap (descending slots from) is
drop_descending zero (suc args) rest from slots e = absurd (omega arith)
drop_descending (suc n) (suc args) rest from slots e = drop_descending n args rest from slots (omega arith)

pub ascending_add : (n m k from : ℕ) (slots : List Slot) → k ≡ n + m → ascending slots from k ≡ ascending slots from n ++ ascending slots (from + n) m
ascending_add zero m k from slots e =
    let is : k ≡ m = omega arith in
    let at : from ≡ from + 0 = omega arith in
    ap (ascending slots from) is ∙ ap (λ i. ascending slots i m) at
ascending_add (suc n) m zero from slots e = absurd (omega arith)
ascending_add (suc n) m (suc k) from slots e =
    let at : suc from + n ≡ from + suc n = omega arith in
    cons_is refl (ascending_add n m k (suc from) slots (omega arith) ∙ ap (λ i. ascending slots (suc from) n ++ ascending slots i m) at)

pub ascending_unset : (n from : ℕ) (slots : List Slot) → ((i : ℕ) → from ≤ i → i < from + n → slot_at slots i ≡ Second) → ascending slots from n ≡ replicate n Second
ascending_unset zero from slots unset = refl
ascending_unset (suc n) from slots unset =
    cons_is (unset from (omega arith) (omega arith))
    (ascending_unset n (suc from) slots (λ i a b. unset i (omega arith) (omega arith)))

pub drop_ascending : (n from : ℕ) (slots : List Slot) → from + n ≤ length slots → drop from slots ≡ ascending slots from n ++ drop (from + n) slots
drop_ascending zero from slots h = let e : from ≡ from + 0 = omega arith in ap (λ k. drop k slots) e
drop_ascending (suc n) from slots h =
    let e : suc from + n ≡ from + suc n = omega arith in
    drop-cons slots from Second (omega arith) ∙ cons_is refl (drop_ascending n (suc from) slots (omega arith) ∙ ap (λ k. ascending slots (suc from) n ++ drop k slots) e)

pub descending_drop : (n from : ℕ) (slots : List Slot) → descending (drop from slots) 0 n ≡ descending slots from n
descending_drop zero from slots = refl
descending_drop (suc n) from slots =
    let e : from + (0 + n) ≡ from + n = omega arith in
    cons_is (get_or-drop from slots (0 + n) Second ∙ ap (slot_at slots) e) (descending_drop n from slots)
