-- The live threads, counted by number.
use Rattle.std.proofs.Common.{◌≡◌, ◌↔◌, ◌+◌, ℕ, zero, suc, Bool, true, false, List, [], ◌∷◌, ◌++◌, filter, length, map, slice_get, Option, Some, None, refl, ap, sym, ◌∙◌, cond, zero-add}
use Rattle.std.specs.Prelude.{IsSome, IsTrue, if◌then◌else◌, is_some}
use Rattle.std.specs.List.{range_with_len}
use Rattle.std.specs.Option.{option_map, option_map_or}
use Rattle.std.proofs.lemmas.List.{append-nil, map-id}
use Rattle.std.proofs.lemmas.List.FromFn.{filter_of_map_range_with_len_more}
use Rattle.items.specs.Options.{◌>>=◌}
use Rattle.vthread_state.specs.declared.thread.Status.{Status}
use Rattle.vthread_state.specs.declared.thread.Status.TheVariants.{New, Live, Done}
use Rattle.vthread_state.specs.declared.thread.Thread.{Thread}
use Rattle.vthread_state.specs.Threads.{Threads, phase_at, phase_of}
use Rattle.ref_model.specs.State.{JavaThread, State}
use Rattle.ref_model.specs.Ending.{is_live}
use Rattle.machine.specs.Live.{is_live_row, live_below, live_threads}

-- ---- one number more

more : (p : ℕ → Bool) (n : ℕ) → filter p (range_with_len 0 (n + 1)) ≡ filter p (range_with_len 0 n) ++ cond (p n) (n ∷ []) []
more p n =
    ap (filter p) (sym (map-id (range_with_len 0 (n + 1)))) ∙ filter_of_map_range_with_len_more p (λ k. k) 0 n n (zero-add n)
    ∙ ap (λ xs. filter p xs ++ cond (p n) (n ∷ []) []) (map-id (range_with_len 0 n))

pub live_more : (rows : List Thread) (n : ℕ) → is_live_row rows n ≡ true → live_below rows (n + 1) ≡ live_below rows n ++ n ∷ []
live_more rows n is = more (is_live_row rows) n ∙ ap (λ b. live_below rows n ++ cond b (n ∷ []) []) is

pub live_less : (rows : List Thread) (n : ℕ) → is_live_row rows n ≡ false → live_below rows (n + 1) ≡ live_below rows n
live_less rows n is =
    more (is_live_row rows) n ∙ ap (λ b. live_below rows n ++ cond b (n ∷ []) []) is ∙ append-nil (live_below rows n)

-- ---- who is live

live_phase : (s : Status) → is_some (phase_of s) ≡ is_live s
live_phase New = refl
live_phase (Live phase) = refl
live_phase Done = refl

row_phase : (o : Option Thread) → is_some (option_map (λ (x : Thread). x.status) o >>= phase_of) ≡ option_map_or (λ (x : Thread). is_live x.status) o false
row_phase None = refl
row_phase (Some x) = live_phase x.status

pub alive_so : (table : Threads) (t : ℕ) (b : Bool) → (IsTrue b ↔ IsSome (phase_at table t)) → b ≡ is_live_row table.threads t
alive_so table t b tells = by b (is_some (phase_at table t)) tells ∙ row_phase (slice_get table.threads t)
  where
    by : (b c : Bool) → ((b ≡ true) ↔ (c ≡ true)) → b ≡ c
    by true true h = refl
    by true false h = absurd (let e = h.0 refl in cc)
    by false true h = absurd (let e = h.1 refl in cc)
    by false false h = refl

-- a number more, which is listed where its thread is live
pub live_next : (table : Threads) (t : ℕ) (b : Bool) (old new : List ℕ) → (IsTrue b ↔ IsSome (phase_at table t)) → old ≡ live_below table.threads t
    → new ≡ (if b then old ++ t ∷ [] else old) → new ≡ live_below table.threads (t + 1)
live_next table t b old new tells was is = by b refl is
  where
    same : b ≡ is_live_row table.threads t
    same = alive_so table t b tells

    by : (c : Bool) → b ≡ c → new ≡ (if c then old ++ t ∷ [] else old) → new ≡ live_below table.threads (t + 1)
    by true e made = made ∙ ap (λ xs. xs ++ t ∷ []) was ∙ sym (live_more table.threads t (sym same ∙ e))
    by false e made = made ∙ was ∙ sym (live_less table.threads t (sym same ∙ e))

-- ---- of a state

row_at : (rows : List JavaThread) (t : ℕ) → option_map_or (λ (x : Thread). is_live x.status) (slice_get (map (λ (x : JavaThread). x.thread) rows) t) false
    ≡ option_map_or (λ (x : JavaThread). is_live x.thread.status) (slice_get rows t) false
row_at [] t = refl
row_at (x ∷ xs) zero = refl
row_at (x ∷ xs) (suc t) = row_at xs t

length_map : (rows : List JavaThread) → length (map (λ (x : JavaThread). x.thread) rows) ≡ length rows
length_map [] = refl
length_map (x ∷ xs) = ap suc (length_map xs)

pub live_of_state : (rows : List Thread) (r : State) → rows ≡ map (λ (x : JavaThread). x.thread) r.threads → live_below rows (length rows) ≡ live_threads r
live_of_state rows r same =
    ap (λ (xs : List Thread). live_below xs (length xs)) same
    ∙ ap (live_below (map (λ (x : JavaThread). x.thread) r.threads)) (length_map r.threads)
    ∙ ap (λ (p : ℕ → Bool). filter p (range_with_len 0 (length r.threads))) (λ i t. row_at r.threads t i)
