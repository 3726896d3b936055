-- What a reader takes is the spelling of what it answers, and each spelling is read again: the laws of the readers of
-- a number and of some bytes, and of each way to put readers together.
use Rattle.std.proofs.Common.{◌≡◌, ℕ, zero, suc, ◌+◌, ◌^◌, ◌<◌, ◌≤◌, ℤ, Bool, true, false, cond, ltb, List, [], ◌∷◌, ◌++◌, length, get_or, take, drop, Result, Ok, Err, refl, sym, ap, subst, ◌∙◌, append_assoc, arith, inl, inr, to_z-of_z}
use Rattle.std.specs.Prelude.{FitsSigned}
use Rattle.std.specs.Int.{Width, w8, w16, w32, w64, byte_len, to_be_bytes, cast_signed, cast_unsigned}
use Rattle.std.proofs.Math.Facts.{sfits_to_z, Fits-of_z}
use Rattle.std.proofs.lemmas.Int.{of_z-to_z}
use Rattle.std.specs.List.{flat_map}
use Rattle.std.proofs.lemmas.Bool.{cases_lt, ltb-false, le-ltb}
use Rattle.std.proofs.lemmas.List.{take_at, drop_at, take-append-drop, length-append, length-take, get_or-drop, get_or-take, get_or_past}
use Rattle.std.proofs.lemmas.Nat.{be_bytes_2, be_bytes_4, be_bytes_8, from_be_bytes-to_be_bytes_2, from_be_bytes-to_be_bytes_4, from_be_bytes-to_be_bytes_8}
use Rattle.byteorder.specs.Endian.{big_number}
use Rattle.byte_reader.specs.declared.fault.Fault.{Fault}
use Rattle.byte_reader.specs.Reader.{◌>>=◌, Reader, fault_at, number_at, signed_at, bytes_at, both, verify, map_value, count_then, list_by}

abbrev pub IsBytes : List ℕ → Type 0
IsBytes bytes = (i : ℕ) → get_or bytes i 0 < 256

IsBytes-drop : (n : ℕ) (bytes : List ℕ) → IsBytes bytes → IsBytes (drop n bytes)
IsBytes-drop n bytes h i = rw get_or-drop (h (n + i))

IsBytes-take : (n : ℕ) (bytes : List ℕ) → IsBytes bytes → IsBytes (take n bytes)
IsBytes-take n bytes h i =
    elim (cases_lt i n) [
      | inl lt ↦ rw (get_or-take n bytes i 0 lt) (h i)
      | inr le ↦ rw (get_or_past (take n bytes) i 0 (omega (arith, length-take n bytes))) (omega arith)
    ]

-- the value of a step that did not fail
pub ok_of : {W A B : Type 0} (r : Result A (Fault W)) (f : A → Result B (Fault W)) (y : B) → (r >>= f) ≡ Ok y → (x : A) × (r ≡ Ok x) × (f x ≡ Ok y)
ok_of (Ok x) f y e = (x, refl, e)
ok_of (Err d) f y e = absurd cc

abbrev pub done : {W A : Type 0} → A → Result A (Fault W)
done x = Ok x

pub ok_is : {W A : Type 0} (x y : A) → done {W = W} x ≡ done {W = W} y → x ≡ y
ok_is x y e = cc

-- a step that did not fail, as its test says
pub passed : {W A : Type 0} (b : Bool) (x y : A) (d : Fault W) → cond b (Ok x) (Err d) ≡ done y → (b ≡ true) × (x ≡ y)
passed true x y d e = (refl, cc)
passed false x y d e = absurd cc

pub not_failed : {W A : Type 0} (b : Bool) (x y : A) (d : Fault W) → cond b (Err d) (Ok x) ≡ done y → (b ≡ false) × (x ≡ y)
not_failed true x y d e = absurd cc
not_failed false x y d e = (refl, cc)

-- the bytes are the text and the rest
pub record Takes (bytes text rest : List ℕ) : Type 0 where
  pub parts : bytes ≡ text ++ rest
  pub rest_fits : IsBytes rest

pub Takes-then : (a x b y c : List ℕ) → Takes a x b → Takes b y c → Takes a (x ++ y) c
Takes-then a x b y c p q = record { parts = p.parts ∙ ap (λ (t : List ℕ). x ++ t) q.parts ∙ sym (append_assoc x y c); rest_fits = q.rest_fits }

-- the reader reads just the values that are so, each from its spelling
pub record IsReader {W A : Type 0} (reader : Reader W A) (spell : A → List ℕ) (Is : A → Type 0) : Type 0 where
  pub takes : (bytes : List ℕ) (p : A × List ℕ) → IsBytes bytes → reader bytes ≡ Ok p → Takes bytes (spell p.0) p.1 × Is p.0
  pub again : (x : A) (rest : List ℕ) → Is x → reader (spell x ++ rest) ≡ Ok (x, rest)

-- ---- numbers

pub record IsWide (size : ℕ) (spell : ℕ → List ℕ) (limit : ℕ) : Type 0 where
  pub len : (n : ℕ) → length (spell n) ≡ size
  pub back : (bytes : List ℕ) → size ≤ length bytes → IsBytes bytes → spell (big_number size bytes) ≡ take size bytes
  pub number : (n : ℕ) (rest : List ℕ) → n < limit → big_number size (spell n ++ rest) ≡ n
  pub below : (bytes : List ℕ) → IsBytes bytes → big_number size bytes < limit

one_back : (bytes : List ℕ) → 1 ≤ length bytes → big_number 1 bytes ∷ [] ≡ take 1 bytes
one_back [] long = absurd (omega arith)
one_back (b ∷ bytes) long = ap (λ (x : ℕ). x ∷ []) (omega arith)

pub wide8 : IsWide 1 (λ n. n ∷ []) (2 ^ 8)
wide8 = record {
  len = λ n. refl;
  back = λ bytes long fits. one_back bytes long;
  number = λ n rest lt. omega arith;
  below = λ bytes fits. omega (arith, fits 0);
}

pub wide16 : IsWide 2 (to_be_bytes w16) (2 ^ 16)
wide16 = record {
  len = λ n. refl;
  back = λ bytes long fits. be_bytes_2 (take 2 bytes) _ (omega (arith, length-take 2 bytes)) (IsBytes-take 2 bytes fits) (omega (arith, get_or-take 2 bytes 0 0 (omega arith), get_or-take 2 bytes 1 0 (omega arith)));
  number = λ n rest lt. omega (arith, from_be_bytes-to_be_bytes_2 n lt);
  below = λ bytes fits. omega (arith, fits 0, fits 1);
}

pub wide32 : IsWide 4 (to_be_bytes w32) (2 ^ 32)
wide32 = record {
  len = λ n. refl;
  back = λ bytes long fits. be_bytes_4 (take 4 bytes) _ (omega (arith, length-take 4 bytes)) (IsBytes-take 4 bytes fits) (omega (arith, get_or-take 4 bytes 0 0 (omega arith), get_or-take 4 bytes 1 0 (omega arith), get_or-take 4 bytes 2 0 (omega arith), get_or-take 4 bytes 3 0 (omega arith)));
  number = λ n rest lt. omega (arith, from_be_bytes-to_be_bytes_4 n lt);
  below = λ bytes fits. omega (arith, fits 0, fits 1, fits 2, fits 3);
}

pub wide64 : IsWide 8 (to_be_bytes w64) (2 ^ 64)
wide64 = record {
  len = λ n. refl;
  back = λ bytes long fits. be_bytes_8 (take 8 bytes) _ (omega (arith, length-take 8 bytes)) (IsBytes-take 8 bytes fits) (omega (arith, get_or-take 8 bytes 0 0 (omega arith), get_or-take 8 bytes 1 0 (omega arith), get_or-take 8 bytes 2 0 (omega arith), get_or-take 8 bytes 3 0 (omega arith), get_or-take 8 bytes 4 0 (omega arith), get_or-take 8 bytes 5 0 (omega arith), get_or-take 8 bytes 6 0 (omega arith), get_or-take 8 bytes 7 0 (omega arith)));
  number = λ n rest lt. omega (arith, from_be_bytes-to_be_bytes_8 n lt);
  below = λ bytes fits. omega (arith, fits 0, fits 1, fits 2, fits 3, fits 4, fits 5, fits 6, fits 7);
}

pub number_reads : {W : Type 0} {size : ℕ} {spell : ℕ → List ℕ} {limit : ℕ} (short : W) → IsWide size spell limit → IsReader (number_at short size) spell (λ n. n < limit)
number_reads {size = size} {spell = spell} {limit = limit} short wide = record {
  takes = λ bytes p fits e.
      let g = not_failed (ltb (length bytes) size) (big_number size bytes, drop size bytes) p (fault_at bytes short) e in
      let long : size ≤ length bytes = ltb-false _ _ g.0 in
      let made : Takes bytes (spell (big_number size bytes)) (drop size bytes) = record { parts = rw (wide.back bytes long fits) (sym (take-append-drop size bytes)); rest_fits = IsBytes-drop size bytes fits } in
      subst (λ (q : ℕ × List ℕ). Takes bytes (spell q.0) q.1 × (q.0 < limit)) g.1 (made, wide.below bytes fits);
  again = λ n rest lt.
      let len = wide.len n in
      let long : ltb (length (spell n ++ rest)) size ≡ false = le-ltb _ _ (omega (arith, length-append (spell n) rest)) in
      rw (long, drop_at (spell n) rest size len, wide.number n rest lt) refl;
}

-- the first of the bytes is read, whatever number it is
pub byte_again : {W : Type 0} (short : W) (n : ℕ) (rest : List ℕ) → number_at short 1 (n ∷ rest) ≡ Ok (n, rest)
byte_again short n rest =
    let long : ltb (length (n ∷ rest)) 1 ≡ false = le-ltb _ _ (omega arith) in
    let same : big_number 1 (n ∷ rest) ≡ n = omega arith in
    rw (long, same) refl

pub bytes_again : {W : Type 0} (short : W) (n : ℕ) (bs rest : List ℕ) → length bs ≡ n → bytes_at short n (bs ++ rest) ≡ Ok (bs, rest)
bytes_again short n bs rest size =
    let long : ltb (length (bs ++ rest)) n ≡ false = le-ltb _ _ (omega (arith, length-append bs rest)) in
    rw (long, take_at bs rest n size, drop_at bs rest n size) refl

pub bytes_reads : {W : Type 0} (short : W) (n : ℕ) → IsReader (bytes_at short n) (λ bs. bs) (λ bs. (length bs ≡ n) × IsBytes bs)
bytes_reads short n = record {
  takes = λ bytes p fits e.
      let g = not_failed (ltb (length bytes) n) (take n bytes, drop n bytes) p (fault_at bytes short) e in
      let long : n ≤ length bytes = ltb-false _ _ g.0 in
      let made : Takes bytes (take n bytes) (drop n bytes) = record { parts = sym (take-append-drop n bytes); rest_fits = IsBytes-drop n bytes fits } in
      subst (λ (q : List ℕ × List ℕ). Takes bytes q.0 q.1 × ((length q.0 ≡ n) × IsBytes q.0)) g.1 (made, (omega (arith, length-take n bytes), IsBytes-take n bytes fits));
  again = λ bs rest h. bytes_again short n bs rest h.0;
}

-- ---- readers put together

pub both_reads : {W A B : Type 0} {r : Reader W A} {s : A → List ℕ} {P : A → Type 0} {t : Reader W B} {u : B → List ℕ} {Q : B → Type 0}
    → IsReader r s P → IsReader t u Q → IsReader (both r t) (λ p. s p.0 ++ u p.1) (λ p. P p.0 × Q p.1)
both_reads {A = A} {B = B} {r = r} {s = s} {P = P} {t = t} {u = u} {Q = Q} first second = record {
  takes = λ bytes p fits e.
      let a = ok_of (r bytes) (λ x. t x.1 >>= λ y. Ok ((x.0, y.0), y.1)) p e in
      let b = ok_of (t a.0.1) (λ y. Ok ((a.0.0, y.0), y.1)) p a.2 in
      let one = first.takes bytes a.0 fits a.1 in
      let two = second.takes a.0.1 b.0 one.0.rest_fits b.1 in
      let made : (A × B) × List ℕ = ((a.0.0, b.0.0), b.0.1) in
      subst (λ (q : (A × B) × List ℕ). Takes bytes (s q.0.0 ++ u q.0.1) q.1 × (P q.0.0 × Q q.0.1)) (ok_is made p b.2)
      (Takes-then bytes (s a.0.0) a.0.1 (u b.0.0) b.0.1 one.0 two.0, (one.1, two.1));
  again = λ x rest h.
      ap (both r t) (append_assoc (s x.0) (u x.1) rest) ∙ rw (first.again x.0 (u x.1 ++ rest) h.0, second.again x.1 rest h.1) refl;
}

pub verify_reads : {W A : Type 0} {r : Reader W A} {s : A → List ℕ} {P : A → Type 0} (test : A → Bool) (why : W) → IsReader r s P → IsReader (verify test why r) s (λ x. P x × (test x ≡ true))
verify_reads {A = A} {r = r} {s = s} {P = P} test why reads = record {
  takes = λ bytes p fits e.
      let a = ok_of (r bytes) (λ x. cond (test x.0) (Ok x) (Err (fault_at bytes why))) p e in
      let g = passed (test a.0.0) a.0 p (fault_at bytes why) a.2 in
      let one = reads.takes bytes a.0 fits a.1 in
      subst (λ (q : A × List ℕ). Takes bytes (s q.0) q.1 × (P q.0 × (test q.0 ≡ true))) g.1 (one.0, (one.1, g.0));
  again = λ x rest h. let e = h.1 in rw (reads.again x rest h.0, e) refl;
}

-- f takes what is read to what is wanted, with the spelling that it has there
pub record Carries {A B : Type 0} (f : A → B) (s : A → List ℕ) (P : A → Type 0) (u : B → List ℕ) (Q : B → Type 0) : Type 0 where
  pub to : (a : A) → P a → (s a ≡ u (f a)) × Q (f a)
  pub from : (b : B) → Q b → (a : A) × (f a ≡ b) × P a

pub map_value_reads : {W A B : Type 0} {r : Reader W A} {f : A → B} {s : A → List ℕ} {P : A → Type 0} {u : B → List ℕ} {Q : B → Type 0}
    → Carries f s P u Q → IsReader r s P → IsReader (map_value f r) u Q
map_value_reads {A = A} {B = B} {r = r} {f = f} {s = s} {P = P} {u = u} {Q = Q} carries reads = record {
  takes = λ bytes p fits e.
      let a = ok_of (r bytes) (λ x. Ok (f x.0, x.1)) p e in
      let one = reads.takes bytes a.0 fits a.1 in
      let c = carries.to a.0.0 one.1 in
      let made : B × List ℕ = (f a.0.0, a.0.1) in
      subst (λ (q : B × List ℕ). Takes bytes (u q.0) q.1 × Q q.0) (ok_is made p a.2) (subst (λ (t : List ℕ). Takes bytes t a.0.1) c.0 one.0, c.1);
  again = λ b rest h.
      let a = carries.from b h in
      let c = carries.to a.0 a.2 in
      subst (λ (y : B). map_value f r (u y ++ rest) ≡ Ok (y, rest)) a.1
      (ap (λ (t : List ℕ). map_value f r (t ++ rest)) (sym c.0) ∙ rw (reads.again a.0 rest a.2) refl);
}

-- f has an inverse, so what is read is carried over as it is
pub carried : {A B : Type 0} {s : A → List ℕ} {P : A → Type 0} (f : A → B) (g : B → A) → ((a : A) → g (f a) ≡ a) → ((b : B) → f (g b) ≡ b) → Carries f s P (λ b. s (g b)) (λ b. P (g b))
carried {s = s} {P = P} f g back forth = record {
  to = λ a h. (ap s (sym (back a)), subst P (sym (back a)) h);
  from = λ b h. (g b, forth b, h);
}

pub count_then_reads : {W A : Type 0} {width : ℕ} {number : ℕ → List ℕ} {limit : ℕ} {r : ℕ → Reader W A} {s : A → List ℕ} {P : A → Type 0} (short : W) (size : A → ℕ)
    → IsWide width number limit → ((n : ℕ) → IsReader (r n) s (λ x. (size x ≡ n) × P x))
    → IsReader (count_then short width r) (λ x. number (size x) ++ s x) (λ x. (size x < limit) × P x)
count_then_reads {A = A} {width = width} {number = number} {limit = limit} {r = r} {s = s} {P = P} short size wide reads = record {
  takes = λ bytes p fits e.
      let a = ok_of (number_at short width bytes) (λ n. r n.0 n.1) p e in
      let one = (number_reads short wide).takes bytes a.0 fits a.1 in
      let two = (reads a.0.0).takes a.0.1 p one.0.rest_fits a.2 in
      let whole = Takes-then bytes (number a.0.0) a.0.1 (s p.0) p.1 one.0 two.0 in
      (subst (λ (n : ℕ). Takes bytes (number n ++ s p.0) p.1) (sym two.1.0) whole, (omega (arith, two.1.0, one.1), two.1.1));
  again = λ x rest h.
      ap (count_then short width r) (append_assoc (number (size x)) (s x) rest)
      ∙ rw ((number_reads short wide).again (size x) (s x ++ rest) h.0, (reads (size x)).again x rest (refl, h.1)) refl;
}

-- the same values, said another way
pub same_reads : {W A : Type 0} {r : Reader W A} {s : A → List ℕ} {P : A → Type 0} (Q : A → Type 0) → ((x : A) → P x → Q x) → ((x : A) → Q x → P x) → IsReader r s P → IsReader r s Q
same_reads Q to from reads = record {
  takes = λ bytes p fits e. let t = reads.takes bytes p fits e in (t.0, to p.0 t.1);
  again = λ x rest h. reads.again x rest (from x h);
}

-- ---- numbers with a sign

signed_by : {W : Type 0} (short : W) (w : Width) (spell : ℕ → List ℕ) (limit : ℕ)
    → ((n : ℕ) → n < limit → FitsSigned w (cast_signed w n) × (cast_unsigned w (cast_signed w n) ≡ n))
    → ((z : ℤ) → FitsSigned w z → (cast_unsigned w z < limit) × (cast_signed w (cast_unsigned w z) ≡ z))
    → IsReader (number_at short (byte_len w)) spell (λ n. n < limit) → IsReader (signed_at short w) (λ z. spell (cast_unsigned w z)) (FitsSigned w)
signed_by short w spell limit there here reads =
    map_value_reads {f = cast_signed w}
    (record {
      to = λ n lt. let h = there n lt in (ap spell (sym h.1), h.0);
      from = λ z fit. let h = here z fit in (cast_unsigned w z, h.1, h.0);
    })
    reads

pub signed8 : {W : Type 0} (short : W) → IsReader (signed_at short w8) (λ z. cast_unsigned w8 z ∷ []) (FitsSigned w8)
signed8 short = signed_by short w8 (λ n. n ∷ []) 256 (λ n lt. (sfits_to_z {w = w8} {n = n} (record { fits = lt }), of_z-to_z w8 n lt)) (λ z fit. ((Fits-of_z {w = w8} {z = z} fit).fits, to_z-of_z fit)) (number_reads short wide8)

pub signed16 : {W : Type 0} (short : W) → IsReader (signed_at short w16) (λ z. to_be_bytes w16 (cast_unsigned w16 z)) (FitsSigned w16)
signed16 short = signed_by short w16 (to_be_bytes w16) (2 ^ 16) (λ n lt. (sfits_to_z {w = w16} {n = n} (record { fits = lt }), of_z-to_z w16 n lt)) (λ z fit. ((Fits-of_z {w = w16} {z = z} fit).fits, to_z-of_z fit)) (number_reads short wide16)

pub signed32 : {W : Type 0} (short : W) → IsReader (signed_at short w32) (λ z. to_be_bytes w32 (cast_unsigned w32 z)) (FitsSigned w32)
signed32 short = signed_by short w32 (to_be_bytes w32) (2 ^ 32) (λ n lt. (sfits_to_z {w = w32} {n = n} (record { fits = lt }), of_z-to_z w32 n lt)) (λ z fit. ((Fits-of_z {w = w32} {z = z} fit).fits, to_z-of_z fit)) (number_reads short wide32)

-- ---- lists

-- each value of a list is so in its state, where so many follow
abbrev pub AllByState : {S A : Type 0} → (S → ℕ → A → Type 0) → (S → A → S) → S → List A → Type 0
AllByState Is next state [] = Unit {0}
AllByState Is next state (x ∷ xs) = Is state (length xs) x × AllByState Is next (next state x) xs

list_by_take : {W S A : Type 0} {step : S → ℕ → Reader W A} {s : A → List ℕ} {Is : S → ℕ → A → Type 0} (next : S → A → S) → ((state : S) (n : ℕ) → IsReader (step state n) s (Is state n))
    → (n : ℕ) (state : S) (bytes : List ℕ) (p : List A × List ℕ) → IsBytes bytes → list_by step next state n bytes ≡ Ok p → Takes bytes (flat_map s p.0) p.1 × ((length p.0 ≡ n) × AllByState Is next state p.0)
list_by_take {A = A} {s = s} {Is = Is} next reads zero state bytes p fits e =
    subst (λ (q : List A × List ℕ). Takes bytes (flat_map s q.0) q.1 × ((length q.0 ≡ 0) × AllByState Is next state q.0)) (ok_is ([], bytes) p e) (record { parts = refl; rest_fits = fits }, (refl, tt))
list_by_take {A = A} {step = step} {s = s} {Is = Is} next reads (suc n) state bytes p fits e =
    let a = ok_of (step state n bytes) (λ first. list_by step next (next state first.0) n first.1 >>= λ others. Ok (first.0 ∷ others.0, others.1)) p e in
    let b = ok_of (list_by step next (next state a.0.0) n a.0.1) (λ others. Ok (a.0.0 ∷ others.0, others.1)) p a.2 in
    let first = (reads state n).takes bytes a.0 fits a.1 in
    let second = list_by_take next reads n (next state a.0.0) a.0.1 b.0 first.0.rest_fits b.1 in
    let whole = Takes-then bytes (s a.0.0) a.0.1 (flat_map s b.0.0) b.0.1 first.0 second.0 in
    let made : List A × List ℕ = (a.0.0 ∷ b.0.0, b.0.1) in
    let here : Is state (length b.0.0) a.0.0 = subst (λ (k : ℕ). Is state k a.0.0) (sym second.1.0) first.1 in
    subst (λ (q : List A × List ℕ). Takes bytes (flat_map s q.0) q.1 × ((length q.0 ≡ suc n) × AllByState Is next state q.0)) (ok_is made p b.2) (whole, (ap suc second.1.0, (here, second.1.1)))

list_by_again : {W S A : Type 0} {step : S → ℕ → Reader W A} {s : A → List ℕ} {Is : S → ℕ → A → Type 0} (next : S → A → S) → ((state : S) (n : ℕ) → IsReader (step state n) s (Is state n))
    → (xs : List A) (state : S) (rest : List ℕ) → AllByState Is next state xs → list_by step next state (length xs) (flat_map s xs ++ rest) ≡ Ok (xs, rest)
list_by_again next reads [] state rest h = refl
list_by_again {step = step} {s = s} next reads (x ∷ xs) state rest h =
    let regrouped : flat_map s (x ∷ xs) ++ rest ≡ s x ++ (flat_map s xs ++ rest) = append_assoc (s x) (flat_map s xs) rest in
    ap (list_by step next state (suc (length xs))) regrouped
    ∙ rw ((reads state (length xs)).again x (flat_map s xs ++ rest) h.0, list_by_again next reads xs (next state x) rest h.1) refl

pub list_by_reads : {W S A : Type 0} {step : S → ℕ → Reader W A} {s : A → List ℕ} {Is : S → ℕ → A → Type 0} (next : S → A → S) → ((state : S) (n : ℕ) → IsReader (step state n) s (Is state n))
    → (state : S) (n : ℕ) → IsReader (list_by step next state n) (flat_map s) (λ xs. (length xs ≡ n) × AllByState Is next state xs)
list_by_reads {step = step} {s = s} next reads state n = record {
  takes = λ bytes p fits e. list_by_take next reads n state bytes p fits e;
  again = λ xs rest h. subst (λ (k : ℕ). list_by step next state k (flat_map s xs ++ rest) ≡ Ok (xs, rest)) h.0 (list_by_again next reads xs state rest h.1);
}
