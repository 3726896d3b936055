-- Texts of which each byte is a unit by itself, sixteen bytes at a time.
use Rattle.std.proofs.Common.{◌≡◌, ℕ, zero, suc, ◌+◌, ◌-◌, ◌%◌, ◌^◌, ◌<◌, ◌≤◌, Bool, true, false, cond, eqb, leb, List, [], ◌∷◌, ◌++◌, map, length, get_or, take, drop, replicate, Ok, Fits, w8, refl, sym, ap, ap₂, ◌∙◌, inl, inr, arith, append_assoc}
use Rattle.std.specs.Prelude.{not, ◌&&◌}
use Rattle.std.specs.List.{list_all, prefix_len}
use Rattle.std.proofs.lemmas.Bool.Decides.{leb_tells}
use Rattle.std.proofs.lemmas.Bool.{agree_below_at, le-leb, lt-leb, eq-eqb, ne_eqb}
use Rattle.std.proofs.lemmas.List.{length-map, length-drop, take_all, take-take}
use Rattle.std.proofs.lemmas.List.Folds.{list_all-append}
use Rattle.std.proofs.lemmas.Simd.{map-map, mask_l-mod, zip2_splat, zip2_splat_left, first_set_mask_l, chunk-fits, length-chunk}
use Rattle.std.proofs.Math.Seq.{take-add, take-append-add, drop-append_seam}
use lib.Count.{count_trailing_zeros}
use lib.Lanes.{zip2, mask_l, top, Each1}
use Rattle.std.specs.Io.{StartsWith}
use Rattle.jvm_utf8.specs.Units as utf8
use Rattle.jvm_utf8.specs.Units.{is_plain}
use Rattle.jvm_utf8.proofs.TextLaws.{plain_units}
use Rattle.class_file.specs.Constants.{units_of}
use Rattle.class_file.specs.Texts.{appended}

-- ---- the lanes of one look

abbrev down : ℕ → ℕ → ℕ
down a b = (a + (256 - b)) % 256

abbrev at_most : ℕ → ℕ → ℕ
at_most a b = cond (leb a b) 255 0

abbrev stop : ℕ → ℕ
stop x = at_most 127 (down x 1)

stop_is : (x : ℕ) → x < 256 → top 7 (stop x) ≡ not (is_plain x)
stop_is x h = agree_below_at (λ x. top 7 (stop x)) (λ x. not (is_plain x)) 256 x refl h

each_stop : (v : List ℕ) → Each1 (Fits w8) v → map (λ x. top 7 (stop x)) v ≡ map (λ x. not (is_plain x)) v
each_stop [] fits = refl
each_stop (x ∷ v) fits = ap₂ (λ b l. b ∷ l) (stop_is x fits.0.fits) (each_stop v fits.1)

not_not : (b : Bool) → not (not b) ≡ b
not_not true = refl
not_not false = refl

passed : (v : List ℕ) → prefix_len (λ x. not (not (is_plain x))) v ≡ prefix_len is_plain v
passed [] = refl
passed (x ∷ v) = ap₂ (λ b (n : ℕ). cond b (1 + n) 0) (not_not (is_plain x)) (passed v)

run_of : (v : List ℕ) → length v ≡ 16 → Each1 (Fits w8) v → (m : ℕ) → m ≡ mask_l (map (top 7) (zip2 at_most (replicate 16 127) (zip2 down v (replicate 16 1)))) % 2 ^ 64
    → cond (eqb m 0) 16 (count_trailing_zeros 64 m) ≡ prefix_len is_plain v
run_of v long fits m e =
    let p : ℕ → Bool = λ x. not (is_plain x) in
    let lanes : zip2 at_most (replicate 16 127) (zip2 down v (replicate 16 1)) ≡ map stop v =
    ap (zip2 at_most (replicate 16 127)) (zip2_splat down v 16 1 long) ∙ zip2_splat_left at_most 127 16 (map (λ x. down x 1) v) (length-map v (λ x. down x 1) ∙ long) ∙ map-map (at_most 127) (λ x. down x 1) v in
    let mask : m ≡ mask_l (map p v) =
    e ∙ ap (λ l. mask_l (map (top 7) l) % 2 ^ 64) lanes ∙ ap (λ l. mask_l l % 2 ^ 64) (map-map (top 7) stop v ∙ each_stop v fits)
    ∙ mask_l-mod (map p v) 64 (omega (arith, length-map v p)) in
    ap (λ n. cond (eqb n 0) 16 (count_trailing_zeros 64 n)) mask ∙ first_set_mask_l p v 16 long (omega arith) ∙ passed v

module _ (d : List ℕ) (at m : ℕ) (room : at + 16 ≤ length d) (fits : (k : ℕ) → Fits w8 (get_or d k 0))
    (mask : m ≡ mask_l (map (top 7) (zip2 at_most (replicate 16 127) (zip2 down (take 16 (drop at d)) (replicate 16 1)))) % 2 ^ 64) where
  run : cond (eqb m 0) 16 (count_trailing_zeros 64 m) ≡ prefix_len is_plain (take 16 (drop at d))
  run = run_of (take 16 (drop at d)) (length-chunk at 16 d room) (chunk-fits w8 at 16 d fits) m mask

  pub run_none : m ≡ 0 → 16 ≡ prefix_len is_plain (take 16 (drop at d))
  run_none e = ap (λ b. cond b 16 (count_trailing_zeros 64 m)) (sym (eq-eqb m 0 e)) ∙ run

  pub run_some : 0 < m → count_trailing_zeros 64 m ≡ prefix_len is_plain (take 16 (drop at d))
  run_some h = ap (λ b. cond b 16 (count_trailing_zeros 64 m)) (sym (ne_eqb m 0 (λ e. omega arith))) ∙ run

-- ---- a prefix of plain bytes

more_leb : (m n : ℕ) → leb m n ≡ leb (suc m) (1 + n)
more_leb m n =
    elim (leb_tells m n) [
      | inl e ↦ e.0 ∙ sym (le-leb (suc m) (1 + n) (omega arith))
      | inr e ↦ e.0 ∙ sym (lt-leb (suc m) (1 + n) (omega arith))
    ]

first_step : (b : Bool) (m n : ℕ) (all : Bool) → all ≡ leb m n → (b && all) ≡ leb (suc m) (cond b (1 + n) 0)
first_step true m n all e = e ∙ more_leb m n
first_step false m n all e = sym (lt-leb (suc m) 0 (omega arith))

front_plain : (p : ℕ → Bool) (m : ℕ) (xs : List ℕ) → m ≤ length xs → list_all p (take m xs) ≡ leb m (prefix_len p xs)
front_plain p zero xs h = sym (le-leb 0 (prefix_len p xs) (omega arith))
front_plain p (suc m) [] h = absurd (omega arith)
front_plain p (suc m) (x ∷ xs) h = first_step (p x) m (prefix_len p xs) _ (front_plain p m xs (omega arith))

longer_step : (b : Bool) (n short long : ℕ) → cond b (1 + short) 0 < suc n → (short < n → long ≡ short) → cond b (1 + long) 0 ≡ cond b (1 + short) 0
longer_step true n short long h f = ap (λ (k : ℕ). 1 + k) (f (omega arith))
longer_step false n short long h f = refl

longer : (p : ℕ → Bool) (n : ℕ) (xs : List ℕ) → n ≤ length xs → prefix_len p (take n xs) < n → prefix_len p xs ≡ prefix_len p (take n xs)
longer p zero xs h lt = absurd (omega arith)
longer p (suc n) [] h lt = absurd (omega arith)
longer p (suc n) (x ∷ xs) h lt = longer_step (p x) n (prefix_len p (take n xs)) (prefix_len p xs) lt (longer p n xs (omega arith))

pub plain_on : (d : List ℕ) (at run : ℕ) → at + 16 ≤ length d → run ≡ prefix_len is_plain (take 16 (drop at d)) → 16 ≤ run → list_all is_plain (take at d) ≡ true → list_all is_plain (take (at + 16) d) ≡ true
plain_on d at run room e long so_far =
    let v = take 16 (drop at d) in
    let size : length v ≡ 16 = length-chunk at 16 d room in
    let here : list_all is_plain v ≡ true = ap (list_all is_plain) (sym (take_all 16 v (omega arith))) ∙ front_plain is_plain 16 v (omega arith) ∙ le-leb 16 (prefix_len is_plain v) (omega arith) in
    ap (list_all is_plain) (take-add at 16 d) ∙ list_all-append is_plain (take at d) v ∙ ap₂ (λ a b. a && b) so_far here

pub plain_ends : (d : List ℕ) (at run count : ℕ) → at < count → count + 16 ≤ length d → run ≡ prefix_len is_plain (take 16 (drop at d)) → run < 16 → list_all is_plain (take at d) ≡ true
    → leb count (at + run) ≡ list_all is_plain (take count d)
plain_ends d at run count lt room e short so_far =
    let m = count - at in
    let xs = drop at d in
    let size : length xs ≡ length d - at = length-drop at d in
    let same : prefix_len is_plain xs ≡ run = longer is_plain 16 xs (omega arith) (omega arith) ∙ sym e in
    let whole : count ≡ at + m = omega arith in
    let tested : leb count (at + run) ≡ leb m run =
    elim (leb_tells m run) [
      | inl t ↦ le-leb count (at + run) (omega arith) ∙ sym t.0
      | inr t ↦ lt-leb count (at + run) (omega arith) ∙ sym t.0
    ] in
    tested ∙ ap (leb m) (sym same) ∙ sym (front_plain is_plain m xs (omega arith)) ∙ ap (λ a. a && list_all is_plain (take m xs)) (sym so_far) ∙ sym (list_all-append is_plain (take at d) (take m xs))
    ∙ ap (list_all is_plain) (sym (take-add at m d) ∙ ap (λ (n : ℕ). take n d) (sym whole))

and_first : (a b : Bool) → (a && b) ≡ true → true ≡ a
and_first true b h = refl
and_first false b h = absurd cc

pub plain_whole : (d : List ℕ) (at count : ℕ) → count ≤ at → list_all is_plain (take at d) ≡ true → true ≡ list_all is_plain (take count d)
plain_whole d at count le h =
    let whole : count + (at - count) ≡ at = omega arith in
    and_first (list_all is_plain (take count d)) (list_all is_plain (take (at - count) (drop count d)))
    (sym (list_all-append is_plain (take count d) (take (at - count) (drop count d))) ∙ ap (list_all is_plain) (sym (take-add count (at - count) d) ∙ ap (λ (n : ℕ). take n d) whole) ∙ h)

-- ---- units that are appended

widened : (f : ℕ → ℕ) (v : List ℕ) → ((x : ℕ) → x < 256 → f x ≡ x) → Each1 (Fits w8) v → map f v ≡ v
widened f [] same fits = refl
widened f (x ∷ v) same fits = ap₂ (λ a l. a ∷ l) (same x fits.0.fits) (widened f v same fits.1)

pub front_more : (f : ℕ → ℕ) (old now new d : List ℕ) (at : ℕ) → ((x : ℕ) → x < 256 → f x ≡ x) → ((k : ℕ) → Fits w8 (get_or d k 0)) → now ≡ old ++ take at d
    → new ≡ now ++ map f (take 16 (drop at d)) → new ≡ old ++ take (at + 16) d
front_more f old now new d at same fits so_far e =
    let v = take 16 (drop at d) in
    e ∙ ap₂ (λ (a b : List ℕ). a ++ b) so_far (widened f v same (chunk-fits w8 at 16 d fits)) ∙ append_assoc old (take at d) v ∙ ap (λ l. old ++ l) (sym (take-add at 16 d))

pub front_whole : (old now new d : List ℕ) (at count before : ℕ) → before ≡ length old → count ≤ at → now ≡ old ++ take at d → new ≡ take (before + count) now → new ≡ old ++ take count d
front_whole old now new d at count before size le so_far e =
    e ∙ ap (take (before + count)) so_far ∙ ap (λ (n : ℕ). take (n + count) (old ++ take at d)) size ∙ take-append-add old (take at d) count ∙ ap (λ l. old ++ l) (take-take count at d le)

-- plain bytes in front that were appended are the units of the text there
pub plain_read : (left : ℕ) (before new front text : List ℕ) → StartsWith front text → list_all is_plain (take (length text) front) ≡ true → new ≡ before ++ take (length text) front
    → units_of left (utf8.units_of text) ≡ Ok (appended before new)
plain_read left before new front text same plain e =
    let whole : new ≡ before ++ text = e ∙ ap (λ l. before ++ l) same in
    let rest : appended before new ≡ text = ap (appended before) whole ∙ drop-append_seam before text in
    ap (units_of left) (plain_units text (ap (list_all is_plain) (sym same) ∙ plain)) ∙ ap (λ (l : List ℕ). Ok l) (sym rest)
