-- Reading a text gives its units back, and what is read is a text; where reading stops, no unit begins.
use Rattle.std.proofs.Common.{◌≡◌, ℕ, zero, suc, ◌+◌, ◌-◌, ◌^◌, ◌<◌, ◌≤◌, List, [], ◌∷◌, ◌++◌, length, get_or, take, drop, drop-cons, Option, Some, None, Result, Ok, Err, refl, sym, ap, subst, ◌∙◌, append_assoc, length-append, arith, ◌⊎◌, inl, inr, Bool, true, false, cond}
use Rattle.std.specs.Prelude.{IfOk, ◌&&◌}
use Rattle.std.specs.List.{list_all}
use Rattle.items.specs.Memory.{OkUnless}
use Rattle.std.proofs.lemmas.List.Concat.{flat_map-cons}
use Rattle.std.specs.Io.{StartsWith}
use Rattle.std.proofs.lemmas.Grind.{flat_map-append}
use Rattle.std.proofs.lemmas.List.{append-nil, flat_map_more, take-append-drop, take-append-le, length-take, length-take-le, length-drop}
use Rattle.std.proofs.Math.Seq.{take-append_seam, drop-append_seam}
use Rattle.jvm_utf8.specs.declared.error.Utf8Error.{Utf8Error}
use Rattle.jvm_utf8.specs.declared.error.Utf8Error.TheVariants.{Bad, NoMemory}
use Rattle.jvm_utf8.specs.Text.{unit, text, AreUnits}
use Rattle.jvm_utf8.specs.Units.{is_plain, unit_at, with_front, units_from, units_of}
use Rattle.jvm_utf8.specs.Refusal.{IsFirstBad}
use Rattle.jvm_utf8.proofs.UnitLaws.{unit_takes, unit_again, some_bytes}

-- the option is one of the two
cases_of : (o : Option (ℕ × List ℕ)) → (o ≡ None) ⊎ ((x : ℕ × List ℕ) × (o ≡ Some x))
cases_of None = inl refl
cases_of (Some x) = inr (x, refl)

next : (most at size : ℕ) → Option (ℕ × List ℕ) → Result (List ℕ) ℕ
next most at size o =
    elim o [
      | None ↦ Err at
      | Some x ↦ with_front x.0 (units_from most (at + (size - length x.1)) x.1)
    ]

-- one step of reading
step : (most at : ℕ) (bytes : List ℕ) (x : ℕ × List ℕ) → unit_at bytes ≡ Some x
    → units_from (suc most) at bytes ≡ with_front x.0 (units_from most (at + length (unit x.0)) x.1)
unfolding next
step most at [] x e = absurd cc
step most at (b ∷ bytes) x e =
    let t = unit_takes (b ∷ bytes) x e in
    let size : length (b ∷ bytes) ≡ length (unit x.0) + length x.1 = ap length t.parts ∙ length-append (unit x.0) x.1 in
    let same : length (b ∷ bytes) - length x.1 ≡ length (unit x.0) = omega (arith, size) in
    ap (next most at (length (b ∷ bytes))) e ∙ ap (λ (n : ℕ). with_front x.0 (units_from most (at + n) x.1)) same

stop : (most at b : ℕ) (bytes : List ℕ) → unit_at (b ∷ bytes) ≡ None → units_from (suc most) at (b ∷ bytes) ≡ Err at
unfolding next
stop most at b bytes e = ap (next most at (length (b ∷ bytes))) e

-- ---- a text is read

read_text : (most at : ℕ) (us : List ℕ) → AreUnits us → length (text us) ≤ most → units_from most at (text us) ≡ Ok us
read_text zero at [] fit h = refl
read_text (suc most) at [] fit h = refl
read_text zero at (u ∷ us) fit h = absurd (omega (arith, some_bytes u, ap length (flat_map-cons unit u us), length-append (unit u) (text us)))
read_text (suc most) at (u ∷ us) fit h =
    let size : length (text (u ∷ us)) ≡ length (unit u) + length (text us) = ap length (flat_map-cons unit u us) ∙ length-append (unit u) (text us) in
    let left : length (text us) ≤ most = omega (arith, size, some_bytes u, h) in
    ap (λ (x : List ℕ). units_from (suc most) at x) (flat_map-cons unit u us)
    ∙ step most at (unit u ++ text us) (u, text us) (unit_again u (text us) fit.0)
    ∙ ap (with_front u) (read_text most (at + length (unit u)) us fit.1 left)

pub units_of_text : (us : List ℕ) → AreUnits us → units_of (text us) ≡ Ok us
unfolding units_of
units_of_text us fit = read_text (length (text us)) 0 us fit (omega arith)

-- what is after a unit is no longer
pub shorter : (bytes : List ℕ) (x : ℕ × List ℕ) → unit_at bytes ≡ Some x → length x.1 ≤ length bytes
shorter bytes x e = let t = unit_takes bytes x e in omega (arith, ap length t.parts, length-append (unit x.0) x.1)

-- ---- bytes that are units by themselves

first_chosen : {A : Type 0} (b : Bool) (x y : A) → b ≡ true → cond b x y ≡ x
first_chosen true x y e = refl
first_chosen false x y e = absurd cc

both_true : (a b : Bool) → (a && b) ≡ true → (a ≡ true) × (b ≡ true)
both_true true true e = (refl, refl)
both_true true false e = absurd cc
both_true false b e = absurd cc

plain_at : (b : ℕ) (bytes : List ℕ) → is_plain b ≡ true → unit_at (b ∷ bytes) ≡ Some (b, bytes)
plain_at b bytes h = first_chosen (is_plain b) (Some (b, bytes)) _ h

plain_from : (most at : ℕ) (bytes : List ℕ) → length bytes ≤ most → list_all is_plain bytes ≡ true → units_from most at bytes ≡ Ok bytes
plain_from zero at [] le h = refl
plain_from (suc most) at [] le h = refl
plain_from zero at (b ∷ bytes) le h = absurd (omega arith)
plain_from (suc most) at (b ∷ bytes) le h =
    let p = both_true (is_plain b) (list_all is_plain bytes) h in
    step most at (b ∷ bytes) (b, bytes) (plain_at b bytes p.0) ∙ ap (with_front b) (plain_from most (at + length (unit b)) bytes (omega arith) p.1)

pub plain_units : (bytes : List ℕ) → list_all is_plain bytes ≡ true → units_of bytes ≡ Ok bytes
unfolding units_of
plain_units bytes h = plain_from (length bytes) 0 bytes (omega arith) h

-- ---- reading stops at the first offset at which no unit begins

regrouped : (u : ℕ) (us rest : List ℕ) → text (u ∷ us) ++ rest ≡ unit u ++ (text us ++ rest)
regrouped u us rest = ap (λ (x : List ℕ). x ++ rest) (flat_map-cons unit u us) ∙ append_assoc (unit u) (text us) rest

read_bad : (most at : ℕ) (us : List ℕ) (b : ℕ) (rest : List ℕ) → AreUnits us → unit_at (b ∷ rest) ≡ None → length (text us ++ b ∷ rest) ≤ most
    → units_from most at (text us ++ b ∷ rest) ≡ Err (at + length (text us))
read_bad zero at us b rest fit none h = absurd (omega (arith, length-append (text us) (b ∷ rest)))
read_bad (suc most) at [] b rest fit none h = stop most at b rest none ∙ ap (λ (n : ℕ). Err n) (let e : at ≡ at + 0 = omega arith in e)
read_bad (suc most) at (u ∷ us) b rest fit none h =
    let size : length (text (u ∷ us)) ≡ length (unit u) + length (text us) = ap length (flat_map-cons unit u us) ∙ length-append (unit u) (text us) in
    let whole = length-append (text (u ∷ us)) (b ∷ rest) in
    let part = length-append (text us) (b ∷ rest) in
    let left : length (text us ++ b ∷ rest) ≤ most = omega (arith, size, whole, part, some_bytes u, h) in
    let offset : (at + length (unit u)) + length (text us) ≡ at + length (text (u ∷ us)) = omega (arith, size) in
    ap (λ (x : List ℕ). units_from (suc most) at x) (regrouped u us (b ∷ rest))
    ∙ step most at (unit u ++ (text us ++ b ∷ rest)) (u, text us ++ b ∷ rest) (unit_again u (text us ++ b ∷ rest) fit.0)
    ∙ ap (with_front u) (read_bad most (at + length (unit u)) us b rest fit.1 none left)
    ∙ ap (λ (n : ℕ). Err n) offset

bad_at : (us : List ℕ) (rest : List ℕ) → AreUnits us → unit_at rest ≡ None → 0 < length rest → units_of (text us ++ rest) ≡ Err (length (text us))
unfolding units_of
bad_at us [] fit none some = absurd (omega arith)
bad_at us (b ∷ rest) fit none some = read_bad (length (text us ++ b ∷ rest)) 0 us b rest fit none (omega arith) ∙ ap (λ (n : ℕ). Err n) (let e : 0 + length (text us) ≡ length (text us) = omega arith in e)

none_stands : (bytes : List ℕ) → ((u : ℕ) (rest : List ℕ) → u < 2 ^ 16 → bytes ≡ unit u ++ rest → ⊥) → unit_at bytes ≡ None
none_stands bytes none =
    elim (cases_of (unit_at bytes)) [
      | inl e ↦ e
      | inr p ↦ let t = unit_takes bytes p.0 p.1 in absurd (none p.0.0 p.0.1 t.is_unit t.parts)
    ]

pub units_of_bad : (bytes : List ℕ) (at : ℕ) → IsFirstBad bytes at → units_of bytes ≡ Err at
units_of_bad bytes at bad =
    let parts : bytes ≡ text bad.units ++ drop at bytes = sym (take-append-drop at bytes) ∙ ap (λ (x : List ℕ). x ++ drop at bytes) bad.before in
    let size : length (text bad.units) ≡ at = ap length (sym bad.before) ∙ length-take-le at bytes (let h : at ≤ length bytes = omega (arith, bad.inside) in h) in
    let some : 0 < length (drop at bytes) = omega (arith, length-drop at bytes, bad.inside) in
    ap units_of parts ∙ bad_at bad.units (drop at bytes) bad.are_units (none_stands (drop at bytes) bad.none) some ∙ ap (λ (n : ℕ). Err n) size

-- ---- what is read is a text

with_front_ok : (u : ℕ) (r : Result (List ℕ) ℕ) (us : List ℕ) → with_front u r ≡ Ok us → (vs : List ℕ) × (r ≡ Ok vs) × (u ∷ vs ≡ us)
with_front_ok u (Ok vs) us e = (vs, refl, cc)
with_front_ok u (Err at) us e = absurd cc

with_front_err : (u : ℕ) (r : Result (List ℕ) ℕ) (at : ℕ) → with_front u r ≡ Err at → r ≡ Err at
with_front_err u (Ok vs) at e = absurd cc
with_front_err u (Err p) at e = e

found_from : (most at : ℕ) (bytes us : List ℕ) → length bytes ≤ most → units_from most at bytes ≡ Ok us → AreUnits us × (bytes ≡ text us)
found_from most at [] us h e = let none : [] ≡ us = cc in subst (λ (x : List ℕ). AreUnits x × ([] ≡ text x)) none (tt, refl)
found_from zero at (b ∷ bytes) us h e = absurd (omega arith)
found_from (suc most) at (b ∷ bytes) us h e =
    elim (cases_of (unit_at (b ∷ bytes))) [
      | inl none ↦ let stopped = stop most at b bytes none in absurd cc
      | inr p ↦
          let t = unit_takes (b ∷ bytes) p.0 p.1 in
          let size : length (b ∷ bytes) ≡ length (unit p.0.0) + length p.0.1 = ap length t.parts ∙ length-append (unit p.0.0) p.0.1 in
          let w = with_front_ok p.0.0 _ us (sym (step most at (b ∷ bytes) p.0 p.1) ∙ e) in
          let others = found_from most (at + length (unit p.0.0)) p.0.1 w.0 (omega (arith, size, some_bytes p.0.0, h)) w.1 in
          subst (λ (x : List ℕ). AreUnits x × ((b ∷ bytes) ≡ text x)) w.2 (
            (t.is_unit, others.0),
            t.parts ∙ ap (λ (x : List ℕ). unit p.0.0 ++ x) others.1 ∙ sym (flat_map-cons unit p.0.0 w.0),
          )
    ]

pub found : (bytes us : List ℕ) → units_of bytes ≡ Ok us → AreUnits us × (bytes ≡ text us)
unfolding units_of
found bytes us e = found_from (length bytes) 0 bytes us (omega arith) e

-- where reading stopped: the units before, and the bytes from there on
pub record Stopped (bytes : List ℕ) (offset : ℕ) : Type 0 where
  pub units : List ℕ
  pub rest : List ℕ
  pub are_units : AreUnits units
  pub parts : bytes ≡ text units ++ rest
  pub some : 0 < length rest
  pub size : offset ≡ length (text units)
  pub none : unit_at rest ≡ None

stopped_from : (most at : ℕ) (bytes : List ℕ) (offset : ℕ) → length bytes ≤ most → units_from most at bytes ≡ Err offset → (size : ℕ) × (offset ≡ at + size) × Stopped bytes size
stopped_from most at [] offset h e = absurd cc
stopped_from zero at (b ∷ bytes) offset h e = absurd (omega arith)
stopped_from (suc most) at (b ∷ bytes) offset h e =
    elim (cases_of (unit_at (b ∷ bytes))) [
      | inl none ↦
          let stopped = stop most at b bytes none in
          let same : at ≡ offset = cc in
          (0, omega (arith, same), record { units = []; rest = b ∷ bytes; are_units = tt; parts = refl; some = omega arith; size = refl; none = none })
      | inr p ↦
          let t = unit_takes (b ∷ bytes) p.0 p.1 in
          let size : length (b ∷ bytes) ≡ length (unit p.0.0) + length p.0.1 = ap length t.parts ∙ length-append (unit p.0.0) p.0.1 in
          let w = with_front_err p.0.0 _ offset (sym (step most at (b ∷ bytes) p.0 p.1) ∙ e) in
          let s = stopped_from most (at + length (unit p.0.0)) p.0.1 offset (omega (arith, size, some_bytes p.0.0, h)) w in
          let longer : length (text (p.0.0 ∷ s.2.units)) ≡ length (unit p.0.0) + length (text s.2.units) = ap length (flat_map-cons unit p.0.0 s.2.units) ∙ length-append (unit p.0.0) (text s.2.units) in (
            length (unit p.0.0) + s.0,
            omega (arith, s.1),
            record {
              units = p.0.0 ∷ s.2.units;
              rest = s.2.rest;
              are_units = (t.is_unit, s.2.are_units);
              parts = t.parts ∙ ap (λ (x : List ℕ). unit p.0.0 ++ x) s.2.parts ∙ sym (regrouped p.0.0 s.2.units s.2.rest);
              some = s.2.some;
              size = omega (arith, s.2.size, longer);
              none = s.2.none;
            },
          )
    ]

none_found : (bytes : List ℕ) (at : ℕ) → Stopped bytes at → (u : ℕ) (rest : List ℕ) → u < 2 ^ 16 → drop at bytes ≡ unit u ++ rest → ⊥
none_found bytes at s u rest fit e =
    let here : drop at bytes ≡ s.rest = rw (s.parts, s.size) (drop-append_seam (text s.units) s.rest) in
    let found : unit_at s.rest ≡ Some (u, rest) = ap unit_at (sym here ∙ e) ∙ unit_again u rest fit in
    let none = s.none in
    cc

first_bad_of : (bytes : List ℕ) (at : ℕ) → Stopped bytes at → IsFirstBad bytes at
first_bad_of bytes at s = record {
  inside = omega (arith, ap length s.parts, length-append (text s.units) s.rest, s.some, s.size);
  units = s.units;
  are_units = s.are_units;
  before = rw (s.parts, s.size) (take-append_seam (text s.units) s.rest);
  none = λ u rest fit e. none_found bytes at s u rest fit e;
}

pub first_bad : (bytes : List ℕ) (at : ℕ) → units_of bytes ≡ Err at → IsFirstBad bytes at
unfolding units_of
first_bad bytes at e =
    let s = stopped_from (length bytes) 0 bytes at (omega arith) e in
    let same : s.0 ≡ at = omega (arith, s.1) in
    subst (λ (n : ℕ). IsFirstBad bytes n) same (first_bad_of bytes s.0 s.2)

-- ---- reading in a loop

-- so far: the units that were read, and the bytes after them
pub record IsRead (bytes units rest : List ℕ) : Type 0 where
  pub are_units : AreUnits units
  pub parts : bytes ≡ text units ++ rest

units_more : (units : List ℕ) (u : ℕ) → AreUnits units → u < 2 ^ 16 → AreUnits (units ++ u ∷ [])
units_more [] u fit one = (one, tt)
units_more (v ∷ units) u fit one = (fit.0, units_more units u fit.1 one)

text_more : (units : List ℕ) (u : ℕ) (rest : List ℕ) → text units ++ (unit u ++ rest) ≡ text (units ++ u ∷ []) ++ rest
text_more units u rest = sym (append_assoc (text units) (unit u) rest) ∙ ap (λ (x : List ℕ). x ++ rest) (flat_map_more unit [] units u)

pub read_none : (bytes : List ℕ) → IsRead bytes [] bytes
read_none bytes = record { are_units = tt; parts = refl }

pub read_more : (bytes units rest : List ℕ) (u : ℕ) (behind : List ℕ) → IsRead bytes units rest → unit_at rest ≡ Some (u, behind) → IsRead bytes (units ++ u ∷ []) behind
read_more bytes units rest u behind r e =
    let t = unit_takes rest (u, behind) e in
    record {
      are_units = units_more units u r.are_units t.is_unit;
      parts = r.parts ∙ ap (λ (x : List ℕ). text units ++ x) t.parts ∙ text_more units u behind;
    }

pub read_whole : (bytes units rest : List ℕ) → IsRead bytes units rest → length rest ≡ 0 → units_of bytes ≡ Ok units
read_whole bytes units [] r e = ap units_of (r.parts ∙ append-nil (text units)) ∙ units_of_text units r.are_units
read_whole bytes units (b ∷ rest) r e = absurd (omega arith)

pub read_stops : (bytes units rest : List ℕ) → IsRead bytes units rest → 0 < length rest → unit_at rest ≡ None → units_of bytes ≡ Err (length bytes - length rest)
read_stops bytes units rest r some none =
    let size : length (text units) ≡ length bytes - length rest = omega (arith, ap length r.parts, length-append (text units) rest) in
    ap units_of r.parts ∙ bad_at units rest r.are_units none some ∙ ap (λ (n : ℕ). Err n) size

-- ---- what follows from the two clauses of the loop

abbrev pub IsValue : {X : Type 0} → (X → List ℕ) → Result X Utf8Error → Result (List ℕ) ℕ → Type 0
IsValue view r read = IfOk r (λ v. read ≡ Ok (view v))

abbrev pub IsOffset : {X : Type 0} → Result X Utf8Error → Result (List ℕ) ℕ → Type 0
IsOffset r read = (at : ℕ) → r ≡ Err (Bad at) → read ≡ Err at

pub gives_only : {X : Type 0} (view : X → List ℕ) (r : Result X Utf8Error) (bytes units : List ℕ) → IsValue view r (units_of bytes) → IsOffset r (units_of bytes)
    → AreUnits units → bytes ≡ text units → OkUnless r NoMemory (λ v. view v ≡ units)
gives_only view (Ok v) bytes units value offset fit e = let read = ap units_of e ∙ units_of_text units fit in cc
gives_only view (Err NoMemory) bytes units value offset fit e = refl
gives_only view (Err (Bad at)) bytes units value offset fit e = let read = ap units_of e ∙ units_of_text units fit in let stops = offset at refl in absurd cc

pub gives_found : {X : Type 0} (view : X → List ℕ) (r : Result X Utf8Error) (bytes : List ℕ) → IsValue view r (units_of bytes) → IfOk r (λ v. AreUnits (view v) × (bytes ≡ text (view v)))
gives_found view (Ok v) bytes value = found bytes (view v) value
gives_found view (Err e) bytes value = tt

-- ---- appending in a loop

starts_more : (a b front : List ℕ) → StartsWith a front → StartsWith (a ++ b) front
starts_more a b front h =
    let size : length front ≤ length a = omega (arith, ap length h, length-take (length front) a) in
    take-append-le (length front) a b size ∙ h

-- what begins with the text of i units and of one more begins the text of all
pub part_of_text : (units : List ℕ) (i : ℕ) (old now front : List ℕ) → i < length units → now ≡ old ++ text (take i units) → StartsWith (now ++ unit (get_or units i 0)) front → StartsWith (old ++ text units) front
part_of_text units i old now front lt so_far h =
    let u = get_or units i 0 in
    let behind = drop (suc i) units in
    let split : text units ≡ text (take i units) ++ (unit u ++ text behind) =
    ap text (sym (take-append-drop i units) ∙ ap (λ (x : List ℕ). take i units ++ x) (drop-cons units i 0 lt)) ∙ flat_map-append unit (take i units) (u ∷ behind) ∙ ap (λ (x : List ℕ). text (take i units) ++ x) (flat_map-cons unit u behind) in
    let whole : old ++ text units ≡ (now ++ unit u) ++ text behind =
    ap (λ (x : List ℕ). old ++ x) split ∙ sym (append_assoc old (text (take i units)) (unit u ++ text behind)) ∙ ap (λ (x : List ℕ). x ++ (unit u ++ text behind)) (sym so_far) ∙ sym (append_assoc now (unit u) (text behind)) in
    subst (λ (x : List ℕ). StartsWith x front) (sym whole) (starts_more (now ++ unit u) (text behind) front h)
