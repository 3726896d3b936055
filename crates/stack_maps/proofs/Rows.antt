-- A table of readers by a test on what was read before: each row is a lemma over its own reader.
use Rattle.std.proofs.Common.{◌≡◌, ℕ, Bool, true, false, cond, List, [], ◌++◌, Result, Ok, Err, refl, sym, ap, subst, ◌∙◌, append_assoc}
use Rattle.byte_reader.specs.declared.fault.Fault.{Fault}
use Rattle.byte_reader.specs.Reader.{◌>>=◌, Reader, map_value}
use Rattle.byte_reader.proofs.ReaderLaws.{IsBytes, ok_of, ok_is, Takes, IsReader}

-- After these bytes, what was read took the text of a value that is so.
pub record TakesBehind {W T : Type 0} (text : T → List ℕ) (Is : T → Type 0) (front bytes : List ℕ) (read : Result (T × List ℕ) (Fault W)) : Type 0 where
  pub takes : (p : T × List ℕ) → read ≡ Ok p → Takes (front ++ bytes) (text p.0) p.1 × Is p.0

failed : {W A X : Type 0} (f : Fault W) (x : A) → (let r : Result A (Fault W) = Err f in r ≡ Ok x) → X
failed f x e = absurd cc

-- a fault
pub none : {W T : Type 0} {text : T → List ℕ} {Is : T → Type 0} {front bytes : List ℕ} (f : Fault W) → TakesBehind text Is front bytes (Err f)
none f = record { takes = λ p e. failed f p e }

-- the last row
pub last : {W A T : Type 0} {text : T → List ℕ} {Is : T → Type 0} {front bytes : List ℕ} {r : Reader W A} {s : A → List ℕ} {P : A → Type 0} (f : A → T)
    → IsReader r s P → IsBytes bytes → ((a : A) → P a → (front ++ s a ≡ text (f a)) × Is (f a)) → TakesBehind text Is front bytes (map_value f r bytes)
last {T = T} {text = text} {Is = Is} {front = front} {bytes = bytes} {r = r} {s = s} f reads fits to = record {
  takes = λ p e.
      let a = ok_of (r bytes) (λ x. Ok (f x.0, x.1)) p e in
      let one = reads.takes bytes a.0 fits a.1 in
      let is = to a.0.0 one.1 in
      let parts : front ++ bytes ≡ text (f a.0.0) ++ a.0.1 = ap (λ (t : List ℕ). front ++ t) one.0.parts ∙ sym (append_assoc front (s a.0.0) a.0.1) ∙ ap (λ (t : List ℕ). t ++ a.0.1) is.0 in
      let made : T × List ℕ = (f a.0.0, a.0.1) in
      subst (λ (q : T × List ℕ). Takes (front ++ bytes) (text q.0) q.1 × Is q.0) (ok_is made p a.2) (record { parts = parts; rest_fits = one.0.rest_fits }, is.1);
}

branch : {W T : Type 0} {text : T → List ℕ} {Is : T → Type 0} {front bytes : List ℕ} {x y : Result (T × List ℕ) (Fault W)} (b : Bool)
    → (b ≡ true → TakesBehind text Is front bytes x) → (b ≡ false → TakesBehind text Is front bytes y) → TakesBehind text Is front bytes (cond b x y)
branch true this others = this refl
branch false this others = others refl

-- a row that refuses
pub refuses : {W T : Type 0} {text : T → List ℕ} {Is : T → Type 0} {front bytes : List ℕ} {others : Result (T × List ℕ) (Fault W)} (b : Bool) (f : Fault W)
    → (b ≡ false → TakesBehind text Is front bytes others) → TakesBehind text Is front bytes (cond b (Err f) others)
refuses b f others = branch b (λ h. none f) others

-- a row that reads
pub row : {W A T : Type 0} {text : T → List ℕ} {Is : T → Type 0} {front bytes : List ℕ} {others : Result (T × List ℕ) (Fault W)} {r : Reader W A} {s : A → List ℕ} {P : A → Type 0} (b : Bool) (f : A → T)
    → IsReader r s P → IsBytes bytes → (b ≡ true → (a : A) → P a → (front ++ s a ≡ text (f a)) × Is (f a)) → (b ≡ false → TakesBehind text Is front bytes others)
    → TakesBehind text Is front bytes (cond b (map_value f r bytes) others)
row b f reads fits to others = branch b (λ h. last f reads fits (to h)) others

-- what is read first is in front of the rows
pub first : {W A T : Type 0} {text : T → List ℕ} {Is : T → Type 0} {r : Reader W A} {s : A → List ℕ} {P : A → Type 0} (front bytes : List ℕ) (k : A × List ℕ → Result (T × List ℕ) (Fault W))
    → IsReader r s P → IsBytes bytes → ((a : A × List ℕ) → P a.0 → IsBytes a.1 → TakesBehind text Is (front ++ s a.0) a.1 (k a)) → TakesBehind text Is front bytes (r bytes >>= k)
first {r = r} {s = s} front bytes k reads fits rows = record {
  takes = λ p e.
      let a = ok_of (r bytes) k p e in
      let one = reads.takes bytes a.0 fits a.1 in
      let rest = (rows a.0 one.1 one.0.rest_fits).takes p a.2 in
      (record { parts = ap (λ (t : List ℕ). front ++ t) one.0.parts ∙ sym (append_assoc front (s a.0.0) a.0.1) ∙ rest.0.parts; rest_fits = rest.0.rest_fits }, rest.1);
}

-- nothing is read
abbrev pub nothing : {W : Type 0} → Reader W (Unit {0})
nothing bytes = Ok (tt, bytes)

pub nothing_reads : {W : Type 0} → IsReader {W = W} nothing (λ x. []) (λ x. Unit {0})
nothing_reads = record {
  takes = λ bytes p fits e. subst (λ (q : Unit {0} × List ℕ). Takes bytes [] q.1 × Unit {0}) (ok_is (tt, bytes) p e) (record { parts = refl; rest_fits = fits }, tt);
  again = λ x rest h. refl;
}
