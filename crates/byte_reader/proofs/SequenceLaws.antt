-- A reader that depends on the value in front of it, and a list whose values are each so by themselves.
use Rattle.std.proofs.Common.{◌≡◌, ℕ, List, [], ◌∷◌, ◌++◌, length, sym, ap, subst, ◌∙◌, append_assoc}
use Rattle.std.specs.List.{flat_map, AllByRecursion}
use Rattle.byte_reader.specs.Reader.{◌>>=◌, Reader, many, keep}
use Rattle.byte_reader.proofs.ReaderLaws.{ok_of, Takes, Takes-then, IsReader, same_reads, AllByState, list_by_reads}

-- a value, and then what depends on it
abbrev pub then_next : {W A B : Type 0} → Reader W A → (A → Reader W B) → Reader W B
then_next first next bytes = first bytes >>= λ x. next x.0 x.1

-- What is read in the end has the first value as its key.
pub then_reads : {W A B : Type 0} {first : Reader W A} {s : A → List ℕ} {P : A → Type 0} {next : A → Reader W B} {u : B → List ℕ} {R : A → B → Type 0} (key : B → A)
    → IsReader first s P → ((x : A) (y : B) → P x → R x y → key y ≡ x) → ((x : A) → P x → IsReader (next x) u (R x))
    → IsReader (then_next first next) (λ y. s (key y) ++ u y) (λ y. P (key y) × R (key y) y)
then_reads {A = A} {B = B} {first = first} {s = s} {P = P} {next = next} {u = u} {R = R} key reads same others = record {
  takes = λ bytes p fits e.
      let a = ok_of (first bytes) (λ x. next x.0 x.1) p e in
      let here = reads.takes bytes a.0 fits a.1 in
      let there = (others a.0.0 here.1).takes a.0.1 p here.0.rest_fits a.2 in
      let whole = Takes-then bytes (s a.0.0) a.0.1 (u p.0) p.1 here.0 there.0 in
      subst (λ (x : A). Takes bytes (s x ++ u p.0) p.1 × (P x × R x p.0)) (sym (same a.0.0 p.0 here.1 there.1)) (whole, (here.1, there.1));
  again = λ y rest h.
      ap (then_next first next) (append_assoc (s (key y)) (u y) rest)
      ∙ rw (reads.again (key y) (u y ++ rest) h.0) ((others (key y) h.0).again y rest h.1);
}

all_of : {A : Type 0} (P : A → Type 0) (xs : List A) → AllByState (λ (state : Unit {0}) (more : ℕ). P) keep tt xs → AllByRecursion P xs
all_of P [] h = tt
all_of P (x ∷ xs) h = (h.0, all_of P xs h.1)

by_of : {A : Type 0} (P : A → Type 0) (xs : List A) → AllByRecursion P xs → AllByState (λ (state : Unit {0}) (more : ℕ). P) keep tt xs
by_of P [] h = tt
by_of P (x ∷ xs) h = (h.0, by_of P xs h.1)

pub many_reads : {W A : Type 0} {r : Reader W A} {s : A → List ℕ} {P : A → Type 0} → IsReader r s P → (n : ℕ) → IsReader (many r n) (flat_map s) (λ xs. (length xs ≡ n) × AllByRecursion P xs)
many_reads {r = r} {P = P} reads n =
    same_reads (λ xs. (length xs ≡ n) × AllByRecursion P xs) (λ xs h. (h.0, all_of P xs h.1)) (λ xs h. (h.0, by_of P xs h.1))
    (list_by_reads {Is = λ (state : Unit {0}) (more : ℕ). P} keep (λ state more. reads) tt n)
