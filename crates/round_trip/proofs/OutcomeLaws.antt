-- From what a store gave to what comes of the file.
use Rattle.std.proofs.Common.{◌≡◌, ℕ, zero, suc, ◌+◌, ◌<◌, ◌≤◌, ◌^◌, ◌⊎◌, inl, inr, Bool, true, false, List, [], ◌∷◌, ◌++◌, length, take, get_or, Option, Some, None, String, string_bytes, refl, sym, ap, subst, ◌∙◌, add-one, arith}
use Rattle.std.specs.Prelude.{IfSome, IsTrue, min, ◌&&◌}
use Rattle.std.specs.Global.{Global}
use Rattle.std.specs.List.{AllZip, list_all}
use Rattle.std.proofs.lemmas.List.{length-take, take_all}
use Rattle.std.proofs.lemmas.Option.{same_Some}
use Rattle.std.proofs.lemmas.Bool.{cases_lt}
use Rattle.jvm_edges.specs.Files.{Files, file_named, first_bytes}
use Rattle.round_trip.specs.declared.outcome.Outcome.{Outcome}
use Rattle.round_trip.specs.declared.outcome.Outcome.TheVariants.{Same, Differs, Bad, TooLong, Missing, Unreadable, NoMemory}
use Rattle.round_trip.specs.Outcomes.{ComesTo, FileComesTo, StoreFaults, is_same, NameComesTo, HasOutcome, HaveOutcomes}

-- the bytes are the file's
of_file : (bytes : List ℕ) (outcome : Outcome) → ComesTo bytes outcome → FileComesTo (Some bytes) outcome
of_file bytes Same comes = comes
of_file bytes Differs comes = comes
of_file bytes (Bad at why) comes = comes
of_file bytes TooLong comes = comes
of_file bytes Missing comes = comes
of_file bytes Unreadable comes = tt
of_file bytes NoMemory comes = comes

-- a front of the file that is too long
of_front : (file bytes : List ℕ) → bytes ≡ take (2 ^ 32) file → 2 ^ 32 ≤ length bytes → 2 ^ 32 ≤ length file
of_front file bytes e long =
    let size : length bytes ≡ min (2 ^ 32) (length file) = ap length e ∙ length-take (2 ^ 32) file in
    omega (arith, size)

-- a file of which fewer bytes were read than were asked for was read whole
whole_file : (file bytes : List ℕ) → bytes ≡ take (2 ^ 32) file → length bytes < 2 ^ 32 → bytes ≡ file
whole_file file bytes e short =
    let size : length bytes ≡ min (2 ^ 32) (length file) = ap length e ∙ length-take (2 ^ 32) file in
    e ∙ take_all (2 ^ 32) file (omega (arith, size))

of_read : (file bytes : List ℕ) (outcome : Outcome) → bytes ≡ take (2 ^ 32) file → ComesTo bytes outcome → (2 ^ 32 ≤ length bytes → outcome ≡ TooLong)
    → (length bytes < 2 ^ 32) ⊎ (2 ^ 32 ≤ length bytes) → FileComesTo (Some file) outcome
of_read file bytes outcome e comes long (inl short) =
    of_file file outcome (subst (λ (b : List ℕ). ComesTo b outcome) (whole_file file bytes e short) comes)
of_read file bytes outcome e comes long (inr more) =
    subst (λ (o : Outcome). FileComesTo (Some file) o) (sym (long more)) (of_front file bytes e more)

-- what comes of a file that the store has
pub found_comes : (known : Option Files) (name bytes : List ℕ) (outcome : Outcome) → IfSome known (λ files. Some bytes ≡ first_bytes (2 ^ 32) (file_named name files))
    → ComesTo bytes outcome → (2 ^ 32 ≤ length bytes → outcome ≡ TooLong) → IfSome known (λ files. FileComesTo (file_named name files) outcome)
found_comes None name bytes outcome found comes long = tt
found_comes (Some files) name bytes outcome found comes long = by_file (file_named name files) found
  where
    by_file : (file : Option (List ℕ)) → Some bytes ≡ first_bytes (2 ^ 32) file → FileComesTo file outcome
    by_file None e = absurd cc
    by_file (Some file) e = of_read file bytes outcome (same_Some bytes (take (2 ^ 32) file) e) comes long (cases_lt (length bytes) (2 ^ 32))

-- what comes of a file that the store doesn't have
pub missing_comes : (known : Option Files) (name : List ℕ) → IfSome known (λ files. None ≡ first_bytes (2 ^ 32) (file_named name files)) → IfSome known (λ files. FileComesTo (file_named name files) Missing)
missing_comes None name none = tt
missing_comes (Some files) name none = by_file (file_named name files) none
  where
    by_file : (file : Option (List ℕ)) → None ≡ first_bytes (2 ^ 32) file → FileComesTo file Missing
    by_file None e = tt
    by_file (Some file) e = absurd cc

-- what comes of bytes is no fault of the store
pub bytes_faults : (bytes : List ℕ) (outcome : Outcome) (before now : ℕ) → ComesTo bytes outcome → now ≡ before → StoreFaults outcome before now
bytes_faults bytes Unreadable before now comes kept = absurd comes
bytes_faults bytes outcome before now comes kept = kept

-- ---- one file after the other

zip_more : {A B : Type 0} (R : A → B → Type 0) (xs : List A) (ys : List B) (i : ℕ) (x : A) (y : B) → i < length xs → x ≡ get_or xs i x → AllZip R (take i xs) ys → R x y → AllZip R (take (suc i) xs) (ys ++ y ∷ [])
zip_more R [] ys i x y lt is all here = absurd (omega (arith, lt))
zip_more R (a ∷ xs) [] zero x y lt is all here = (subst (λ z. R z y) is here, tt)
zip_more R (a ∷ xs) (b ∷ ys) zero x y lt is all here = absurd all
zip_more R (a ∷ xs) [] (suc i) x y lt is all here = absurd all
zip_more R (a ∷ xs) (b ∷ ys) (suc i) x y lt is all here = (all.0, zip_more R xs ys i x y (omega (arith, lt)) is all.1 here)

all_more : (outcomes : List Outcome) (outcome : Outcome) → list_all is_same (outcomes ++ outcome ∷ []) ≡ list_all is_same outcomes && is_same outcome
all_more [] outcome = by (is_same outcome)
  where
    by : (b : Bool) → (b && true) ≡ (true && b)
    by true = refl
    by false = refl
all_more (x ∷ outcomes) outcome = by (is_same x) (list_all is_same (outcomes ++ outcome ∷ [])) (list_all is_same outcomes) (is_same outcome) (all_more outcomes outcome)
  where
    by : (b m n k : Bool) → m ≡ (n && k) → (b && m) ≡ ((b && n) && k)
    by true m n k e = e
    by false m n k e = refl

pub one_more_outcome : (known now : Option Files) (names : List (String Global)) (i : ℕ) (s : String Global) (name : List ℕ) (all_same same joined : Bool) → i < length names → s ≡ get_or names i s → name ≡ string_bytes s
    → HaveOutcomes known (take i names) all_same → now ≡ known → HasOutcome now name same → joined ≡ (all_same && same) → HaveOutcomes known (take (i + 1) names) joined
one_more_outcome known now names i s name all_same same joined lt is name_is before kept here e = record {
  outcomes = before.outcomes ++ here.outcome ∷ [];
  each = subst (λ (n : ℕ). AllZip (λ name outcome. NameComesTo known (string_bytes name) outcome) (take n names) (before.outcomes ++ here.outcome ∷ [])) (sym (add-one i))
      (zip_more (λ name outcome. NameComesTo known (string_bytes name) outcome) names before.outcomes i s here.outcome lt is before.each
      (subst (λ (n : List ℕ). NameComesTo known n here.outcome) name_is (subst (λ (t : Option Files). NameComesTo t name here.outcome) kept here.comes)));
  all = e ∙ ap (λ (b : Bool). b && same) before.all ∙ ap (λ (b : Bool). list_all is_same before.outcomes && b) here.same_is ∙ sym (all_more before.outcomes here.outcome);
}

pub has_outcome : (known : Option Files) (name : List ℕ) (outcome : Outcome) (same : Bool) → NameComesTo known name outcome → same ≡ is_same outcome → HasOutcome known name same
has_outcome known name outcome same comes is = record { outcome = outcome; comes = comes; same_is = is }

pub no_outcomes : (known : Option Files) → HaveOutcomes known [] true
no_outcomes known = record { outcomes = []; each = tt; all = refl }

-- a count that stays over both parts, where both are true
pub both_kept : (first second joined : Bool) (a b c : ℕ) → joined ≡ (first && second) → (IsTrue second → c ≡ b) → (IsTrue first → b ≡ a) → IsTrue joined → c ≡ a
both_kept true true joined a b c e later earlier is = later refl ∙ earlier refl
both_kept true false joined a b c e later earlier is = let no : false ≡ true = sym e ∙ is in absurd cc
both_kept false second joined a b c e later earlier is = let no : false ≡ true = sym e ∙ is in absurd cc
