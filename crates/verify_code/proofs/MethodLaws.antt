-- The first fault of a method and of a world, number by number.
use Rattle.std.proofs.Common.{◌≡◌, ℕ, zero, suc, ◌+◌, ◌<◌, List, [], ◌∷◌, length, Option, Some, None, refl, ap, sym, ◌∙◌, arith}
use Rattle.std.specs.Prelude.{drop}
use Rattle.std.specs.Option.{option_map, option_map_or}
use Rattle.std.specs.List.{flat_map, enumerate_from}
use Rattle.items.specs.Options.{◌>>=◌}
use Rattle.link_model.specs.declared.members.MethodInfo.{MethodInfo}
use Rattle.link_model.specs.World.{World}
use Rattle.verify_types.specs.declared.fault.VerifyFault.{VerifyFault}
use Rattle.verify_types.specs.Environment.{Environment, environment}
use Rattle.items.specs.First.{first_some}
use Rattle.verify_types.specs.Faults.{method_faults, method_fault, fault_in, environment_faults, numbered_faults}
use Rattle.verify_code.specs.Methods.{numbered_fault}
use Rattle.verify_code.proofs.WalkLaws.{found_in_front, none_in_front, first_mapped}

-- ---- by number

faults_of : (n : ℕ) (o : Option Environment) → first_some (option_map_or (environment_faults n) o []) ≡ (o >>= λ env. option_map (fault_in env n) (method_fault env))
faults_of n None = refl
faults_of n (Some env) = first_mapped (fault_in env n) (method_faults env)

pub first_of_number : (w : World) (m : ℕ × MethodInfo) → first_some (numbered_faults w m) ≡ numbered_fault w m.0
first_of_number w m = faults_of m.0 (environment w m.0)

-- the first fault of the methods from a number on
abbrev pub fault_from_number : World → ℕ → List MethodInfo → Option VerifyFault
fault_from_number w n ms = first_some (flat_map (numbered_faults w) (enumerate_from n ms))

after_is : (n : ℕ) → suc n ≡ n + 1
after_is n = omega arith

-- what is at a place, and what lies after it
drop_cons : {A : Type 0} (n : ℕ) (xs : List A) → n < length xs → (x : A) × (rest : List A) × (drop n xs ≡ x ∷ rest) × (drop (suc n) xs ≡ rest)
drop_cons n [] low = absurd (omega arith)
drop_cons zero (x ∷ xs) low = (x, xs, refl, refl)
drop_cons (suc n) (x ∷ xs) low = drop_cons n xs (omega arith)

pub fault_at_number : (w : World) (n : ℕ) (ms : List MethodInfo) (fault : VerifyFault) → n < length ms → Some fault ≡ numbered_fault w n
    → Some fault ≡ fault_from_number w n (drop n ms)
fault_at_number w n ms fault low h =
    let d = drop_cons n ms low in
    sym (ap (λ l. fault_from_number w n l) d.2 ∙ found_in_front (numbered_faults w (n, d.0)) (flat_map (numbered_faults w) (enumerate_from (n + 1) d.1)) fault (first_of_number w (n, d.0) ∙ sym h))

pub fault_behind_number : (w : World) (n : ℕ) (ms : List MethodInfo) → n < length ms → None ≡ numbered_fault w n
    → fault_from_number w n (drop n ms) ≡ fault_from_number w (n + 1) (drop (n + 1) ms)
fault_behind_number w n ms low h =
    let d = drop_cons n ms low in
    ap (λ l. fault_from_number w n l) d.2
    ∙ none_in_front (numbered_faults w (n, d.0)) (flat_map (numbered_faults w) (enumerate_from (n + 1) d.1)) (first_of_number w (n, d.0) ∙ sym h)
    ∙ ap (λ l. fault_from_number w (n + 1) l) (sym d.3 ∙ ap (λ k. drop k ms) (after_is n))
