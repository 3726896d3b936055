-- One step of the making after another.
use Rattle.std.proofs.Common.{◌≡◌, ℕ, List, ◌++◌, Result, Ok, Err, IfOk, OnOk, ap, subst, ◌∙◌}
use Rattle.class_model.specs.declared.constant.Const.{Const}
use Rattle.lib_table.specs.Pool.{◌then◌}

-- what a step gives after another that gave a and left the pool p
pub after_step : {A B : Type 0} (x : A × List Const) (f : A → List Const → B × List Const) (a : A) (p : List Const) → (a, p) ≡ x → f a p ≡ (x then f)
after_step {A} {B} x f a p e = ap (λ (y : A × List Const). f y.0 y.1) e

-- the same of a call that gives it, unless memory ran out
pub ends_with : {A B E : Type 0} (x : A × List Const) (f : A → List Const → B × List Const) (a : A) (p : List Const) (r : Result B E) (new : List Const) → (a, p) ≡ x → IfOk r (λ b. (b, new) ≡ f a p) → IfOk r (λ b. (b, new) ≡ (x then f))
ends_with {A} {B} x f a p r new e h = subst (λ (y : B × List Const). IfOk r (λ b. (b, new) ≡ y)) (after_step x f a p e) h

-- bytes after the code, which the step before found
pub bytes_behind : {T E : Type 0} (r : Result T E) (bytes : ℕ → List ℕ) (code after : List ℕ) (x : ℕ × List Const) (a : ℕ) (p : List Const) → (a, p) ≡ x → OnOk r (after ≡ code ++ bytes a) → OnOk r (◌≡◌ {A = List ℕ × List Const} (after, p) (code ++ bytes x.0, x.1))
bytes_behind (Ok t) bytes code after x a p e h = ap (λ all. (all, p)) h ∙ ap (λ (y : ℕ × List Const). (code ++ bytes y.0, y.1)) e
bytes_behind (Err f) bytes code after x a p e h = tt

-- a call that gives y, unless memory ran out, and y beside the pool
pub beside : {B E : Type 0} (r : Result B E) (y : B) (p : List Const) (target : B × List Const) → IfOk r (λ b. b ≡ y) → (y, p) ≡ target → IfOk r (λ b. (b, p) ≡ target)
beside {B} (Ok b) y p target h e = ap (λ (z : B). (z, p)) h ∙ e
beside (Err f) y p target h e = tt
