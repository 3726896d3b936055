-- Steps that are defined, and steps that aren't refused.
use Rattle.std.proofs.Common.{◌≡◌, Bool, true, false, cond, Option, Some, None, Result, Ok, Err, refl, ap}
use Rattle.std.specs.Option.{ok_or}
use Rattle.items.specs.Options.{◌>>=◌}
use Rattle.instruction_rows.specs.Results.{◌then◌}

-- the parts of two steps that are defined together
pub some_is : {A B : Type 0} (o : Option A) (f : A → Option B) (b : B) → (o >>= f) ≡ Some b → (a : A) × (o ≡ Some a) × (f a ≡ Some b)
some_is None f b e = absurd cc
some_is (Some a) f b e = (a, refl, e)

pub bind_is : {A B : Type 0} (o : Option A) (f : A → Option B) (a : A) (b : Option B) → o ≡ Some a → f a ≡ b → (o >>= f) ≡ b
bind_is o f a b e g = rw e g

pub step_is : {A B : Type 0} (o : Option A) (f : A → Option B) (a : A) → o ≡ Some a → (o >>= f) ≡ f a
step_is {A} o f a e = ap (λ (x : Option A). x >>= f) e

-- the parts of two steps that aren't refused
pub ok_is : {A B E : Type 0} (o : Result A E) (f : A → Result B E) (b : B) → (o then f) ≡ Ok b → (a : A) × (o ≡ Ok a) × (f a ≡ Ok b)
ok_is (Err why) f b e = absurd cc
ok_is (Ok a) f b e = (a, refl, e)

pub then_is : {A B E : Type 0} (o : Result A E) (f : A → Result B E) (a : A) (b : Result B E) → o ≡ Ok a → f a ≡ b → (o then f) ≡ b
then_is o f a b e g = rw e g

-- a test that isn't refused
pub passed : {A E : Type 0} (test : Bool) (x y : A) (why : E) → cond test (Ok x) (Err why) ≡ Ok y → (test ≡ true) × (x ≡ y)
passed true x y why e = (refl, cc)
passed false x y why e = absurd cc

pub found : {A E : Type 0} (o : Option A) (x : A) (why : E) → ok_or o why ≡ Ok x → o ≡ Some x
found None x why e = absurd cc
found (Some y) x why e = let same : y ≡ x = cc in cc
