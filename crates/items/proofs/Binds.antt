-- Steps that are defined.
use Rattle.std.proofs.Common.{◌≡◌, Option, Some, None, refl}
use Rattle.items.specs.Options.{◌>>=◌}

-- the parts of two steps that are defined together
pub some_is : {A B : Type 0} (o : Option A) (f : A → Option B) (b : B) → (o >>= f) ≡ Some b → (a : A) × (o ≡ Some a) × (f a ≡ Some b)
some_is None f b e = absurd cc
some_is (Some a) f b e = (a, refl, e)

pub bind_is : {A B : Type 0} (o : Option A) (f : A → Option B) (a : A) (b : Option B) → o ≡ Some a → f a ≡ b → (o >>= f) ≡ b
bind_is o f a b e g = rw e g
