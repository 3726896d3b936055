-- The places of the constants of a pool, kept beside it.
use Rattle.std.specs.Prelude.{◌≡◌, ℕ, ◌<◌, ◌≤◌, List, length, Option, Some, None, Result, Ok, Err}
use Rattle.std.specs.Ordering.{nat_cmp}
use Rattle.std.specs.Cmp.Lexicographic.{slice_cmp}
use Rattle.std.specs.Global.{Vec}
use Rattle.std.specs.BTreeMap.{BTreeMap, get_by}
use Rattle.asm_pool.specs.declared.error.PoolError.{PoolError}
use Rattle.asm_pool.specs.declared.error.PoolError.TheVariants as errors
use Rattle.asm_pool.specs.declared.pool.Pool.{Pool}
use Rattle.asm_pool.specs.Mentions.{Mention, place_of}

-- the value at a text
abbrev pub at_text : BTreeMap (Vec ℕ) ℕ → List ℕ → Option ℕ
at_text m text = get_by (λ k. slice_cmp nat_cmp text k.items) m

-- each key leads to the first constant that has it
pub record IsPool (p : Pool) : Type 0 where
  pub places : (key : List ℕ) → 0 < length key → at_text p.places key ≡ place_of key p.entries
  pub small : length p.entries ≤ 65535

-- the call did what the mention says, unless memory ran out
abbrev pub Mentions : Result ℕ PoolError → Pool → Mention → Type 0
Mentions (Ok index) new mention = (mention ≡ Some (index, new.entries)) × IsPool new
Mentions (Err errors.Full) new mention = mention ≡ None
Mentions (Err errors.NoMemory) new mention = Unit {0}
