-- The text of a class file that is assembled to it.
use Rattle.std.specs.Prelude.{◌≡◌, ℕ, List, Some, Result, Ok, Err}
use Rattle.std.specs.Global.{Vec}
use Rattle.class_model.specs.declared.class_file.ClassFile.{ClassFile}
use Rattle.class_listing.specs.Listing.{listing}
use Rattle.jasm.specs.declared.error.ListError.{ListError}
use Rattle.jasm.specs.declared.error.ListError.TheVariants as errors
use Rattle.jasm.specs.Texts.{Assembles}

-- the class file has no listing, or another class file is assembled from it
abbrev pub IsUnlisted : ClassFile → Type 0
IsUnlisted f = (text : List ℕ) → listing f ≡ Some text → Assembles text (Ok f) → ⊥

-- what list gives, unless memory ran out
abbrev pub Lists : Result (Vec ℕ) ListError → ClassFile → Type 0
Lists (Ok text) f = (listing f ≡ Some text.items) × Assembles text.items (Ok f)
Lists (Err errors.Unlisted) f = IsUnlisted f
Lists (Err errors.NoMemory) f = Unit {0}

-- the text, where it is assembled to the class file
abbrev pub Checks : Result (Vec ℕ) ListError → List ℕ → ClassFile → Type 0
Checks (Ok same) text f = (same.items ≡ text) × Assembles text (Ok f)
Checks (Err errors.Unlisted) text f = Assembles text (Ok f) → ⊥
Checks (Err errors.NoMemory) text f = Unit {0}
