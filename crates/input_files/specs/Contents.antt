-- What a file of a store is: a class file, or missing, too large or no class file.
use Rattle.std.specs.Prelude.{◌≡◌, ◌⊎◌, ℕ, ◌<◌, ◌≤◌, List, length, Option, Some, None, IfSome}
use Rattle.jvm_edges.specs.Files.{file_named}
use Rattle.jvm_edges.specs.Files as store
use Rattle.class_model.specs.declared.class_file.ClassFile.{ClassFile}
use Rattle.class_grammar.specs.declared.class_why.ClassWhy.{ClassWhy}
use Rattle.class_grammar.specs.Grammar.{Spells}
use Rattle.class_file.specs.File.{first_bad}
use Rattle.input_files.specs.declared.error.LoadError.{LoadError}
use Rattle.input_files.specs.declared.error.LoadError.TheVariants as load
use Rattle.input_files.specs.Limits.{most_bytes}

-- the contents of a file: `None` where there is no such file
abbrev pub Contents : Type 0
Contents = Option (List ℕ)

-- the file of this name has these contents, where the store's files are known
abbrev pub HasContents : Option store.Files → List ℕ → Contents → Type 0
HasContents known name contents = IfSome known (λ files. contents ≡ file_named name files)

-- a file that is read, and spells this class file
abbrev pub IsClass : Contents → ClassFile → Type 0
IsClass None f = ⊥
IsClass (Some bytes) f = (length bytes ≤ most_bytes) × Spells bytes f

-- The file of index n is small enough, but its bytes spell no class file, and the error names the first check that
-- fails.
pub record IsBad (n : ℕ) (bytes : List ℕ) (error : LoadError) : Type 0 where
  pub at : ℕ
  pub reason : ClassWhy
  pub small : length bytes ≤ most_bytes
  pub none : (f : ClassFile) → Spells bytes f → ⊥
  pub first : first_bad bytes ≡ Some (at, reason)
  pub is_error : error ≡ load.BadClass n at reason

-- there is no file of index n, it is too large or it is no class file, with this error
abbrev pub IsWrong : ℕ → Contents → LoadError → Type 0
IsWrong n None error = error ≡ load.Missing n
IsWrong n (Some bytes) error = ((most_bytes < length bytes) × (error ≡ load.TooLarge)) ⊎ IsBad n bytes error
