-- What reading a file gives: its class file, or why it was not read.
use Rattle.std.specs.Prelude.{◌≡◌, ℕ, List, Option}
use Rattle.jvm_edges.specs.Files as store
use Rattle.class_model.specs.declared.class_file.ClassFile.{ClassFile}
use Rattle.input_files.specs.declared.error.LoadError.{LoadError}
use Rattle.input_files.specs.declared.error.LoadError.TheVariants.{SourceFault, NoMemory}
use Rattle.input_files.specs.Contents.{Contents, HasContents, IsClass, IsWrong}

-- the file of this name spells this class file and no other
pub record IsRead (known : Option store.Files) (name : List ℕ) (f : ClassFile) : Type 0 where
  pub contents : Contents
  pub holds : HasContents known name contents
  pub class : IsClass contents f
  pub only : (g : ClassFile) → IsClass contents g → g ≡ f

-- the file of this name, which has index n, is wrong with this error
pub record IsWrongFile (known : Option store.Files) (n : ℕ) (name : List ℕ) (error : LoadError) : Type 0 where
  pub contents : Contents
  pub holds : HasContents known name contents
  pub wrong : IsWrong n contents error

-- why the file of this name, which has index n, was not read; `faulty` says that the store failed
abbrev pub NotRead : Option store.Files → Type 0 → ℕ → List ℕ → LoadError → Type 0
NotRead known faulty n name NoMemory = Unit {0}
NotRead known faulty n name (SourceFault file) = (file ≡ n) × faulty
NotRead known faulty n name error = IsWrongFile known n name error
