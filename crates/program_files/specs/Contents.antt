-- What the files of a command are: class files, or the first of them that is missing, too large or no class file.
use Rattle.std.specs.Prelude.{◌⊎◌, ℕ, ◌+◌, List, [], ◌∷◌, Option}
use Rattle.std.specs.List.{AllZip}
use Rattle.jvm_edges.specs.Files as store
use Rattle.class_model.specs.declared.class_file.ClassFile.{ClassFile}
use Rattle.input_files.specs.declared.error.LoadError.{LoadError}
use Rattle.input_files.specs.Contents.{Contents, HasContents, IsClass, IsWrong}

abbrev pub HaveContents : Option store.Files → List (List ℕ) → List Contents → Type 0
HaveContents known names contents = AllZip (HasContents known) names contents

abbrev pub AreClasses : List Contents → List ClassFile → Type 0
AreClasses contents classes = AllZip IsClass contents classes

-- The first file that is wrong has this error, where the first of these files has index n.
abbrev pub FirstWrong : ℕ → List Contents → LoadError → Type 0
FirstWrong n [] error = ⊥
FirstWrong n (x ∷ xs) error = IsWrong n x error ⊎ ((f : ClassFile) × IsClass x f × FirstWrong (n + 1) xs error)
