-- What reading the files of a command gives: their class files, or the first file that was not read.
use Rattle.std.specs.Prelude.{◌≡◌, ℕ, List, ◌∷◌, ◌++◌, length, Option}
use Rattle.std.specs.List.{AllZip}
use Rattle.jvm_edges.specs.Files as store
use Rattle.class_model.specs.declared.class_file.ClassFile.{ClassFile}
use Rattle.input_files.specs.declared.error.LoadError.{LoadError}
use Rattle.input_files.specs.LoadCauses.{IsRead, NotRead}

-- the files in front of one were read, and that one was not
pub record IsStopped (known : Option store.Files) (faulty : Type 0) (names : List (List ℕ)) (error : LoadError) : Type 0 where
  pub front : List (List ℕ)
  pub name : List ℕ
  pub back : List (List ℕ)
  pub classes : List ClassFile
  pub parts : names ≡ front ++ name ∷ back
  pub read : AllZip (IsRead known) front classes
  pub cause : NotRead known faulty (length front) name error
