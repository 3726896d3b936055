-- What a command on one file asks for, by the contents of the file.
use Rattle.std.specs.Prelude.{◌≡◌, ◌⊎◌, ℕ, ◌<◌, ◌≤◌, List, length, Some, None, Ok, Err}
use Rattle.class_model.specs.declared.class_file.ClassFile.{ClassFile}
use Rattle.class_grammar.specs.Grammar.{Spells, SpellsOnly}
use Rattle.jasm.specs.Texts.{Assembles}
use Rattle.class_listing.specs.Listing.{listing}
use Rattle.jasm.specs.Lists.{IsUnlisted}
use Rattle.command_line.specs.declared.answer.Which.TheVariants.{FileSize}
use Rattle.command_line.specs.declared.answer.Why.{Why}
use Rattle.command_line.specs.declared.answer.Why.TheVariants.{Limit, Missing, BadClass, BadText, Unlisted}
use Rattle.input_files.specs.declared.error.LoadError.TheVariants as load
use Rattle.input_files.specs.Limits.{most_bytes}
use Rattle.input_files.specs.Contents.{Contents, IsBad}

-- these bytes are to be written, or this is the answer in place of them
pub data Due : Type 0 where
  writes : List ℕ → Due
  answered : Why → Due

-- what `asm` makes of a text: the bytes of the class file that the text is assembled to, or the line where it is
-- refused
abbrev pub IsAssembly : List ℕ → Due → Type 0
IsAssembly text (writes bytes) = (f : ClassFile) × Assembles text (Ok f) × SpellsOnly bytes f
IsAssembly text (answered (BadText line)) = Assembles text (Err line)
IsAssembly text (answered why) = ⊥

-- What `list` makes of bytes: the listing of the class file that they spell, which is assembled to it. They may spell
-- none; or it is assembled from no listing.
abbrev pub IsListing : List ℕ → Due → Type 0
IsListing bytes (writes text) = (f : ClassFile) × Spells bytes f × (listing f ≡ Some text) × Assembles text (Ok f)
IsListing bytes (answered (BadClass file at why)) = IsBad 0 bytes (load.BadClass file at why)
IsListing bytes (answered (Unlisted file)) = (file ≡ 0) × ((f : ClassFile) × Spells bytes f × IsUnlisted f)
IsListing bytes (answered why) = ⊥

-- What is due where the command's one file has these contents: it is missing, or too large, or the command makes
-- something of its bytes.
abbrev pub IsDue : (List ℕ → Due → Type 0) → Contents → Due → Type 0
IsDue of None what = what ≡ answered (Missing 0)
IsDue of (Some bytes) what =
    ((most_bytes < length bytes) × (what ≡ answered (Limit FileSize most_bytes))) ⊎ ((length bytes ≤ most_bytes) × of bytes what)
