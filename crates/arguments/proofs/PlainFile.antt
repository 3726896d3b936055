-- The walk of clap over the plain words of `asm` and `list`, which have one FILE, and what is read of it.
use Rattle.std.proofs.Common.{◌≡◌, [], ◌∷◌, None, Some, refl, codes}
use Rattle.clap.specs.Faults.{defaults_fault}
use Rattle.clap.specs.Simple.{Shape, built_leaf, inherited, new_app, with_rule}
use Rattle.clap.specs.Walk.{Row, Text, nothing_held}
use Rattle.arguments.specs.CommandLine.{command_line, file_rule}
use Rattle.arguments.specs.Commands.{asm, command_of, list}
use Rattle.arguments.specs.PlainWords.{IsPlain, plain_asm_words, plain_list_words}
use Rattle.arguments.proofs.PlainCommands.{IsCommand, spelled}
use Rattle.arguments.proofs.PlainWalk.{Comes, HasWord, behind_word, comes, starts, word_at, word_held, word_leads, word_row}

-- the built command of this name
abbrev file_shape : Text → Shape
file_shape name = built_leaf (inherited command_line.top (with_rule (new_app name) file_rule).top)

has_file : (name : Text) → HasWord (file_shape name) (codes "FILE") None
has_file name = record { once = refl; by_index = refl; by_id = refl }

abbrev file_row : Text → Row
file_row f = word_row (codes "FILE") None f

file_defaults : (name f : Text) → defaults_fault (file_row f ∷ []) (file_shape name).rules ≡ []
unfolding defaults_fault
file_defaults name f = refl

file_comes : (name f : Text) → IsPlain f → Comes (file_shape name) (f ∷ []) (file_row f ∷ [])
file_comes name f plain =
    let s = file_shape name in
    let has = has_file name in
    comes s (f ∷ []) (behind_word (word_held s (codes "FILE") nothing_held f)) (file_row f ∷ []) (file_row f ∷ []) refl
    (word_leads s (codes "FILE") None has nothing_held [] f (starts s) plain) (word_at s (codes "FILE") None has nothing_held [] f (starts s) refl refl)
    refl (file_defaults name f) refl

asm_is : IsCommand (codes "asm") (file_shape (codes "asm"))
asm_is = record { met = refl; entered = refl }

list_is : IsCommand (codes "list") (file_shape (codes "list"))
list_is = record { met = refl; entered = refl }

pub plain_asm_is_spelled : (program f : Text) → IsPlain f → command_of (plain_asm_words program f) ≡ Some (asm f)
plain_asm_is_spelled program f plain = spelled (codes "asm") (file_shape (codes "asm")) asm_is program (f ∷ []) (file_row f ∷ []) (file_comes (codes "asm") f plain)

pub plain_list_is_spelled : (program f : Text) → IsPlain f → command_of (plain_list_words program f) ≡ Some (list f)
plain_list_is_spelled program f plain = spelled (codes "list") (file_shape (codes "list")) list_is program (f ∷ []) (file_row f ∷ []) (file_comes (codes "list") f plain)
