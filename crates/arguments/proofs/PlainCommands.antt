-- Each command is found by its name, and what its words spell is what it makes of them.
use Rattle.std.proofs.Common.{◌≡◌, false, List, [], ◌∷◌, ◌++◌, Option, Some, refl, sym, ap, ◌∙◌, codes, append_assoc}
use Rattle.std.specs.Prelude.{is_some, find, fold, option_and_then, option_map}
use Rattle.std.specs.Option.{option_map_or}
use Rattle.std.specs.Str.{bytes_eq}
use Rattle.clap.specs.Faults.{check_fault, defaults_fault, entered_fault, fault_of, level_fault, settle_fault, walk_fault}
use Rattle.clap.specs.Kinds.{Kinds, or_else}
use Rattle.clap.specs.Simple.{Shape, built, entered, label_of, names_of, rows_at, subcommand_of}
use Rattle.clap.specs.Walk.{Names, Row, Text, Walk, answers_to, idle, nothing_held, settled, subcommand_met, walk, walk_from, walked, with_default}
use Rattle.arguments.specs.CommandLine.{command_line}
use Rattle.arguments.specs.Commands.{command_by, command_of, matched, named}
use Rattle.arguments.proofs.PlainWalk.{Comes, append_nil, never, or_both}

abbrev top : Shape
top = (built command_line).top

abbrev subcommands : Names
subcommands = names_of (built command_line)

-- the command of this name is built as s
pub record IsCommand (name : Text) (s : Shape) : Type 0 where
  pub met : subcommand_met subcommands idle name ≡ Some name
  pub entered : find (λ x. answers_to name (label_of x)) (built command_line).subs ≡ Some s

-- the walk has met the name, and keeps the words after it
abbrev stopped_at : Text → List Text → Walk
stopped_at name ws = record (walk_from nothing_held) { stopped = Some (name, ws) }

stops : (name : Text) (ws vs : List Text) → fold (walked top.rules subcommands) (stopped_at name vs) ws ≡ stopped_at name (vs ++ ws)
unfolding walked
stops name [] vs = ap (stopped_at name) (sym (append_nil vs))
stops name (w ∷ ws) vs = stops name ws (vs ++ w ∷ []) ∙ ap (stopped_at name) (append_assoc vs (w ∷ []) ws)

stops_quiet : (name : Text) (ws vs : List Text) → walk_fault top subcommands (stopped_at name vs) ws ≡ []
unfolding walked walk_fault
stops_quiet name [] vs = refl
stops_quiet name (w ∷ ws) vs = stops_quiet name ws (vs ++ w ∷ [])

first_stops : (name : Text) → subcommand_met subcommands idle name ≡ Some name → walked top.rules subcommands (walk_from nothing_held) name ≡ stopped_at name []
unfolding walked
first_stops name met = rw met refl

module _ (name : Text) (s : Shape) (is : IsCommand name s) where
  top_walk : (ws : List Text) → walk top.rules subcommands nothing_held (name ∷ ws) ≡ stopped_at name ws
  top_walk ws = ap (λ (w : Walk). fold (walked top.rules subcommands) w ws) (first_stops name is.met) ∙ stops name ws []

  top_quiet : (ws : List Text) → walk_fault top subcommands (walk_from nothing_held) (name ∷ ws) ≡ []
  unfolding walk_fault
  top_quiet ws =
      or_both _ _ (rw is.met (rw (never (bytes_eq name (codes "help"))) refl))
      (ap (λ (w : Walk). walk_fault top subcommands w ws) (first_stops name is.met) ∙ stops_quiet name ws [])

  -- what is wrong at the top, where the walk ends so
  abbrev top_faults : List Text → Walk → Kinds
  top_faults ws w =
      or_else (walk_fault top subcommands (walk_from nothing_held) (name ∷ ws))
      (or_else (entered_fault (built command_line) w.stopped) (or_else (settle_fault top.rules top.args_override_self w.held)
      (or_else (defaults_fault (settled top.rules w.held).rows top.rules) (check_fault top (fold with_default (settled top.rules w.held).rows top.rules) (is_some (entered (built command_line) w.stopped))))))

  top_defaults : defaults_fault [] top.rules ≡ []
  unfolding defaults_fault
  top_defaults = refl

  entered_is : (ws : List Text) → entered (built command_line) (Some (name, ws)) ≡ Some (rows_at s ws)
  entered_is ws = ap (option_map (λ x. rows_at x ws)) is.entered

  below_is : (ws : List Text) → entered_fault (built command_line) (Some (name, ws)) ≡ level_fault s [] nothing_held ws false []
  below_is ws = ap (λ (o : Option Shape). option_map_or (λ x. level_fault x [] nothing_held ws false []) o []) is.entered

  no_fault : (program : Text) (ws : List Text) → level_fault s [] nothing_held ws false [] ≡ [] → fault_of command_line (program ∷ (name ∷ ws)) ≡ []
  no_fault program ws quiet =
      ap (top_faults ws) (top_walk ws)
      ∙ or_both (walk_fault top subcommands (walk_from nothing_held) (name ∷ ws)) _ (top_quiet ws)
      (or_both (entered_fault (built command_line) (Some (name, ws))) _ (below_is ws ∙ quiet)
      (or_both (defaults_fault [] top.rules) _ top_defaults (rw (entered_is ws) refl)))

  subcommand_is : (program : Text) (ws : List Text) → subcommand_of command_line (program ∷ (name ∷ ws)) ≡ Some (rows_at s ws)
  subcommand_is program ws = ap (λ (w : Walk). entered (built command_line) w.stopped) (top_walk ws) ∙ entered_is ws

  -- words spell what is read of the rows that they come to
  pub spelled : (program : Text) (ws : List Text) (rows : List Row) → Comes s ws rows → command_of (program ∷ (name ∷ ws)) ≡ named s.name rows
  spelled program ws rows come =
      ap (λ (ks : Kinds). command_by ks (program ∷ (name ∷ ws))) (no_fault program ws come.quiet)
      ∙ ap (option_and_then matched) (subcommand_is program ws) ∙ ap (named s.name) come.is
