-- Which units that decide on names stand in a text, by pairs of a unit and the one before it.
use Rattle.std.specs.Prelude.{ℕ, Bool, false, not, List, [], ◌∷◌, codes, ◌==◌, ◌&&◌, ◌||◌, if◌then◌else◌}
use Rattle.class_grammar.specs.Text.{is_one_of}
use Rattle.class_checks.specs.declared.names.Names.{Names}
use Rattle.class_checks.specs.declared.name_units.NameUnits.{NameUnits}

abbrev pub is_slash : ℕ → Bool
is_slash u = u == 47

-- no name has it
abbrev pub is_stop : ℕ → Bool
is_stop u = is_one_of (codes ".;[") u

abbrev pub is_angle : ℕ → Bool
is_angle u = is_one_of (codes "<>") u

-- whether the test holds of some two units at one place
abbrev pub any_pair : (ℕ → ℕ → Bool) → List ℕ → List ℕ → Bool
any_pair test [] vs = false
any_pair test (u ∷ us) [] = false
any_pair test (u ∷ us) (v ∷ vs) = test u v || any_pair test us vs

-- which of these units stand in a text, each with the one before it
abbrev pub name_units_of : List ℕ → List ℕ → NameUnits
name_units_of before units = record {
  stop = any_pair (λ u v. is_stop v) before units;
  slash = any_pair (λ u v. is_slash v) before units;
  angle = any_pair (λ u v. is_angle v) before units;
  empty_part = any_pair (λ u v. is_slash u && is_slash v) before units;
}

abbrev pub either : NameUnits → NameUnits → NameUnits
either a b = record {
  stop = a.stop || b.stop;
  slash = a.slash || b.slash;
  angle = a.angle || b.angle;
  empty_part = a.empty_part || b.empty_part;
}

-- the last of a unit and those after it
abbrev pub last_of : ℕ → List ℕ → ℕ
last_of u [] = u
last_of u (v ∷ vs) = last_of v vs

abbrev pub ends_with_semicolon : List ℕ → Bool
ends_with_semicolon [] = false
ends_with_semicolon (u ∷ us) = last_of u us == 59

abbrev pub nothing : Names
nothing = record { of_field = false; of_method = false; of_class = false }

-- the names of a text, by its first and its last unit and by those behind the first
abbrev pub names_from : ℕ → ℕ → NameUnits → Names
names_from first last behind =
    if is_stop first || behind.stop then nothing
    else record {
      of_field = not (is_slash first || behind.slash);
      of_method = not (is_slash first || behind.slash) && not (is_angle first || behind.angle);
      of_class = not (is_slash first || behind.empty_part || is_slash last);
    }
