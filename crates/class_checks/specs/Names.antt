-- What a text can be the name of.
use Rattle.std.specs.Prelude.{ℕ, Bool, false, not, List, ◌&&◌, ◌||◌, nat_lt, nat_le}
use Rattle.std.specs.List.{list_all}
use Rattle.descriptors.specs.Descriptors.{are_parts}
use Rattle.class_grammar.specs.Names.{is_field_name, is_method_name, is_name_unit, is_method_unit}
use Rattle.class_checks.specs.declared.names.Names.{Names}

abbrev pub names_of : List ℕ → Names
names_of units = record { of_field = is_field_name units; of_method = is_method_name units; of_class = are_parts false units }

-- The same by units alone, after units of which some was a slash, some an angle, and the last one began a part.
abbrev pub names_by : Bool → Bool → Bool → List ℕ → Names
names_by slashed angled begun units = record {
  of_field = not slashed && list_all is_name_unit units;
  of_method = not slashed && not angled && list_all is_method_unit units;
  of_class = are_parts begun units;
}

-- a unit after `[`, or a capital letter
abbrev pub is_in_every_name : ℕ → Bool
is_in_every_name u = nat_lt 91 u || (nat_le 65 u && nat_le u 90)
