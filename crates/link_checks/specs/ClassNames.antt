-- The classes that names in code mean.
use Rattle.std.specs.Prelude.{◌≡◌}
use Rattle.link_rules.specs.Program.{Program}
use Rattle.link_rules.specs.Constants.{base_class}
use Rattle.link_checks.specs.declared.class_name.ClassName.{ClassName}

-- the class is the one that the name means, or that its last elements are
abbrev pub Means : Program → ClassName → Type 0
Means p named = named.class ≡ base_class p named.name.now
