-- How many things a linked program has, so that each has a number. Objects have numbers of 32 bits, and the numbers above those
-- with which the heap begins are left for monitors of classes.
use Rattle.std.specs.Prelude.{◌≡◌, ℕ, ◌+◌, ◌<◌, Bool, false, length, nat_le, ◌&&◌}
use Rattle.std.specs.List.{list_any}
use Rattle.link_model.specs.declared.members.MethodInfo.{MethodInfo}
use Rattle.link_model.specs.Initializers.{is_static_method, is_synchronized}
use Rattle.link_model.specs.Strings.{objects_before, strings_of}
use Rattle.link_model.specs.World.{World, class_count}

-- a static method that holds the monitor of its class while it runs (JVMS 2.11.10), where that isn't one of the first 65,536
abbrev pub has_far_monitor : MethodInfo → Bool
has_far_monitor m = is_static_method m && is_synchronized m && nat_le 65536 m.class

-- the objects with which the heap begins: the machine's own, the Strings, and the array that main takes
abbrev pub opening_count : World → ℕ
opening_count w = objects_before + length (strings_of w.program) + 1

pub record HasNumbers (w : World) : Type 0 where
  pub classes : class_count w < 2147483648
  pub methods : length w.methods < 2147483648
  pub fields : length w.fields < 4294967296
  pub types : length w.names + length w.arrays < 4294967296
  pub objects : opening_count w < 4000000000
  pub monitors : list_any has_far_monitor w.methods ≡ false
