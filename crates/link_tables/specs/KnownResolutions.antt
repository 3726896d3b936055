-- What the constants of a class's pool are known to mean.
use Rattle.std.specs.Prelude.{◌≡◌, ℕ, Bool, true, false, List, Option, Some, slice_get, slice_set, if◌then◌else◌}
use Rattle.class_model.specs.declared.constant.Const.{Const}
use Rattle.link_model.specs.declared.sites.Resolution.{Resolution}
use Rattle.link_model.specs.Sites.{Linking, resolution_at, push_resolution, field_resolution, method_resolution, named_class, array_of_named}
use Rattle.link_tables.specs.ResolutionTables.{Begins}
use Rattle.link_tables.specs.declared.known_resolutions.Use.{Use}
use Rattle.link_tables.specs.declared.known_resolutions.Use.TheVariants as uses
use Rattle.link_tables.specs.declared.known_resolutions.KnownResolution.{KnownResolution}
use Rattle.link_tables.specs.declared.known_resolutions.KnownResolutions.{KnownResolutions}

-- what the constant at an index means where it is used so
abbrev pub use_resolution : Linking → ℕ → List Const → Use → ℕ → Resolution
use_resolution l c pool uses.Value i = resolution_at pool i (push_resolution l pool)
use_resolution l c pool uses.Field i = resolution_at pool i (field_resolution l pool)
use_resolution l c pool uses.Method i = resolution_at pool i (method_resolution l c pool false)
use_resolution l c pool uses.Special i = resolution_at pool i (method_resolution l c pool true)
use_resolution l c pool uses.Class i = named_class l pool i
use_resolution l c pool uses.Elements i = array_of_named l pool i

-- whether what an instruction names is derived from what its constant means
abbrev pub is_derived : Use → Bool
is_derived uses.Value = false
is_derived uses.Field = false
is_derived uses.Method = false
is_derived uses.Special = true
is_derived uses.Class = false
is_derived uses.Elements = true

-- what is known by index, of what is derived or of what isn't
abbrev pub known_for : Bool → KnownResolutions → List (Option KnownResolution)
known_for derived k = if derived then k.derived.items else k.direct.items

-- a table in which this is noted, if it belongs there
abbrev pub noted : Bool → List (Option KnownResolution) → ℕ → KnownResolution → List (Option KnownResolution)
noted belongs known i x = if belongs then slice_set known i (Some x) else known

-- each number stands for what the constant means
abbrev pub AreKnown : Linking → ℕ → List Const → List Resolution → List (Option KnownResolution) → Type 0
AreKnown l c pool table known = (i : ℕ) (k : KnownResolution) → slice_get known i ≡ Some (Some k)
    → slice_get table k.number ≡ Some (use_resolution l c pool k.used i)

-- the table begins as all do, and the constants are known to mean what they mean
pub record Knows (l : Linking) (c : ℕ) (pool : List Const) (table : List Resolution) (known : KnownResolutions) : Type 0 where
  pub begins : Begins l table
  pub direct : AreKnown l c pool table known.direct.items
  pub derived : AreKnown l c pool table known.derived.items
