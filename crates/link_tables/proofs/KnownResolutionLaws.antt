-- What constants are known to mean, when the table grows and when one more is noted.
use Rattle.std.proofs.Common.{◌≡◌, ℕ, Bool, true, false, List, Option, Some, slice_get, subst, sym}
use Rattle.std.specs.Prelude.{not}
use Rattle.class_model.specs.declared.constant.Const.{Const}
use Rattle.link_resolution.proofs.EntryLaws.{all_set}
use Rattle.link_model.specs.declared.sites.Resolution.{Resolution}
use Rattle.link_model.specs.Sites.{Linking}
use Rattle.link_tables.specs.declared.known_resolutions.Use.{Use}
use Rattle.link_tables.specs.declared.known_resolutions.KnownResolution.{KnownResolution}
use Rattle.link_tables.specs.declared.known_resolutions.KnownResolutions.{KnownResolutions}
use Rattle.link_tables.specs.KnownResolutions.{AreKnown, Knows, is_derived, known_for, noted, use_resolution}
use Rattle.link_tables.specs.ResolutionTables.{Begins, Extends}

pub begins_extended : (l : Linking) (old new : List Resolution) → Extends old new → Begins l old → Begins l new
begins_extended l old new extends b = record { plain_first = extends 0 _ b.plain_first; arrays = λ p. extends _ _ (b.arrays p) }

-- what is known stays known while the table grows
pub knows_extended : (l : Linking) (c : ℕ) (pool : List Const) (old new : List Resolution) (known : KnownResolutions) → Extends old new → Knows l c pool old known → Knows l c pool new known
knows_extended l c pool old new known extends k = record {
  begins = begins_extended l old new extends k.begins;
  direct = λ i x e. extends _ _ (k.direct i x e);
  derived = λ i x e. extends _ _ (k.derived i x e);
}

-- each number of what is known of a use
pub known_there : (l : Linking) (c : ℕ) (pool : List Const) (table : List Resolution) (known : KnownResolutions) (derived : Bool) → Knows l c pool table known → AreKnown l c pool table (known_for derived known)
known_there l c pool table known true k = k.derived
known_there l c pool table known false k = k.direct

set_one : (l : Linking) (c : ℕ) (pool : List Const) (table : List Resolution) (known : List (Option KnownResolution)) (belongs : Bool) (i : ℕ) (x : KnownResolution)
    → slice_get table x.number ≡ Some (use_resolution l c pool x.used i) → AreKnown l c pool table known → AreKnown l c pool table (noted belongs known i x)
set_one l c pool table known true i x e old = all_set (λ j k. slice_get table k.number ≡ Some (use_resolution l c pool k.used j)) known i x e old
set_one l c pool table known false i x e old = old

-- one more is noted
pub knows_noted : (l : Linking) (c : ℕ) (pool : List Const) (table : List Resolution) (old new : KnownResolutions) (used : Use) (n i : ℕ)
    → slice_get table n ≡ Some (use_resolution l c pool used i)
    → new.direct.items ≡ noted (not (is_derived used)) old.direct.items i (record { used = used; number = n })
    → new.derived.items ≡ noted (is_derived used) old.derived.items i (record { used = used; number = n })
    → Knows l c pool table old → Knows l c pool table new
knows_noted l c pool table old new used n i e direct derived k =
    let x : KnownResolution = record { used = used; number = n } in
    record {
      begins = k.begins;
      direct = subst (λ (t : List (Option KnownResolution)). AreKnown l c pool table t) (sym direct) (set_one l c pool table old.direct.items (not (is_derived used)) i x e k.direct);
      derived = subst (λ (t : List (Option KnownResolution)). AreKnown l c pool table t) (sym derived) (set_one l c pool table old.derived.items (is_derived used) i x e k.derived);
    }
