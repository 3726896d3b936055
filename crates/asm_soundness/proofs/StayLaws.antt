-- What is sound stays so in a pool that grows.
use Rattle.std.proofs.Common.{◌≡◌, ℕ, ◌⊎◌, inl, inr, Bool, true, false, List, [], ◌∷◌, ◌++◌, length, codes, Some}
use Rattle.class_model.specs.declared.constant.Const.{Const}
use Rattle.class_model.specs.declared.attribute.Attribute.{Attribute}
use Rattle.class_model.specs.declared.attribute.CodeBody.{CodeBody}
use Rattle.class_model.specs.declared.attribute.CodeAttribute.{CodeAttribute}
use Rattle.class_model.specs.declared.attribute.Row.{Row}
use Rattle.class_model.specs.declared.member.Member.{Member}
use Rattle.class_grammar.specs.Text.{same_text}
use Rattle.class_grammar.specs.Names.{object_class}
use Rattle.class_grammar.specs.Pool.{text_at}
use Rattle.asm_body.specs.declared.placed.PlacedRow.{PlacedRow}
use Rattle.asm_class.specs.declared.assembly.MethodParts.{MethodParts}
use Rattle.asm_class.specs.declared.assembly.BodyParts.{BodyParts}
use Rattle.asm_soundness.specs.Pools.{IsClassAt}
use Rattle.asm_soundness.specs.SoundStates.{IsPassed, IsSoundClass, IsSoundField, IsCaughtAt, IsSoundRow, AreSoundMaps, IsSoundCode, AreSoundAttributes, IsSoundMethod, AreFew}
use Rattle.asm_soundness.specs.SoundLines.{IsHead, IsSoundBody, IsOther}
use Rattle.asm_soundness.proofs.PoolLaws.{text_stays, name_stays, class_stays}
use Rattle.asm_soundness.proofs.FileLaws.{all_by}

module _ (pool more : List Const) where
  pub passed : (test : List ℕ → Bool) (i : ℕ) → IsPassed test pool i → IsPassed test (pool ++ more) i
  passed test i h = record { units = h.units; is = text_stays pool more i h.units h.is; passed = h.passed }

  pub few : {X : Type 0} (P Q : X → Type 0) → ((x : X) → P x → Q x) → (xs : List X) → AreFew P xs → AreFew Q xs
  few P Q f xs h = record { few = h.few; each = all_by P Q f xs h.each }

  pub classes : (xs : List ℕ) → AreFew (IsClassAt pool) xs → AreFew (IsClassAt (pool ++ more)) xs
  classes xs h = few (IsClassAt pool) (IsClassAt (pool ++ more)) (class_stays pool more) xs h

  pub owned : (own parent : ℕ) → IsSoundClass pool own parent → IsSoundClass (pool ++ more) own parent
  owned own parent h = record { name = h.name; own_is = name_stays pool more own h.name h.own_is; parent_is = by h.parent_is }
    where
      by : ((same_text h.name object_class ≡ true) × (parent ≡ 0)) ⊎ ((same_text h.name object_class ≡ false) × IsClassAt pool parent)
          → ((same_text h.name object_class ≡ true) × (parent ≡ 0)) ⊎ ((same_text h.name object_class ≡ false) × IsClassAt (pool ++ more) parent)
      by (inl k) = inl k
      by (inr k) = inr (k.0, class_stays pool more parent k.1)

  pub other : (i : ℕ) → IsOther pool i → IsOther (pool ++ more) i
  other i h = record { name = h.name; is = name_stays pool more i h.name h.is; other = h.other }

  field : (m : Member) → IsSoundField pool m → IsSoundField (pool ++ more) m
  field m h = record { flags = h.flags; name = passed _ m.name h.name; descriptor = passed _ m.descriptor h.descriptor; attributes = h.attributes }

  pub fields : (ms : List Member) → AreFew (IsSoundField pool) ms → AreFew (IsSoundField (pool ++ more)) ms
  fields ms h = few (IsSoundField pool) (IsSoundField (pool ++ more)) field ms h

  caught : (i : ℕ) → IsCaughtAt pool i → IsCaughtAt (pool ++ more) i
  caught i (inl z) = inl z
  caught i (inr k) = inr (class_stays pool more i k)

  row : (size : ℕ) (r : Row) → IsSoundRow pool size r → IsSoundRow (pool ++ more) size r
  row size r h = record { start = h.start; end = h.end; handler = h.handler; caught = caught r.catch_type h.caught }

  maps : (as' : List CodeAttribute) → AreSoundMaps pool as' → AreSoundMaps (pool ++ more) as'
  maps [] h = tt
  maps (a ∷ []) h = record { bytes = h.bytes; body = h.body; sized = h.sized; name = text_stays pool more a.name _ h.name }
  maps (a ∷ b ∷ cs) h = absurd h

  code : (c : CodeBody) → IsSoundCode pool c → IsSoundCode (pool ++ more) c
  code c h = record {
    max_stack = h.max_stack;
    max_locals = h.max_locals;
    some = h.some;
    few = h.few;
    bytes = h.bytes;
    few_rows = h.few_rows;
    rows = all_by (IsSoundRow pool (length c.code)) (IsSoundRow (pool ++ more) (length c.code)) (row (length c.code)) c.rows h.rows;
    maps = maps c.attributes h.maps;
    size = h.size;
  }

  attributes : (flags : ℕ) (as' : List Attribute) → AreSoundAttributes pool flags as' → AreSoundAttributes (pool ++ more) flags as'
  attributes flags [] h = h
  attributes flags (a ∷ []) h = (h.0, record { code = h.1.code; body = h.1.body; name = text_stays pool more a.name _ h.1.name; sound = code h.1.code h.1.sound })
  attributes flags (a ∷ b ∷ cs) h = absurd h

  method : (m : Member) → IsSoundMethod pool m → IsSoundMethod (pool ++ more) m
  method m h = record {
    flags = h.flags;
    name = passed _ m.name h.name;
    descriptor = passed _ m.descriptor h.descriptor;
    attributes = attributes m.flags m.attributes h.attributes;
  }

  pub methods : (ms : List Member) → AreFew (IsSoundMethod pool) ms → AreFew (IsSoundMethod (pool ++ more)) ms
  methods ms h = few (IsSoundMethod pool) (IsSoundMethod (pool ++ more)) method ms h

  pub head : (m : MethodParts) (b : Bool) → IsHead pool m b → IsHead (pool ++ more) m b
  head m b h = record {
    flags = h.flags;
    name = passed _ m.name h.name;
    descriptor = passed _ m.descriptor h.descriptor;
    none = h.none;
    named = λ e. text_stays pool more m.code _ (h.named e);
  }

  pub rows : (rs : List PlacedRow) → AreFew (λ (r : PlacedRow). IsCaughtAt pool r.catch_type) rs → AreFew (λ (r : PlacedRow). IsCaughtAt (pool ++ more) r.catch_type) rs
  rows rs h = few (λ (r : PlacedRow). IsCaughtAt pool r.catch_type) (λ (r : PlacedRow). IsCaughtAt (pool ++ more) r.catch_type) (λ r. caught r.catch_type) rs h

  pub body : (b : BodyParts) → IsSoundBody pool b → IsSoundBody (pool ++ more) b
  body b h = record {
    max_stack = h.max_stack;
    max_locals = h.max_locals;
    spans = h.spans;
    small = h.small;
    placed = h.placed;
    map_name = by h.map_name;
    rows = rows b.rows h.rows;
  }
    where
      by : (b.frames ≡ []) ⊎ (text_at pool b.map_name ≡ Some (codes "StackMapTable")) → (b.frames ≡ []) ⊎ (text_at (pool ++ more) b.map_name ≡ Some (codes "StackMapTable"))
      by (inl e) = inl e
      by (inr e) = inr (text_stays pool more b.map_name _ e)
