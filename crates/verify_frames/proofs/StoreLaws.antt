-- What a store overwrites.
use Rattle.std.proofs.Common.{◌≡◌, ℕ, zero, suc, ◌+◌, ◌-◌, Bool, true, false, cond, List, [], ◌∷◌, length, set, Option, Some, None, Result, Ok, Err, refl, ap, sym, subst, ◌∙◌, arith}
use Rattle.std.specs.Prelude.{nat_lt, ok_or, IfOk, IfSome}
use Rattle.std.proofs.lemmas.List.{length-set, get_or-set_other}
use Rattle.items.specs.Options.{◌>>=◌}
use Rattle.opcodes.specs.declared.op.ValueKind.{ValueKind}
use Rattle.opcodes.specs.declared.op.Op.{Op}
use Rattle.opcodes.specs.declared.op.Op.TheVariants as ops
use Rattle.stack_maps.specs.declared.types.VType.{VType}
use Rattle.stack_maps.specs.declared.types.VType.TheVariants as types
use Rattle.instruction_rows.specs.declared.row_why.RowWhy.{RowWhy}
use Rattle.instruction_rows.specs.declared.row_why.RowWhy.TheVariants as whys
use Rattle.instruction_rows.specs.Contents.{is_wide, types_of, with_item, with_items}
use Rattle.instruction_rows.specs.Results.{◌then◌}
use Rattle.instruction_rows.specs.Table.{row}
use Rattle.instruction_rows.specs.TypeEffect.{type_popped, types_on, with_type, without_half}
use Rattle.link_model.specs.declared.sites.Resolution.{Resolution}
use Rattle.verify_types.specs.TypeStates.{TypeState, with_types}
use Rattle.verify_types.specs.Environment.{Environment, Instruction}
use Rattle.verify_types.specs.Effects.{row_state, state_after}
use Rattle.verify_frames.specs.declared.overwritten.Overwritten.{Overwritten}
use Rattle.items.specs.declared.no_memory.NoMemory.{NoMemory}
use Rattle.verify_frames.specs.declared.overwritten.Like.{Like}
use Rattle.verify_frames.specs.Overwrites.{AreBut, IsNoted, NotedAll, NotedBehind, finishes, noting, noting_store, type_at}
use Rattle.verify_frames.specs.Overwrites.NotedBehind.{stores, objects}
use Rattle.verify_frames.proofs.OverwriteLaws.{noting_but, not_it, still_noted}

-- ---- local variables that a store leaves as they are

record Leaves (ls after : List VType) (n : ℕ) : Type 0 where
  as_many : length ls ≡ length after
  same : (i : ℕ) → (i ≡ n → ⊥) → type_at ls i ≡ type_at after i

set_leaves : (ls : List VType) (n : ℕ) (t : VType) → Leaves ls (set ls n t) n
set_leaves ls n t = record { as_many = sym (length-set ls n t); same = λ i other. sym (get_or-set_other ls n i t types.Top other) }

half_or_not : (ls : List VType) (n : ℕ) (b : Bool) → Leaves ls (cond b (set ls n types.Top) ls) n
half_or_not ls n true = set_leaves ls n types.Top
half_or_not ls n false = record { as_many = refl; same = λ i other. refl }

half_leaves : (ls : List VType) (n : ℕ) → Leaves ls (without_half n ls) (n - 1)
half_leaves ls zero = record { as_many = refl; same = λ i other. refl }
half_leaves ls (suc n) =
    let at : n ≡ suc n - 1 = omega arith in
    subst (λ k. Leaves ls (without_half (suc n) ls) k) at (half_or_not ls n (is_wide (type_at ls n)))

item_leaves : (ls after : List VType) (n : ℕ) (t : VType) → with_item n t ls ≡ Some after → Leaves ls after n
item_leaves ls after n t e = by_test (nat_lt n (length ls)) e
  where
    by_test : (b : Bool) → cond b (Some (set ls n t)) None ≡ Some after → Leaves ls after n
    by_test true e = let same : set ls n t ≡ after = cc in subst (λ xs. Leaves ls xs n) same (set_leaves ls n t)
    by_test false e = absurd cc

-- two steps, one after the other

record Two (ls after : List VType) (n m : ℕ) : Type 0 where
  as_many : length ls ≡ length after
  same : (i : ℕ) → (i ≡ n → ⊥) → (i ≡ m → ⊥) → type_at ls i ≡ type_at after i

two_items : (ls after : List VType) (n : ℕ) (t u : VType) (o : Option (List VType)) → with_item n t ls ≡ o → (o >>= λ ys. with_item (suc n) u ys >>= λ zs. Some zs) ≡ Some after → Two ls after n (n + 1)
two_items ls after n t u None e h = absurd cc
two_items ls after n t u (Some ys) e h =
    let first = item_leaves ls ys n t e in
    let second = item_leaves ys after (suc n) u (found (with_item (suc n) u ys) h) in
    let next : suc n ≡ n + 1 = omega arith in
    record { as_many = first.as_many ∙ second.as_many; same = λ i a b. first.same i a ∙ second.same i (λ e. b (e ∙ next)) }
  where
    found : (o : Option (List VType)) → (o >>= λ zs. Some zs) ≡ Some after → o ≡ Some after
    found None e = absurd cc
    found (Some zs) e = e

one_item : (ls after : List VType) (n : ℕ) (t : VType) (o : Option (List VType)) → with_item n t ls ≡ o → (o >>= λ ys. Some ys) ≡ Some after → Two ls after n (n + 1)
one_item ls after n t None e h = absurd cc
one_item ls after n t (Some ys) e h =
    let first = item_leaves ls after n t (e ∙ h) in
    record { as_many = first.as_many; same = λ i a b. first.same i a }

items_leave : (ls after : List VType) (n : ℕ) (t : VType) (b : Bool) → with_items n (cond b (t ∷ types.Top ∷ []) (t ∷ [])) ls ≡ Some after → Two ls after n (n + 1)
items_leave ls after n t true e = two_items ls after n t types.Top (with_item n t ls) refl e
items_leave ls after n t false e = one_item ls after n t (with_item n t ls) refl e

-- ---- a store

some_of : (o : Option (List VType)) (after : List VType) → ok_or o whys.Locals ≡ Ok after → o ≡ Some after
some_of None after e = absurd cc
some_of (Some x) after e = let same : x ≡ after = cc in ap Some same

pub type_noted : (ls after before : List VType) (os : List Overwritten) (n : ℕ) (t : VType) → with_type t n ls ≡ Ok after → AreBut os before ls → AreBut (noting_store ls n os) before after
type_noted ls after before os n t e h =
    let half = half_leaves ls n in
    let items = items_leave (without_half n ls) after n t (is_wide t) (some_of (with_items n (types_of t) (without_half n ls)) after e) in
    let one = noting ls (n - 1) os in
    let two = noting ls n one in
    let noted = noting_but ls before (n + 1) two (noting_but ls before n one (noting_but ls before (n - 1) os h)) in
    record {
      as_many = noted.as_many ∙ half.as_many ∙ items.as_many;
      kept = λ i f.
          noted.kept i f
          ∙ half.same i (not_it ls (n - 1) os i (still_noted ls n one i (still_noted ls (n + 1) two i f)))
          ∙ items.same i (not_it ls n one i (still_noted ls (n + 1) two i f)) (not_it ls (n + 1) two i f);
      were = noted.were;
    }

-- what was overwritten by a store, and what is noted
pub record StoredAt (n : ℕ) (s after : TypeState) : Type 0 where
  pub but : (os : List Overwritten) (before : List VType) → AreBut os before s.types.locals → AreBut (noting_store s.types.locals n os) before after.types.locals
  pub flag : s.this_uninit ≡ after.this_uninit
  pub as_many : length s.types.locals ≡ length after.types.locals
  pub others : (i : ℕ) → (i ≡ n - 1 → ⊥) → (i ≡ n → ⊥) → (i ≡ n + 1 → ⊥) → type_at s.types.locals i ≡ type_at after.types.locals i

put_noted : (n : ℕ) (s : TypeState) (stack : List VType) (t : VType) (r : Result (List VType) RowWhy) → with_type t n s.types.locals ≡ r
    → IfOk ((r then λ locals. types_on locals stack) then λ types. Ok (with_types s types)) (StoredAt n s)
put_noted n s stack t (Err why) e = tt
put_noted n s stack t (Ok after) e =
    let ls = s.types.locals in
    let half = half_leaves ls n in
    let items = items_leave (without_half n ls) after n t (is_wide t) (some_of (with_items n (types_of t) (without_half n ls)) after e) in
    record {
      but = λ os before h. type_noted ls after before os n t e h;
      flag = refl;
      as_many = half.as_many ∙ items.as_many;
      others = λ i a b c. half.same i a ∙ items.same i b c;
    }

store_noted : (n : ℕ) (s : TypeState) (r : Result (VType × List VType) RowWhy)
    → IfOk ((r then λ x. with_type x.0 n s.types.locals then λ locals. types_on locals x.1) then λ types. Ok (with_types s types)) (StoredAt n s)
store_noted n s (Err why) = tt
store_noted n s (Ok x) = put_noted n s x.1 x.0 (with_type x.0 n s.types.locals) refl

row_stored : (env : Environment) (pc : ℕ) (resolution : Resolution) (op : Op) (kind : ValueKind) (n : ℕ) (s : TypeState) → op ≡ ops.Store kind n → IfOk (row_state env pc resolution (row op) s) (StoredAt n s)
row_stored env pc resolution op kind n s e =
    subst (λ o. IfOk (row_state env pc resolution (row o) s) (StoredAt n s)) (sym e) (store_noted n s (type_popped kind s.types.stack))

pub after_stored : (env : Environment) (i : Instruction) (kind : ValueKind) (n : ℕ) (s after : TypeState) → i.instr.op ≡ ops.Store kind n → state_after env i s ≡ Ok after → StoredAt n s after
after_stored env i kind n s after is e = subst (λ r. IfOk r (StoredAt n s)) e (row_stored env i.instr.pc i.resolution i.instr.op kind n s is)

pub noted_behind : (op : Op) (locals : List VType) (like : Option Like) (before : Like) (kind : ValueKind) (n : ℕ) (r : Result (Option Like) NoMemory) → op ≡ ops.Store kind n → like ≡ Some before
    → IfOk r (λ o. IfSome o (IsNoted before.pc (noting_store locals n before.overwritten.items))) → IfOk r (λ o. IfSome o (NotedBehind op locals like))
noted_behind op locals like before kind n (Err why) is was h = tt
noted_behind op locals like before kind n (Ok None) is was h = tt
noted_behind op locals like before kind n (Ok (Some l)) is was h = stores kind n before is was h

pub objects_behind : (op : Op) (locals : List VType) (like : Option Like) (before : Like) (r : Result (Option Like) NoMemory) → finishes op ≡ true → like ≡ Some before
    → IfOk r (λ o. IfSome o (NotedAll before locals)) → IfOk r (λ o. IfSome o (NotedBehind op locals like))
objects_behind op locals like before (Err why) is was h = tt
objects_behind op locals like before (Ok None) is was h = tt
objects_behind op locals like before (Ok (Some l)) is was h = objects before is was h
