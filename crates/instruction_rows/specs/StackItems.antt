-- Items of the operand stack, as the stack instructions take and give them (JVMS 6.5: pop to swap). They lie in the
-- same way for slots and for types.
use Rattle.std.specs.Prelude.{ℕ, List, [], ◌∷◌, ◌++◌, get_or, Option, Some, None}
use Rattle.items.specs.Options.{◌>>=◌}

-- how many slots an item takes: an item of two is two values of one slot, or one value of two
pub data Width : Type 0 where
  one : Width
  two : Width

-- the topmost item of this width, the top first, and what lies below it
abbrev pub item_of : {A : Type 0} → Width → List A → Option (List A × List A)
item_of one (x ∷ rest) = Some (x ∷ [], rest)
item_of two (x ∷ y ∷ rest) = Some (x ∷ y ∷ [], rest)
item_of width short = None

-- the items of these widths, the topmost first, and what lies below them
abbrev pub items_of : {A : Type 0} → List Width → List A → Option (List (List A) × List A)
items_of [] stack = Some ([], stack)
items_of (width ∷ widths) stack = item_of width stack >>= λ x. items_of widths x.1 >>= λ y. Some (x.0 ∷ y.0, y.1)

-- the items with these indexes on top of the rest, the first the topmost
abbrev pub items_on : {A : Type 0} → List (List A) → List ℕ → List A → List A
items_on items [] rest = rest
items_on items (index ∷ indexes) rest = get_or items index [] ++ items_on items indexes rest
