-- What contracts see of the records and lists after each kind of change.
use Rattle.std.proofs.Common.{◌≡◌, ◌+◌, ◌<◌, ◌≤◌, ℕ, false, List, [], ◌∷◌, ◌++◌, Option, Some, None, length, nat_eq, inl, inr, sym, ◌∙◌, ap, subst, refl, arith, unwrap_or, vec_len}
use Rattle.std.specs.Option.{option_map}
use Rattle.std.specs.HashMap.{get, hash_map_len, spare}
use Rattle.std.specs.Global.{Vec}
use Rattle.std.specs.Vec.{vec_capacity}
use Rattle.std.proofs.lemmas.Map.Made.{lookup-map_values}
use Rattle.std.proofs.lemmas.Bool.{cases_lt}
use Rattle.thread_lists.specs.Lists.{Lists, count, list_at, total}
use Rattle.thread_lists.proofs.CountLaws.{found}
use Rattle.monitors.specs.declared.records.Owner.{Owner}
use Rattle.monitors.specs.declared.records.Record.{Record}
use Rattle.monitors.specs.declared.monitors.Monitors.TheInside.{Inside}
use Rattle.monitors.specs.Monitors.{Becomes, InNoList, Monitor, free, is_free, count_in, monitor_of}
use Rattle.monitors.specs.Records.{Fits, IsConsistent, count_of, entry_list_of, known, seen, thread_of, wait_list_of}
use Rattle.monitors.proofs.ListLaws.{Paired}
use Rattle.monitors.proofs.RecordLaws.{Changes, Closes, Fits-changes, Fits-closes, Fits-opens, KeepsRecords, Opens, read, read-changed, read-closed, read-opened, read-unchanged, read-unclosed, read-unopened}

-- a monitor as the records and lists have it
pub monitor_is : (a : Inside) (o : ℕ) → monitor_of (seen a) o ≡ read (get nat_eq a.records) a.lists.lists o
monitor_is a o = ap (λ x. unwrap_or x free) (lookup-map_values (known a.lists.lists) (nat_eq o) a.records.entries)

pub in_use_is : (a : Inside) (o : ℕ) (r : Record) → get nat_eq a.records o ≡ Some r → monitor_of (seen a) o ≡ known a.lists.lists r
in_use_is a o r e = monitor_is a o ∙ ap (λ x. unwrap_or (option_map (known a.lists.lists) x) free) e

pub unused_is : (a : Inside) (o : ℕ) → get nat_eq a.records o ≡ None → monitor_of (seen a) o ≡ free
unused_is a o e = monitor_is a o ∙ ap (λ x. unwrap_or (option_map (known a.lists.lists) x) free) e

-- a thread that is in no list of a monitor is in no list
pub free_thread : (a : Inside) → IsConsistent a → (t : ℕ) → InNoList (seen a) t → total (count t) a.lists.lists ≡ 0
free_thread a kept t none =
    elim (cases_lt 0 (total (count t) a.lists.lists)) [
      | inl some ↦
          let at = found t a.lists.lists some in
          let u = kept.fits.used at.0 t at.1 at.2 in
          let gone : count_in t (known a.lists.lists u.found) ≡ 0 = ap (count_in t) (sym (in_use_is a u.object u.found u.here)) ∙ none u.object in
          absurd (elim u.list [
            | inl e ↦ omega (arith, gone, subst (λ k. 0 < count t (list_at a.lists.lists k)) e at.2)
            | inr e ↦ omega (arith, gone, subst (λ k. 0 < count t (list_at a.lists.lists k)) e at.2)
          ])
      | inr z ↦ omega (arith, z)
    ]

-- what a call leaves: what the struct keeps, and the monitor that changed
pub record After (a : Inside) (o : ℕ) (m : Monitor) (b : Inside) : Type 0 where
  pub kept : IsConsistent b
  pub becomes : Becomes (seen a) (seen b) o m

pub After-is : (a : Inside) (o : ℕ) (m n : Monitor) (b : Inside) → m ≡ n → After a o m b → After a o n b
After-is a o m n b e after = subst (λ x. After a o x b) e after

-- a monitor in use, of which the owner and the two lists change
module _ (a b : Inside) (kept : IsConsistent a) (o : ℕ) (r : Record) (was : get nat_eq a.records o ≡ Some r) (entry_list wait_list : List ℕ) (paired : Paired a.lists.lists b.lists.lists r.pair entry_list wait_list) where
  pub After-change : (owner : Option Owner) → get nat_eq b.records o ≡ Some (record r { owner = owner }) → KeepsRecords (get nat_eq a.records) (get nat_eq b.records) o → hash_map_len b.records ≡ hash_map_len a.records → spare a.records ≤ spare b.records + 1 → b.vacant ≡ a.vacant → b.pairs ≡ a.pairs → b.lists.threads ≡ a.lists.threads → is_free (record { owner = thread_of owner; count = count_of owner; entry_list = entry_list; wait_list = wait_list }) ≡ false → After a o (record { owner = thread_of owner; count = count_of owner; entry_list = entry_list; wait_list = wait_list }) b
  After-change owner now others size more vacant pairs threads used =
      record {
        kept = record {
          fits = subst (λ (v : Vec ℕ). Fits (get nat_eq b.records) v.items b.lists.lists) (sym vacant) (Fits-changes (get nat_eq a.records) (get nat_eq b.records) a.vacant.items a.lists.lists b.lists.lists o r (record r { owner = owner }) kept.fits change);
          pairs = omega (arith, kept.pairs, pairs, paired.size);
          capacity = omega (arith, kept.capacity, pairs, ap (λ (v : Vec ℕ). vec_capacity v) vacant);
          whole = omega (arith, kept.whole, size, pairs, ap (λ (v : Vec ℕ). vec_len v) vacant);
        };
        becomes = record {
          changed = monitor_is b o ∙ read-changed (get nat_eq a.records) (get nat_eq b.records) a.vacant.items a.lists.lists b.lists.lists o r (record r { owner = owner }) kept.fits change ∙ reads;
          others = λ p ne. monitor_is b p ∙ read-unchanged (get nat_eq a.records) (get nat_eq b.records) a.vacant.items a.lists.lists b.lists.lists o r (record r { owner = owner }) kept.fits change p ne ∙ sym (monitor_is a p);
          threads = threads;
          spare = omega (arith, more, ap (λ (v : Vec ℕ). vec_len v) vacant);
        };
      }
    where
      reads : known b.lists.lists (record r { owner = owner }) ≡ record { owner = thread_of owner; count = count_of owner; entry_list = entry_list; wait_list = wait_list }
      reads = ap (λ xs. record { owner = thread_of owner; count = count_of owner; entry_list = xs; wait_list = list_at b.lists.lists (wait_list_of r.pair) }) paired.entry_list_is
          ∙ ap (λ xs. record { owner = thread_of owner; count = count_of owner; entry_list = entry_list; wait_list = xs }) paired.wait_list_is

      change : Changes (get nat_eq a.records) (get nat_eq b.records) a.lists.lists b.lists.lists o r (record r { owner = owner })
      change = record { was = was; pair = refl; now = now; others = others; size = paired.size; keeps = paired.keeps; in_use = ap is_free reads ∙ used }

-- a monitor comes into use
module _ (a b : Inside) (kept : IsConsistent a) (o pair : ℕ) (was : get nat_eq a.records o ≡ None) (taken : a.vacant.items ≡ b.vacant.items ++ pair ∷ []) (entry_list wait_list : List ℕ) (paired : Paired a.lists.lists b.lists.lists pair entry_list wait_list) where
  pub After-open : (owner : Option Owner) → get nat_eq b.records o ≡ Some (record { owner = owner; pair = pair }) → KeepsRecords (get nat_eq a.records) (get nat_eq b.records) o → hash_map_len b.records ≡ hash_map_len a.records + 1 → spare a.records ≤ spare b.records + 1 → vec_len a.vacant ≡ vec_len b.vacant + 1 → vec_capacity b.vacant ≡ vec_capacity a.vacant → b.pairs ≡ a.pairs → b.lists.threads ≡ a.lists.threads → is_free (record { owner = thread_of owner; count = count_of owner; entry_list = entry_list; wait_list = wait_list }) ≡ false → After a o (record { owner = thread_of owner; count = count_of owner; entry_list = entry_list; wait_list = wait_list }) b
  After-open owner now others size more len capacity pairs threads used =
      record {
        kept = record {
          fits = Fits-opens (get nat_eq a.records) (get nat_eq b.records) a.vacant.items b.vacant.items a.lists.lists b.lists.lists o (record { owner = owner; pair = pair }) kept.fits opens;
          pairs = omega (arith, kept.pairs, pairs, paired.size);
          capacity = omega (arith, kept.capacity, pairs, capacity);
          whole = omega (arith, kept.whole, size, pairs, len);
        };
        becomes = record {
          changed = monitor_is b o ∙ read-opened (get nat_eq a.records) (get nat_eq b.records) a.vacant.items b.vacant.items a.lists.lists b.lists.lists o (record { owner = owner; pair = pair }) kept.fits opens ∙ reads;
          others = λ p ne. monitor_is b p ∙ read-unopened (get nat_eq a.records) (get nat_eq b.records) a.vacant.items b.vacant.items a.lists.lists b.lists.lists o (record { owner = owner; pair = pair }) kept.fits opens p ne ∙ sym (monitor_is a p);
          threads = threads;
          spare = omega (arith, more, len);
        };
      }
    where
      reads : known b.lists.lists (record { owner = owner; pair = pair }) ≡ record { owner = thread_of owner; count = count_of owner; entry_list = entry_list; wait_list = wait_list }
      reads = ap (λ xs. record { owner = thread_of owner; count = count_of owner; entry_list = xs; wait_list = list_at b.lists.lists (wait_list_of pair) }) paired.entry_list_is
          ∙ ap (λ xs. record { owner = thread_of owner; count = count_of owner; entry_list = entry_list; wait_list = xs }) paired.wait_list_is

      opens : Opens (get nat_eq a.records) (get nat_eq b.records) a.vacant.items b.vacant.items a.lists.lists b.lists.lists o (record { owner = owner; pair = pair })
      opens = record { was = was; taken = taken; now = now; others = others; size = paired.size; keeps = paired.keeps; in_use = ap is_free reads ∙ used }

-- a monitor falls free
module _ (a b : Inside) (kept : IsConsistent a) (o : ℕ) (r : Record) (was : get nat_eq a.records o ≡ Some r) where
  pub After-close : get nat_eq b.records o ≡ None → KeepsRecords (get nat_eq a.records) (get nat_eq b.records) o → hash_map_len b.records + 1 ≡ hash_map_len a.records → spare a.records ≤ spare b.records → b.vacant.items ≡ a.vacant.items ++ r.pair ∷ [] → vec_len b.vacant ≡ vec_len a.vacant + 1 → vec_capacity b.vacant ≡ vec_capacity a.vacant → b.pairs ≡ a.pairs → b.lists ≡ a.lists → list_at a.lists.lists (entry_list_of r.pair) ≡ [] → list_at a.lists.lists (wait_list_of r.pair) ≡ [] → After a o free b
  After-close now others size more vacant len capacity pairs lists entry_list wait_list =
      record {
        kept = record {
          fits = subst (λ (ls : Lists). Fits (get nat_eq b.records) b.vacant.items ls.lists) (sym lists)
              (subst (λ xs. Fits (get nat_eq b.records) xs a.lists.lists) (sym vacant) (Fits-closes (get nat_eq a.records) (get nat_eq b.records) a.vacant.items a.lists.lists o r kept.fits closes));
          pairs = omega (arith, kept.pairs, pairs, ap (λ (ls : Lists). length ls.lists) lists);
          capacity = omega (arith, kept.capacity, pairs, capacity);
          whole = omega (arith, kept.whole, size, pairs, len);
        };
        becomes = record {
          changed = monitor_is b o ∙ ap (λ (ls : Lists). read (get nat_eq b.records) ls.lists o) lists ∙ read-closed (get nat_eq a.records) (get nat_eq b.records) a.vacant.items a.lists.lists o r kept.fits closes;
          others = λ p ne. monitor_is b p ∙ ap (λ (ls : Lists). read (get nat_eq b.records) ls.lists p) lists ∙ read-unclosed (get nat_eq a.records) (get nat_eq b.records) a.vacant.items a.lists.lists o r kept.fits closes p ne ∙ sym (monitor_is a p);
          threads = ap (λ (ls : Lists). ls.threads) lists;
          spare = omega (arith, more, len);
        };
      }
    where
      closes : Closes (get nat_eq a.records) (get nat_eq b.records) a.lists.lists o r
      closes = record { was = was; now = now; others = others; entry_list = entry_list; wait_list = wait_list }
