-- Paths that grow, and those of the types of frames.
use Rattle.std.proofs.Common.{◌≡◌, ℕ, zero, suc, ◌-◌, ◌<◌, ◌≤◌, List, [], ◌∷◌, ◌++◌, length, Option, Some, None, Result, Ok, Err, refl, ap, sym, subst, ◌∙◌, append_assoc, arith}
use Rattle.std.specs.Prelude.{drop, map, reverse, take, IfOk}
use Rattle.std.proofs.lemmas.List.{append-nil, length-append, length-drop, length-reverse, length-take-le, reverse-append, take-append-drop, get_or_append_left, nil_from_length}
use Rattle.std.proofs.Math.Seq.{get_or-append_seam}
use Rattle.items.specs.Options.{◌>>=◌}
use Rattle.stack_maps.specs.declared.types.VType.{VType}
use Rattle.stack_maps.specs.declared.types.FrameTypes.{FrameTypes}
use Rattle.stack_maps.specs.declared.types.LocalsChange.{LocalsChange}
use Rattle.stack_maps.specs.declared.types.LocalsChange.TheVariants as changes
use Rattle.stack_maps.specs.Changes.{locals_after}
use Rattle.type_paths.specs.Paths.{Path, IsPath, path, types_on}
use Rattle.link_model.specs.World.{World}
use Rattle.link_model.specs.declared.members.MethodInfo.{MethodInfo}
use Rattle.verify_types.specs.ClassTypes.{resolve}
use Rattle.verify_types.specs.Environment.{is_constructor, all_resolved, map_frame}
use Rattle.verify_frames.specs.declared.frame_paths.Entry.{Entry}
use Rattle.verify_frames.specs.FramePaths.{Grows, onto, path_of, IsEntry, entry_in}

-- ---- paths that grow

pub grows_not : (ps : List Path) → Grows ps ps
grows_not ps = record { more = []; is = sym (append-nil ps) }

pub grows_twice : (a b c : List Path) → Grows a b → Grows b c → Grows a c
grows_twice a b c g h = record { more = g.more ++ h.more; is = h.is ∙ ap (λ (ps : List Path). ps ++ h.more) g.is ∙ append_assoc a g.more h.more }

pub kept : (a b : List Path) (n : ℕ) (p : Path) → Grows a b → IsPath a n p → IsPath b n p
kept a b n p g h =
    subst (λ (ps : List Path). IsPath ps n p) (sym g.is) (record {
      is_node = omega (arith, h.is_node, length-append a g.more);
      is = get_or_append_left a g.more [] n h.is_node ∙ h.is;
    })

pub one_more : (a b : List Path) (below n : ℕ) (item : Option VType) (p : Path) → b ≡ a ++ (item ∷ path a below) ∷ [] → n ≡ length a → IsPath a below p → IsPath b n (item ∷ p)
one_more a b below n item p e at h =
    subst (λ (ps : List Path). IsPath ps n (item ∷ p)) (sym e) (subst (λ (k : ℕ). IsPath (a ++ (item ∷ path a below) ∷ []) k (item ∷ p)) (sym at) (record {
      is_node = omega (arith, length-append a ((item ∷ path a below) ∷ []));
      is = get_or-append_seam a (item ∷ path a below) [] [] ∙ ap (λ (q : Path). item ∷ q) h.is;
    }))

-- ---- types on a path

pub onto_is : (w : World) (class : ℕ) (p : Path) (ts : List VType) → onto w class p ts ≡ reverse (map (resolve w class) ts) ++ p
onto_is w class p [] = refl
onto_is w class p (t ∷ ts) =
    onto_is w class (resolve w class t ∷ p) ts
    ∙ sym (append_assoc (reverse (map (resolve w class) ts)) (resolve w class t ∷ []) p)
    ∙ ap (λ (q : Path). q ++ p) (sym (reverse-append (resolve w class t ∷ []) (map (resolve w class) ts)))

pub onto_more : (w : World) (class : ℕ) (p : Path) (ts us : List VType) → onto w class (onto w class p ts) us ≡ onto w class p (ts ++ us)
onto_more w class p [] us = refl
onto_more w class p (t ∷ ts) us = onto_more w class (resolve w class t ∷ p) ts us

chopped_by : (rs : Path) (d : ℕ) → drop d (reverse rs) ≡ reverse (take (length rs - d) rs)
chopped_by rs d =
    let n = length rs - d in
    ap (λ (q : Path). drop d (reverse q)) (sym (take-append-drop n rs))
    ∙ ap (drop d) (reverse-append (take n rs) (drop n rs))
    ∙ front_dropped (reverse (drop n rs)) (reverse (take n rs)) d
    (omega (arith, length-reverse (drop n rs), length-drop n rs))
    (λ over. none_kept (take n rs) (omega (arith, length-take-le n rs (omega arith), length-reverse (drop n rs), length-drop n rs)))
  where
    none_kept : (q : Path) → length q ≡ 0 → reverse q ≡ []
    none_kept [] e = refl
    none_kept (x ∷ q) e = absurd (omega arith)

    all_dropped : (a : Path) (d : ℕ) → length a ≤ d → drop d a ≡ []
    all_dropped [] zero e = refl
    all_dropped [] (suc d) e = refl
    all_dropped (x ∷ a) zero e = absurd (omega arith)
    all_dropped (x ∷ a) (suc d) e = all_dropped a d (omega arith)

    front_dropped : (a b : Path) (d : ℕ) → length a ≤ d → (length a < d → b ≡ []) → drop d (a ++ b) ≡ b
    front_dropped [] b zero e over = refl
    front_dropped [] b (suc d) e over = ap (drop (suc d)) (over (omega arith)) ∙ sym (over (omega arith))
    front_dropped (x ∷ a) b zero e over = absurd (omega arith)
    front_dropped (x ∷ a) b (suc d) e over = front_dropped a b d (omega arith) (λ h. over (omega arith))

take_map : (f : VType → Option VType) (n : ℕ) (ts : List VType) → take n (map f ts) ≡ map f (take n ts)
take_map f zero ts = refl
take_map f (suc n) [] = refl
take_map f (suc n) (t ∷ ts) = ap (λ (q : Path). f t ∷ q) (take_map f n ts)

mapped : (f : VType → Option VType) (ts : List VType) → length (map f ts) ≡ length ts
mapped f [] = refl
mapped f (t ∷ ts) = omega (arith, mapped f ts)

pub chopped_types : (w : World) (class d : ℕ) (ls : List VType) → drop d (path_of w class ls) ≡ path_of w class (take (length ls - d) ls)
chopped_types w class d ls =
    let f = resolve w class in
    let n = length ls - d in
    ap (drop d) (onto_is w class [] ls ∙ append-nil (reverse (map f ls)))
    ∙ chopped_by (map f ls) d
    ∙ ap (λ (k : ℕ). reverse (take (k - d) (map f ls))) (mapped f ls)
    ∙ ap (λ (q : Path). reverse q) (take_map f n ls)
    ∙ sym (onto_is w class [] (take n ls) ∙ append-nil (reverse (map f (take n ls))))

-- ---- types put on one after the other

pub record PutOn (w : World) (class : ℕ) (old : List Path) (from : ℕ) (types : List VType) (paths : List Path) (node : ℕ) (rest : List VType) : Type 0 where
  pub grown : Grows old paths
  pub on : (p : Path) → IsPath old from p → (q : Path) × IsPath paths node q × (onto w class q rest ≡ onto w class p types)

pub put_none : (w : World) (class : ℕ) (old : List Path) (from : ℕ) (types : List VType) → PutOn w class old from types old from types
put_none w class old from types = record { grown = grows_not old; on = λ p h. (p, h, refl) }

pub put_one : (w : World) (class : ℕ) (old : List Path) (from : ℕ) (types : List VType) (paths new : List Path) (node n : ℕ) (item : Option VType) (t : VType) (left rest : List VType)
    → PutOn w class old from types paths node left → left ≡ t ∷ rest → item ≡ resolve w class t → new ≡ paths ++ (item ∷ path paths node) ∷ [] → n ≡ length paths → PutOn w class old from types new n rest
put_one w class old from types paths new node n item t left rest so_far first is e at = record {
  grown = grows_twice old paths new so_far.grown (record { more = (item ∷ path paths node) ∷ []; is = e });
  on = λ p h.
      let q = so_far.on p h in
      (item ∷ q.0, one_more paths new node n item q.0 e at q.1, ap (λ (i : Option VType). onto w class (i ∷ q.0) rest) is ∙ sym (ap (λ (ts : List VType). onto w class q.0 ts) first) ∙ q.2);
}

pub put_all : (w : World) (class : ℕ) (old : List Path) (from : ℕ) (types : List VType) (paths : List Path) (node : ℕ) (rest : List VType) → PutOn w class old from types paths node rest → length rest ≡ 0
    → (p : Path) → IsPath old from p → IsPath paths node (onto w class p types)
put_all w class old from types paths node rest so_far none p h =
    let q = so_far.on p h in
    subst (IsPath paths node) (sym (ap (λ (ts : List VType). onto w class q.0 ts) (nil_from_length rest none)) ∙ q.2) q.1

pub appended : {E : Type 0} (w : World) (class : ℕ) (old new : List Path) (locals : ℕ) (added : List VType) (change : LocalsChange) (r : Result ℕ E) → change ≡ changes.Append added
    → IfOk r (λ n. (p : Path) → IsPath old locals p → IsPath new n (onto w class p added))
    → IfOk r (λ n. (ls : List VType) → IsPath old locals (path_of w class ls) → IsPath new n (path_of w class (locals_after ls change)))
appended w class old new locals added change (Err x) e h = tt
appended w class old new locals added change (Ok n) e h = λ ls at.
    subst (λ (ch : LocalsChange). IsPath new n (path_of w class (locals_after ls ch))) (sym e) (subst (IsPath new n) (onto_more w class [] ls added) (h (path_of w class ls) at))

-- ---- the types of a path

behind : (a : Option (List VType)) (r : Option VType) (b : Option (List VType)) → ((a >>= λ us. r >>= λ u. Some (us ++ u ∷ [])) >>= λ us. b >>= λ vs. Some (us ++ vs)) ≡ (a >>= λ us. (r >>= λ u. b >>= λ vs. Some (u ∷ vs)) >>= λ vs. Some (us ++ vs))
behind None r b = refl
behind (Some us) None b = refl
behind (Some us) (Some u) None = refl
behind (Some us) (Some u) (Some vs) = ap Some (append_assoc us (u ∷ []) vs)

types_onto : (w : World) (class : ℕ) (p : Path) (ts : List VType) → types_on (onto w class p ts) ≡ (types_on p >>= λ us. all_resolved w class ts >>= λ vs. Some (us ++ vs))
types_onto w class p [] = none (types_on p)
  where
    none : (o : Option (List VType)) → o ≡ (o >>= λ us. Some (us ++ []))
    none None = refl
    none (Some us) = ap Some (sym (append-nil us))
types_onto w class p (t ∷ ts) = types_onto w class (resolve w class t ∷ p) ts ∙ behind (types_on p) (resolve w class t) (all_resolved w class ts)

pub types_of_path : (w : World) (class : ℕ) (ts : List VType) → types_on (path_of w class ts) ≡ all_resolved w class ts
types_of_path w class ts = types_onto w class [] ts ∙ same (all_resolved w class ts)
  where
    same : (o : Option (List VType)) → (o >>= λ vs. Some vs) ≡ o
    same None = refl
    same (Some vs) = refl

-- ---- what is kept of a frame

pub entry_is : (w : World) (m : MethodInfo) (max : ℕ) (a b : List Path) (e : Entry) (f : ℕ × FrameTypes) → Grows a b → IsEntry w m.class a e f → entry_in b (is_constructor m) max e ≡ map_frame w m max f
entry_is w m max a b e f g h =
    let locals = kept a b e.locals _ g h.locals in
    let stack = kept a b e.stack _ g h.stack in
    rw (locals.is, stack.is, types_of_path w m.class f.1.locals, types_of_path w m.class f.1.stack, h.pc) refl
