-- The fields and methods of a linked world by number: each is a member of the class that declares it.
use Rattle.std.proofs.Common.{◌≡◌, ◌⊎◌, inl, inr, ℕ, zero, suc, ◌+◌, List, [], ◌∷◌, ◌++◌, length, take, Some, refl, ap, sym, ◌∙◌, arith}
use Rattle.std.specs.Prelude.{map, slice_get, sum_by}
use Rattle.std.specs.List.{flat_map, enumerate_from}
use Rattle.std.proofs.lemmas.List.{length-map}
use Rattle.std.proofs.lemmas.List.Sums.{sum_by-cons}
use Rattle.class_model.specs.declared.class_file.ClassFile.{ClassFile}
use Rattle.class_model.specs.declared.constant.Const.{Const}
use Rattle.class_model.specs.declared.member.Member.{Member}
use Rattle.link_model.specs.declared.members.MethodInfo.{MethodInfo}
use Rattle.link_model.specs.Infos.{method_info, methods_in}

-- ---- lists

pub left_at : {A : Type 0} (xs ys : List A) (n : ℕ) (x : A) → slice_get xs n ≡ Some x → slice_get (xs ++ ys) n ≡ Some x
left_at [] ys n x e = absurd cc
left_at (y ∷ xs) ys zero x e = e
left_at (y ∷ xs) ys (suc n) x e = left_at xs ys n x e

pub right_at : {A : Type 0} (xs ys : List A) (n : ℕ) → slice_get (xs ++ ys) (length xs + n) ≡ slice_get ys n
right_at [] ys n = ap (slice_get ys) (nothing n)
  where
    nothing : (n : ℕ) → 0 + n ≡ n
    nothing n = omega arith
right_at (x ∷ xs) ys n = ap (slice_get (x ∷ xs ++ ys)) (one_more (length xs) n) ∙ right_at xs ys n
  where
    one_more : (k n : ℕ) → suc k + n ≡ suc (k + n)
    one_more k n = omega arith

pub map_at : {A B : Type 0} (g : A → B) (xs : List A) (n : ℕ) (x : A) → slice_get xs n ≡ Some x → slice_get (map g xs) n ≡ Some (g x)
map_at g [] n x e = absurd cc
map_at g (y ∷ xs) zero x e = let same : y ≡ x = cc in ap (λ z. Some (g z)) same
map_at g (y ∷ xs) (suc n) x e = map_at g xs n x e

-- ---- the number of a member, of those that the function gives of a file

-- what is known of the members of files, the first of which has the number k
abbrev pub infos_from : {B : Type 0} → (ClassFile → List Member) → (ℕ → List Const → Member → B) → ℕ → List ClassFile → List B
infos_from members info k files = flat_map (λ (x : ℕ × ClassFile). map (info x.0 x.1.pool) (members x.1)) (enumerate_from k files)

abbrev pub before_by : (ClassFile → List Member) → List ClassFile → ℕ → ℕ
before_by members files c = sum_by (λ (f : ClassFile). length (members f)) (take c files)

pub before_more : (members : ClassFile → List Member) (x : ClassFile) (xs : List ClassFile) (c : ℕ)
    → before_by members (x ∷ xs) (suc c) ≡ length (members x) + before_by members xs c
before_more members x xs c = sum_by-cons (λ (f : ClassFile). length (members f)) x (take c xs)

pub regrouped : (a b i : ℕ) → a + b + i ≡ a + (b + i)
regrouped a b i = omega arith

pub shifted : (k c : ℕ) → k + 1 + c ≡ k + suc c
shifted k c = omega arith

pub none_more : (k : ℕ) → k ≡ k + 0
none_more k = omega arith

pub none_before : (i : ℕ) → 0 + i ≡ i
none_before i = omega arith

pub info_at : {B : Type 0} (members : ClassFile → List Member) (info : ℕ → List Const → Member → B) (k : ℕ) (files : List ClassFile) (c i : ℕ)
    (f : ClassFile) (m : Member) → slice_get files c ≡ Some f → slice_get (members f) i ≡ Some m
    → slice_get (infos_from members info k files) (before_by members files c + i) ≡ Some (info (k + c) f.pool m)
info_at members info k [] c i f m at member = absurd cc
info_at members info k (x ∷ xs) zero i f m at member =
    let same : x ≡ f = cc in
    let here : slice_get (members x) i ≡ Some m = ap (λ (g : ClassFile). slice_get (members g) i) same ∙ member in
    ap (slice_get (infos_from members info k (x ∷ xs))) (none_before i)
    ∙ left_at (map (info k x.pool) (members x)) (infos_from members info (k + 1) xs) i (info k x.pool m) (map_at (info k x.pool) (members x) i m here)
    ∙ ap (λ j. Some (info j x.pool m)) (none_more k)
    ∙ ap (λ (g : ClassFile). Some (info (k + 0) g.pool m)) same
info_at members info k (x ∷ xs) (suc c) i f m at member =
    let own = map (info k x.pool) (members x) in
    let number : before_by members (x ∷ xs) (suc c) + i ≡ length own + (before_by members xs c + i) =
    ap (λ n. n + i) (before_more members x xs c) ∙ regrouped (length (members x)) (before_by members xs c) i
    ∙ ap (λ n. n + (before_by members xs c + i)) (sym (length-map (members x) (info k x.pool))) in
    ap (slice_get (infos_from members info k (x ∷ xs))) number
    ∙ right_at own (infos_from members info (k + 1) xs) (before_by members xs c + i)
    ∙ info_at members info (k + 1) xs c i f m at member
    ∙ ap (λ j. Some (info j f.pool m)) (shifted k c)

-- of methods

abbrev pub methods_from : ℕ → List ClassFile → List MethodInfo
methods_from k files = flat_map methods_in (enumerate_from k files)

abbrev pub before : List ClassFile → ℕ → ℕ
before files c = before_by (λ (f : ClassFile). f.methods) files c

pub number_at : (k : ℕ) (files : List ClassFile) (c i : ℕ) (f : ClassFile) (m : Member) → slice_get files c ≡ Some f
    → slice_get f.methods i ≡ Some m → slice_get (methods_from k files) (before files c + i) ≡ Some (method_info (k + c) f.pool m)
number_at k files c i f m at member = info_at (λ (g : ClassFile). g.methods) method_info k files c i f m at member

-- ---- the member of a number

pub record Behind {A : Type 0} (xs ys : List A) (n : ℕ) (x : A) : Type 0 where
  pub rest : ℕ
  pub number : n ≡ length xs + rest
  pub is : slice_get ys rest ≡ Some x

pub one_behind : (n k rest : ℕ) → n ≡ k + rest → suc n ≡ suc k + rest
one_behind n k rest e = omega arith

pub split_at : {A : Type 0} (xs ys : List A) (n : ℕ) (x : A) → slice_get (xs ++ ys) n ≡ Some x → (slice_get xs n ≡ Some x) ⊎ Behind xs ys n x
split_at [] ys n x e = inr (record { rest = n; number = sym (none_before n); is = e })
split_at (y ∷ xs) ys zero x e = inl e
split_at {A} (y ∷ xs) ys (suc n) x e = by (split_at xs ys n x e)
  where
    by : (slice_get xs n ≡ Some x) ⊎ Behind xs ys n x → (slice_get xs n ≡ Some x) ⊎ Behind (y ∷ xs) ys (suc n) x
    by (inl here) = inl here
    by (inr b) = inr (record { rest = b.rest; number = one_behind n (length xs) b.rest b.number; is = b.is })

pub record Mapped {A B : Type 0} (g : A → B) (xs : List A) (n : ℕ) (y : B) : Type 0 where
  pub from : A
  pub at : slice_get xs n ≡ Some from
  pub is : g from ≡ y

pub mapped_at : {A B : Type 0} (g : A → B) (xs : List A) (n : ℕ) (y : B) → slice_get (map g xs) n ≡ Some y → Mapped g xs n y
mapped_at g [] n y e = absurd cc
mapped_at g (x ∷ xs) zero y e = record { from = x; at = refl; is = cc }
mapped_at g (x ∷ xs) (suc n) y e = let h = mapped_at g xs n y e in record { from = h.from; at = h.at; is = h.is }

pub record IsMember (k : ℕ) (files : List ClassFile) (n : ℕ) (info : MethodInfo) : Type 0 where
  pub class : ℕ
  pub file : ClassFile
  pub file_is : slice_get files class ≡ Some file
  pub index : ℕ
  pub member : Member
  pub member_is : slice_get file.methods index ≡ Some member
  pub is : method_info (k + class) file.pool member ≡ info
  pub number : n ≡ before files class + index

pub number_behind : (n own rest b a i : ℕ) → n ≡ own + rest → rest ≡ b + i → a ≡ own + b → n ≡ a + i
number_behind n own rest b a i e f g = omega arith

pub member_of : (k : ℕ) (files : List ClassFile) (n : ℕ) (info : MethodInfo) → slice_get (methods_from k files) n ≡ Some info
    → IsMember k files n info
member_of k [] n info e = absurd cc
member_of k (x ∷ xs) n info e =
    by (split_at (methods_in (k, x)) (methods_from (k + 1) xs) n info e) (λ rest is. member_of (k + 1) xs rest info is)
  where
    by : (slice_get (methods_in (k, x)) n ≡ Some info) ⊎ Behind (methods_in (k, x)) (methods_from (k + 1) xs) n info
        → ((rest : ℕ) → slice_get (methods_from (k + 1) xs) rest ≡ Some info → IsMember (k + 1) xs rest info) → IsMember k (x ∷ xs) n info
    by (inl here) more =
        let h = mapped_at (method_info k x.pool) x.methods n info here in
        record {
          class = 0;
          file = x;
          file_is = refl;
          index = n;
          member = h.from;
          member_is = h.at;
          is = ap (λ j. method_info j x.pool h.from) (sym (none_more k)) ∙ h.is;
          number = sym (none_before n);
        }
    by (inr b) more =
        let h = more b.rest b.is in
        record {
          class = suc h.class;
          file = h.file;
          file_is = h.file_is;
          index = h.index;
          member = h.member;
          member_is = h.member_is;
          is = ap (λ j. method_info j h.file.pool h.member) (sym (shifted k h.class)) ∙ h.is;
          number = number_behind n (length x.methods) b.rest (before xs h.class) (before (x ∷ xs) (suc h.class)) h.index
              (b.number ∙ ap (λ j. j + b.rest) (length-map x.methods (method_info k x.pool))) h.number (before_more (λ (f : ClassFile). f.methods) x xs h.class);
        }
