-- What was read of files is their contents in the store.
use Rattle.std.proofs.Common.{◌≡◌, ℕ, zero, suc, ◌+◌, get_or, add-one, String, string_bytes, ◌<◌, List, [], ◌∷◌, ◌++◌, length, take, drop, Option, Some, None, Result, Ok, Err, refl, sym, ap, subst, ◌∙◌, arith}
use Rattle.std.specs.Prelude.{All, IfErr, IsErrAnd}
use Rattle.std.specs.Global.{Global}
use Rattle.std.specs.List.{AllZip}
use Rattle.jvm_edges.specs.Causes.{Rose}
use Rattle.jvm_edges.specs.Files.{Files}
use Rattle.class_model.specs.declared.class_file.ClassFile.{ClassFile}
use Rattle.input_files.specs.declared.error.LoadError.{LoadError}
use Rattle.command_line.specs.Commands.{texts}
use Rattle.input_files.specs.Errors.{load_answer, loaded_answer}
use Rattle.input_files.specs.Contents.{Contents, IsClass}
use Rattle.input_files.specs.LoadCauses.{IsRead, NotRead}
use Rattle.program_files.specs.LoadCauses.{IsStopped}
use Rattle.input_files.specs.StoreFaults.{StoreFaults}
use Rattle.lib_table.specs.Spelled.{IsSpelled}

-- ---- one file after the other

zip_more : {A B : Type 0} (R : A → B → Type 0) (xs : List A) (ys : List B) (x : A) (y : B) → AllZip R xs ys → R x y → AllZip R (xs ++ x ∷ []) (ys ++ y ∷ [])
zip_more R [] [] x y all here = (here, tt)
zip_more R [] (b ∷ ys) x y all here = absurd all
zip_more R (a ∷ xs) [] x y all here = absurd all
zip_more R (a ∷ xs) (b ∷ ys) x y all here = (all.0, zip_more R xs ys x y all.1 here)

pub read_more : (known now : Option Files) (names : List (List ℕ)) (classes : List ClassFile) (name : List ℕ) (f : ClassFile) → AllZip (IsRead known) names classes → now ≡ known → IsRead now name f
    → AllZip (IsRead known) (names ++ name ∷ []) (classes ++ f ∷ [])
read_more known now names classes name f all same here = zip_more (IsRead known) names classes name f all (subst (λ (t : Option Files). IsRead t name f) same here)

pub stopped_at : (known now : Option Files) (faulty : Type 0) (names front back : List (List ℕ)) (name : List ℕ) (classes : List ClassFile) (n : ℕ) (error : LoadError) → names ≡ front ++ name ∷ back → length front ≡ n
    → AllZip (IsRead known) front classes → now ≡ known → NotRead now faulty n name error → IsStopped known faulty names error
stopped_at known now faulty names front back name classes n error parts here read same cause = record {
  front = front;
  name = name;
  back = back;
  classes = classes;
  parts = parts;
  read = read;
  cause = subst (λ (k : ℕ). NotRead known faulty k name error) (sym here) (subst (λ (t : Option Files). NotRead t faulty n name error) same cause);
}

-- ---- the words of the files, of which so many were read

texts_size : (names : List (String Global)) (i : ℕ) → i < length names → length (texts (take i names)) ≡ i
texts_size [] i lt = absurd (omega (arith, lt))
texts_size (x ∷ names) zero lt = refl
texts_size (x ∷ names) (suc i) lt = ap suc (texts_size names i (omega (arith, lt)))

texts_split : (names : List (String Global)) (i : ℕ) (s : String Global) → i < length names → s ≡ get_or names i s → texts names ≡ texts (take i names) ++ string_bytes s ∷ texts (drop (suc i) names)
texts_split [] i s lt is = absurd (omega (arith, lt))
texts_split (x ∷ names) zero s lt is = ap (λ (y : String Global). string_bytes y ∷ texts names) (sym is)
texts_split (x ∷ names) (suc i) s lt is = ap (λ (l : List (List ℕ)). string_bytes x ∷ l) (texts_split names i s (omega (arith, lt)) is)

texts_suc : (names : List (String Global)) (i : ℕ) (s : String Global) → i < length names → s ≡ get_or names i s → texts (take (suc i) names) ≡ texts (take i names) ++ string_bytes s ∷ []
texts_suc [] i s lt is = absurd (omega (arith, lt))
texts_suc (x ∷ names) zero s lt is = ap (λ (y : String Global). string_bytes y ∷ []) (sym is)
texts_suc (x ∷ names) (suc i) s lt is = ap (λ (l : List (List ℕ)). string_bytes x ∷ l) (texts_suc names i s (omega (arith, lt)) is)

-- one file more
pub one_more_read : (known now : Option Files) (names : List (String Global)) (i : ℕ) (s : String Global) (name : List ℕ) (classes more : List ClassFile) (f : ClassFile) → i < length names → s ≡ get_or names i s → name ≡ string_bytes s
    → more ≡ classes ++ f ∷ [] → AllZip (IsRead known) (texts (take i names)) classes → now ≡ known → IsRead now name f → AllZip (IsRead known) (texts (take (i + 1) names)) more
one_more_read known now names i s name classes more f lt is name_is more_is all same here =
    let words : texts (take (i + 1) names) ≡ texts (take i names) ++ name ∷ [] =
    ap (λ (n : ℕ). texts (take n names)) (add-one i) ∙ texts_suc names i s lt is ∙ ap (λ (n : List ℕ). texts (take i names) ++ n ∷ []) (sym name_is) in
    subst (λ (ns : List (List ℕ)). AllZip (IsRead known) ns more) (sym words)
    (subst (λ (fs : List ClassFile). AllZip (IsRead known) (texts (take i names) ++ name ∷ []) fs) (sym more_is)
    (read_more known now (texts (take i names)) classes name f all same here))

-- One file was not read. The store had no fault before it, so a fault since then is one of the whole call.
pub one_not_read : (known now : Option Files) (before since after : ℕ) (names : List (String Global)) (i : ℕ) (s : String Global) (name : List ℕ) (classes : List ClassFile) (error : LoadError) → i < length names → s ≡ get_or names i s
    → name ≡ string_bytes s → AllZip (IsRead known) (texts (take i names)) classes → now ≡ known → since ≡ before → NotRead now (Rose since after) i name error → IsStopped known (Rose before after) (texts names) error
one_not_read known now before since after names i s name classes error lt is name_is all same faults cause =
    stopped_at known now (Rose before after) (texts names) (texts (take i names)) (texts (drop (suc i) names)) name classes i error
    (texts_split names i s lt is ∙ ap (λ (n : List ℕ). texts (take i names) ++ n ∷ texts (drop (suc i) names)) (sym name_is))
    (texts_size names i lt) all same (subst (λ (n : ℕ). NotRead now (Rose n after) i name error) faults cause)

-- ---- what a `?` answers

pub err_is : {A E : Type 0} (r : Result A E) (error : E) (P : E → Type 0) → IsErrAnd r (λ e. e ≡ error) → P error → IfErr r P
err_is (Ok x) error P is p = absurd is
err_is (Err e) error P is p = subst P (sym is) p

pub faults_is : {A : Type 0} (r : Result A LoadError) (error : LoadError) (before since after : ℕ) → IsErrAnd r (λ e. e ≡ error) → since ≡ before → StoreFaults (load_answer error) since after → StoreFaults (loaded_answer r) before after
faults_is (Ok x) error before since after is same faults = absurd is
faults_is (Err e) error before since after is same faults =
    subst (λ (x : LoadError). StoreFaults (load_answer x) before after) (sym is) (subst (λ (n : ℕ). StoreFaults (load_answer error) n after) same faults)

-- ---- what was read is a class file that has bytes

spelled_of : (known : Option Files) (name : List ℕ) (f : ClassFile) → IsRead known name f → IsSpelled f
spelled_of known name f read = by read.contents read.class
  where
    by : (contents : Contents) → IsClass contents f → IsSpelled f
    by None class = absurd class
    by (Some bytes) class = (bytes, class.1)

all_more : {A : Type 0} (P : A → Type 0) (x : A) (xs : List A) → P x → All P xs → All P (x ∷ xs)
all_more P x xs here rest zero d low = here
all_more P x xs here rest (suc k) d low = let less : k < length xs = omega arith in rest k d less

pub are_spelled : (known : Option Files) (names : List (List ℕ)) (classes : List ClassFile) → AllZip (IsRead known) names classes → All IsSpelled classes
are_spelled known [] [] read = λ k d low. absurd (omega arith)
are_spelled known [] (f ∷ classes) read = absurd read
are_spelled known (name ∷ names) [] read = absurd read
are_spelled known (name ∷ names) (f ∷ classes) read =
    all_more IsSpelled f classes (spelled_of known name f read.0) (are_spelled known names classes read.1)
