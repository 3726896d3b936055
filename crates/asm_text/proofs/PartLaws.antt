-- Each part of a line is read from just its words.
use Rattle.std.proofs.Common.{◌≡◌, ℕ, ◌^◌, ◌<◌, ℤ, Bool, true, false, cond, List, [], ◌∷◌, ◌++◌, length, Option, Some, None, refl, ap, subst, ◌∙◌, arith, inl, inr, ◌⊎◌}
use Rattle.std.specs.Prelude.{decimal, codes, FitsSigned}
use Rattle.std.specs.Int.{w8, w16, w32, w64}
use Rattle.std.specs.Fmt.{signed_decimal}
use Rattle.items.proofs.Binds.{some_is, bind_is}
use Rattle.asm_text.specs.declared.line.Flag.{Flag}
use Rattle.asm_text.specs.declared.line.Flag.TheVariants as flags
use Rattle.asm_text.specs.declared.line.Declared.{Declared}
use Rattle.asm_text.specs.declared.line.FrameType.{FrameType}
use Rattle.asm_text.specs.declared.line.FrameType.TheVariants as types
use Rattle.asm_text.specs.declared.instruction.Constant.{Constant}
use Rattle.asm_text.specs.declared.instruction.Constant.TheVariants as constants
use Rattle.asm_text.specs.declared.instruction.Case.{Case}
use Rattle.asm_text.specs.declared.instruction.Element.{Element}
use Rattle.asm_text.specs.declared.instruction.Element.TheVariants as elements
use Rattle.asm_text.specs.Words.{same_word, is_word, IsWord}
use Rattle.asm_text.specs.Mnemonics.{named, flag_rows, flag_word, element_rows, element_word}
use Rattle.asm_text.specs.LineText.{frame_type_words, constant_words, case_words, caught_word, is_allowed, IsFrameType, IsConstant, IsCase, IsCaught}
use Rattle.asm_text.specs.Parsing.{Words, Reader, name_at, number_at, int_at, both, map_value, most8, most16, most32, most64, flag_at, frame_type_by, frame_type_at, caught_by, caught_at, constant_by, constant_at, case_at}
use Rattle.asm_text.proofs.Tests.{cond_some, some, some_same}
use Rattle.asm_text.proofs.NumberLaws.{fits_of, int_of_fits}
use Rattle.asm_text.proofs.ReaderLaws.{IsReader, same_is, name_reader, number_reader, int_reader, both_reader, named_takes}

-- the same words under another name, with what fits
pub renamed : {A : Type 0} {s : A → Words} {F G : A → Type 0} {reader : Reader A} → IsReader s F reader → ((x : A) → F x → G x) → ((x : A) → G x → F x) → IsReader s G reader
renamed f to from = record {
  takes = λ ws x e. let t = f.takes ws x e in (t.0, to x.0 t.1);
  again = λ a rest fits. f.again a rest (from a fits);
}

abbrev one_int : ℤ → Words
one_int z = signed_decimal z ∷ []

abbrev one_number : ℕ → Words
one_number n = decimal n ∷ []

pub reader8 : IsReader one_int (λ z. FitsSigned w8 z) (int_at most8)
reader8 = renamed (int_reader most8 (omega arith)) (λ z is. fits_of w8 most8 z (omega arith) is) (λ z is. int_of_fits w8 most8 z (omega arith) is)

pub reader16 : IsReader one_int (λ z. FitsSigned w16 z) (int_at most16)
reader16 = renamed (int_reader most16 (omega arith)) (λ z is. fits_of w16 most16 z (omega arith) is) (λ z is. int_of_fits w16 most16 z (omega arith) is)

pub reader32 : IsReader one_int (λ z. FitsSigned w32 z) (int_at most32)
reader32 = renamed (int_reader most32 (omega arith)) (λ z is. fits_of w32 most32 z (omega arith) is) (λ z is. int_of_fits w32 most32 z (omega arith) is)

pub reader64 : IsReader one_int (λ z. FitsSigned w64 z) (int_at most64)
reader64 = renamed (int_reader most64 (omega arith)) (λ z is. fits_of w64 most64 z (omega arith) is) (λ z is. int_of_fits w64 most64 z (omega arith) is)

pub number8 : IsReader one_number (λ n. n < 2 ^ 8) (number_at 255)
number8 = renamed (number_reader 255 (omega arith)) (λ n is. omega arith) (λ n is. omega arith)

pub number16 : IsReader one_number (λ n. n < 2 ^ 16) (number_at 65535)
number16 = renamed (number_reader 65535 (omega arith)) (λ n is. omega arith) (λ n is. omega arith)

-- ---- a word from a table

pub flag_takes : (w : List ℕ) (f : Flag) → named flag_rows w ≡ Some f → w ≡ flag_word f
flag_takes w f e = named_takes flag_word flag_rows w f (refl, (refl, (refl, (refl, (refl, (refl, (refl, (refl, (refl, (refl, tt)))))))))) e

pub flag_named_again : (f : Flag) → named flag_rows (flag_word f) ≡ Some f
flag_named_again flags.Public = refl
flag_named_again flags.Private = refl
flag_named_again flags.Static = refl
flag_named_again flags.Final = refl
flag_named_again flags.Super = refl
flag_named_again flags.Synchronized = refl
flag_named_again flags.Volatile = refl
flag_named_again flags.Native = refl
flag_named_again flags.Interface = refl
flag_named_again flags.Abstract = refl

pub element_takes : (w : List ℕ) (e : Element) → named element_rows w ≡ Some e → w ≡ element_word e
element_takes w x e = named_takes element_word element_rows w x (refl, (refl, (refl, (refl, (refl, (refl, tt)))))) e

pub element_again : (e : Element) → named element_rows (element_word e) ≡ Some e
element_again elements.Boolean = refl
element_again elements.Char = refl
element_again elements.Byte = refl
element_again elements.Short = refl
element_again elements.Int = refl
element_again elements.Long = refl

abbrev one_flag : Flag → Words
one_flag f = flag_word f ∷ []

pub flag_reader : (declared : Declared) → IsReader one_flag (λ f. is_allowed declared f ≡ true) (flag_at declared)
flag_reader declared = record { takes = takes; again = again }
  where
    takes : (ws : Words) (x : Flag × Words) → flag_at declared ws ≡ Some x → (ws ≡ one_flag x.0 ++ x.1) × (is_allowed declared x.0 ≡ true)
    takes [] x e = absurd cc
    takes (w ∷ ws) x e =
        let f = some_is (named flag_rows w) (λ f. cond (is_allowed declared f) (Some (f, ws)) None) x e in
        let t = cond_some (is_allowed declared f.0) (Some (f.0, ws)) x f.2 in
        subst (λ (y : Flag × Words). ((w ∷ ws) ≡ one_flag y.0 ++ y.1) × (is_allowed declared y.0 ≡ true)) (some_same (f.0, ws) x t.1)
        (ap (λ (v : List ℕ). v ∷ ws) (flag_takes w f.0 f.1), t.0)

    again : (f : Flag) (rest : Words) → is_allowed declared f ≡ true → flag_at declared (one_flag f ++ rest) ≡ Some (f, rest)
    again f rest allowed =
        bind_is (named flag_rows (flag_word f)) (λ f. cond (is_allowed declared f) (Some (f, rest)) None) f (Some (f, rest)) (flag_named_again f) (rw allowed refl)

-- ---- a word by which the next is read

-- the parts of a test
pub split_if : {A : Type 0} (b : Bool) (x y o : A) → cond b x y ≡ o → ((b ≡ true) × (x ≡ o)) ⊎ ((b ≡ false) × (y ≡ o))
split_if true x y o e = inl (refl, e)
split_if false x y o e = inr (refl, e)

-- what is taken of a word and of those after it
abbrev TakesBy : {A : Type 0} → (A → Words) → (A → Type 0) → List ℕ → Words → A × Words → Type 0
TakesBy s F w rest x = ((w ∷ rest) ≡ s x.0 ++ x.1) × F x.0

module _ {A : Type 0} (s : A → Words) (F : A → Type 0) (w : List ℕ) (rest : Words) (x : A × Words) where
  -- the word is the whole value
  by_word : (text : List ℕ) (a : A) → same_word w text ≡ true → some (a, rest) ≡ Some x → (text ∷ rest) ≡ s a ++ rest → F a → TakesBy s F w rest x
  by_word text a test e parts fits =
      let here : (w ∷ rest) ≡ s a ++ rest = ap (λ (v : List ℕ). v ∷ rest) (same_is w text test) ∙ parts in
      subst (λ (y : A × Words). TakesBy s F w rest y) (some_same (a, rest) x e) (here, fits)

  -- a value comes behind the word
  by_value : {B : Type 0} {t : B → Words} {G : B → Type 0} {reader : Reader B} (text : List ℕ) (make : B → A) → IsReader t G reader → same_word w text ≡ true
      → map_value make reader rest ≡ Some x → ((b : B) → (text ∷ t b) ≡ s (make b)) → ((b : B) → G b → F (make b)) → TakesBy s F w rest x
  by_value {t = t} {reader = reader} text make f test e parts fits =
      let v = some_is (reader rest) (λ y. Some (make y.0, y.1)) x e in
      let r = f.takes rest v.0 v.1 in
      let here : (w ∷ rest) ≡ s (make v.0.0) ++ v.0.1 = (λ i. same_is w text test i ∷ r.0 i) ∙ ap (λ (ws : Words). ws ++ v.0.1) (parts v.0.0) in
      subst (λ (y : A × Words). TakesBy s F w rest y) (some_same (make v.0.0, v.0.1) x v.2) (here, fits v.0.0 r.1)

value_again : {A B : Type 0} {t : B → Words} {G : B → Type 0} {reader : Reader B} (make : B → A) → IsReader t G reader → (b : B) (rest : Words) → G b
    → map_value make reader (t b ++ rest) ≡ Some (make b, rest)
value_again {t = t} {reader = reader} make f b rest fits = bind_is (reader (t b ++ rest)) (λ y. Some (make y.0, y.1)) (b, rest) (Some (make b, rest)) (f.again b rest fits) refl

-- ---- constants

constant_takes : (w : List ℕ) (rest : Words) (x : Constant × Words) → constant_by w rest ≡ Some x → TakesBy constant_words IsConstant w rest x
constant_takes w rest x e =
    elim (split_if (same_word w (codes "int")) (map_value constants.Int (int_at most32) rest) _ (Some x) e) [
      | inl h ↦ by_value constant_words IsConstant w rest x (codes "int") constants.Int reader32 h.0 h.1 (λ z. refl) (λ z is. is)
      | inr h ↦
          elim (split_if (same_word w (codes "long")) (map_value constants.Long (int_at most64) rest) _ (Some x) h.1) [
            | inl h ↦ by_value constant_words IsConstant w rest x (codes "long") constants.Long reader64 h.0 h.1 (λ z. refl) (λ z is. is)
            | inr h ↦
                let t = cond_some (same_word w (codes "text")) (map_value constants.Text name_at rest) x h.1 in
                by_value constant_words IsConstant w rest x (codes "text") constants.Text name_reader t.0 t.1 (λ z. refl) (λ z is. is)
          ]
    ]

pub constant_reader : IsReader constant_words IsConstant constant_at
constant_reader = record { takes = takes; again = again }
  where
    takes : (ws : Words) (x : Constant × Words) → constant_at ws ≡ Some x → (ws ≡ constant_words x.0 ++ x.1) × IsConstant x.0
    takes [] x e = absurd cc
    takes (w ∷ ws) x e = constant_takes w ws x e

    again : (a : Constant) (rest : Words) → IsConstant a → constant_at (constant_words a ++ rest) ≡ Some (a, rest)
    again (constants.Int n) rest fits = value_again constants.Int reader32 n rest fits
    again (constants.Long n) rest fits = value_again constants.Long reader64 n rest fits
    again (constants.Text t) rest fits = value_again constants.Text name_reader t rest fits

-- ---- types of frames

type_takes : (w : List ℕ) (rest : Words) (x : FrameType × Words) → frame_type_by w rest ≡ Some x → TakesBy frame_type_words IsFrameType w rest x
type_takes w rest x e =
    elim (split_if (same_word w (codes "top")) (some (types.Top, rest)) _ (Some x) e) [
      | inl h ↦ by_word frame_type_words IsFrameType w rest x (codes "top") types.Top h.0 h.1 refl tt
      | inr h ↦
          elim (split_if (same_word w (codes "int")) (some (types.Int, rest)) _ (Some x) h.1) [
            | inl h ↦ by_word frame_type_words IsFrameType w rest x (codes "int") types.Int h.0 h.1 refl tt
            | inr h ↦
                elim (split_if (same_word w (codes "long")) (some (types.Long, rest)) _ (Some x) h.1) [
                  | inl h ↦ by_word frame_type_words IsFrameType w rest x (codes "long") types.Long h.0 h.1 refl tt
                  | inr h ↦
                      elim (split_if (same_word w (codes "null")) (some (types.Null, rest)) _ (Some x) h.1) [
                        | inl h ↦ by_word frame_type_words IsFrameType w rest x (codes "null") types.Null h.0 h.1 refl tt
                        | inr h ↦ later_type_takes w rest x h.1
                      ]
                ]
          ]
    ]
  where
    later_type_takes : (w : List ℕ) (rest : Words) (x : FrameType × Words)
        → cond (same_word w (codes "this")) (some (types.This, rest)) (cond (same_word w (codes "new")) (map_value types.New name_at rest) (cond (same_word w (codes "ref")) (map_value types.Ref name_at rest) None)) ≡ Some x
        → TakesBy frame_type_words IsFrameType w rest x
    later_type_takes w rest x e =
        elim (split_if (same_word w (codes "this")) (some (types.This, rest)) _ (Some x) e) [
          | inl h ↦ by_word frame_type_words IsFrameType w rest x (codes "this") types.This h.0 h.1 refl tt
          | inr h ↦
              elim (split_if (same_word w (codes "new")) (map_value types.New name_at rest) _ (Some x) h.1) [
                | inl h ↦ by_value frame_type_words IsFrameType w rest x (codes "new") types.New name_reader h.0 h.1 (λ z. refl) (λ z is. is)
                | inr h ↦
                    let t = cond_some (same_word w (codes "ref")) (map_value types.Ref name_at rest) x h.1 in
                    by_value frame_type_words IsFrameType w rest x (codes "ref") types.Ref name_reader t.0 t.1 (λ z. refl) (λ z is. is)
              ]
        ]

pub frame_type_reader : IsReader frame_type_words IsFrameType frame_type_at
frame_type_reader = record { takes = takes; again = again }
  where
    takes : (ws : Words) (x : FrameType × Words) → frame_type_at ws ≡ Some x → (ws ≡ frame_type_words x.0 ++ x.1) × IsFrameType x.0
    takes [] x e = absurd cc
    takes (w ∷ ws) x e = type_takes w ws x e

    again : (a : FrameType) (rest : Words) → IsFrameType a → frame_type_at (frame_type_words a ++ rest) ≡ Some (a, rest)
    again types.Top rest fits = refl
    again types.Int rest fits = refl
    again types.Long rest fits = refl
    again types.Null rest fits = refl
    again types.This rest fits = refl
    again (types.New label) rest fits = value_again types.New name_reader label rest fits
    again (types.Ref name) rest fits = value_again types.Ref name_reader name rest fits

pub frame_type_words_some : (a : FrameType) → 0 < length (frame_type_words a)
frame_type_words_some types.Top = omega arith
frame_type_words_some types.Int = omega arith
frame_type_words_some types.Long = omega arith
frame_type_words_some types.Null = omega arith
frame_type_words_some types.This = omega arith
frame_type_words_some (types.New label) = omega arith
frame_type_words_some (types.Ref name) = omega arith

-- ---- cases of a lookup

pub case_reader : IsReader case_words IsCase case_at
case_reader = record { takes = takes; again = again }
  where
    pair : IsReader (λ (x : ℤ × List ℕ). one_int x.0 ++ (x.1 ∷ [])) (λ x. FitsSigned w32 x.0 × IsWord x.1) (both (int_at most32) name_at)
    pair = both_reader reader32 name_reader

    takes : (ws : Words) (x : Case × Words) → case_at ws ≡ Some x → (ws ≡ case_words x.0 ++ x.1) × IsCase x.0
    takes ws x e =
        let v = some_is (both (int_at most32) name_at ws) (λ y. Some (record { value = y.0.0; label = y.0.1 }, y.1)) x e in
        let r = pair.takes ws v.0 v.1 in
        let made : Case = record { value = v.0.0.0; label = v.0.0.1 } in
        subst (λ (y : Case × Words). (ws ≡ case_words y.0 ++ y.1) × IsCase y.0) (some_same (made, v.0.1) x v.2) (r.0, r.1)

    again : (a : Case) (rest : Words) → IsCase a → case_at (case_words a ++ rest) ≡ Some (a, rest)
    again a rest fits =
        bind_is (both (int_at most32) name_at (case_words a ++ rest)) (λ y. Some (record { value = y.0.0; label = y.0.1 }, y.1)) ((a.value, a.label), rest) (Some (a, rest))
        (pair.again (a.value, a.label) rest fits) refl

-- ---- what a row catches

abbrev one_caught : Option (List ℕ) → Words
one_caught c = caught_word c ∷ []

caught_is : (w : List ℕ) (c : Option (List ℕ)) → caught_by w ≡ Some c → (w ≡ caught_word c) × IsCaught c
caught_is w c e =
    elim (split_if (same_word w (codes "any")) (some None) (cond (is_word w) (Some (Some w)) None) (Some c) e) [
      | inl h ↦ subst (λ (c : Option (List ℕ)). (w ≡ caught_word c) × IsCaught c) (some_same None c h.1) (same_is w (codes "any") h.0, tt)
      | inr h ↦
          let t = cond_some (is_word w) (Some (Some w)) c h.1 in
          subst (λ (c : Option (List ℕ)). (w ≡ caught_word c) × IsCaught c) (some_same (some w) c t.1) (refl, (t.0, h.0))
    ]

pub caught_reader : IsReader one_caught IsCaught caught_at
caught_reader = record { takes = takes; again = again }
  where
    takes : (ws : Words) (x : Option (List ℕ) × Words) → caught_at ws ≡ Some x → (ws ≡ one_caught x.0 ++ x.1) × IsCaught x.0
    takes [] x e = absurd cc
    takes (w ∷ ws) x e =
        let c = some_is (caught_by w) (λ c. Some (c, ws)) x e in
        let r = caught_is w c.0 c.1 in
        subst (λ (y : Option (List ℕ) × Words). ((w ∷ ws) ≡ one_caught y.0 ++ y.1) × IsCaught y.0) (some_same (c.0, ws) x c.2) (ap (λ (v : List ℕ). v ∷ ws) r.0, r.1)

    again : (c : Option (List ℕ)) (rest : Words) → IsCaught c → caught_at (one_caught c ++ rest) ≡ Some (c, rest)
    again None rest fits = refl
    again (Some name) rest fits = bind_is (caught_by name) (λ c. Some (c, rest)) (Some name) (Some (Some name, rest)) (rw (fits.1, fits.0) refl) refl
