-- What is read of the matches of a command.
use Rattle.std.proofs.Common.{◌≡◌, ℕ, ◌^◌, Bool, true, false, List, [], ◌∷◌, Option, Some, None, Result, Ok, Err, refl, sym, ap, ◌∙◌, codes, length}
use Rattle.std.specs.Prelude.{◌&&◌, nat_lt, map, unwrap_or, option_map, option_and_then}
use Rattle.std.specs.Borrow.{Bor}
use Rattle.std.specs.Option.{option_map_or}
use Rattle.std.specs.List.{list_all}
use Rattle.std.specs.Char.{digit_value}
use Rattle.std.specs.Str.{bytes_eq}
use Rattle.std.specs.Str.Parse.{AllDigits, ParsesBool, ParsesUnsigned, digits_value, without_leading_plus}
use Rattle.std.proofs.lemmas.Bool.{lt-ltb, ltb-true}
use Rattle.std.proofs.lemmas.Slice.Eq.{bytes_eq-Decides}
use Rattle.clap.specs.ValueTests.{is_numeral}
use Rattle.clap.specs.Matches.{one_text, ReadsOne}
use Rattle.clap.specs.Walk.{Text, one_of, rows_of}
use Rattle.clap.specs.declared.parser.matches.Found.{Found}
use Rattle.clap.proofs.WalkLemmas.{one_text-rows, both}
use Rattle.arguments.specs.Commands.{flag_of, number_in}

-- a typed getter gives what `f` makes of the text of an id
pub read_text : {T : Type 0} (found : Found) (id : Text) (f : Text → Option T) (o : Option T) → (one_text found id ≡ None → o ≡ None)
    → ((t : Text) → one_text found id ≡ Some t → o ≡ f t) → o ≡ option_and_then f (one_of id (rows_of found))
read_text {T} found id f o none some = go (one_text found id) refl ∙ ap (option_and_then f) (one_text-rows found id)
  where
    go : (x : Option Text) → one_text found id ≡ x → o ≡ option_and_then f (one_text found id)
    go None e = none e ∙ sym (ap (option_and_then f) e)
    go (Some t) e = some t e ∙ sym (ap (option_and_then f) e)

-- ---- numbers

digits_pass : (ds : Text) → AllDigits 10 ds → list_all (λ d. nat_lt (digit_value d) 10) ds ≡ true
digits_pass [] h = refl
digits_pass (d ∷ ds) h = rw (lt-ltb (digit_value d) 10 h.0) (digits_pass ds h.1)

digits_from : (ds : Text) → list_all (λ d. nat_lt (digit_value d) 10) ds ≡ true → AllDigits 10 ds
digits_from [] e = tt
digits_from (d ∷ ds) e =
    let parts = both _ _ e in
    (ltb-true _ _ parts.0, digits_from ds parts.1)

abbrev is_small : Text → Bool
is_small ds = is_numeral ds && nat_lt (digits_value 10 ds) (2 ^ 32)

-- the number that a text is parsed as
pub number_parsed : {E : Type 0} (G : Text → Result ℕ E → Type 0) (t : Text) (o : Option ℕ) → ReadsOne G t o
    → ((u : Text) (r : Result ℕ E) → G u r → ParsesUnsigned 32 10 u r) → o ≡ number_in t
number_parsed {E} G t (Some n) reads only =
    let h = only t (Ok n) reads in
    let ds = without_leading_plus t in
    rw (lt-ltb 0 (length ds) h.0.0.0, digits_pass ds h.0.0.1, lt-ltb (digits_value 10 ds) (2 ^ 32) h.0.1) (ap (λ (k : ℕ). Some k) h.1)
number_parsed {E} G t None reads only = go (is_small (without_leading_plus t)) refl
  where
    go : (b : Bool) → is_small (without_leading_plus t) ≡ b → None ≡ number_in t
    go false e = rw e refl
    go true e =
        let outer = both _ _ e in
        let inner = both _ _ outer.0 in
        absurd (only t (Err reads.0) reads.1 ((ltb-true _ _ inner.0, digits_from (without_leading_plus t) inner.1), ltb-true _ _ outer.1))

-- ---- flags

abbrev is_true : Text → Bool
is_true t = bytes_eq t (codes "true")

-- the flag that a text is parsed as
pub flag_parsed : (E : Type 0) (t : Text) (o : Option Bool) → ReadsOne {E = E} ParsesBool t o → unwrap_or o false ≡ is_true t
flag_parsed E t (Some true) reads = rw reads refl
flag_parsed E t (Some false) reads = rw reads refl
flag_parsed E t None reads = go (is_true t) refl
  where
    go : (b : Bool) → is_true t ≡ b → false ≡ is_true t
    go false e = sym e
    go true e = absurd (reads.1.0 ((bytes_eq-Decides t (codes "true")).0 e))

pub flag_read : (E : Type 0) (found : Found) (id : Text) (o : Option Bool) → (one_text found id ≡ None → o ≡ None)
    → ((t : Text) → one_text found id ≡ Some t → ReadsOne {E = E} ParsesBool t o) → unwrap_or o false ≡ flag_of id (rows_of found)
flag_read E found id o none some = go (one_text found id) refl ∙ ap flag_in (one_text-rows found id)
  where
    flag_in : Option Text → Bool
    flag_in x = option_map_or is_true x false

    go : (x : Option Text) → one_text found id ≡ x → unwrap_or o false ≡ flag_in (one_text found id)
    go None e = ap (λ (p : Option Bool). unwrap_or p false) (none e) ∙ sym (ap flag_in e)
    go (Some t) e = flag_parsed E t o (some t e) ∙ sym (ap flag_in e)

-- ---- words

pub text_or : (o : Option (Bor Text)) (d : Bor Text) → d.now ≡ [] → (unwrap_or o d).now ≡ unwrap_or (option_map (λ s. s.now) o) []
text_or None d e = e
text_or (Some s) d e = refl

pub texts_or : (o : Option (Bor (List (Bor Text)))) (d : Bor (List (Bor Text))) → d.now ≡ []
    → map (λ s. s.now) (unwrap_or o d).now ≡ unwrap_or (option_map (λ s. map (λ v. v.now) s.now) o) []
texts_or None d e = ap (map (λ (s : Bor Text). s.now)) e
texts_or (Some s) d e = refl
