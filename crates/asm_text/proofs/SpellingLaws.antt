-- A line is read where the text begins with it, and nowhere else.
use Rattle.std.proofs.Common.{◌≡◌, ℕ, zero, suc, ◌+◌, Bool, true, false, not, cond, List, [], ◌∷◌, ◌++◌, length, take, drop, get_or, Some, None, refl, sym, ap, subst, ◌∙◌, append_assoc, append-nil, length-append, arith, inl, inr, eqb, ltb}
use Rattle.std.specs.Prelude.{codes, ◌&&◌}
use Rattle.std.specs.Option.{option_map}
use Rattle.std.specs.List.{All, list_all, AllByRecursion, position_or_len, join_with_byte}
use Rattle.std.proofs.lemmas.Bool.{eqb-true, lt-ltb}
use Rattle.std.proofs.lemmas.List.{take_at, drop_at}
use Rattle.std.proofs.lemmas.List.Elements.{All-from_recursion}
use Rattle.std.proofs.lemmas.List.Sums.{split_at_first, passes_at_first}
use Rattle.std.proofs.lemmas.List.Splits.{slice_split_none, slice_split_at, join_with_byte-slice_split}
use Rattle.items.specs.Options.{◌>>=◌}
use Rattle.items.proofs.Binds.{some_is, bind_is}
use Rattle.asm_text.specs.declared.line.Line.{Line}
use Rattle.asm_text.specs.declared.line.Line.TheVariants as lines
use Rattle.asm_text.specs.Words.{is_word_byte, IsWord, spaced, join, cut_at, parts_of, without_spaces}
use Rattle.asm_text.specs.LineText.{line_words, line_text, IsLine, begins_comment}
use Rattle.asm_text.specs.Parsing.{line_of, is_blank, line_by, line_at}
use Rattle.asm_text.specs.Spelling.{spaces, Says, is_one_line, BeginsWith}
use Rattle.asm_text.specs.Spelling.Says.{nothing, comment, words}
use Rattle.asm_text.proofs.Tests.{bool_cases, both_true, some, some_same}
use Rattle.asm_text.proofs.CutLaws.{cut_is}
use Rattle.asm_text.proofs.LineLaws.{IsSpelled, TakesLine, line_takes, line_again}
use Rattle.asm_text.proofs.WordLaws.{AreWords, NoComment, word_all, line_are, line_no_comment}

abbrev same : ℕ → ℕ → Bool
same c b = eqb b c

-- ---- words and spaces

join_is : (ws : List (List ℕ)) → join ws ≡ join_with_byte 32 ws
join_is [] = refl
join_is (w ∷ []) = append-nil w
join_is (w ∷ v ∷ ws) = ap (λ (t : List ℕ). w ++ (32 ∷ t)) (join_is (v ∷ ws))

join_parts : (t : List ℕ) → join (parts_of t) ≡ t
join_parts t = join_is (parts_of t) ∙ join_with_byte-slice_split 32 t

no_space_byte : (b : ℕ) → is_word_byte b ≡ true → eqb b 32 ≡ false
no_space_byte b e =
    let t = both_true (ltb b 128 && not (eqb b 32)) (not (eqb b 10)) e in
    let s = both_true (ltb b 128) (not (eqb b 32)) t.0 in
    not_true (eqb b 32) s.1
  where
    not_true : (b : Bool) → not b ≡ true → b ≡ false
    not_true true e = absurd cc
    not_true false e = refl

no_spaces : (w : List ℕ) → list_all is_word_byte w ≡ true → AllByRecursion (λ b. same 32 b ≡ false) w
no_spaces [] e = tt
no_spaces (b ∷ bs) e = let t = both_true (is_word_byte b) (list_all is_word_byte bs) e in (no_space_byte b t.0, no_spaces bs t.1)

all_no_spaces : (w : List ℕ) → IsWord w → All (λ b. same 32 b ≡ false) w
all_no_spaces w is = All-from_recursion (λ b. same 32 b ≡ false) w (no_spaces w (word_all w is))

parts_join : (w : List ℕ) (ws : List (List ℕ)) → AreWords (w ∷ ws) → parts_of (join (w ∷ ws)) ≡ w ∷ ws
parts_join w [] are = ap parts_of (append-nil w) ∙ slice_split_none (same 32) w (all_no_spaces w are.0)
parts_join w (v ∷ ws) are =
    slice_split_at (same 32) w 32 (join (v ∷ ws)) (all_no_spaces w are.0) refl ∙ ap (λ (ps : List (List ℕ)). w ∷ ps) (parts_join v ws are.1)

-- ---- spaces in front

trimmed : (bytes : List ℕ) → (count : ℕ) × (bytes ≡ spaces count ++ without_spaces bytes)
trimmed [] = (0, refl)
trimmed (b ∷ bs) =
    elim (bool_cases (eqb b 32)) [
      | inl h ↦
          let rest = trimmed bs in
          let first : b ≡ 32 = eqb-true b 32 h in
          let here : without_spaces (b ∷ bs) ≡ without_spaces bs = rw h refl in
          (suc rest.0, (λ i. first i ∷ rest.1 i) ∙ ap (λ (t : List ℕ). spaces (suc rest.0) ++ t) (sym here))
      | inr h ↦
          let here : without_spaces (b ∷ bs) ≡ b ∷ bs = rw h refl in
          (0, sym here)
    ]

trim_again : (count : ℕ) (t : List ℕ) → without_spaces (spaces count ++ t) ≡ without_spaces t
trim_again zero t = refl
trim_again (suc n) t = trim_again n t

trim_stays : (b : ℕ) (bs : List ℕ) → eqb b 32 ≡ false → without_spaces (b ∷ bs) ≡ b ∷ bs
trim_stays b bs h = rw h refl

-- the words of a line begin with no space
first_stays : (w : List ℕ) (t : List ℕ) → IsWord w → without_spaces (w ++ t) ≡ w ++ t
first_stays [] t is = absurd cc
first_stays (b ∷ bs) t is =
    let all = both_true (is_word_byte b) (list_all is_word_byte bs) (word_all (b ∷ bs) is) in
    trim_stays b (bs ++ t) (no_space_byte b all.0)

not_blank : (w : List ℕ) (t : List ℕ) → IsWord w → begins_comment w ≡ false → is_blank (w ++ t) ≡ false
not_blank [] t is e = absurd cc
not_blank (b ∷ bs) t is e = e

-- ---- what the bytes say

-- a line that isn't a comment
spelled_line : (l : Line) → IsSpelled l → ((label : List ℕ) → l ≡ lines.Label label → IsWord label → begins_comment label ≡ false) → IsLine l
spelled_line lines.Blank fits plain = fits
spelled_line (lines.Class fs name) fits plain = fits
spelled_line (lines.Super name) fits plain = fits
spelled_line (lines.Implements name) fits plain = fits
spelled_line (lines.Field fs name descriptor) fits plain = fits
spelled_line (lines.Method fs name descriptor) fits plain = fits
spelled_line (lines.Stack stack locals) fits plain = fits
spelled_line (lines.Label label) fits plain = (fits, plain label refl fits)
spelled_line (lines.Frame locals stack) fits plain = fits
spelled_line (lines.Catch caught from to using) fits plain = fits
spelled_line lines.End fits plain = fits
spelled_line (lines.Instruction opcode ops) fits plain = fits

label_plain : (label t : List ℕ) → IsWord label → (label ++ codes ":") ++ [] ≡ t → is_blank t ≡ false → begins_comment label ≡ false
label_plain [] t is e plain = absurd cc
label_plain (b ∷ bs) t is e plain = ap is_blank e ∙ plain

-- the words that say a line, with no comment in front
says_words : (bytes : List ℕ) (count : ℕ) (t : List ℕ) (l : Line) → bytes ≡ spaces count ++ t → is_blank t ≡ false → TakesLine (parts_of t) l → Says bytes l
says_words bytes count t l is plain takes =
    let text_is : join (line_words l) ≡ t = ap join (sym takes.words) ∙ join_parts t in
    let fits : IsLine l = spelled_line l takes.fits (λ label e word. label_plain label t word (ap (λ (k : Line). join (line_words k)) (sym e) ∙ text_is) plain) in
    words count l (is ∙ ap (λ (s : List ℕ). spaces count ++ s) (sym text_is)) fits

says_by : (bytes : List ℕ) (count : ℕ) (t : List ℕ) (l : Line) → bytes ≡ spaces count ++ t → line_by t ≡ Some l → Says bytes l
says_by bytes count [] l is e = subst (λ (k : Line). Says bytes k) (some_same lines.Blank l e) (nothing count (is ∙ append-nil (spaces count)))
says_by bytes count (b ∷ bs) l is e =
    elim (bool_cases (eqb b 35)) [
      | inl h ↦
          let first : b ≡ 35 = eqb-true b 35 h in
          let f : some lines.Blank ≡ Some l = rw h at e in
          subst (λ (k : Line). Says bytes k) (some_same lines.Blank l f) (comment count bs (is ∙ ap (λ (c : ℕ). spaces count ++ c ∷ bs) first))
      | inr h ↦
          let f : line_of (parts_of (b ∷ bs)) ≡ Some l = rw h at e in
          says_words bytes count (b ∷ bs) l is h (line_takes (parts_of (b ∷ bs)) l f)
    ]

line_says : (bytes : List ℕ) (l : Line) → line_by (without_spaces bytes) ≡ Some l → Says bytes l
line_says bytes l e = let cut = trimmed bytes in says_by bytes cut.0 (without_spaces bytes) l cut.1 e

words_heard : (ws : List (List ℕ)) (l : Line) → AreWords ws → NoComment ws → line_of ws ≡ Some l → line_by (without_spaces (join ws)) ≡ Some l
words_heard [] l are plain e = absurd plain
words_heard (w ∷ ws) l are plain e =
    let stays : without_spaces (join (w ∷ ws)) ≡ join (w ∷ ws) = first_stays w (spaced ws) are.0 in
    let some_words : is_blank (join (w ∷ ws)) ≡ false = not_blank w (spaced ws) are.0 plain in
    ap line_by stays ∙ ap (λ b. cond b (Some lines.Blank) (line_of (parts_of (join (w ∷ ws))))) some_words ∙ ap line_of (parts_join w ws are) ∙ e

line_heard : (bytes : List ℕ) (l : Line) → Says bytes l → line_by (without_spaces bytes) ≡ Some l
line_heard bytes l (nothing count e) = ap (λ (s : List ℕ). line_by (without_spaces s)) (e ∙ sym (append-nil (spaces count))) ∙ ap line_by (trim_again count [])
line_heard bytes l (comment count text e) = ap (λ (s : List ℕ). line_by (without_spaces s)) e ∙ ap line_by (trim_again count (35 ∷ text))
line_heard bytes l (words count k e fits) =
    ap (λ (s : List ℕ). line_by (without_spaces s)) e ∙ ap line_by (trim_again count (join (line_words l)))
    ∙ words_heard (line_words l) l (line_are l fits) (line_no_comment l fits) (line_again l fits)

-- ---- the line feed

not_true : (b : Bool) → not b ≡ true → b ≡ false
not_true true e = absurd cc
not_true false e = refl

before_end : (xs : List ℕ) → is_one_line (take (position_or_len (same 10) xs) xs) ≡ true
before_end [] = refl
before_end (x ∷ xs) =
    elim (bool_cases (eqb x 10)) [
      | inl h ↦ rw h refl
      | inr h ↦
          let at = position_or_len (same 10) xs in
          let here : position_or_len (same 10) (x ∷ xs) ≡ suc at = ap (λ b. cond (not b) (1 + at) 0) h ∙ omega arith in
          ap (λ (n : ℕ). is_one_line (take n (x ∷ xs))) here ∙ rw h (before_end xs)
    ]

line_cut : (text front behind : List ℕ) → cut_at 10 text ≡ Some (front, behind) → (text ≡ front ++ 10 ∷ behind) × (is_one_line front ≡ true)
line_cut text front behind e =
    let cut = cut_is 10 text front behind e in
    let feed : get_or text (position_or_len (same 10) text) 0 ≡ 10 = eqb-true _ _ (passes_at_first (same 10) text 0 cut.inside) in
    (split_at_first (same 10) text 0 cut.inside ∙ (λ i. sym cut.front_is i ++ feed i ∷ sym cut.behind_is i), ap is_one_line cut.front_is ∙ before_end text)

end_is : (bytes rest : List ℕ) → is_one_line bytes ≡ true → position_or_len (same 10) (bytes ++ 10 ∷ rest) ≡ length bytes
end_is [] rest e = refl
end_is (b ∷ bs) rest e =
    let t = both_true (not (eqb b 10)) (is_one_line bs) e in
    let before = end_is bs rest t.1 in
    ap (λ c. cond c (1 + position_or_len (same 10) (bs ++ 10 ∷ rest)) 0) t.0 ∙ omega (arith, before)

line_cut_again : (bytes rest : List ℕ) → is_one_line bytes ≡ true → cut_at 10 (bytes ++ 10 ∷ rest) ≡ Some (bytes, rest)
line_cut_again bytes rest e =
    let text = bytes ++ 10 ∷ rest in
    let at = position_or_len (same 10) text in
    let place : at ≡ length bytes = end_is bytes rest e in
    let inside : ltb at (length text) ≡ true = lt-ltb at (length text) (omega (arith, place, length-append bytes (10 ∷ rest))) in
    let front : take at text ≡ bytes = take_at bytes (10 ∷ rest) at (sym place) in
    let size : length (bytes ++ 10 ∷ []) ≡ at + 1 = length-append bytes (10 ∷ []) ∙ omega (arith, place) in
    let behind : drop (at + 1) text ≡ rest = ap (λ (t : List ℕ). drop (at + 1) t) (sym (append_assoc bytes (10 ∷ []) rest)) ∙ drop_at (bytes ++ 10 ∷ []) rest (at + 1) size in
    ap (λ b. option_map (λ (at : ℕ). (take at text, drop (at + 1) text)) (cond b (Some at) None)) inside ∙ (λ i. some (front i, behind i))

-- ---- the line at the front of a text

pub begins : (text : List ℕ) (l : Line) (rest : List ℕ) → line_at text ≡ Some (l, rest) → BeginsWith text l rest
unfolding line_at
begins text l rest e =
    let parts = some_is (cut_at 10 text) (λ parts. line_by (without_spaces parts.0) >>= λ l. Some (l, parts.1)) (l, rest) e in
    let line = some_is (line_by (without_spaces parts.0.0)) (λ l. Some (l, parts.0.1)) (l, rest) parts.2 in
    let pair : (line.0, parts.0.1) ≡ (l, rest) = some_same _ _ line.2 in
    let line_is : line.0 ≡ l = ap (λ (p : Line × List ℕ). p.0) pair in
    let rest_is : parts.0.1 ≡ rest = ap (λ (p : Line × List ℕ). p.1) pair in
    let cut = line_cut text parts.0.0 parts.0.1 parts.1 in
    record {
      bytes = parts.0.0;
      parts = cut.0 ∙ ap (λ (r : List ℕ). parts.0.0 ++ 10 ∷ r) rest_is;
      one_line = cut.1;
      says = subst (λ (k : Line). Says parts.0.0 k) line_is (line_says parts.0.0 line.0 line.1);
    }

pub begins_again : (text : List ℕ) (l : Line) (rest : List ℕ) → BeginsWith text l rest → line_at text ≡ Some (l, rest)
unfolding line_at
begins_again text l rest h =
    bind_is (cut_at 10 text) (λ parts. line_by (without_spaces parts.0) >>= λ l. Some (l, parts.1)) (h.bytes, rest) (Some (l, rest))
    (ap (cut_at 10) h.parts ∙ line_cut_again h.bytes rest h.one_line)
    (bind_is (line_by (without_spaces h.bytes)) (λ l. Some (l, rest)) l (Some (l, rest)) (line_heard h.bytes l h.says) refl)

pub one_at_most : (text : List ℕ) (l k : Line) (rest more : List ℕ) → BeginsWith text l rest → BeginsWith text k more → (l ≡ k) × (rest ≡ more)
one_at_most text l k rest more h g =
    let pair : (l, rest) ≡ (k, more) = some_same _ _ (sym (begins_again text l rest h) ∙ begins_again text k more g) in
    (ap (λ (p : Line × List ℕ). p.0) pair, ap (λ (p : Line × List ℕ). p.1) pair)

-- ---- what is printed

no_feed_byte : (b : ℕ) → is_word_byte b ≡ true → not (eqb b 10) ≡ true
no_feed_byte b e = (both_true (ltb b 128 && not (eqb b 32)) (not (eqb b 10)) e).1

both_are : (a b : Bool) → a ≡ true → b ≡ true → (a && b) ≡ true
both_are a b e f = rw (e, f) refl

no_feeds : (w : List ℕ) → list_all is_word_byte w ≡ true → is_one_line w ≡ true
no_feeds [] e = refl
no_feeds (b ∷ bs) e =
    let t = both_true (is_word_byte b) (list_all is_word_byte bs) e in
    both_are (not (eqb b 10)) (is_one_line bs) (no_feed_byte b t.0) (no_feeds bs t.1)

one_line_append : (xs ys : List ℕ) → is_one_line xs ≡ true → is_one_line ys ≡ true → is_one_line (xs ++ ys) ≡ true
one_line_append [] ys e f = f
one_line_append (x ∷ xs) ys e f =
    let t = both_true (not (eqb x 10)) (is_one_line xs) e in
    both_are (not (eqb x 10)) (is_one_line (xs ++ ys)) t.0 (one_line_append xs ys t.1 f)

spaced_one_line : (ws : List (List ℕ)) → AreWords ws → is_one_line (spaced ws) ≡ true
spaced_one_line [] are = refl
spaced_one_line (w ∷ ws) are = one_line_append (32 ∷ w) (spaced ws) (no_feeds w (word_all w are.0)) (spaced_one_line ws are.1)

join_one_line : (ws : List (List ℕ)) → AreWords ws → is_one_line (join ws) ≡ true
join_one_line [] are = refl
join_one_line (w ∷ ws) are = one_line_append w (spaced ws) (no_feeds w (word_all w are.0)) (spaced_one_line ws are.1)

pub printed : (l : Line) (rest : List ℕ) → IsLine l → BeginsWith (line_text l ++ rest) l rest
printed l rest fits = record {
  bytes = join (line_words l);
  parts = append_assoc (join (line_words l)) (codes "\n") rest;
  one_line = join_one_line (line_words l) (line_are l fits);
  says = words 0 l refl fits;
}
