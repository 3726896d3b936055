-- The code of a method of a linked world is that of a member of a class, and what its constants mean has the same number.
use Rattle.std.proofs.Common.{◌≡◌, ◌⊎◌, inl, inr, ℕ, suc, ◌+◌, List, [], ◌∷◌, length, Option, Some, None, refl, ap, sym, ◌∙◌}
use Rattle.std.specs.Prelude.{get_or, slice_get}
use Rattle.std.specs.List.{flat_map, enumerate_from}
use Rattle.std.specs.Option.{option_and_then, option_map_or}
use Rattle.std.proofs.lemmas.List.{length-map}
use Rattle.std.proofs.lemmas.Option.{get_or_from_slice_get}
use Rattle.class_model.specs.declared.class_file.ClassFile.{ClassFile}
use Rattle.class_model.specs.declared.member.Member.{Member}
use Rattle.link_rules.specs.Program.{Program}
use Rattle.link_model.specs.declared.members.MethodCode.{MethodCode}
use Rattle.link_model.specs.declared.sites.Resolution.{Resolution}
use Rattle.link_model.specs.Codes.{code_of, instructions_of}
use Rattle.link_model.specs.Decoded.{code_at}
use Rattle.link_model.specs.Infos.{codes_in}
use Rattle.link_model.specs.Sites.{Linking, resolutions_in, method_resolutions}
use Rattle.link_model.specs.Worlds.{linking_of, world_of}
use Rattle.step_soundness.proofs.MethodNumbers.{left_at, right_at, map_at, Behind, split_at, mapped_at, shifted, none_more}

-- the code is that of a member, of the class at this place after the first k
pub record IsCodeOf (l : Linking) (k : ℕ) (files : List ClassFile) (n : ℕ) (code : MethodCode) : Type 0 where
  pub class : ℕ
  pub file : ClassFile
  pub file_is : slice_get files class ≡ Some file
  pub index : ℕ
  pub member : Member
  pub member_is : slice_get file.methods index ≡ Some member
  pub is : code_of member ≡ Some code
  pub resolutions : slice_get (flat_map (resolutions_in l) (enumerate_from k files)) n ≡ Some (method_resolutions l (k + class) file.pool member)

-- as many of them as codes
as_many : (l : Linking) (k : ℕ) (x : ClassFile) → length (resolutions_in l (k, x)) ≡ length (codes_in x)
as_many l k x = length-map x.methods (method_resolutions l k x.pool) ∙ sym (length-map x.methods code_of)

pub code_of_member : (l : Linking) (k : ℕ) (files : List ClassFile) (n : ℕ) (code : MethodCode)
    → slice_get (flat_map codes_in files) n ≡ Some (Some code) → IsCodeOf l k files n code
code_of_member l k [] n code e = absurd cc
code_of_member l k (x ∷ xs) n code e =
    by (split_at (codes_in x) (flat_map codes_in xs) n (Some code) e) (λ rest is. code_of_member l (k + 1) xs rest code is)
  where
    own : List (List Resolution)
    own = resolutions_in l (k, x)

    others : List (List Resolution)
    others = flat_map (resolutions_in l) (enumerate_from (k + 1) xs)

    by : (slice_get (codes_in x) n ≡ Some (Some code)) ⊎ Behind (codes_in x) (flat_map codes_in xs) n (Some code)
        → ((rest : ℕ) → slice_get (flat_map codes_in xs) rest ≡ Some (Some code) → IsCodeOf l (k + 1) xs rest code) → IsCodeOf l k (x ∷ xs) n code
    by (inl here) more =
        let h = mapped_at code_of x.methods n (Some code) here in
        record {
          class = 0;
          file = x;
          file_is = refl;
          index = n;
          member = h.from;
          member_is = h.at;
          is = h.is;
          resolutions = left_at own others n (method_resolutions l k x.pool h.from) (map_at (method_resolutions l k x.pool) x.methods n h.from h.at)
              ∙ ap (λ j. Some (method_resolutions l j x.pool h.from)) (none_more k);
        }
    by (inr b) more =
        let h = more b.rest b.is in
        record {
          class = suc h.class;
          file = h.file;
          file_is = h.file_is;
          index = h.index;
          member = h.member;
          member_is = h.member_is;
          is = h.is;
          resolutions = ap (slice_get (flat_map (resolutions_in l) (enumerate_from k (x ∷ xs)))) (b.number ∙ ap (λ j. j + b.rest) (sym (as_many l k x)))
              ∙ right_at own others b.rest ∙ h.resolutions
              ∙ ap (λ j. Some (method_resolutions l j h.file.pool h.member)) (shifted k h.class);
        }

flat_code : (o : Option (Option MethodCode)) (code : MethodCode) → option_and_then (λ c. c) o ≡ Some code → o ≡ Some (Some code)
flat_code None code e = absurd cc
flat_code (Some None) code e = absurd cc
flat_code (Some (Some x)) code e = ap (λ (o : Option MethodCode). Some o) e

-- of a method of a linked world
pub member_of_code : (p : Program) (n : ℕ) (code : MethodCode) → code_at (world_of p) n ≡ Some code → IsCodeOf (linking_of p) 0 p.classes n code
member_of_code p n code e = code_of_member (linking_of p) 0 p.classes n code (flat_code (slice_get (world_of p).codes n) code e)

-- what the constants of its instructions mean
pub resolutions_are : (p : Program) (n : ℕ) (code : MethodCode) (h : IsCodeOf (linking_of p) 0 p.classes n code)
    → get_or (world_of p).resolutions n [] ≡ method_resolutions (linking_of p) (0 + h.class) h.file.pool h.member
resolutions_are p n code h = get_or_from_slice_get (world_of p).resolutions n (method_resolutions (linking_of p) (0 + h.class) h.file.pool h.member) [] h.resolutions

-- its instructions are those of the member
pub instructions_are : (m : Member) (code : MethodCode) → code_of m ≡ Some code → instructions_of m ≡ code.code
instructions_are m code e = ap (λ o. option_map_or (λ (c : MethodCode). c.code) o []) e
