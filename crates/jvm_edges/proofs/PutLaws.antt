-- What a sink has taken so far.
use Rattle.std.proofs.Common.{◌≡◌, ℕ, ◌+◌, ◌-◌, ◌≤◌, List, ◌++◌, length, take, drop, Option, Some, None, refl, sym, ap, ◌∙◌, append_assoc, arith}
use Rattle.std.proofs.lemmas.List.{length-drop}
use Rattle.std.proofs.Math.Seq.{take-add}
use Rattle.jvm_edges.specs.Bytes.{Appends}

pub record Put (before after : Option (List ℕ)) (faults_before faults_after : ℕ) (bytes : List ℕ) (taken : ℕ) : Type 0 where
  pub within : taken ≤ length bytes
  pub appended : Appends before (take taken bytes) after
  pub kept : faults_after ≡ faults_before

appends_more : (before mid after : Option (List ℕ)) (a b c : List ℕ) → a ++ b ≡ c → Appends before a mid → Appends mid b after → Appends before c after
appends_more None mid after a b c e first second = rw (second, first) refl
appends_more (Some x) mid after a b c e first second = rw (second, first) (ap (λ (y : List ℕ). Some y) (append_assoc x a b ∙ ap (λ (y : List ℕ). x ++ y) e))

-- a put of what was left took more
pub put_more : (before mid after : Option (List ℕ)) (f g h : ℕ) (bytes rest : List ℕ) (taken more : ℕ) → Put before mid f g bytes taken → rest ≡ drop taken bytes → more ≤ length rest → Appends mid (take more rest) after → h ≡ g
    → Put before after f h bytes (taken + more)
put_more before mid after f g h bytes rest taken more p is fits second kept =
    let size : length rest ≡ length bytes - taken = ap length is ∙ length-drop taken bytes in
    let joined : take taken bytes ++ take more rest ≡ take (taken + more) bytes = rw is (sym (take-add taken more bytes)) in
    record {
      within = omega (arith, p.within, size);
      appended = appends_more before mid after (take taken bytes) (take more rest) (take (taken + more) bytes) joined p.appended second;
      kept = kept ∙ p.kept;
    }
