-- The keys of a map of live handles are exactly the handles that are live, rising.
use Rattle.std.proofs.Common.{◌≡◌, ℕ, List, [], ◌∷◌, map, refl, sym, ap, subst, ◌∙◌}
use Rattle.std.specs.Prelude.{Contains, ◌↔◌, IsSome}
use Rattle.std.specs.BTreeMap.{BTreeMap, IsOrdered, get, keys}
use Rattle.std.specs.Ordering.{nat_cmp}
use Rattle.std.specs.List.Sorted.{IsStrictlyIncreasing}
use Rattle.std.proofs.lemmas.Cmp.{nat_cmp_total}
use Rattle.std.proofs.lemmas.Map.Keys.{IsStrictlyIncreasing-from_sorted}
use Rattle.std.proofs.lemmas.Map.Lookups.{exact_unsigned}
use Rattle.std.proofs.lemmas.Map.Views.{btree_map_contains_key_iff}
use Rattle.joint_machine.specs.declared.names.HNum.{HNum}
use Rattle.log_text.specs.Live.{handles_of}
use Rattle.log_text.specs.Keys.{AreKeys}

numbers : (ks : List ℕ) → map (λ (h : HNum). h.0) (handles_of ks) ≡ ks
numbers [] = refl
numbers (k ∷ ks) = ap (λ z. k ∷ z) (numbers ks)

pub are-keys : (m : BTreeMap ℕ ℕ) → IsOrdered nat_cmp m → (hs : List HNum) → hs ≡ handles_of (keys m) → AreKeys (λ h. get nat_cmp m h) hs
are-keys m o hs e =
    let all : map (λ (h : HNum). h.0) hs ≡ keys m = ap (map (λ (h : HNum). h.0)) e ∙ numbers (keys m) in
    record {
      rise = subst IsStrictlyIncreasing (sym all) (IsStrictlyIncreasing-from_sorted (keys m) o);
      exact = λ h. subst (λ ks. Contains ks h ↔ IsSome (get nat_cmp m h)) (sym all) (let w = btree_map_contains_key_iff nat_cmp_total exact_unsigned m h in (w.1, w.0));
    }
