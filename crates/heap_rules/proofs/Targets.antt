-- The targets of a heap's graph: an object that isn't freed leads to what its fields hold, and all else leads nowhere.
use Rattle.std.proofs.Common.{◌≡◌, ℕ, Bool, true, false, [], Option, cond, refl, sym, ap, ◌∙◌, arith}
use Rattle.std.specs.Prelude.{Contains}
use Rattle.joint_machine.specs.Heaps.{Heap, IsLive, fields_of, is_freed}
use Rattle.joint_machine.proofs.Numbered.{numbered-within}
use Rattle.joint_machine.proofs.HeapLemmas.{Contains-is_freed, is_freed-live}
use Rattle.joint_machine.proofs.Deciding.{true_false}
use Rattle.heap_rules.specs.Tidy.{live_fields}
use Rattle.heap_rules.proofs.Numbered.{row-there}

-- the places of a live object are its fields
pub live_fields-live : (h : Heap) (x : ℕ) → IsLive h x → live_fields h x ≡ fields_of h x
live_fields-live h x l = ap (λ b. cond b [] (fields_of h x)) (is_freed-live h x l)

-- what a place holds is in a field of a live object
live_fields-from : (h : Heap) (x : ℕ) (b : Bool) (z : Option ℕ) → is_freed h x ≡ b → Contains (cond b [] (fields_of h x)) z → IsLive h x × Contains (fields_of h x) z
live_fields-from h x true z e c = absurd (omega (arith, c.1))
live_fields-from h x false z e c =
    let r = row-there h.fields x z c in
    let m = numbered-within h.fields x r.0 r.1 in
    (record { made = m; kept = λ f. (let g : ⊥ = true_false (sym (Contains-is_freed h x f) ∙ e) in g) }, c)

pub live_fields-held : (h : Heap) (x : ℕ) (z : Option ℕ) → Contains (live_fields h x) z → IsLive h x × Contains (fields_of h x) z
live_fields-held h x z c = live_fields-from h x (is_freed h x) z refl c
