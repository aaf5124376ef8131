-- What an event may do to the numbers of a heap: so many objects are made, and so many freed.
use Rattle.std.proofs.Common.{◌≡◌, ℕ, suc, ◌+◌, List, ◌++◌, length, refl, ap, ◌∙◌, arith}
use Rattle.std.specs.Prelude.{Contains}
use Rattle.std.proofs.lemmas.List.{length-append}
use Rattle.joint_machine.specs.Components.{Rises}
use Rattle.joint_machine.specs.Heaps.{Heap, IsMade, IsLive}
use Rattle.joint_laws.proofs.HeapMoves.{HasMoved}
use Rattle.summary_laws.specs.States.{others_up_to, unfreed}
use Rattle.summary_laws.specs.Laws.{AddsUp}
use Rattle.summary_laws.proofs.Unfreed.{put-all, rising-fresh, grown-by_one}

pub record HeapCounts (h k : Heap) (new gone : ℕ) : Type 0 where
  pub made : length k.fields ≡ length h.fields + new
  pub left : unfreed k + gone ≡ unfreed h + new
  pub freed : length k.freed ≡ length h.freed + gone

-- nothing was made or freed
pub counts-alike : (h k : Heap) → length k.fields ≡ length h.fields → k.freed ≡ h.freed → HeapCounts h k 0 0
counts-alike h k e f = record {
  made = omega (arith, e);
  left = (let same : unfreed k ≡ unfreed h = ap (λ n. others_up_to k.freed n) e
      ∙ ap (λ z. others_up_to z (length h.fields)) f in omega (arith, same));
  freed = omega (arith, ap length f);
}

pub counts-stay : (h : Heap) → HeapCounts h h 0 0
counts-stay h = counts-alike h h refl refl

pub counts-moved : (h k : Heap) → HasMoved h k → HeapCounts h k 0 0
counts-moved h k m = counts-alike h k m.made m.freed

-- one object was made
pub counts-object : (h k : Heap) → length k.fields ≡ length h.fields + 1 → k.freed ≡ h.freed → ((x : ℕ) → Contains h.freed x → IsMade h x) → HeapCounts h k 1 0
counts-object h k e f made = record { made = e; left = omega (arith, count); freed = omega (arith, ap length f) }
  where
    next : length h.fields + 1 ≡ suc (length h.fields)
    next = omega arith

    count : unfreed k ≡ unfreed h + 1
    count = ap (λ n. others_up_to k.freed n) (e ∙ next) ∙ (ap (λ z. others_up_to z (suc (length h.fields))) f
        ∙ grown-by_one h.freed (length h.fields) (λ c. absurd (omega (arith, (made (suc (length h.fields)) c).1))))

-- unfreed objects were freed
pub counts-freed : (h k : Heap) (xs : List ℕ) → length k.fields ≡ length h.fields → k.freed ≡ h.freed ++ xs → Rises xs → ((x : ℕ) → Contains xs x → IsLive h x) → HeapCounts h k 0 (length xs)
counts-freed h k xs e f r live = record { made = omega (arith, e); left = omega (arith, same, count); freed = ap length f ∙ length-append h.freed xs }
  where
    same : unfreed k ≡ others_up_to (h.freed ++ xs) (length h.fields)
    same = ap (λ n. others_up_to k.freed n) e ∙ ap (λ z. others_up_to z (length h.fields)) f

    count : others_up_to (h.freed ++ xs) (length h.fields) + length xs ≡ unfreed h
    count = put-all h.freed xs (length h.fields) (rising-fresh h.freed xs (length h.fields) r (λ y c. (let l = live y c in (l.made.0, l.made.1, l.kept))))

-- so what is left and what was freed stay what was made
pub adds-up : (h k : Heap) (new gone : ℕ) → HeapCounts h k new gone → AddsUp h → AddsUp k
adds-up h k new gone c a = omega (arith, c.made, c.left, c.freed, a)
