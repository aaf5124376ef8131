-- Beside each row stands the peer of its pair in the registry. This stays so with a further row, whether it comes with
-- a pair or without, and where a row leaves its pair.
use Rattle.std.proofs.Common.{◌≡◌, ℕ, ◌+◌, ◌-◌, ◌≤◌, inl, inr, List, [], ◌∷◌, ◌++◌, map, length, get_or, Option, Some, None, refl, sym, ap, subst, ◌∙◌, arith}
use Rattle.std.specs.Prelude.{Contains}
use Rattle.std.proofs.lemmas.List.{map-append, length-map}
use Rattle.std.proofs.lemmas.List.Elements.{Contains-append_left, Contains-push, Contains-push_cases}
use Rattle.std.proofs.lemmas.Option.{same_Some}
use Rattle.joint_machine.specs.declared.names.MNum.{MNum}
use Rattle.joint_machine.specs.declared.names.PNum.{PNum}
use Rattle.joint_machine.specs.Heaps.{IsLive, numbered_at}
use Rattle.joint_machine.specs.Managed.{Managed, handle_of}
use Rattle.joint_machine.proofs.Deciding.{none_some}
use Rattle.joint_machine.proofs.HeapLemmas.{is_freed-live}
use Rattle.joint_machine.proofs.Numbered.{numbered-within, numbered-push_old, numbered-push_new, numbered-push_cases}
use Rattle.heap_rules.proofs.Numbered.{numbered-read}
use Rattle.managed_heap.specs.declared.rows.Header.{Header}
use Rattle.managed_heap.specs.Rows.{pairs_of, ArePeers}

-- the peers that stand beside rows
abbrev pub peers_of : List Header → List (Option ℕ)
peers_of headers = map (λ i. i.peer) headers

peers-push : (headers : List Header) (i : Header) → peers_of (headers ++ i ∷ []) ≡ peers_of headers ++ i.peer ∷ []
peers-push headers i = map-append (λ (j : Header). j.peer) headers (i ∷ [])

-- a further row keeps the peers beside the others
peers-kept : (headers : List Header) (i : Header) (m p : ℕ) → numbered_at (peers_of headers) m ≡ Some (Some p) → numbered_at (peers_of (headers ++ i ∷ [])) m ≡ Some (Some p)
peers-kept headers i m p at = subst (λ z. numbered_at z m ≡ Some (Some p)) (sym (peers-push headers i))
    (numbered-push_old (peers_of headers) i.peer m (numbered-within (peers_of headers) m (Some p) at).1 ∙ at)

pub ArePeers-row : (pairs : List (PNum × MNum)) (headers : List Header) (i : Header) → i.peer ≡ None → ArePeers pairs headers → ArePeers pairs (headers ++ i ∷ [])
ArePeers-row pairs headers i none a = λ p m. (
  (λ c. peers-kept headers i m p ((a p m).0 c)),
  (λ e. elim (numbered-push_cases (peers_of headers) i.peer m (Some p) (subst (λ z. numbered_at z m ≡ Some (Some p)) (peers-push headers i) e)) [
    | inl w ↦ (a p m).1 w
    | inr w ↦ absurd (none_some p (sym none ∙ w.1))
  ]),
)

pub ArePeers-pair : (pairs : List (PNum × MNum)) (headers : List Header) (i : Header) (p : PNum) (m : MNum)
    → i.peer ≡ Some p.0 → m.0 ≡ length headers + 1 → ArePeers pairs headers → ArePeers (pairs ++ (p, m) ∷ []) (headers ++ i ∷ [])
ArePeers-pair pairs headers i p m peer next a = λ q n. (forward q n, back q n)
  where
    all : pairs_of (pairs ++ (p, m) ∷ []) ≡ pairs_of pairs ++ (p.0, m.0) ∷ []
    all = map-append (λ (e : PNum × MNum). (e.0.0, e.1.0)) pairs ((p, m) ∷ [])

    place : length (peers_of headers) + 1 ≡ m.0
    place = omega (arith, length-map headers (λ (j : Header). j.peer), next)

    here : numbered_at (peers_of (headers ++ i ∷ [])) m.0 ≡ Some (Some p.0)
    here = subst (λ z. numbered_at z m.0 ≡ Some (Some p.0)) (sym (peers-push headers i))
        (subst (λ z. numbered_at (peers_of headers ++ i.peer ∷ []) z ≡ Some (Some p.0)) place (numbered-push_new (peers_of headers) i.peer ∙ ap Some peer))

    forward : (q n : ℕ) → Contains (pairs_of (pairs ++ (p, m) ∷ [])) (q, n) → numbered_at (peers_of (headers ++ i ∷ [])) n ≡ Some (Some q)
    forward q n c = elim (Contains-push_cases (pairs_of pairs) (p.0, m.0) (q, n) (subst (λ z. Contains z (q, n)) all c)) [
      | inl w ↦ peers-kept headers i n q ((a q n).0 w)
      | inr e ↦ subst (λ (z : ℕ × ℕ). numbered_at (peers_of (headers ++ i ∷ [])) z.1 ≡ Some (Some z.0)) e here
    ]

    back : (q n : ℕ) → numbered_at (peers_of (headers ++ i ∷ [])) n ≡ Some (Some q) → Contains (pairs_of (pairs ++ (p, m) ∷ [])) (q, n)
    back q n e = subst (λ z. Contains z (q, n)) (sym all) (elim (numbered-push_cases (peers_of headers) i.peer n (Some q) (subst (λ z. numbered_at z n ≡ Some (Some q)) (peers-push headers i) e)) [
      | inl w ↦ Contains-append_left (pairs_of pairs) ((p.0, m.0) ∷ []) (q, n) ((a q n).1 w)
      | inr w ↦ subst (λ z. Contains (pairs_of pairs ++ (p.0, m.0) ∷ []) z) (λ k. (same_Some p.0 q (sym peer ∙ w.1) k, (sym place ∙ sym w.0) k)) (Contains-push (pairs_of pairs) (p.0, m.0))
    ])

-- the handle of a live row is the one that stands beside it
pub handle-is : (s : Managed) (headers : List Header) (x : ℕ) (i : Header) → s.held ≡ map (λ (j : Header). j.handle) headers
    → IsLive s.heap x → x ≤ length headers → i ≡ get_or headers (x - 1) i → handle_of s x ≡ i.handle
handle-is s headers x i held live within e =
    let at : numbered_at s.held x ≡ Some i.handle = ap (λ z. numbered_at z x) held
    ∙ numbered-read (λ (j : Header). j.handle) headers x i live.made.0 (omega (arith, within, length-map headers (λ (j : Header). j.handle))) e in
    let unfreed = is_freed-live s.heap x live in
    rw (unfreed, at, handle_of) refl
