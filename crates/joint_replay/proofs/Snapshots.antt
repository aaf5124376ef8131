-- The managed objects and their heap in one another's words: the rows that hold a handle, and what these reach.
use Rattle.std.proofs.Common.{◌≡◌, ℕ, ◌+◌, ◌<◌, ◌↔◌, true, List, length, Option, Some, None, refl, sym, subst, arith}
use Rattle.std.specs.Prelude.{Contains, All, is_some}
use Rattle.joint_machine.specs.Heaps.{Heap, IsLive, HasField, numbered_at}
use Rattle.joint_machine.specs.Managed.{Managed, IsBridge, ManagedEdge, IsBridgeReached}
use Rattle.joint_machine.proofs.WalkLemmas.{Reached-mono}
use Rattle.joint_machine.proofs.Members.{All-members}
use Rattle.joint_machine.proofs.Deciding.{handle-there}
use Rattle.joint_replay.specs.Found.{IsBridgeRow, IsHandleReached}

made-within : (h : Heap) (x : ℕ) → IsLive h x → x < length h.fields + 1
made-within h x i = omega (arith, i.made.1)

-- roots that are live are nodes of the heap's graph
pub roots-within : (h : Heap) (xs : List ℕ) → ((x : ℕ) → Contains xs x → IsLive h x) → All (λ y. y < length h.fields + 1) xs
roots-within h xs l = All-members (λ y. y < length h.fields + 1) xs (λ x c. made-within h x (l x c))

handle-test : (o : Option (Option ℕ)) (k : ℕ) → o ≡ Some (Some k) → is_some (elim o [ None ↦ None | Some x ↦ x ]) ≡ true
handle-test o k e = subst (λ z. is_some (elim z [ None ↦ None | Some x ↦ x ]) ≡ true) (sym e) refl

pub bridge-row : (s : Managed) (m : ℕ) → IsBridge s m → IsBridgeRow s.heap s.held m
bridge-row s m b = (b.1.live, handle-test (numbered_at s.held m) b.0 b.1.held)

pub row-bridge : (s : Managed) (m : ℕ) → IsBridgeRow s.heap s.held m → IsBridge s m
row-bridge s m b = (let r = handle-there (numbered_at s.held m) b.1 in (r.0, record { live = b.0; held = r.1 }))

pub handle-reached : (s : Managed) (m : ℕ) → IsBridgeReached s m ↔ IsHandleReached s.heap s.held m
handle-reached s m = (
  λ r. Reached-mono (IsBridge s) (IsBridgeRow s.heap s.held) (ManagedEdge s) (HasField s.heap) (λ x b. bridge-row s x b) (λ x y e. e) m r,
  λ r. Reached-mono (IsBridgeRow s.heap s.held) (IsBridge s) (HasField s.heap) (ManagedEdge s) (λ x b. row-bridge s x b) (λ x y e. e) m r,
)
