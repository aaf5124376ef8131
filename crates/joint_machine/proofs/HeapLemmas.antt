-- Which objects of a heap are live: the test of the freed ones, and what an event leaves live; and which handle an
-- object holds.
use Rattle.std.proofs.Common.{◌≡◌, ℕ, inl, inr, Bool, true, false, List, [], ◌∷◌, Option, Some, None, replicate, refl, ap, arith, length-append, cond}
use Rattle.std.specs.Prelude.{Contains}
use Rattle.std.proofs.lemmas.Bool.{eqb-true}
use Rattle.std.proofs.lemmas.Cmp.{nat_eq_equiv}
use Rattle.std.proofs.lemmas.List.Elements.{Contains-append_cases, Contains-append_left, Contains-append_right}
use Rattle.std.proofs.lemmas.Map.Views.{list_any-from_Contains, Contains-from_any}
use Rattle.joint_machine.specs.declared.events.Reply.{Reply}
use Rattle.joint_machine.specs.declared.events.Reply.TheVariants as says
use Rattle.joint_machine.specs.Heaps.{Heap, IsLive, is_freed, numbered_at, with_freed, with_object}
use Rattle.joint_machine.specs.Managed.{Managed, OpenCycle, Holds, handle_of, candidates_of}
use Rattle.joint_machine.specs.ManagedReplay.{ManagedReplay, adopt_by}
use Rattle.joint_machine.proofs.Deciding.{true-false, false-from}
use Rattle.std.proofs.lemmas.Bool.Decides.{Decides-eqb}
use Rattle.joint_machine.specs.declared.names.Thread.{Thread}
use Rattle.joint_machine.specs.declared.names.Thread.TheVariants.{M, P, C}
use Rattle.joint_machine.specs.PeerReplay.{is_thread}

-- the test of `is_freed` tells whether the list of freed objects has a number
pub is_freed-Contains : (h : Heap) (x : ℕ) → is_freed h x ≡ true → Contains h.freed x
is_freed-Contains h x e = Contains-from_any eqb-true x h.freed e

pub Contains-is_freed : (h : Heap) (x : ℕ) → Contains h.freed x → is_freed h x ≡ true
Contains-is_freed h x c = list_any-from_Contains nat_eq_equiv x h.freed c

pub not_freed : (h : Heap) (x : ℕ) → is_freed h x ≡ false → Contains h.freed x → ⊥
not_freed h x e c = true-false (is_freed h x) (Contains-is_freed h x c) e

-- a live object isn't freed
pub is_freed-live : (h : Heap) (x : ℕ) → IsLive h x → is_freed h x ≡ false
is_freed-live h x l = false-from (is_freed h x) (λ e. l.kept (is_freed-Contains h x e))

-- a live object was live before further ones were freed, and is none of these; one that is none of these stays live
pub IsLive-before : (h : Heap) (freed : List ℕ) (x : ℕ) → IsLive (with_freed h freed) x → IsLive h x
IsLive-before h freed x l = record { made = l.made; kept = λ c. l.kept (Contains-append_left h.freed freed x c) }

pub IsLive-spared : (h : Heap) (freed : List ℕ) (x : ℕ) → IsLive (with_freed h freed) x → Contains freed x → ⊥
IsLive-spared h freed x l c = l.kept (Contains-append_right h.freed freed x c)

pub IsLive-left : (h : Heap) (freed : List ℕ) (x : ℕ) → IsLive h x → (Contains freed x → ⊥) → IsLive (with_freed h freed) x
IsLive-left h freed x l n = record { made = l.made; kept = λ c. elim (Contains-append_cases h.freed freed x c) [ inl w ↦ l.kept w | inr w ↦ n w ] }

-- a live object stays live when a further one is made
pub IsLive-later : (h : Heap) (n x : ℕ) → IsLive h x → IsLive (with_object h n) x
IsLive-later h n x l = record {
  made = (l.made.0, omega (arith, l.made.1, length-append h.fields (replicate n None ∷ [])));
  kept = l.kept;
}

-- which handle a live object holds
held-to : (b : Bool) (o : Option (Option ℕ)) (h : ℕ) → b ≡ false → o ≡ Some (Some h) → cond b None (elim o [ None ↦ None | Some k ↦ k ]) ≡ Some h
held-to true o h f e = cc
held-to false None h f e = cc
held-to false (Some k) h f e = cc

pub Holds-handle_of : (s : Managed) (x h : ℕ) → Holds s x h → handle_of s x ≡ Some h
Holds-handle_of s x h w = held-to (is_freed s.heap x) (numbered_at s.held x) h (is_freed-live s.heap x w.live) w.held

-- the candidates of the open cycle
pub candidates_of-open : (s : Managed) (c : OpenCycle) → s.cycle ≡ Some c → candidates_of s ≡ c.candidates
candidates_of-open s c e = rw (e, candidates_of) refl

-- an adopt answers and leaves what it is given
pub adopt_by-managed : (s : ManagedReplay) (p h : ℕ) (after : Managed) (r : Reply) → (adopt_by s p h after r).state.managed ≡ after
adopt_by-managed s p h after (says.M m) = refl
adopt_by-managed s p h after _ = refl

pub adopt_by-reply : (s : ManagedReplay) (p h : ℕ) (after : Managed) (r : Reply) → (adopt_by s p h after r).reply ≡ r
adopt_by-reply s p h after (says.M m) = refl
adopt_by-reply s p h after _ = refl

-- whether two threads are the same is computed
pub thread_itself : (t : Thread) → is_thread t t ≡ true
thread_itself (M n) = nat_eq_equiv.refl n
thread_itself (P n) = nat_eq_equiv.refl n
thread_itself C = refl

pub same_thread : (t u : Thread) → is_thread t u ≡ true → t ≡ u
same_thread (M a) (M b) e = ap (λ n. M n) ((Decides-eqb a b).0 e)
same_thread (M a) (P b) e = (let f : ⊥ = cc in absurd f)
same_thread (M a) C e = (let f : ⊥ = cc in absurd f)
same_thread (P a) (P b) e = ap (λ n. P n) ((Decides-eqb a b).0 e)
same_thread (P a) (M b) e = (let f : ⊥ = cc in absurd f)
same_thread (P a) C e = (let f : ⊥ = cc in absurd f)
same_thread C C e = refl
same_thread C (M b) e = (let f : ⊥ = cc in absurd f)
same_thread C (P b) e = (let f : ⊥ = cc in absurd f)
