-- A reply is one: what is told of an entry doesn't go by its reply, and the reply goes by what is told.
use Rattle.std.proofs.Common.{◌≡◌, ℕ, Bool, true, false, List, Option, sym, ap, subst, ◌∙◌}
use Rattle.joint_machine.specs.declared.names.Thread.{Thread}
use Rattle.joint_machine.specs.declared.names.Thread.TheVariants.{M, P, C}
use Rattle.joint_machine.specs.declared.names.Cycle.{Cycle}
use Rattle.joint_machine.specs.declared.events.Op.{Op}
use Rattle.joint_machine.specs.declared.events.Op.TheVariants as op
use Rattle.joint_machine.specs.declared.events.Made.{Made}
use Rattle.joint_machine.specs.declared.events.Reply.{Reply}
use Rattle.joint_machine.specs.Components.{End}
use Rattle.joint_machine.specs.Control.{CallerAllows}
use Rattle.joint_machine.specs.Lines.{IsEvent, is_peer_event}
use Rattle.joint_machine.specs.Linked.{Linkage, MayCome, SideLawful}
use Rattle.joint_machine.specs.ManagedReplay.{managed_answer}
use Rattle.joint_machine.specs.PeerReplay.{peer_answer}
use Rattle.joint_machine.specs.Told.{Told, references_of, resolution_of, Answer}
use Rattle.known_laws.proofs.OneContraction.{is_one_contraction}
use Rattle.known_laws.proofs.Telling.{IsTelling, managed_told, peer_told, mirrors, resolves_alike}
use Rattle.check_laws.specs.Laws.{IsNoRefusal, noted}

telling : (o : Op) → IsNoRefusal o → IsTelling o
telling (op.Refused w) n = n
telling _ n = tt

module _ (s : Linkage) (c : Thread) (l : ℕ) (o : Op) (cites : Option ℕ) (i j : ℕ) (r q : Reply) (t u : Told)
    (n : IsNoRefusal o) (a : MayCome s (noted i c l o r cites t)) (b : MayCome s (noted j c l o q cites u)) where
  abbrev Allowed : Reply → Thread → Op → Told → Type 0
  Allowed reply d e z = CallerAllows s.control s.managed.managed s.peer.peers.issued d l e reply cites z

  refs : (d : Thread) (k : Cycle) (xs ys : List (End × End)) → IsEvent d (op.Mirror k) → Allowed r d (op.Mirror k) (references_of xs) → Allowed q d (op.Mirror k) (references_of ys) → xs ≡ ys
  refs C k xs ys v w x = mirrors s.control.stand s.managed.managed s.peer.peers.issued k r q cites xs ys w x
  refs (M z) k xs ys v w x = absurd v
  refs (P z) k xs ys v w x = absurd v

  answers : (d : Thread) (k : Cycle) (x y : List Answer) (f g : List ℕ) → IsEvent d (op.Resolve k)
      → Allowed r d (op.Resolve k) (resolution_of x f) → Allowed q d (op.Resolve k) (resolution_of y g) → x ≡ y
  answers C k x y f g v w z = resolves_alike s.control.stand s.managed.managed s.peer.peers.issued k r q cites x y f g w z
  answers (M m) k x y f g v w z = absurd v
  answers (P m) k x y f g v w z = absurd v

  abbrev made : Reply → Made
  made reply = record { caller = c; index = l; op = o; reply = reply; cites = cites }

  by : (d : Bool) → SideLawful d s (made r) t → SideLawful d s (made q) u → (r ≡ q) × (t ≡ u)
  by true w v =
      let e : t ≡ u = peer_told s.peer c o cites t u w.allowed v.allowed
      (λ k xs ys p x y. refs c k xs ys (subst (IsEvent c) p a.event)
      (subst (λ (z : Op × Told). Allowed r c z.0 z.1) (λ m. (p m, x m)) a.order) (subst (λ (z : Op × Told). Allowed q c z.0 z.1) (λ m. (p m, y m)) b.order)) in
      (w.replies ∙ (ap (λ z. (peer_answer s.peer c o cites z).reply) e ∙ sym v.replies), e)
  by false w v =
      let e : t ≡ u = managed_told is_one_contraction s.managed o t u (telling o n) w.allowed v.allowed
      (λ k x y f g p z m. answers c k x y f g (subst (IsEvent c) p a.event)
      (subst (λ (h : Op × Told). Allowed r c h.0 h.1) (λ d. (p d, z d)) a.order) (subst (λ (h : Op × Told). Allowed q c h.0 h.1) (λ d. (p d, m d)) b.order)) in
      (w.replies ∙ (ap (λ z. (managed_answer s.managed c o z).reply) e ∙ sym v.replies), e)

  pub replies_one : (r ≡ q) × (t ≡ u)
  replies_one = by (is_peer_event c o) a.lawful b.lawful
