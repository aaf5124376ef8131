-- What stands at the places of a thread's operation makes one act of it, which is a line of the thread, unless a kind
-- stands beside what it doesn't allow: then the words clash. Shown operation by operation; each has one line here.
use Rattle.std.proofs.Common.{◌≡◌, ◌≢◌, ℕ, ◌≤◌, ◌<◌, ◌^◌, List, [], ◌∷◌, Option, Some, None, codes, decimal, sym, refl, arith, subst, inl, inr}
use Rattle.std.proofs.lemmas.Fmt.{decimal_injective}
use Rattle.joint_machine.specs.declared.names.Var.{Var}
use Rattle.joint_machine.specs.declared.names.Kind.{Kind}
use Rattle.joint_machine.specs.declared.names.Kind.TheVariants as kind
use Rattle.joint_machine.specs.declared.names.Sort.{Sort}
use Rattle.joint_machine.specs.declared.names.Sort.TheVariants as sort
use Rattle.joint_machine.specs.declared.names.Thread.{Thread}
use Rattle.joint_machine.specs.declared.names.Thread.TheVariants.{M, P, C}
use Rattle.joint_machine.specs.declared.lines.Act.{Act}
use Rattle.joint_machine.specs.declared.lines.Act.TheVariants as act
use Rattle.joint_machine.specs.Lines.{IsVar, IsThread, IsLine}
use Rattle.bridge_script.specs.declared.grammar.Operation.{Operation}
use Rattle.bridge_script.specs.declared.grammar.Operation.TheVariants as operation
use Rattle.bridge_script.specs.declared.grammar.Place.{Place}
use Rattle.bridge_script.specs.declared.operands.Operand.{Operand}
use Rattle.bridge_script.specs.declared.operands.Operand.TheVariants as operand
use Rattle.bridge_script.specs.Words.{act_words}
use Rattle.bridge_script.specs.Grammar.{operation_text, managed_form, peer_form, driver_form, form_of}
use Rattle.bridge_script.specs.Answers.{operation_of}
use Rattle.bridge_script.specs.Faults.{Clashes}
use Rattle.bridge_script.specs.Operands.{texts, IsPlainKind, IsBridgeKind, StandAll, act_at, IsPossible}
use Rattle.bridge_script.proofs.Table.{byte_is, zero_text}

-- the act that operands make
pub record Asked (t : Thread) (o : Operation) (xs : List Operand) : Type 0 where
  pub act : Act
  pub is : act_at o xs ≡ Some act
  pub operation : operation_of act ≡ o
  pub words : act_words t act ≡ operation_text o ∷ texts xs
  pub lawful : IsThread t → IsPossible act → IsLine t act
  pub clash : (IsPossible act → ⊥) → Clashes o (texts xs)

asked : (t : Thread) (o : Operation) (a : Act) (xs : List Operand) → act_at o xs ≡ Some a → operation_of a ≡ o
    → act_words t a ≡ operation_text o ∷ texts xs → (IsThread t → IsLine t a) → IsPossible a → Asked t o xs
asked t o a xs e f w l p = record { act = a; is = e; operation = f; words = w; lawful = λ h q. l h; clash = λ n. absurd (n p) }

-- operands stand at the places of an operation that there is
abbrev FormStands : Option (List Place) → List Operand → Type 0
FormStands None xs = ⊥
FormStands (Some ps) xs = StandAll ps xs

-- a number that isn't 0 has another word
not_zero : (n : ℕ) → n < 2 ^ 64 → (n ≡ 0 → ⊥) → decimal n ≢ codes "0"
not_zero n l h e = h (decimal_injective n 0 l (omega arith) (rw zero_text e))

asked_new : (m : ℕ) (v : Var) (k : Kind) (n : ℕ) → IsVar v → IsPlainKind k → n ≤ 16 → Asked (M m) operation.New (operand.Var v ∷ operand.Kind k ∷ operand.Number n ∷ [])
asked_new m v kind.Plain n bv bk bn = asked (M m) operation.New (act.New v kind.Plain n) _ (rw (byte_is n (omega arith)) refl) refl refl (λ t. (t, (bv, bn))) bn
asked_new m v kind.Leaf n bv bk bn = record {
  act = act.New v kind.Leaf n;
  is = rw (byte_is n (omega arith)) refl;
  operation = refl;
  words = refl;
  lawful = λ t p. (t, (bv, p));
  clash = λ h. (refl, not_zero n (omega arith) h);
}
asked_new m v k n bv bk bn = absurd bk

asked_bridge : (m : ℕ) (v : Var) (k : Kind) (n : ℕ) (s : Sort) (f : ℕ) → IsVar v → IsBridgeKind k → n ≤ 16 → f ≤ 16
    → Asked (M m) operation.Bridge (operand.Var v ∷ operand.Kind k ∷ operand.Number n ∷ operand.Sort s ∷ operand.Number f ∷ [])
asked_bridge m v kind.Bridge n sort.User f bv bk bn bf = asked (M m) operation.Bridge (act.Bridge v kind.Bridge n sort.User f) _
    (rw (byte_is n (omega arith), byte_is f (omega arith)) refl) refl refl (λ t. (t, (bv, (bn, refl), bf))) (bn, refl)
asked_bridge m v kind.Bridge n sort.Framework f bv bk bn bf =
    record {
      act = act.Bridge v kind.Bridge n sort.Framework f;
      is = rw (byte_is n (omega arith), byte_is f (omega arith)) refl;
      operation = refl;
      words = refl;
      lawful = λ t p. (t, (bv, p, bf));
      clash = λ h. inr (refl, refl);
    }
asked_bridge m v kind.LeafBridge n s f bv bk bn bf = record {
  act = act.Bridge v kind.LeafBridge n s f;
  is = rw (byte_is n (omega arith), byte_is f (omega arith)) refl;
  operation = refl;
  words = refl;
  lawful = λ t p. (t, (bv, p, bf));
  clash = λ h. inl (refl, not_zero n (omega arith) h);
}
asked_bridge m v k n s f bv bk bn bf = absurd bk

asked_managed : (m : ℕ) (o : Operation) (xs : List Operand) → FormStands (managed_form o) xs → Asked (M m) o xs
asked_managed m operation.New (operand.Var v ∷ operand.Kind k ∷ operand.Number n ∷ []) h = asked_new m v k n h.0 h.1.0 h.1.1.0.1
asked_managed m operation.Bridge (operand.Var v ∷ operand.Kind k ∷ operand.Number n ∷ operand.Sort s ∷ operand.Number f ∷ []) h = asked_bridge m v k n s f h.0 h.1.0 h.1.1.0.1 h.1.1.1.1.0.1
asked_managed m operation.Copy (operand.Var v ∷ operand.Var w ∷ []) h = asked (M m) operation.Copy (act.Copy v w) _ refl refl refl (λ t. (t, (h.0, h.1.0))) tt
asked_managed m operation.Set (operand.Var v ∷ operand.Number n ∷ operand.VarOrNone w ∷ []) h = asked (M m) operation.Set
    (act.Set v n w) _ (rw (byte_is n (omega arith)) refl) refl refl (λ t. (t, (h.0, h.1.1.0, h.1.0.1))) tt
asked_managed m operation.Get (operand.Var v ∷ operand.Var w ∷ operand.Number n ∷ []) h = asked (M m) operation.Get
    (act.Get v w n) _ (rw (byte_is n (omega arith)) refl) refl refl (λ t. (t, (h.0, h.1.0, h.1.1.0.1))) tt
asked_managed m operation.Drop (operand.Var v ∷ []) h = asked (M m) operation.Drop (act.Drop v) _ refl refl refl (λ t. (t, h.0)) tt
asked_managed m operation.Load (operand.Var v ∷ operand.ManagedStatic x ∷ []) h = asked (M m) operation.Load (act.Load v x) _ refl refl refl (λ t. (t, (h.0, h.1.0))) tt
asked_managed m operation.Store (operand.ManagedStatic x ∷ operand.VarOrNone v ∷ []) h = asked (M m) operation.Store (act.Store x v) _ refl refl refl (λ t. (t, (h.0, h.1.0))) tt
asked_managed m operation.Weak (operand.Cell k ∷ operand.Var v ∷ []) h = asked (M m) operation.Weak (act.Weak k v) _ refl refl refl (λ t. (t, (h.0, h.1.0))) tt
asked_managed m operation.Read (operand.Cell k ∷ []) h = asked (M m) operation.Read (act.Read k) _ refl refl refl (λ t. (t, h.0)) tt
asked_managed m operation.Await (operand.Cell k ∷ []) h = asked (M m) operation.Await (act.Await k) _ refl refl refl (λ t. (t, h.0)) tt
asked_managed m operation.Take (operand.Var v ∷ []) h = asked (M m) operation.Take (act.Take v) _ refl refl refl (λ t. (t, h.0)) tt
asked_managed m operation.Pass (operand.Var v ∷ operand.PeerStatic x ∷ []) h = asked (M m) operation.Pass (act.Pass v x) _ refl refl refl (λ t. (t, (h.0, h.1.0))) tt
asked_managed m operation.Surface (operand.Var v ∷ operand.PeerStatic x ∷ []) h = asked (M m) operation.Surface (act.Surface v x) _ refl refl refl (λ t. (t, (h.0, h.1.0))) tt
asked_managed m operation.Dispose (operand.Var v ∷ []) h = asked (M m) operation.Dispose (act.Dispose v) _ refl refl refl (λ t. (t, h.0)) tt
asked_managed m operation.Handle (operand.Var v ∷ []) h = asked (M m) operation.Handle (act.Handle v) _ refl refl refl (λ t. (t, h.0)) tt
asked_managed m o xs h = absurd (assumption)

asked_peer : (m : ℕ) (o : Operation) (xs : List Operand) → FormStands (peer_form o) xs → Asked (P m) o xs
asked_peer m operation.Copy (operand.Var v ∷ operand.Var w ∷ []) h = asked (P m) operation.Copy (act.Copy v w) _ refl refl refl (λ t. (t, (h.0, h.1.0))) tt
asked_peer m operation.Set (operand.Var v ∷ operand.Number n ∷ operand.VarOrNone w ∷ []) h = asked (P m) operation.Set
    (act.Set v n w) _ (rw (byte_is n (omega arith)) refl) refl refl (λ t. (t, (h.0, h.1.1.0, h.1.0.1))) tt
asked_peer m operation.Get (operand.Var v ∷ operand.Var w ∷ operand.Number n ∷ []) h = asked (P m) operation.Get
    (act.Get v w n) _ (rw (byte_is n (omega arith)) refl) refl refl (λ t. (t, (h.0, h.1.0, h.1.1.0.1))) tt
asked_peer m operation.Drop (operand.Var v ∷ []) h = asked (P m) operation.Drop (act.Drop v) _ refl refl refl (λ t. (t, h.0)) tt
asked_peer m operation.Load (operand.Var v ∷ operand.PeerStatic x ∷ []) h = asked (P m) operation.Load (act.Load v x) _ refl refl refl (λ t. (t, (h.0, h.1.0))) tt
asked_peer m operation.Store (operand.PeerStatic x ∷ operand.VarOrNone v ∷ []) h = asked (P m) operation.Store (act.Store x v) _ refl refl refl (λ t. (t, (h.0, h.1.0))) tt
asked_peer m operation.NewPeer (operand.Var v ∷ operand.Number n ∷ []) h = asked (P m) operation.NewPeer (act.NewPeer v n) _ (rw (byte_is n (omega arith)) refl) refl refl (λ t. (t, (h.0, h.1.0.1))) tt
asked_peer m operation.Global (operand.Global g ∷ operand.Var v ∷ []) h = asked (P m) operation.Global (act.Global g v) _ refl refl refl (λ t. (t, (h.0, h.1.0))) tt
asked_peer m operation.WGlobal (operand.Global g ∷ operand.Var v ∷ []) h = asked (P m) operation.WGlobal (act.WGlobal g v) _ refl refl refl (λ t. (t, (h.0, h.1.0))) tt
asked_peer m operation.UnGlobal (operand.Global g ∷ []) h = asked (P m) operation.UnGlobal (act.UnGlobal g) _ refl refl refl (λ t. (t, h.0)) tt
asked_peer m operation.WRead (operand.Var v ∷ operand.Global g ∷ []) h = asked (P m) operation.WRead (act.WRead v g) _ refl refl refl (λ t. (t, (h.0, h.1.0))) tt
asked_peer m operation.Collect [] h = asked (P m) operation.Collect act.Collect _ refl refl refl (λ t. (t, tt)) tt
asked_peer m operation.BeginMark [] h = asked (P m) operation.BeginMark act.BeginMark _ refl refl refl (λ t. (t, tt)) tt
asked_peer m operation.Slice (operand.Number n ∷ []) h = asked (P m) operation.Slice (act.Slice n) _ refl refl refl (λ t. (t, (h.0.0, h.0.1))) tt
asked_peer m operation.SweepMark [] h = asked (P m) operation.SweepMark act.SweepMark _ refl refl refl (λ t. (t, tt)) tt
asked_peer m o xs h = absurd (assumption)

asked_driver : (o : Operation) (xs : List Operand) → FormStands (driver_form o) xs → Asked C o xs
asked_driver (operation.Phase w) [] h = asked C (operation.Phase w) (act.PhaseLine w) _ refl refl refl (λ t. tt) tt
asked_driver operation.Finalise (operand.Number n ∷ []) h = asked C operation.Finalise (act.Finalise n) _ refl refl refl (λ t. (h.0.0, h.0.1)) tt
asked_driver o xs h = absurd (assumption)

asked_form : (t : Thread) (o : Operation) (xs : List Operand) → FormStands (form_of t o) xs → Asked t o xs
asked_form (M m) o = asked_managed m o
asked_form (P m) o = asked_peer m o
asked_form C o = asked_driver o

pub asked_of : (t : Thread) (o : Operation) (ps : List Place) (xs : List Operand) → form_of t o ≡ Some ps → StandAll ps xs → Asked t o xs
asked_of t o ps xs e s = let F : Option (List Place) → Type 0 = λ f. FormStands f xs in asked_form t o xs (subst F (sym e) s)
