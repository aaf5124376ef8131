-- Each line that a script can ever have has its row of the table: its words are its operation's and those of what
-- stands at the operation's places, and the act is known from them. So two lines with the same words are the same,
-- and the words of a line have no cause. Shown act by act; an operation has one line here.
use Rattle.std.proofs.Common.{min, ◌≡◌, ℕ, ◌≤◌, List, [], ◌∷◌, Some, codes, decimal, ◌∙◌, ap, refl, arith, inl, inr}
use Rattle.std.proofs.lemmas.Fmt.{decimal_digit}
use Rattle.joint_machine.specs.declared.names.Var.{Var}
use Rattle.joint_machine.specs.declared.names.Kind.{Kind}
use Rattle.joint_machine.specs.declared.names.Kind.TheVariants as kind
use Rattle.joint_machine.specs.declared.names.Sort.{Sort}
use Rattle.joint_machine.specs.declared.names.Thread.{Thread}
use Rattle.joint_machine.specs.declared.names.Thread.TheVariants.{M, P, C}
use Rattle.joint_machine.specs.declared.lines.Act.{Act}
use Rattle.joint_machine.specs.declared.lines.Act.TheVariants as act
use Rattle.joint_machine.specs.Lines.{IsLine, IsManagedAct, IsPeerAct, IsDriverAct, IsPlainObject, IsBridgeObject, IsVar}
use Rattle.bridge_script.specs.declared.faults.Cause.{Cause}
use Rattle.bridge_script.specs.declared.faults.Cause.TheVariants as cause
use Rattle.bridge_script.specs.declared.grammar.Operation.{Operation}
use Rattle.bridge_script.specs.declared.grammar.Place.{Place}
use Rattle.bridge_script.specs.declared.grammar.Place.TheVariants as place
use Rattle.bridge_script.specs.declared.operands.Operand.{Operand}
use Rattle.bridge_script.specs.declared.operands.Operand.TheVariants as operand
use Rattle.bridge_script.specs.Words.{act_words, kind_text, sort_text}
use Rattle.bridge_script.specs.Grammar.{operation_text, form_of, fields, index, count}
use Rattle.bridge_script.specs.Answers.{operation_of}
use Rattle.bridge_script.specs.Faults.{Clashes, ClashesAs, PlacesHave}
use Rattle.bridge_script.specs.Operands.{texts, StandsAt, StandAll, act_at}
use Rattle.bridge_script.specs.Laws.{FitsTable}
use Rattle.bridge_script.proofs.Standing.{all_fit, as_many}

-- the row of a line
pub record HasRow (t : Thread) (a : Act) : Type 0 where
  pub places : List Place
  pub operands : List Operand
  pub form : form_of t (operation_of a) ≡ Some places
  pub stand : StandAll places operands
  pub words : act_words t a ≡ operation_text (operation_of a) ∷ texts operands
  pub act : act_at (operation_of a) operands ≡ Some a
  pub none : Clashes (operation_of a) (texts operands) → ⊥

row : (t : Thread) (a : Act) (ps : List Place) (xs : List Operand) → form_of t (operation_of a) ≡ Some ps → StandAll ps xs
    → act_words t a ≡ operation_text (operation_of a) ∷ texts xs → act_at (operation_of a) xs ≡ Some a → (Clashes (operation_of a) (texts xs) → ⊥) → HasRow t a
row t a ps xs f s w e n = record { places = ps; operands = xs; form = f; stand = s; words = w; act = e; none = n }

pub byte_is : (n : ℕ) → n ≤ 255 → min n 255 ≡ n
byte_is n b = omega arith

pub in_fields : (n : ℕ) → n ≤ 16 → StandsAt fields (operand.Number n)
in_fields n b = (omega arith, b, omega arith)

in_index : (n : ℕ) → n ≤ 255 → StandsAt index (operand.Number n)
in_index n b = (omega arith, b, omega arith)

in_count : (n : ℕ) → 1 ≤ n → n ≤ 65535 → StandsAt count (operand.Number n)
in_count n a b = (a, b, omega arith)

pub zero_text : decimal 0 ≡ codes "0"
zero_text = decimal_digit 0 (omega arith)

row_new : (m : ℕ) (v : Var) (k : Kind) (n : ℕ) → IsVar v → IsPlainObject k n → HasRow (M m) (act.New v k n)
row_new m v kind.Plain n b h = row (M m) (act.New v kind.Plain n) _ (operand.Var v ∷ operand.Kind kind.Plain ∷ operand.Number n ∷ []) refl
    (b, (tt, (in_fields n h, tt))) refl (rw (byte_is n (omega arith)) refl) (λ x. let e = x.0 in absurd (cc))
row_new m v kind.Leaf n b h = row (M m) (act.New v kind.Leaf n) _ (operand.Var v ∷ operand.Kind kind.Leaf ∷ operand.Number n ∷ []) refl
    (b, (tt, (in_fields n (omega arith), tt))) refl (rw (byte_is n (omega arith)) refl) (λ x. x.1 (ap decimal h ∙ zero_text))
row_new m v kind.Bridge n b h = absurd h
row_new m v kind.LeafBridge n b h = absurd h

row_object : (m : ℕ) (v : Var) (k : Kind) (n : ℕ) (s : Sort) (f : ℕ) → StandsAt place.Var (operand.Var v) → StandsAt place.BridgeKind (operand.Kind k)
    → n ≤ 16 → f ≤ 16 → (ClashesAs (kind_text k) (decimal n) (sort_text s) → ⊥) → HasRow (M m) (act.Bridge v k n s f)
row_object m v k n s f b kb nb fb c = row (M m) (act.Bridge v k n s f) _ (operand.Var v ∷ operand.Kind k ∷ operand.Number n ∷ operand.Sort s ∷ operand.Number f ∷ []) refl
    (b, (kb, (in_fields n nb, (tt, (in_fields f fb, tt))))) refl (rw (byte_is n (omega arith), byte_is f (omega arith)) refl) c

row_bridge : (m : ℕ) (v : Var) (k : Kind) (n : ℕ) (s : Sort) (f : ℕ) → IsVar v → IsBridgeObject k n s → f ≤ 16 → HasRow (M m) (act.Bridge v k n s f)
row_bridge m v kind.Plain n s f b o h = absurd o
row_bridge m v kind.Leaf n s f b o h = absurd o
row_bridge m v kind.Bridge n s f b o h = row_object m v kind.Bridge n s f b tt o.0 h
    (λ x. elim x [ inl y ↦ (let e = y.0 in absurd (cc)) | inr y ↦ (let e = y.1 in let u = ap sort_text o.1 in absurd (cc)) ])
row_bridge m v kind.LeafBridge n s f b o h = row_object m v kind.LeafBridge n s f b tt (omega arith) h (λ x. elim x [ inl y ↦ y.1 (ap decimal o ∙ zero_text) | inr y ↦ (let e = y.0 in absurd (cc)) ])

row_managed : (m : ℕ) (a : Act) → IsManagedAct a → HasRow (M m) a
row_managed m (act.New v k n) h = row_new m v k n h.0 h.1
row_managed m (act.Bridge v k n s f) h = row_bridge m v k n s f h.0 h.1 h.2
row_managed m (act.Copy v w) h = row (M m) (act.Copy v w) _ (operand.Var v ∷ operand.Var w ∷ []) refl (h.0, (h.1, tt)) refl refl (λ x. x)
row_managed m (act.Set v n w) h = row (M m) (act.Set v n w) _ (operand.Var v ∷ operand.Number n ∷ operand.VarOrNone w ∷ []) refl
    (h.0, (in_index n h.2, (h.1, tt))) refl (rw (byte_is n h.2) refl) (λ x. x)
row_managed m (act.Get v w n) h = row (M m) (act.Get v w n) _ (operand.Var v ∷ operand.Var w ∷ operand.Number n ∷ []) refl (h.0, (h.1, (in_index n h.2, tt))) refl (rw (byte_is n h.2) refl) (λ x. x)
row_managed m (act.Drop v) h = row (M m) (act.Drop v) _ (operand.Var v ∷ []) refl (h, tt) refl refl (λ x. x)
row_managed m (act.Load v x) h = row (M m) (act.Load v x) _ (operand.Var v ∷ operand.ManagedStatic x ∷ []) refl (h.0, (h.1, tt)) refl refl (λ x. x)
row_managed m (act.Store x v) h = row (M m) (act.Store x v) _ (operand.ManagedStatic x ∷ operand.VarOrNone v ∷ []) refl (h.0, (h.1, tt)) refl refl (λ x. x)
row_managed m (act.Weak k v) h = row (M m) (act.Weak k v) _ (operand.Cell k ∷ operand.Var v ∷ []) refl (h.0, (h.1, tt)) refl refl (λ x. x)
row_managed m (act.Read k) h = row (M m) (act.Read k) _ (operand.Cell k ∷ []) refl (h, tt) refl refl (λ x. x)
row_managed m (act.Await k) h = row (M m) (act.Await k) _ (operand.Cell k ∷ []) refl (h, tt) refl refl (λ x. x)
row_managed m (act.Take v) h = row (M m) (act.Take v) _ (operand.Var v ∷ []) refl (h, tt) refl refl (λ x. x)
row_managed m (act.Pass v x) h = row (M m) (act.Pass v x) _ (operand.Var v ∷ operand.PeerStatic x ∷ []) refl (h.0, (h.1, tt)) refl refl (λ x. x)
row_managed m (act.Surface v x) h = row (M m) (act.Surface v x) _ (operand.Var v ∷ operand.PeerStatic x ∷ []) refl (h.0, (h.1, tt)) refl refl (λ x. x)
row_managed m (act.Dispose v) h = row (M m) (act.Dispose v) _ (operand.Var v ∷ []) refl (h, tt) refl refl (λ x. x)
row_managed m (act.Handle v) h = row (M m) (act.Handle v) _ (operand.Var v ∷ []) refl (h, tt) refl refl (λ x. x)
row_managed m a h = absurd h

row_peer : (m : ℕ) (a : Act) → IsPeerAct a → HasRow (P m) a
row_peer m (act.Copy v w) h = row (P m) (act.Copy v w) _ (operand.Var v ∷ operand.Var w ∷ []) refl (h.0, (h.1, tt)) refl refl (λ x. x)
row_peer m (act.Set v n w) h = row (P m) (act.Set v n w) _ (operand.Var v ∷ operand.Number n ∷ operand.VarOrNone w ∷ []) refl (h.0, (in_index n h.2, (h.1, tt))) refl (rw (byte_is n h.2) refl) (λ x. x)
row_peer m (act.Get v w n) h = row (P m) (act.Get v w n) _ (operand.Var v ∷ operand.Var w ∷ operand.Number n ∷ []) refl (h.0, (h.1, (in_index n h.2, tt))) refl (rw (byte_is n h.2) refl) (λ x. x)
row_peer m (act.Drop v) h = row (P m) (act.Drop v) _ (operand.Var v ∷ []) refl (h, tt) refl refl (λ x. x)
row_peer m (act.Load v x) h = row (P m) (act.Load v x) _ (operand.Var v ∷ operand.PeerStatic x ∷ []) refl (h.0, (h.1, tt)) refl refl (λ x. x)
row_peer m (act.Store x v) h = row (P m) (act.Store x v) _ (operand.PeerStatic x ∷ operand.VarOrNone v ∷ []) refl (h.0, (h.1, tt)) refl refl (λ x. x)
row_peer m (act.NewPeer v n) h = row (P m) (act.NewPeer v n) _ (operand.Var v ∷ operand.Number n ∷ []) refl (h.0, (in_fields n h.1, tt)) refl (rw (byte_is n (omega (arith, h.1))) refl) (λ x. x)
row_peer m (act.Global g v) h = row (P m) (act.Global g v) _ (operand.Global g ∷ operand.Var v ∷ []) refl (h.0, (h.1, tt)) refl refl (λ x. x)
row_peer m (act.WGlobal g v) h = row (P m) (act.WGlobal g v) _ (operand.Global g ∷ operand.Var v ∷ []) refl (h.0, (h.1, tt)) refl refl (λ x. x)
row_peer m (act.UnGlobal g) h = row (P m) (act.UnGlobal g) _ (operand.Global g ∷ []) refl (h, tt) refl refl (λ x. x)
row_peer m (act.WRead v g) h = row (P m) (act.WRead v g) _ (operand.Var v ∷ operand.Global g ∷ []) refl (h.0, (h.1, tt)) refl refl (λ x. x)
row_peer m act.Collect h = row (P m) act.Collect _ ([]) refl tt refl refl (λ x. x)
row_peer m act.BeginMark h = row (P m) act.BeginMark _ ([]) refl tt refl refl (λ x. x)
row_peer m (act.Slice n) h = row (P m) (act.Slice n) _ (operand.Number n ∷ []) refl (in_count n h.0 h.1, tt) refl refl (λ x. x)
row_peer m act.SweepMark h = row (P m) act.SweepMark _ ([]) refl tt refl refl (λ x. x)
row_peer m a h = absurd h

row_driver : (a : Act) → IsDriverAct a → HasRow C a
row_driver (act.PhaseLine w) h = row C (act.PhaseLine w) _ [] refl tt refl refl (λ x. x)
row_driver (act.Finalise n) h = row C (act.Finalise n) _ (operand.Number n ∷ []) refl (in_count n h.0 h.1, tt) refl refl (λ x. x)
row_driver a h = absurd h

pub has_row : (t : Thread) (a : Act) → IsLine t a → HasRow t a
has_row (M m) a l = row_managed m a l.1
has_row (P m) a l = row_peer m a l.1
has_row C a l = row_driver a l

-- where operands stand at an operation's places and don't clash, their words have no cause
pub none_behind : (o : Operation) (ps : List Place) (xs : List Operand) → StandAll ps xs → (Clashes o (texts xs) → ⊥) → (c : Cause) → PlacesHave o ps (texts xs) c → ⊥
none_behind o ps xs s n cause.Arity h = h (as_many ps xs s)
none_behind o ps xs s n cause.Name h = all_fit ps xs s cause.Name h
none_behind o ps xs s n cause.Number h = all_fit ps xs s cause.Number h
none_behind o ps xs s n cause.Limit h = all_fit ps xs s cause.Limit h
none_behind o ps xs s n cause.Kind h = elim h [ inl x ↦ all_fit ps xs s cause.Kind x | inr x ↦ n x ]
none_behind o ps xs s n c h = absurd h

pub fits_table : (t : Thread) (a : Act) → IsLine t a → FitsTable t a
fits_table t a l = let r = has_row t a l in record {
  places = r.places;
  rest = texts r.operands;
  form = r.form;
  words = r.words;
  none = none_behind (operation_of a) r.places r.operands r.stand r.none;
}
