-- What the words of an event and the state together tell of the event, for each event of a managed or a peer thread:
-- all of it.
use Rattle.std.proofs.Common.{◌≡◌, ◌<◌, ◌≤◌, ◌∷◌, decimal, refl, sym, ◌∙◌, ap, arith}
use Rattle.joint_machine.specs.declared.names.Thread.{Thread}
use Rattle.joint_machine.specs.declared.lines.Act.{Act}
use Rattle.joint_machine.specs.declared.lines.Act.TheVariants as act
use Rattle.joint_machine.specs.declared.events.Op.{Op}
use Rattle.joint_machine.specs.declared.events.Op.TheVariants as op
use Rattle.joint_machine.specs.Lines.{IsHeapAct, IsVar}
use Rattle.bridge_script.specs.Words.{act_words}
use Rattle.history_report.specs.Report.{event_words}
use Rattle.script_laws.proofs.Reading.{Names, read_event, read-number, read-var, read-optional, read-kind, read-sort, read-static, read-own, read-cell, read-global}

-- an act that is one event of a managed or a peer thread, with its places within their limits
abbrev pub IsBounded : Act → Type 0
IsBounded (act.New v k n) = IsVar v × (n ≤ 16)
IsBounded (act.Weak k v) = (k.0 < 64) × IsVar v
IsBounded (act.Read k) = k.0 < 64
IsBounded (act.Await k) = k.0 < 64
IsBounded (act.Take v) = IsVar v
IsBounded (act.Handle v) = IsVar v
IsBounded (act.NewPeer v n) = IsVar v × (n ≤ 16)
IsBounded (act.Global g v) = (g.0 < 64) × IsVar v
IsBounded (act.WGlobal g v) = (g.0 < 64) × IsVar v
IsBounded (act.UnGlobal g) = g.0 < 64
IsBounded (act.WRead v g) = IsVar v × (g.0 < 64)
IsBounded (act.Slice n) = n ≤ 65535
IsBounded a = IsHeapAct a

-- an event of a managed or a peer thread, with its places within their limits, and the state's own names
abbrev pub IsKnown : Names → Op → Type 0
IsKnown s (op.Line a) = IsBounded a
IsKnown s (op.Make k n) = n ≤ 16
IsKnown s (op.Adopt v k n p h) = IsVar v × (n ≤ 16) × (s.peer ≡ p.0) × (s.handle ≡ h.0)
IsKnown s (op.Lend v x) = IsVar v × (x.0 < 16)
IsKnown s (op.Land h x) = (s.handle ≡ h.0) × (x.0 < 16)
IsKnown s (op.Grip x) = x.0 < 16
IsKnown s (op.Meet v k n p h) = IsVar v × (n ≤ 16) × (s.peer ≡ p.0) × (s.handle ≡ h.0)
IsKnown s (op.Give v) = IsVar v
IsKnown s (op.Release h) = s.handle ≡ h.0
IsKnown s op.Begin = Unit {0}
IsKnown s op.Sweep = Unit {0}
IsKnown s _ = ⊥

read-act : (s : Names) (t : Thread) (a : Act) → IsBounded a → read_event s (act_words t a) ≡ op.Line a
read-act s t (act.New v k n) b = λ i. op.Line (act.New (read-var v b.0 i) (read-kind k i) (read-number n (omega (arith, b.1)) i))
read-act s t (act.Copy v w) b = λ i. op.Line (act.Copy (read-var v b.0 i) (read-var w b.1 i))
read-act s t (act.Set v n w) b = λ i. op.Line (act.Set (read-var v b.0 i) (read-number n (omega (arith, b.2)) i) (read-optional w b.1 i))
read-act s t (act.Get v w n) b = λ i. op.Line (act.Get (read-var v b.0 i) (read-var w b.1 i) (read-number n (omega (arith, b.2)) i))
read-act s t (act.Drop v) b = λ i. op.Line (act.Drop (read-var v b i))
read-act s t (act.Load v x) b = λ i. op.Line (act.Load (read-var v b.0 i) (read-own t x b.1 i))
read-act s t (act.Store x v) b = λ i. op.Line (act.Store (read-own t x b.0 i) (read-optional v b.1 i))
read-act s t (act.Weak k v) b = λ i. op.Line (act.Weak (read-cell k b.0 i) (read-var v b.1 i))
read-act s t (act.Read k) b = λ i. op.Line (act.Read (read-cell k b i))
read-act s t (act.Await k) b = λ i. op.Line (act.Await (read-cell k b i))
read-act s t (act.Take v) b = λ i. op.Line (act.Take (read-var v b i))
read-act s t (act.Handle v) b = λ i. op.Line (act.Handle (read-var v b i))
read-act s t (act.NewPeer v n) b = λ i. op.Line (act.NewPeer (read-var v b.0 i) (read-number n (omega (arith, b.1)) i))
read-act s t (act.Global g v) b = λ i. op.Line (act.Global (read-global g b.0 i) (read-var v b.1 i))
read-act s t (act.WGlobal g v) b = λ i. op.Line (act.WGlobal (read-global g b.0 i) (read-var v b.1 i))
read-act s t (act.UnGlobal g) b = λ i. op.Line (act.UnGlobal (read-global g b i))
read-act s t (act.WRead v g) b = λ i. op.Line (act.WRead (read-var v b.0 i) (read-global g b.1 i))
read-act s t (act.Slice n) b = λ i. op.Line (act.Slice (read-number n (omega (arith, b)) i))
read-act s t a b = absurd b

read-known : (s : Names) (t : Thread) (o : Op) → IsKnown s o → read_event s (event_words t o) ≡ o
read-known s t (op.Line a) k = read-act s t a k
read-known s t (op.Make o n) k = λ i. op.Make (read-sort o i) (read-number n (omega (arith, k)) i)
read-known s t (op.Adopt v o n p h) k = λ i. op.Adopt (read-var v k.0 i) (read-kind o i) (read-number n (omega (arith, k.1)) i) record { 0 = k.2 i } record { 0 = k.3 i }
read-known s t (op.Lend v x) k = λ i. op.Lend (read-var v k.0 i) (read-static x (115 ∷ decimal x.0) k.1 refl i)
read-known s t (op.Land h x) k = λ i. op.Land record { 0 = k.0 i } (read-static x (115 ∷ decimal x.0) k.1 refl i)
read-known s t (op.Grip x) k = λ i. op.Grip (read-static x (115 ∷ decimal x.0) k refl i)
read-known s t (op.Meet v o n p h) k = λ i. op.Meet (read-var v k.0 i) (read-sort o i) (read-number n (omega (arith, k.1)) i) record { 0 = k.2 i } record { 0 = k.3 i }
read-known s t (op.Give v) k = λ i. op.Give (read-var v k i)
read-known s t (op.Release h) k = λ i. op.Release record { 0 = k i }
read-known s t op.Begin k = refl
read-known s t op.Sweep k = refl
read-known s t o k = absurd k

-- two events of one state with the same words
pub same-event : (s : Names) (t : Thread) (o o' : Op) → IsKnown s o → IsKnown s o' → event_words t o ≡ event_words t o' → o ≡ o'
same-event s t o o' k k' e = sym (read-known s t o k) ∙ (ap (read_event s) e ∙ read-known s t o' k')
