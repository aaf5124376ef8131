-- Each entry of a past cites what it has to. What a thread is in the midst of was begun by an entry of the past, with
-- its number, line and data; and the driver's stand has the number of its snap, and of its clear, which stand in the
-- past. The order of each caller's events lets an entry come only with that number.
use Rattle.known_laws.proofs.Coming.{event_of, turn_of}
use Rattle.joint_machine.specs.PinsTold.{bare_told}
use Rattle.std.proofs.Common.{◌≡◌, ◌⊎◌, inl, inr, ⊎_elim, ℕ, List, [], ◌∷◌, Option, Some, None, refl, sym, ap, ◌∙◌, subst}
use Rattle.joint_machine.specs.declared.names.Thread.{Thread}
use Rattle.joint_machine.specs.declared.names.Thread.TheVariants.{M, P, C}
use Rattle.joint_machine.specs.declared.names.Sort.{Sort}
use Rattle.joint_machine.specs.declared.names.Var.{Var}
use Rattle.joint_machine.specs.declared.names.StaticNo.{StaticNo}
use Rattle.joint_machine.specs.declared.names.PNum.{PNum}
use Rattle.joint_machine.specs.declared.names.HNum.{HNum}
use Rattle.joint_machine.specs.declared.names.Kind.{Kind}
use Rattle.joint_machine.specs.declared.events.Op.{Op}
use Rattle.joint_machine.specs.declared.events.Op.TheVariants as op
use Rattle.joint_machine.specs.declared.events.Reply.{Reply}
use Rattle.joint_machine.specs.declared.events.Reply.TheVariants as says
use Rattle.joint_machine.specs.declared.events.Made.{Made}
use Rattle.joint_machine.specs.Control.{Doing, free, made, lent, gripped, given, met, Stand, idle, snapped, contracted, weakening, marked, restoring, restored, CallerAllows, doing_after, stand_after}
use Rattle.joint_machine.specs.Control.{control_after, doing_at, ThreadAllows, DriverAllows}
use Rattle.joint_machine.specs.Lines.{IsEvent}
use Rattle.joint_machine.specs.Managed.{Managed}
use Rattle.joint_machine.specs.Peers.{Issued}
use Rattle.joint_machine.specs.Told.{Told, Noted, contraction_of, references_of, resolution_of, phase_of}
use Rattle.joint_laws.specs.LinkedInvariants.{doing_in}
use Rattle.joint_laws.proofs.Hands.{doing-set_cases, opening-free}
use Rattle.known_laws.specs.Pasts.{Lawful, end_of}
use Rattle.known_laws.specs.PastEntries.{InPast}
use Rattle.known_laws.specs.Turns.{OpensOperation}
use Rattle.known_laws.specs.Citations.{HasCited, IsMakeOf, IsLendOf, IsGripOf, IsNotNew, IsGiveOf, IsMeetOf, IsSnapOf, IsClearOf, Cites, PastsCite}
use Rattle.known_laws.proofs.PastsJoin.{below}

-- an entry of the past with that number and caller, which is as said
pub record Began (h : List Noted) (t : Thread) (number : ℕ) (IsAsSaid : Made → Type 0) : Type 0 where
  pub begun : Noted
  pub there : InPast h begun
  pub numbered : begun.entry.number ≡ number
  pub same : begun.entry.made.caller ≡ t
  pub as_said : IsAsSaid begun.entry.made

later : (x : Noted) (h : List Noted) (t : Thread) (n : ℕ) (Q : Made → Type 0) → Began h t n Q → Began (x ∷ h) t n Q
later x h t n Q b = record { begun = b.begun; there = inr b.there; numbered = b.numbered; same = b.same; as_said = b.as_said }

abbrev pub WasBegun : List Noted → Thread → Doing → Type 0
WasBegun h t free = Unit {0}
WasBegun h t (made n line p g sort f) = Began h t n (IsMakeOf line record { 0 = p } record { 0 = g })
WasBegun h t (lent n line g x) = Began h t n (IsLendOf line record { 0 = g } record { 0 = x })
WasBegun h t (gripped n line p g sort f) = Began h t n (IsGripOf line record { 0 = p } record { 0 = g } sort f)
WasBegun h t (given n line g) = Began h t n (λ m. IsGiveOf line record { 0 = g } m ⊎ IsMeetOf line record { 0 = g } m)
WasBegun h t (met n line g) = Began h t n (λ m. IsGiveOf line record { 0 = g } m ⊎ IsMeetOf line record { 0 = g } m)

begun_later : (x : Noted) (h : List Noted) (t : Thread) (d : Doing) → WasBegun h t d → WasBegun (x ∷ h) t d
begun_later x h t free b = tt
begun_later x h t (made n line p g sort f) b = later x h t n _ b
begun_later x h t (lent n line g y) b = later x h t n _ b
begun_later x h t (gripped n line p g sort f) b = later x h t n _ b
begun_later x h t (given n line g) b = later x h t n _ b
begun_later x h t (met n line g) b = later x h t n _ b

-- what an entry begins
begins : (x : Noted) (h : List Noted) (u : ℕ) (o : Op) (reply : Reply) → x.entry.made.caller ≡ M u → x.entry.made.op ≡ o
    → x.entry.made.reply ≡ reply → WasBegun (x ∷ h) (M u) (doing_after x.entry.number x.entry.made.index o reply)
begins x h u (op.Make sort f) (says.Made p g) c e r = record { begun = x; there = inl refl; numbered = refl; same = c; as_said = (sort, f, refl, e, r) }
begins x h u (op.Make sort f) _ c e r = tt
begins x h u (op.Lend v y) (says.H g) c e r = record { begun = x; there = inl refl; numbered = refl; same = c; as_said = (v, refl, e, r) }
begins x h u (op.Lend v y) _ c e r = tt
begins x h u (op.Grip y) (says.Gripped p g sort f) c e r = record { begun = x; there = inl refl; numbered = refl; same = c; as_said = (y, refl, e, r) }
begins x h u (op.Grip y) _ c e r = tt
begins x h u (op.Give v) (says.H g) c e r = record { begun = x; there = inl refl; numbered = refl; same = c; as_said = inl (v, refl, e, r) }
begins x h u (op.Give v) _ c e r = tt
begins x h u (op.Meet v sort f p g) (says.New m) c e r = tt
begins x h u (op.Meet v sort f p g) reply c e r = record { begun = x; there = inl refl; numbered = refl; same = c; as_said = inr (v, p, sort, f, refl, e, subst IsNotNew (sym r) tt) }
begins x h u _ reply c e r = tt

-- where the driver stands
abbrev pub WasOpened : List Noted → Stand → Type 0
WasOpened h idle = Unit {0}
WasOpened h (snapped o) = Began h C o.snap (IsSnapOf o.cycle)
WasOpened h (contracted o comps heavy xrefs) = Began h C o.snap (IsSnapOf o.cycle)
WasOpened h (weakening o count x y) = Began h C o.snap (IsSnapOf o.cycle)
WasOpened h (marked o) = Unit {0}
WasOpened h (restoring o answers) = Unit {0}
WasOpened h (restored o answers clear) = Began h C clear (IsClearOf o.cycle)

opened_later : (x : Noted) (h : List Noted) (st : Stand) → WasOpened h st → WasOpened (x ∷ h) st
opened_later x h idle b = tt
opened_later x h (snapped o) b = later x h C o.snap _ b
opened_later x h (contracted o comps heavy xrefs) b = later x h C o.snap _ b
opened_later x h (weakening o count y z) b = later x h C o.snap _ b
opened_later x h (marked o) b = tt
opened_later x h (restoring o answers) b = tt
opened_later x h (restored o answers clear) b = later x h C clear _ b

clears : (x : Noted) (h : List Noted) (st : Stand) (m : Managed) (i : List Issued) (k : ℕ) (reply : Reply) (cites : Option ℕ) (told : Told)
    → x.entry.made.caller ≡ C → x.entry.made.op ≡ op.Clear record { 0 = k } → DriverAllows st m i (op.Clear record { 0 = k }) reply cites told
    → WasOpened (x ∷ h) (stand_after st x.entry.number (op.Clear record { 0 = k }) reply told)
clears x h (restoring o answers) m i k reply cites told e f a = record { begun = x; there = inl refl; numbered = refl; same = e; as_said = f ∙ (λ j. op.Clear record { 0 = sym a.2 j }) }
clears x h _ m i k reply cites told e f a = absurd a

opens : (x : Noted) (h : List Noted) (st : Stand) (m : Managed) (i : List Issued) (line : ℕ) (o : Op) (reply : Reply) (cites : Option ℕ) (told : Told) → x.entry.made.caller ≡ C
    → x.entry.made.op ≡ o → DriverAllows st m i o reply cites told → WasOpened h st → WasOpened (x ∷ h) (stand_after st x.entry.number o reply told)
opens x h st m i line (op.Snap k) reply cites told e f a b = record { begun = x; there = inl refl; numbered = refl; same = e; as_said = f }
opens x h st m i line (op.Clear k) reply cites told e f a b = clears x h st m i k.0 reply cites told e f a
opens x h st m i line (op.Resolve k) reply cites told e f a b = tt
opens x h st m i line (op.Abandon k) reply cites told e f a b = tt
opens x h (snapped o) m i line (op.Contract k) reply cites (contraction_of comps heavy xrefs) e f a b = later x h C o.snap _ b
opens x h (contracted o comps heavy xrefs) m i line (op.Mirror k) reply cites told e f a b = later x h C o.snap _ b
opens x h (weakening o count y z) m i line (op.Weaken g) reply cites told e f a b = later x h C o.snap _ b
opens x h (weakening o count y z) m i line op.Sweep reply cites told e f a b = later x h C o.snap _ b
opens x h (weakening o count y z) m i line op.Begin reply cites told e f a b = tt
opens x h (weakening o count y z) m i line (op.Refused r) reply cites told e f a b = later x h C o.snap _ b
opens x h (marked o) m i line op.Sweep reply cites told e f a b = tt
opens x h (restoring o answers) m i line (op.Restore g) reply cites told e f a b = tt
opens x h st m i line _ reply cites told e f a b = opened_later x h st b

-- by the past alone
pub record Backed (h : List Noted) : Type 0 where
  pub hands : (t : ℕ) → WasBegun h (M t) (doing_at (end_of h).control t)
  pub stand : WasOpened h (end_of h).control.stand

opening-begun : (t : ℕ) → WasBegun [] (M t) (doing_at (end_of []).control t)
opening-begun t = subst (WasBegun [] (M t)) (sym (opening-free 9 t)) tt

backed-step : (x : Noted) (h : List Noted) → Lawful (x ∷ h) → Backed h → Backed (x ∷ h)
backed-step x h l b = by x.entry.made.caller refl (turn_of x h l)
  where
    After : Thread → Type 0
    After t = ((v : ℕ) → WasBegun (x ∷ h) (M v) (doing_at (control_after (end_of h).control t x.entry.number x.entry.made.index x.entry.made.op x.entry.made.reply (bare_told x.told)) v))
        × WasOpened (x ∷ h) (control_after (end_of h).control t x.entry.number x.entry.made.index x.entry.made.op x.entry.made.reply (bare_told x.told)).stand

    Allowed : Thread → Type 0
    Allowed t = CallerAllows (end_of h).control (end_of h).managed.managed (end_of h).peer.peers.issued t x.entry.made.index x.entry.made.op x.entry.made.reply x.entry.made.cites (bare_told x.told)

    given_back : (t : Thread) → x.entry.made.caller ≡ t → After t → Backed (x ∷ h)
    given_back t e w = (let z = subst After (sym e) w in record { hands = z.0; stand = z.1 })

    by : (t : Thread) → x.entry.made.caller ≡ t → Allowed t → Backed (x ∷ h)
    by (M u) e a = given_back (M u) e (
      λ v. ⊎_elim
          (λ z. subst (λ w. WasBegun (x ∷ h) (M w) (doing_at (control_after (end_of h).control (M u) x.entry.number x.entry.made.index x.entry.made.op x.entry.made.reply (bare_told x.told)) v))
          (sym z.0) (subst (WasBegun (x ∷ h) (M u)) (sym z.1) (begins x h u x.entry.made.op x.entry.made.reply e refl refl)))
          (λ z. subst (WasBegun (x ∷ h) (M v)) (sym z.0) (begun_later x h (M v) (doing_in (end_of h).control.doing v) (b.hands v)))
          (doing-set_cases (end_of h).control.doing u (doing_after x.entry.number x.entry.made.index x.entry.made.op x.entry.made.reply) v),
      opened_later x h (end_of h).control.stand b.stand,
    )
    by (P u) e a = given_back (P u) e (λ v. begun_later x h (M v) (doing_at (end_of h).control v) (b.hands v), opened_later x h (end_of h).control.stand b.stand)
    by C e a = given_back C e (
      λ v. begun_later x h (M v) (doing_at (end_of h).control v) (b.hands v),
      opens x h (end_of h).control.stand (end_of h).managed.managed (end_of h).peer.peers.issued x.entry.made.index x.entry.made.op x.entry.made.reply x.entry.made.cites
          (bare_told x.told) e refl a b.stand,
    )

pub backed : (h : List Noted) → Lawful h → Backed h
backed [] l = record { hands = opening-begun; stand = tt }
backed (x ∷ h) l = backed-step x h l (backed h l.1)

-- what a backed stand or hand lets cite
cited_by : (x : Noted) (h : List Noted) (t : Thread) (n : ℕ) (Q R : Made → Type 0) → Lawful (x ∷ h) → x.entry.made.caller ≡ t
    → x.entry.made.cites ≡ Some n → ((m : Made) → Q m → R m) → Began h t n Q → HasCited h x.entry.made x.entry.number R
cited_by x h t n Q R l e c f b = record {
  cited = b.begun;
  there = b.there;
  by_number = c
      ∙ ap Some (sym b.numbered);
  earlier = below x h b.begun l.0 l.1 b.there;
  same = b.same ∙ sym e;
  as_said = f b.begun.entry.made b.as_said;
}

-- every other event cites nothing
pub thread-none : (d : Doing) (t : Thread) (l : ℕ) (o : Op) (c : Option ℕ) → OpensOperation o → ThreadAllows d t l o c → c ≡ None
thread-none d t l (op.Adopt v kind k p g) c f a = absurd f
thread-none d t l (op.Land g y) c f a = absurd f
thread-none d t l (op.Meet v sort k p g) c f a = absurd f
thread-none d t l (op.Release g) c f a = absurd f
thread-none (given n line g) t l o c f a = absurd a
thread-none (met n line g) t l o c f a = absurd a
thread-none d t l o c f a = a

-- the driver's event goes by no entry
abbrev IsUnciting : Op → Type 0
IsUnciting (op.Mirror k) = ⊥
IsUnciting (op.Weaken g) = ⊥
IsUnciting (op.Resolve k) = ⊥
IsUnciting _ = Unit {0}

driver-none : (st : Stand) (m : Managed) (i : List Issued) (o : Op) (r : Reply) (c : Option ℕ) (told : Told) → IsUnciting o → DriverAllows st m i o r c told → c ≡ None
driver-none st m i (op.Line a) r c told u w = w.1
driver-none idle m i (op.Snap k) r c told u w = w
driver-none (snapped o) m i (op.Contract k) r c told u w = w.1
driver-none (weakening o count y z) m i op.Begin (says.Mark j) c told u w = w.1
driver-none (weakening o count y z) m i op.Sweep r c told u w = w.2
driver-none (marked o) m i op.Sweep r c told u w = w
driver-none (restoring o answers) m i (op.Restore g) r c told u w = w.0
driver-none (restoring o answers) m i (op.Clear k) r c told u w = w.0
driver-none (snapped o) m i (op.Abandon k) r c told u w = w.1
driver-none (contracted o comps heavy xrefs) m i (op.Abandon k) r c told u w = w.1
driver-none st m i (op.Refused v) r c (phase_of p) u w = w.1
driver-none st m i (op.Mirror k) r c told u w = absurd u
driver-none st m i (op.Weaken g) r c told u w = absurd u
driver-none st m i (op.Resolve k) r c told u w = absurd u
driver-none st m i _ r c told u w = absurd w

module _ (x : Noted) (h : List Noted) (l : Lawful (x ∷ h)) where
  adopt-cites : (d : Doing) (u : ℕ) (v : Var) (kind : Kind) (k : ℕ) (p : PNum) (g : HNum) → x.entry.made.caller ≡ M u → WasBegun h (M u) d
      → ThreadAllows d (M u) x.entry.made.index (op.Adopt v kind k p g) x.entry.made.cites → HasCited h x.entry.made x.entry.number (IsMakeOf x.entry.made.index p g)
  adopt-cites (made n line p' g' sort f) u v kind k p g e b a =
      cited_by x h (M u) n _ _ l e a.0 (λ m q. (q.0, q.1, q.2 ∙ sym a.1, q.3, q.4 ∙ (λ i. says.Made record { 0 = sym a.2 i } record { 0 = sym a.3 i }))) b
  adopt-cites _ u v kind k p g e b a = absurd a

  land-cites : (d : Doing) (u : ℕ) (g : HNum) (y : StaticNo) → x.entry.made.caller ≡ M u → WasBegun h (M u) d
      → ThreadAllows d (M u) x.entry.made.index (op.Land g y) x.entry.made.cites → HasCited h x.entry.made x.entry.number (IsLendOf x.entry.made.index g y)
  land-cites (lent n line g' y') u g y e b a = cited_by x h (M u) n _ _ l e a.0
      (λ m q. (q.0, q.1 ∙ sym a.1, q.2 ∙ (λ i. op.Lend q.0 record { 0 = sym a.3 i }), q.3 ∙ (λ i. says.H record { 0 = sym a.2 i }))) b
  land-cites _ u g y e b a = absurd a

  meet-cites : (d : Doing) (u : ℕ) (v : Var) (p : PNum) (g : HNum) (sort : Sort) (f : ℕ) → x.entry.made.caller ≡ M u → WasBegun h (M u) d
      → ThreadAllows d (M u) x.entry.made.index (op.Meet v sort f p g) x.entry.made.cites → HasCited h x.entry.made x.entry.number (IsGripOf x.entry.made.index p g sort f)
  meet-cites (gripped n line p' g' sort' f') u v p g sort f e b a =
      cited_by x h (M u) n _ _ l e a.0 (λ m q. (q.0, q.1 ∙ sym a.1, q.2, q.3 ∙ (λ i. says.Gripped record { 0 = sym a.2 i } record { 0 = sym a.3 i } (sym a.4 i) (sym a.5 i)))) b
  meet-cites _ u v p g sort f e b a = absurd a

  taken : (line : ℕ) (g g' : HNum) (i : x.entry.made.index ≡ line) → g.0 ≡ g'.0 → (m : Made)
      → IsGiveOf line g' m ⊎ IsMeetOf line g' m → IsGiveOf x.entry.made.index g m ⊎ IsMeetOf x.entry.made.index g m
  taken line g g' i e m w = ⊎_elim
      (λ q. inl (q.0, q.1 ∙ sym i, q.2, q.3 ∙ (λ k. says.H record { 0 = sym e k })))
      (λ q. inr (q.0, q.1, q.2, q.3, q.4 ∙ sym i, q.5 ∙ (λ k. op.Meet q.0 q.2 q.3 q.1 record { 0 = sym e k }), q.6))
      w

  release-cites : (d : Doing) (u : ℕ) (g : HNum) → x.entry.made.caller ≡ M u → WasBegun h (M u) d → ThreadAllows d (M u) x.entry.made.index (op.Release g) x.entry.made.cites
      → HasCited h x.entry.made x.entry.number (λ m. IsGiveOf x.entry.made.index g m ⊎ IsMeetOf x.entry.made.index g m)
  release-cites (given n line g') u g e b a = cited_by x h (M u) n _ _ l e a.0 (taken line g record { 0 = g' } a.1 a.2) b
  release-cites (met n line g') u g e b a = cited_by x h (M u) n _ _ l e a.0 (taken line g record { 0 = g' } a.1 a.2) b
  release-cites _ u g e b a = absurd a

  abbrev May : Stand → Op → Told → Type 0
  May st o told = DriverAllows st (end_of h).managed.managed (end_of h).peer.peers.issued o x.entry.made.reply x.entry.made.cites told

  mirror-cites : (st : Stand) (k : ℕ) (told : Told) → x.entry.made.caller ≡ C
      → WasOpened h st → May st (op.Mirror record { 0 = k }) told → HasCited h x.entry.made x.entry.number (IsSnapOf k)
  mirror-cites (contracted o comps heavy xrefs) k (references_of refs) e b a = cited_by x h C o.snap _ _ l e a.1 (λ m q. subst (λ c. IsSnapOf c m) a.0 q) b
  mirror-cites (contracted o comps heavy xrefs) k _ e b a = absurd a
  mirror-cites _ k told e b a = absurd a

  weaken-cites : (st : Stand) (g : HNum) (told : Told) → x.entry.made.caller ≡ C → WasOpened h st
      → May st (op.Weaken g) told → HasCited h x.entry.made x.entry.number (λ m. (k : ℕ) × IsSnapOf k m)
  weaken-cites (weakening o count y z) g told e b a = cited_by x h C o.snap _ _ l e a.0 (λ m q. (o.cycle, q)) b
  weaken-cites _ g told e b a = absurd a

  resolve-cites : (st : Stand) (k : ℕ) (told : Told) → x.entry.made.caller ≡ C
      → WasOpened h st → May st (op.Resolve record { 0 = k }) told → HasCited h x.entry.made x.entry.number (IsClearOf k)
  resolve-cites (restored o answers clear) k (resolution_of alive freed) e b a = cited_by x h C clear _ _ l e a.1 (λ m q. subst (λ c. IsClearOf c m) a.0 q) b
  resolve-cites (restored o answers clear) k _ e b a = absurd a
  resolve-cites _ k told e b a = absurd a

  abbrev Allows : Thread → Op → Type 0
  Allows t o = CallerAllows (end_of h).control (end_of h).managed.managed (end_of h).peer.peers.issued t x.entry.made.index o x.entry.made.reply x.entry.made.cites (bare_told x.told)

  by : (t : Thread) (o : Op) → x.entry.made.caller ≡ t → IsEvent t o → Allows t o → Cites h x.entry.made x.entry.number o
  by (M u) (op.Adopt v kind k p g) e w a = adopt-cites (doing_at (end_of h).control u) u v kind k p g e ((backed h l.1).hands u) a
  by (M u) (op.Land g y) e w a = land-cites (doing_at (end_of h).control u) u g y e ((backed h l.1).hands u) a
  by (M u) (op.Meet v sort f p g) e w a = meet-cites (doing_at (end_of h).control u) u v p g sort f e ((backed h l.1).hands u) a
  by (M u) (op.Release g) e w a = release-cites (doing_at (end_of h).control u) u g e ((backed h l.1).hands u) a
  by C (op.Mirror k) e w a = mirror-cites (end_of h).control.stand k.0 (bare_told x.told) e (backed h l.1).stand a
  by C (op.Weaken g) e w a = weaken-cites (end_of h).control.stand g (bare_told x.told) e (backed h l.1).stand a
  by C (op.Resolve k) e w a = resolve-cites (end_of h).control.stand k.0 (bare_told x.told) e (backed h l.1).stand a
  by (P u) (op.Adopt v kind k p g) e w a = absurd w.0
  by C (op.Adopt v kind k p g) e w a = absurd w.0
  by (P u) (op.Land g y) e w a = absurd w.0
  by C (op.Land g y) e w a = absurd w.0
  by (P u) (op.Meet v sort f p g) e w a = absurd w.0
  by C (op.Meet v sort f p g) e w a = absurd w.0
  by (P u) (op.Release g) e w a = absurd w
  by C (op.Release g) e w a = absurd w
  by (M u) (op.Mirror k) e w a = absurd w
  by (P u) (op.Mirror k) e w a = absurd w
  by (M u) (op.Weaken g) e w a = absurd w
  by (P u) (op.Weaken g) e w a = absurd w
  by (M u) (op.Resolve k) e w a = absurd w
  by (P u) (op.Resolve k) e w a = absurd w
  by (M u) o e w a = thread-none (doing_at (end_of h).control u) (M u) x.entry.made.index o x.entry.made.cites tt a
  by (P u) o e w a = a
  by C o e w a = driver-none (end_of h).control.stand (end_of h).managed.managed (end_of h).peer.peers.issued o x.entry.made.reply x.entry.made.cites (bare_told x.told) tt a

pub pasts_cite : PastsCite
pasts_cite x h l = by x h l x.entry.made.caller x.entry.made.op refl (event_of x h l) (turn_of x h l)
