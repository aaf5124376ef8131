-- What each step of the handle table does to what stands behind the log: a handle is put last, leaves, is weakened, is
-- replaced, or is cleared where it stands. Each is shown at every handle, for rows of either kind.
use Rattle.std.proofs.Common.{◌≡◌, ◌≢◌, ℕ, zero, suc, ◌+◌, ◌<◌, ◌||◌, nat_eq, Bool, true, false, List, [], ◌∷◌, ◌++◌, length, Option, Some, None, cond, refl, sym, ap, subst, ◌∙◌, inl, inr, arith}
use Rattle.std.proofs.Common.{length-append}
use Rattle.std.specs.Prelude.{slice_get}
use Rattle.std.specs.List.{list_any}
use Rattle.std.proofs.lemmas.Bool.{cases_lt}
use Rattle.std.proofs.lemmas.Bool.Decides.{eqb_tells}
use Rattle.joint_machine.specs.Heaps.{numbered_at, numbered_set}
use Rattle.joint_machine.specs.Peers.{Issued, Strength, strong, weak}
use Rattle.joint_machine.specs.PeerReplay.{TableRow, cleared_rows, fresh_row}
use Rattle.joint_machine.proofs.Numbered.{numbered-made, numbered-past, numbered-push_new, numbered-push_old, numbered-within, numbered_set-here, numbered_set-other, numbered_set-length}
use Rattle.joint_laws.specs.PeerInvariants.{IsTabled}
use Rattle.summary_laws.proofs.TableRows.{kinds-put, kinds-set, kinds-swept}
use Rattle.log_text.specs.declared.lines.Mark.{Mark}
use Rattle.log_text.specs.declared.lines.Mark.TheVariants.{GPlus, GMinus, WPlus, WMinus}
use Rattle.log_text.specs.Behind.{Behind, MayStand, put}
use Rattle.gref_log.specs.Log.{Change, changed, is_strong_row, is_weak_row, made_on, minus, peer_in, table_behind}
use Rattle.gref_log.specs.Tracking.{changed_all}

-- each change may come behind those before it
abbrev pub AllStand : List Issued → Behind → List Change → Type 0
AllStand issued v [] = Unit {0}
AllStand issued v (d ∷ ds) = MayStand v d.mark d.handle (made_on issued d.handle) × AllStand issued (changed issued v d) ds

-- the changes lead from what the one table says to what the other says
pub record Follows (issued issued' : List Issued) (t u : List (Option TableRow)) (ds : List Change) : Type 0 where
  pub stands : AllStand issued' (table_behind issued t) ds
  pub ends : changed_all issued' (table_behind issued t) ds ≡ table_behind issued' u

same-behind : (v w : Behind) → ((h : ℕ) → v.strong h ≡ w.strong h) → ((h : ℕ) → v.weak h ≡ w.weak h) → v.grefc ≡ w.grefc → v.gwrefc ≡ w.gwrefc → v ≡ w
same-behind v w s t g k = λ i. record { strong = λ h. s h i; weak = λ h. t h i; grefc = g i; gwrefc = k i }

-- one handle's peer was put
put-at : (live want : ℕ → Option ℕ) (h : ℕ) (o : Option ℕ) → o ≡ want h → ((k : ℕ) → k ≢ h → live k ≡ want k) → (k : ℕ) → put live h o k ≡ want k
put-at live want h o e f k = elim (eqb_tells k h) [
  | inl p ↦ ap (λ b. cond b o (live k)) p.0 ∙ (e ∙ ap want (sym p.1))
  | inr p ↦ ap (λ b. cond b o (live k)) p.0 ∙ f k p.1
]

abbrev Kind : Type 0
Kind = Option TableRow → Bool

-- the live handles of a kind
abbrev live : Kind → List Issued → List (Option TableRow) → ℕ → Option ℕ
live f issued t h = peer_in f (numbered_at t h) (numbered_at issued h)

both : (f : Kind) (a b : Option (Option TableRow)) (i j : Option Issued) → a ≡ b → i ≡ j → peer_in f a i ≡ peer_in f b j
both f a b i j e g = ap (λ z. peer_in f z i) e ∙ ap (peer_in f b) g

shown : (f : Kind) (o : Option TableRow) (i : Issued) (b : Bool) → f o ≡ b → peer_in f (Some o) (Some i) ≡ cond b (Some i.peer) None
shown f o i b e = ap (λ z. cond z (Some i.peer) None) e

pub made-of : (issued : List Issued) (h : ℕ) (i : Issued) → numbered_at issued h ≡ Some i → made_on issued h ≡ i.peer
made-of issued h i e = ap {B = ℕ} (λ (z : Option Issued). elim (elim z as (λ y. Option ℕ) [ None ↦ None | Some j ↦ Some j.peer ]) as (λ y. ℕ) [ None ↦ 0 | Some p ↦ p ]) e

-- a further handle stands last
module _ (issued : List Issued) (t : List (Option TableRow)) (l : length t ≡ length issued) (i : Issued) (row : TableRow) where
  abbrev n : ℕ
  n = length issued + 1

  none-yet : (f : Kind) → live f issued t n ≡ None
  none-yet f = ap (λ z. peer_in f z (numbered_at issued n)) (numbered-past t n (omega (arith, l)))

  row-there : numbered_at (t ++ Some row ∷ []) n ≡ Some (Some row)
  row-there = subst (λ z. numbered_at (t ++ Some row ∷ []) (z + 1) ≡ Some (Some row)) l (numbered-push_new t (Some row))

  others : (f : Kind) (k : ℕ) → k ≢ n → live f issued t k ≡ live f (issued ++ i ∷ []) (t ++ Some row ∷ []) k
  others f k ne = elim (cases_lt k n) [
    | inl s ↦ both f _ _ _ _ (sym (numbered-push_old t (Some row) k (omega (arith, l, s)))) (sym (numbered-push_old issued i k (omega (arith, s))))
    | inr g ↦ (let long : length (t ++ Some row ∷ []) < k = omega (arith, g, ne, l, length-append t (Some row ∷ [])) in
        ap (λ z. peer_in f z (numbered_at issued k)) (numbered-past t k (omega (arith, g, l)))
        ∙ sym (ap (λ z. peer_in f z (numbered_at (issued ++ i ∷ []) k)) (numbered-past (t ++ Some row ∷ []) k long)))
  ]

  there : (f : Kind) (b : Bool) → f (Some row) ≡ b → live f (issued ++ i ∷ []) (t ++ Some row ∷ []) n ≡ cond b (Some i.peer) None
  there f b e = both f _ _ _ _ row-there (numbered-push_new issued i) ∙ shown f (Some row) i b e

  put-own : (f : Kind) → f (Some row) ≡ true → (k : ℕ) → put (live f issued t) n (Some (made_on (issued ++ i ∷ []) n)) k ≡ live f (issued ++ i ∷ []) (t ++ Some row ∷ []) k
  put-own f e = put-at (live f issued t) (live f (issued ++ i ∷ []) (t ++ Some row ∷ [])) n _ (ap Some (made-of (issued ++ i ∷ []) n i (numbered-push_new issued i)) ∙ sym (there f true e)) (others f)

  put-other : (f : Kind) → f (Some row) ≡ false → (k : ℕ) → live f issued t k ≡ live f (issued ++ i ∷ []) (t ++ Some row ∷ []) k
  put-other f e k = elim (eqb_tells k n) [
    | inl p ↦ subst (λ z. live f issued t z ≡ live f (issued ++ i ∷ []) (t ++ Some row ∷ []) z) (sym p.1) (none-yet f ∙ sym (there f false e))
    | inr p ↦ others f k p.1
  ]

  put-strong : is_strong_row (Some row) ≡ true → is_weak_row (Some row) ≡ false → Follows issued (issued ++ i ∷ []) t (t ++ Some row ∷ []) (record { mark = GPlus; handle = n } ∷ [])
  put-strong e g =
      let a = kinds-put is_strong_row t (Some row) in
      let b = kinds-put is_weak_row t (Some row) in
      let c = ap {B = ℕ} (λ (z : Bool). cond z 1 0) e in
      let d = ap {B = ℕ} (λ (z : Bool). cond z 1 0) g in
      record {
        stands = (none-yet is_strong_row, tt);
        ends = same-behind _ _ (put-own is_strong_row e) (put-other is_weak_row g) (omega (arith, a, c)) (omega (arith, b, d));
      }

  put-weak : is_strong_row (Some row) ≡ false → is_weak_row (Some row) ≡ true → Follows issued (issued ++ i ∷ []) t (t ++ Some row ∷ []) (record { mark = WPlus; handle = n } ∷ [])
  put-weak e g =
      let a = kinds-put is_strong_row t (Some row) in
      let b = kinds-put is_weak_row t (Some row) in
      let c = ap {B = ℕ} (λ (z : Bool). cond z 1 0) e in
      let d = ap {B = ℕ} (λ (z : Bool). cond z 1 0) g in
      record {
        stands = (none-yet is_weak_row, tt);
        ends = same-behind _ _ (put-other is_strong_row e) (put-own is_weak_row g) (omega (arith, a, c)) (omega (arith, b, d));
      }

-- which kind a row of a strength is
pub strong-row : (x : Strength) (row : TableRow) → row.strength ≡ x → x ≡ strong → (is_strong_row (Some row) ≡ true) × (is_weak_row (Some row) ≡ false)
strong-row x row e f = (ap (λ z. elim z [ strong ↦ true | weak ↦ false ]) (e ∙ f), ap (λ z. elim z [ strong ↦ false | weak ↦ true ]) (e ∙ f))

pub weak-row : (x : Strength) (row : TableRow) → row.strength ≡ x → x ≡ weak → (is_strong_row (Some row) ≡ false) × (is_weak_row (Some row) ≡ true)
weak-row x row e f = (ap (λ z. elim z [ strong ↦ true | weak ↦ false ]) (e ∙ f), ap (λ z. elim z [ strong ↦ false | weak ↦ true ]) (e ∙ f))

abbrev pub plus : Strength → Mark
plus strong = GPlus
plus weak = WPlus

-- a handle comes into the table
pub comes : (issued : List Issued) (t : List (Option TableRow)) → length t ≡ length issued → (i : Issued) (x : Strength) → i.strength ≡ x
    → Follows issued (issued ++ i ∷ []) t (t ++ fresh_row i ∷ []) (record { mark = plus x; handle = length issued + 1 } ∷ [])
comes issued t l i strong e = (let k = strong-row strong (record { strength = i.strength; cleared = false }) e refl in put-strong issued t l i _ k.0 k.1)
comes issued t l i weak e = (let k = weak-row weak (record { strength = i.strength; cleared = false }) e refl in put-weak issued t l i _ k.0 k.1)

-- the row of a handle becomes another, or none
module _ (issued : List Issued) (t : List (Option TableRow)) (l : length t ≡ length issued) (h : ℕ) (row : TableRow) (c : IsTabled t h row) where
  issue : (i : Issued) × (numbered_at issued h ≡ Some i)
  issue = (let w = numbered-within t h (Some row) c in numbered-made issued h w.0 (omega (arith, w.1, l)))

  now-there : (o : Option TableRow) → numbered_at (numbered_set t h o) h ≡ Some o
  now-there o = (let w = numbered-within t h (Some row) c in numbered_set-here t h o w.0 w.1)

  was : (f : Kind) (b : Bool) → f (Some row) ≡ b → live f issued t h ≡ cond b (Some issue.0.peer) None
  was f b e = both f _ _ _ _ c issue.1 ∙ shown f (Some row) issue.0 b e

  is : (f : Kind) (o : Option TableRow) (b : Bool) → f o ≡ b → live f issued (numbered_set t h o) h ≡ cond b (Some issue.0.peer) None
  is f o b e = both f _ _ _ _ (now-there o) issue.1 ∙ shown f o issue.0 b e

  apart : (f : Kind) (o : Option TableRow) (k : ℕ) → k ≢ h → live f issued t k ≡ live f issued (numbered_set t h o) k
  apart f o k ne = ap (λ z. peer_in f z (numbered_at issued k)) (sym (numbered_set-other t h k o ne))

  made : made_on issued h ≡ issue.0.peer
  made = made-of issued h issue.0 issue.1

  set-gone : (f : Kind) (o : Option TableRow) → f o ≡ false → (k : ℕ) → put (live f issued t) h None k ≡ live f issued (numbered_set t h o) k
  set-gone f o e = put-at (live f issued t) (live f issued (numbered_set t h o)) h None (sym (is f o false e)) (apart f o)

  set-come : (f : Kind) (o : Option TableRow) → f o ≡ true → (k : ℕ) → put (live f issued t) h (Some (made_on issued h)) k ≡ live f issued (numbered_set t h o) k
  set-come f o e = put-at (live f issued t) (live f issued (numbered_set t h o)) h _ (ap Some made ∙ sym (is f o true e)) (apart f o)

  set-not : (f : Kind) (o : Option TableRow) → f (Some row) ≡ false → f o ≡ false → (k : ℕ) → live f issued t k ≡ live f issued (numbered_set t h o) k
  set-not f o d e k = elim (eqb_tells k h) [
    | inl p ↦ subst (λ z. live f issued t z ≡ live f issued (numbered_set t h o) z) (sym p.1) (was f false d ∙ sym (is f o false e))
    | inr p ↦ apart f o k p.1
  ]

  on : (f : Kind) → f (Some row) ≡ true → live f issued t h ≡ Some (made_on issued h)
  on f e = was f true e ∙ ap Some (sym made)

  leaves-strong : is_strong_row (Some row) ≡ true → is_weak_row (Some row) ≡ false → Follows issued issued t (numbered_set t h None) (record { mark = GMinus; handle = h } ∷ [])
  leaves-strong e g =
      let a = kinds-set is_strong_row t h row None c in
      let b = kinds-set is_weak_row t h row None c in
      let d = ap {B = ℕ} (λ (z : Bool). cond z 1 0) e in
      let k = ap {B = ℕ} (λ (z : Bool). cond z 1 0) g in
      record { stands = (on is_strong_row e, tt); ends = same-behind _ _ (set-gone is_strong_row None refl) (set-not is_weak_row None g refl) (omega (arith, a, d)) (omega (arith, b, k)) }

  leaves-weak : is_strong_row (Some row) ≡ false → is_weak_row (Some row) ≡ true → Follows issued issued t (numbered_set t h None) (record { mark = WMinus; handle = h } ∷ [])
  leaves-weak e g =
      let a = kinds-set is_strong_row t h row None c in
      let b = kinds-set is_weak_row t h row None c in
      let d = ap {B = ℕ} (λ (z : Bool). cond z 1 0) e in
      let k = ap {B = ℕ} (λ (z : Bool). cond z 1 0) g in
      record { stands = (on is_weak_row g, tt); ends = same-behind _ _ (set-not is_strong_row None e refl) (set-gone is_weak_row None refl) (omega (arith, a, d)) (omega (arith, b, k)) }

  -- a handle leaves the table
  pub leaves : (x : Strength) → row.strength ≡ x → Follows issued issued t (numbered_set t h None) (record { mark = minus x; handle = h } ∷ [])
  leaves strong e = (let k = strong-row strong row e refl in leaves-strong k.0 k.1)
  leaves weak e = (let k = weak-row weak row e refl in leaves-weak k.0 k.1)

  -- a strong one is weakened
  pub weakens : row.strength ≡ strong → Follows issued issued t (numbered_set t h (Some record { strength = weak; cleared = false }))
      (record { mark = WPlus; handle = h } ∷ record { mark = GMinus; handle = h } ∷ [])
  weakens s =
      let k = strong-row strong row s refl in
      let new : Option TableRow = Some record { strength = weak; cleared = false } in
      let a = kinds-set is_strong_row t h row new c in
      let b = kinds-set is_weak_row t h row new c in
      let d = ap {B = ℕ} (λ (z : Bool). cond z 1 0) k.0 in
      let g = ap {B = ℕ} (λ (z : Bool). cond z 1 0) k.1 in
      record {
        stands = (was is_weak_row false k.1, (on is_strong_row k.0, tt));
        ends = same-behind _ _ (set-gone is_strong_row new refl) (set-come is_weak_row new refl) (omega (arith, a, d)) (omega (arith, b, g));
      }

  -- a weak one is replaced by a strong one, which stands last
  pub renews : row.strength ≡ weak → (i : Issued) → i.strength ≡ strong
      → Follows issued (issued ++ i ∷ []) t (numbered_set t h None ++ fresh_row i ∷ []) (record { mark = GPlus; handle = length issued + 1 } ∷ record { mark = WMinus; handle = h } ∷ [])
  renews s i e =
      let gone = leaves weak s in
      let come = comes issued (numbered_set t h None) (numbered_set-length t h None ∙ l) i strong e in
      let k = weak-row weak row s refl in
      let same : made_on (issued ++ i ∷ []) h ≡ made_on issued h = made-of (issued ++ i ∷ []) h issue.0 (numbered-push_old issued i h (numbered-within issued h issue.0 issue.1).1 ∙ issue.1)
      ∙ sym made in
      record {
        stands = (none-yet issued t l i row is_strong_row, (on is_weak_row k.1 ∙ ap Some (sym same), tt));
        ends = ap (λ v. changed (issued ++ i ∷ []) v (record { mark = GPlus; handle = length issued + 1 })) gone.ends ∙ come.ends;
      }

-- handles are cleared: they stay what they were
cleared-at : (f : Kind) → ((row : TableRow) (b : Bool) → f (Some (record row { cleared = b })) ≡ f (Some row)) → (freed : List ℕ) (issued : List Issued) (t : List (Option TableRow))
    → length t ≡ length issued → (k : ℕ) (j : Option Issued) → peer_in f (slice_get t k) j ≡ peer_in f (slice_get (cleared_rows freed issued t) k) j
cleared-at f alike freed [] t l k j = refl
cleared-at f alike freed (i ∷ issued) [] l k j = absurd (omega (arith, l))
cleared-at f alike freed (i ∷ issued) (None ∷ t) l zero j = refl
cleared-at f alike freed (i ∷ issued) (None ∷ t) l (suc k) j = cleared-at f alike freed issued t (omega (arith, l)) k j
cleared-at f alike freed (i ∷ issued) (Some row ∷ t) l zero None = refl
cleared-at f alike freed (i ∷ issued) (Some row ∷ t) l zero (Some j) = ap (λ b. cond b (Some j.peer) None) (sym (alike row (row.cleared || list_any (nat_eq i.peer) freed)))
cleared-at f alike freed (i ∷ issued) (Some row ∷ t) l (suc k) j = cleared-at f alike freed issued t (omega (arith, l)) k j

cleared-live : (f : Kind) → ((row : TableRow) (b : Bool) → f (Some (record row { cleared = b })) ≡ f (Some row))
    → (freed : List ℕ) (issued : List Issued) (t : List (Option TableRow)) → length t ≡ length issued → (h : ℕ) → live f issued t h ≡ live f issued (cleared_rows freed issued t) h
cleared-live f alike freed issued t l zero = refl
cleared-live f alike freed issued t l (suc k) = cleared-at f alike freed issued t l k (slice_get issued k)

pub sweeps : (freed : List ℕ) (issued : List Issued) (t : List (Option TableRow)) → length t ≡ length issued → Follows issued issued t (cleared_rows freed issued t) []
sweeps freed issued t l = record {
  stands = tt;
  ends = same-behind _ _ (cleared-live is_strong_row (λ row b. refl) freed issued t l) (cleared-live is_weak_row (λ row b. refl) freed issued t l)
      (sym (kinds-swept is_strong_row (λ row b. refl) freed issued t l)) (sym (kinds-swept is_weak_row (λ row b. refl) freed issued t l));
}

-- nothing changes
pub stays : (issued issued' : List Issued) (t u : List (Option TableRow)) → issued' ≡ issued → u ≡ t → Follows issued issued' t u []
stays issued issued' t u e f = record { stands = tt; ends = sym (ap (λ z. table_behind z u) e ∙ ap (table_behind issued) f) }
