-- A `pending` of a cycle that isn't snapped yet owes its snap: the next managed entry.
use Rattle.std.proofs.Common.{◌≡◌, ℕ, ◌-◌, ◌<◌, ◌≤◌, inl, inr, Bool, true, false, not, ◌&&◌, List, [], ◌∷◌, ◌++◌, length, Option, Some, None, refl, sym, ap, subst, ◌∙◌, arith, length-append}
use Rattle.std.specs.Prelude.{slice_get}
use Rattle.std.proofs.lemmas.Option.{same_Some}
use Rattle.joint_machine.specs.declared.events.Op.TheVariants as op
use Rattle.joint_machine.specs.Lines.{is_peer_event, is_read}
use Rattle.joint_machine.specs.Readers.{is_managed_entry, HasEventAt, IsManagedAt}
use Rattle.joint_machine.specs.Told.{Noted}
use Rattle.joint_machine.proofs.Deciding.{none_some, true-false}
use Rattle.known_laws.specs.PastEntries.{turned}
use Rattle.check_laws.specs.Known.{PastAt, ManagedAt, pick, first_managed, PendingIsOwed}
use Rattle.check_laws.proofs.Knowing.{within, split}
use Rattle.check_laws.proofs.Wholly.{behind, at-turned, turned-at, lowered}

one-at : (h : List Noted) (i : ℕ) (n m : Noted) → PastAt h i n → PastAt h i m → n ≡ m
one-at [] i n m a b = absurd a
one-at (x ∷ h) i n m (inl e) (inl f) = sym e.1 ∙ f.1
one-at (x ∷ h) i n m (inl e) (inr b) = absurd (let q = e.0 in let l = within h i m b in omega (arith, q, l))
one-at (x ∷ h) i n m (inr a) (inl f) = absurd (let q = f.0 in let l = within h i n a in omega (arith, q, l))
one-at (x ∷ h) i n m (inr a) (inr b) = one-at h i n m a b

snap-managed : (n : Noted) (k : ℕ) → n.entry.made.op ≡ op.Snap record { 0 = k } → is_managed_entry n ≡ true
snap-managed n k e = subst (λ o. (not (is_peer_event n.entry.made.caller o) && not (is_read o)) ≡ true) (sym e) refl

module _ (x : Noted) (h : List Noted) (quiet : is_managed_entry x ≡ false) where
  -- where nothing behind the read is managed
  none-later : (later : List Noted) (j : ℕ) → first_managed later ≡ None → ManagedAt (later ++ x ∷ h) j → j < length h
  none-later [] j e (n, inl q, c) = absurd (true-false (is_managed_entry n) c (sym (ap is_managed_entry q.1) ∙ quiet))
  none-later [] j e (n, inr a, c) = within h j n a
  none-later (y ∷ later) j e m = by (none-later later j) (first_managed later) refl (is_managed_entry y) refl e m
    where
      by : (first_managed later ≡ None → ManagedAt (later ++ x ∷ h) j → j < length h) → (o : Option Noted) → first_managed later ≡ o
          → (b : Bool) → is_managed_entry y ≡ b → pick b y o ≡ None → ManagedAt (y ∷ later ++ x ∷ h) j → j < length h
      by again (Some z) q b p e m = absurd (none_some z (sym e))
      by again None q true p e m = absurd (none_some y (sym e))
      by again None q false p e (n, inl r, c) = absurd (true-false (is_managed_entry n) c (sym (ap is_managed_entry r.1) ∙ p))
      by again None q false p e (n, inr a, c) = again q (n, a, c)

  -- the first one, its place, and what is managed before it
  record First (later : List Noted) (n : Noted) : Type 0 where
    place : ℕ
    there : PastAt (later ++ x ∷ h) place n
    behind : length h < place
    managed : is_managed_entry n ≡ true
    early : (j : ℕ) → j < place → ManagedAt (later ++ x ∷ h) j → j < length h

  first : (later : List Noted) (n : Noted) → first_managed later ≡ Some n → First later n
  first [] n e = absurd (none_some n e)
  first (y ∷ later) n e = by (first later n) (first_managed later) refl (is_managed_entry y) refl e
    where
      lower : (j k : ℕ) → j < k → k ≤ length (later ++ x ∷ h) → ManagedAt (y ∷ later ++ x ∷ h) j → ManagedAt (later ++ x ∷ h) j
      lower j k l u (m, inl r, c) = absurd (let q = r.0 in omega (arith, l, u, q))
      lower j k l u (m, inr a, c) = (m, a, c)

      by : (first_managed later ≡ Some n → First later n) → (o : Option Noted) → first_managed later ≡ o → (b : Bool) → is_managed_entry y ≡ b → pick b y o ≡ Some n → First (y ∷ later) n
      by again (Some z) q b p e =
          let r = again (q ∙ e) in
          record {
            place = r.place;
            there = inr r.there;
            behind = r.behind;
            managed = r.managed;
            early = λ j l m. r.early j l (lower j r.place l (let w = within (later ++ x ∷ h) r.place n r.there in omega (arith, w)) m);
          }
      by again None q true p e = record {
        place = length (later ++ x ∷ h);
        there = inl (refl, same_Some y n e);
        behind = (let m = length-append later (x ∷ h) in omega (arith, m));
        managed = subst (λ z. is_managed_entry z ≡ true) (same_Some y n e) p;
        early = λ j l m. none-later later j q (lower j (length (later ++ x ∷ h)) l (omega arith) m);
      }
      by again None q false p e = absurd (none_some n e)

pub pending_owed : PendingIsOwed
pending_owed later x h k quiet fresh = (forth, back)
  where
    all : List Noted
    all = later ++ x ∷ h

    up : (j : ℕ) → ManagedAt all j → IsManagedAt (turned [] all) j
    up j m = record { element = m.0; there = at-turned all [] j m.0 m.1; is = m.2 }

    down : (j : ℕ) → j < length all → IsManagedAt (turned [] all) j → ManagedAt all j
    down j l m = (m.element, turned-at all [] j m.element m.there l, m.is)

    back : (n : Noted) × (first_managed later ≡ Some n) × (n.entry.made.op ≡ op.Snap record { 0 = k }) → (snap : ℕ)
        × HasEventAt (turned [] all) snap (op.Snap record { 0 = k }) × ((j : ℕ) → j < snap → IsManagedAt (turned [] all) j → j < length h)
    back w =
        let f = first x h quiet later w.0 w.1 in
        let there = within all f.place w.0 f.there in
        (f.place, record { element = w.0; there = at-turned all [] f.place w.0 f.there; is = w.2 }, λ j l m. f.early j l (down j (omega (arith, l, there)) m))

    in_all : (s : ℕ) (n : Noted) → slice_get (turned [] all) s ≡ Some n → s < length all
    in_all s n e = elim (split s (length all)) [
      | inl l ↦ l
      | inr more ↦ absurd (none_some n (sym (behind all [] s (s - length all) (omega (arith, more))) ∙ e))
    ]

    forth : (snap : ℕ) × HasEventAt (turned [] all) snap (op.Snap record { 0 = k }) × ((j : ℕ) → j < snap → IsManagedAt (turned [] all) j → j < length h)
        → (n : Noted) × (first_managed later ≡ Some n) × (n.entry.made.op ≡ op.Snap record { 0 = k })
    forth w = by (first_managed later) refl
      where
        s : ℕ
        s = w.0

        n : Noted
        n = w.1.element

        at : PastAt all s n
        at = turned-at all [] s n w.1.there (in_all s n w.1.there)

        managed : is_managed_entry n ≡ true
        managed = snap-managed n k w.1.is

        not-before : s < length h → ⊥
        not-before l = fresh s n (lowered later x h s n at l) w.1.is

        by : (o : Option Noted) → first_managed later ≡ o → (m : Noted) × (first_managed later ≡ Some m) × (m.entry.made.op ≡ op.Snap record { 0 = k })
        by None e = absurd (not-before (none-later x h quiet later s e (n, at, managed)))
        by (Some m) e =
            let f = first x h quiet later m e in
            elim (split f.place s) [
              | inl less ↦ absurd (let l = w.2 f.place less (up f.place (m, f.there, f.managed)) in let b = f.behind in omega (arith, l, b))
              | inr more ↦ elim (split s f.place) [
                | inl less ↦ absurd (not-before (f.early s less (n, at, managed)))
                | inr same ↦ (let q : f.place ≡ s = omega (arith, more, same) in
                    (m, e, subst (λ (z : Noted). z.entry.made.op ≡ op.Snap record { 0 = k }) (one-at all s n m at (subst (λ z. PastAt all z m) q f.there)) w.1.is))
              ]
            ]
