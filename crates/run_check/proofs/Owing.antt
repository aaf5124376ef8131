-- For which cycle's snap a read waits behind one entry more.
use Rattle.std.proofs.Common.{◌≡◌, inl, inr, ℕ, ◌+◌, ◌<◌, ◌≤◌, Bool, true, false, not, ◌&&◌, List, [], ◌∷◌, length, Option, Some, None, refl, sym, ap, ◌∙◌, subst, arith, true≢false}
use Rattle.std.specs.Prelude.{◌⊎◌, nat_lt, if◌then◌else◌}
use Rattle.std.proofs.lemmas.Bool.{lt-ltb, ltb-true}
use Rattle.joint_machine.specs.declared.names.Cycle.{Cycle}
use Rattle.joint_machine.specs.declared.lines.Act.TheVariants as act
use Rattle.joint_machine.specs.declared.events.Op.{Op}
use Rattle.joint_machine.specs.declared.events.Op.TheVariants as op
use Rattle.joint_machine.specs.declared.events.Reply.{Reply}
use Rattle.joint_machine.specs.declared.events.Reply.TheVariants as says
use Rattle.joint_machine.specs.Histories.{Finished}
use Rattle.joint_machine.specs.Lines.{is_peer_event, is_read}
use Rattle.joint_machine.specs.Linked.{Linkage, linkage_after, managed_after}
use Rattle.joint_machine.specs.Readers.{ReadsCell, entry_after, is_managed_entry}
use Rattle.joint_machine.specs.Told.{Noted}
use Rattle.known_laws.specs.PastEntries.{InPast}
use Rattle.check_laws.specs.Behind.{AllInOrder, IsReplyBehind, MayBePendingBehind, ReadsBehind, RepliesBehind, WaitsForSnap, state_of}
use Rattle.check_laws.proofs.Keeping.{after-other, after-read, snap-counted}
use Rattle.check_laws.proofs.Naming.{all_read}
use Rattle.check_laws.proofs.Tested.{at-in, cell-read, get-at, reads-some, stand_behind}
use Rattle.check_laws.proofs.Turned.{all_come}
use Rattle.run_check.specs.Follows.{IsOwed, OwedFollows, owed_after}

-- a cycle is snapped in a past
abbrev Snapped : List Noted → ℕ → Type 0
Snapped past k = (m : Noted) × InPast past m × (m.entry.made.op ≡ op.Snap record { 0 = k })

abbrev cycle-in : Reply → ℕ
cycle-in (says.Pending c) = c.0
cycle-in _ = 0

module _ (past : List Noted) (n : Noted) where
  -- who waits behind an entry more: its own read, or who waited before it
  waits-cases : (j : ℕ) → WaitsForSnap (n ∷ past) j → ((is_read n.entry.made.op ≡ true) × (n.entry.made.reply ≡ says.Pending record { 0 = j })) ⊎ WaitsForSnap past j
  waits-cases j w = elim w.there [
    | inl e ↦ inl (ap (λ (z : Noted). is_read z.entry.made.op) e ∙ w.read, ap (λ (z : Noted). z.entry.made.reply) e ∙ w.reply)
    | inr i ↦ inr (record { entry = w.entry; there = i; read = w.read; reply = w.reply; unsnapped = λ m q. w.unsnapped m (inr q) })
  ]

  waits-more : (j : ℕ) → (n.entry.made.op ≡ op.Snap record { 0 = j } → ⊥) → WaitsForSnap past j → WaitsForSnap (n ∷ past) j
  waits-more j deny w = record {
    entry = w.entry;
    there = inr w.there;
    read = w.read;
    reply = w.reply;
    unsnapped = λ m q e. elim q [ inl same ↦ deny (ap (λ (z : Noted). z.entry.made.op) same ∙ e) | inr i ↦ w.unsnapped m i e ];
  }

  -- no read waits anew
  abbrev NoneNew : Type 0
  NoneNew = (j : ℕ) → is_read n.entry.made.op ≡ true → n.entry.made.reply ≡ says.Pending record { 0 = j } → WaitsForSnap (n ∷ past) j → ⊥

  keep-none : NoneNew → ((j : ℕ) → WaitsForSnap past j → ⊥) → (j : ℕ) → WaitsForSnap (n ∷ past) j → ⊥
  keep-none new w j x = elim (waits-cases j x) [ inl r ↦ new j r.0 r.1 x | inr y ↦ w j y ]

  keep : ((j : ℕ) → n.entry.made.op ≡ op.Snap record { 0 = j } → ⊥) → NoneNew → (state_of (n ∷ past)).managed.managed.cycle ≡ (state_of past).managed.managed.cycle
      → (state_of (n ∷ past)).managed.managed.cycles ≡ (state_of past).managed.managed.cycles
      → (owed : Option Cycle) → OwedFollows past owed → OwedFollows (n ∷ past) owed
  keep deny new same count None w = keep-none new w
  keep deny new same count (Some k) w = record {
    waits = waits-more k.0 (deny k.0) w.waits;
    shut = same ∙ w.shut;
    next = (let a = w.next in omega (arith, a, count));
    alone = λ j x. elim (waits-cases j x) [ inl r ↦ absurd (new j r.0 r.1 x) | inr y ↦ w.alone j y ];
  }

  -- a reader's entry
  module _ (h : Finished) (o : AllInOrder h (n ∷ past)) (e : is_read n.entry.made.op ≡ true) where
    s : Linkage
    s = state_of past

    read-no : (j : ℕ) → n.entry.made.op ≡ op.Snap record { 0 = j } → ⊥
    read-no j q = true≢false (sym e ∙ ap is_read q)

    shut-same : (state_of (n ∷ past)).managed.managed.cycle ≡ (state_of past).managed.managed.cycle
    shut-same = ap (λ (z : Linkage). z.managed.managed.cycle) (after-read (state_of past) n e)

    count-same : (state_of (n ∷ past)).managed.managed.cycles ≡ (state_of past).managed.managed.cycles
    count-same = ap (λ (z : Linkage). z.managed.managed.cycles) (after-read (state_of past) n e)

    snapped-few : (k : ℕ) → Snapped past k → k ≤ (state_of past).managed.managed.cycles
    snapped-few k w = snap-counted past (all_come h past o.1) (stand_behind past (all_read h past o.1)) w.0 k w.1 w.2

    reads : ReadsBehind past n
    reads = (subst (λ b. RepliesBehind b h past n) e o.0.replies).reply

    -- a `pending`
    pending : (c : Cycle) → n.entry.made.reply ≡ says.Pending c → Snapped past c.0 ⊎ (((state_of past).managed.managed.cycle ≡ None) × (c.0 ≡ (state_of past).managed.managed.cycles + 1))
    pending c q =
        let k = reads-some n.entry.made.op e in
        let r = subst (IsReplyBehind past (state_of past).managed.managed n.entry.number n.entry.made.caller k.0) q (reads k.0 k.1) in
        elim r.1 [
          | inl m ↦ inl (m.snaps.element, at-in past m.snap m.snaps.element (get-at past m.snap m.snaps.element m.snaps.there), m.snaps.is)
          | inr x ↦ inr x
        ]

    named : (c : Cycle) (j : ℕ) → n.entry.made.reply ≡ says.Pending c → n.entry.made.reply ≡ says.Pending record { 0 = j } → j ≡ c.0
    named c j q r = sym (ap cycle-in r) ∙ ap cycle-in q

    waits-now : (c : Cycle) → n.entry.made.reply ≡ says.Pending c → (state_of past).managed.managed.cycle ≡ None
        → c.0 ≡ (state_of past).managed.managed.cycles + 1 → (owed : Option Cycle) → OwedFollows past owed → IsOwed (n ∷ past) c.0
    waits-now c q shut next owed w = record {
      waits = record {
        entry = n;
        there = inl refl;
        read = e;
        reply = q;
        unsnapped = λ m i r. elim i [ inl same ↦ read-no c.0 (ap (λ (z : Noted). z.entry.made.op) same ∙ r) | inr j ↦ (let l = snapped-few c.0 (m, j, r) in absurd (omega (arith, l, next))) ];
      };
      shut = shut-same ∙ shut;
      next = next ∙ sym (ap (λ z. z + 1) count-same);
      alone = λ j x. elim (waits-cases j x) [ inl r ↦ named c j q r.1 | inr y ↦ before owed w j y ];
    }
      where
        before : (owed : Option Cycle) → OwedFollows past owed → (j : ℕ) → WaitsForSnap past j → j ≡ c.0
        before None w j y = absurd (w j y)
        before (Some k) w j y = (let a = w.alone j y in let b = w.next in omega (arith, a, b, next))

    pending-more : (c : Cycle) → n.entry.made.reply ≡ says.Pending c → (owed : Option Cycle) → OwedFollows past owed
        → OwedFollows (n ∷ past) (if nat_lt (state_of past).managed.managed.cycles c.0 then Some c else owed)
    pending-more c q owed w = by (nat_lt (state_of past).managed.managed.cycles c.0) refl (pending c q)
      where
        by : (b : Bool) → nat_lt (state_of past).managed.managed.cycles c.0 ≡ b → Snapped past c.0
            ⊎ (((state_of past).managed.managed.cycle ≡ None) × (c.0 ≡ (state_of past).managed.managed.cycles + 1)) → OwedFollows (n ∷ past) (if b then Some c else owed)
        by true t (inl x) = (let l = snapped-few c.0 x in let m = ltb-true (state_of past).managed.managed.cycles c.0 t in absurd (omega (arith, l, m)))
        by true t (inr x) = waits-now c q x.0 x.1 owed w
        by false t (inl x) = keep read-no (λ j r p y. y.unsnapped x.0 (inr x.1) (x.2 ∙ ap (λ z. op.Snap record { 0 = z }) (sym (named c j q p)))) shut-same count-same owed w
        by false t (inr x) = absurd (true≢false (sym (lt-ltb (state_of past).managed.managed.cycles c.0 (let z = x.1 in omega (arith, z))) ∙ t))

    -- any reply
    read-more : (r : Reply) → n.entry.made.reply ≡ r → (owed : Option Cycle) → OwedFollows past owed
        → OwedFollows (n ∷ past) (owed_after (state_of past).managed.managed.cycles (op.Line (act.Read record { 0 = 0 })) r owed)
    read-more (says.Pending c) q owed w = pending-more c q owed w
    read-more r q owed w = keep read-no (λ j x p y. absurd (let f = sym q ∙ p in cc)) shut-same count-same owed w

  -- an entry of a side
  module _ (h : Finished) (o : AllInOrder h (n ∷ past)) (e : is_read n.entry.made.op ≡ false) where
    unread : NoneNew
    unread j r p y = true≢false (sym r ∙ e)

    -- the snap
    snap-more : (k : Cycle) → n.entry.made.op ≡ op.Snap k → (owed : Option Cycle) → OwedFollows past owed → (j : ℕ) → WaitsForSnap (n ∷ past) j → ⊥
    snap-more k q owed w j x = elim (waits-cases j x) [
      | inl r ↦ true≢false (sym r.0 ∙ e)
      | inr y ↦ x.unsnapped n (inl refl) ((subst (λ b. RepliesBehind b h past n) e o.0.replies).snap managed j y)
    ]
      where
        managed : is_managed_entry n ≡ true
        managed = ap (λ z. not (is_peer_event n.entry.made.caller z) && not (is_read z)) q

    side-more : ((j : ℕ) → n.entry.made.op ≡ op.Snap record { 0 = j } → ⊥) → (owed : Option Cycle) → OwedFollows past owed → OwedFollows (n ∷ past) owed
    side-more deny owed w = by (is_peer_event n.entry.made.caller n.entry.made.op) refl owed w
      where
        same : is_peer_event n.entry.made.caller n.entry.made.op ≡ true → (entry_after (state_of past) n).managed ≡ (state_of past).managed
        same p = ap (λ (z : Linkage). z.managed) (after-other (state_of past) n e) ∙ ap (managed_after (state_of past).managed n.entry.made n.told) p

        managed : is_peer_event n.entry.made.caller n.entry.made.op ≡ false → is_managed_entry n ≡ true
        managed p = ap (λ b. not b && not (is_read n.entry.made.op)) p ∙ ap (λ b. not b) e

        by : (b : Bool) → is_peer_event n.entry.made.caller n.entry.made.op ≡ b → (owed : Option Cycle) → OwedFollows past owed → OwedFollows (n ∷ past) owed
        by true p owed w = keep deny unread (ap (λ z. z.managed.cycle) (same p)) (ap (λ z. z.managed.cycles) (same p)) owed w
        by false p None w = keep-none unread w
        by false p (Some k) w = absurd (deny k.0 ((subst (λ b. RepliesBehind b h past n) e o.0.replies).snap (managed p) k.0 w.waits))

-- the cycle whose snap is waited for behind the longer past
pub owed-more : (h : Finished) (past : List Noted) (n : Noted) (owed : Option Cycle) → AllInOrder h (n ∷ past) → OwedFollows past owed
    → OwedFollows (n ∷ past) (owed_after (state_of past).managed.managed.cycles n.entry.made.op n.entry.made.reply owed)
owed-more h past n owed o w = by n.entry.made.op refl
  where
    by : (x : Op) → n.entry.made.op ≡ x → OwedFollows (n ∷ past) (owed_after (state_of past).managed.managed.cycles x n.entry.made.reply owed)
    by (op.Snap k) q = snap-more past n h o (ap is_read q) k q owed w
    by (op.Line (act.Read k)) q = read-more past n h o (ap is_read q) n.entry.made.reply refl owed w
    by (op.Line (act.Await k)) q = read-more past n h o (ap is_read q) n.entry.made.reply refl owed w
    by x q = side-more past n h o (ap is_read q) (λ j r. absurd (let f = sym q ∙ r in cc)) owed w
