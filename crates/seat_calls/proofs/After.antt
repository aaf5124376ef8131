-- What a seat is after an entry whose cell's word is stored: settled, or with what it has still to do.
use Rattle.std.proofs.Common.{◌≡◌, ◌⊎◌, inl, inr, ⊎_elim, ℕ, ◌+◌, ◌*◌, ◌<◌, Bool, true, false, ◌||◌, [], ◌∷◌, ◌++◌, refl, sym, ap, ◌∙◌, subst, arith, true≢false}
use Rattle.std.specs.Prelude.{if◌then◌else◌, ◌==◌, max, Option, Some, None}
use Rattle.std.proofs.lemmas.Bool.{cases_eq, cases_Bool}
use Rattle.joint_machine.specs.Control.{caller_place}
use Rattle.joint_machine.specs.HistoryLines.{caller_line}
use Rattle.order_table.specs.declared.views.KeptEntry.{KeptEntry}
use Rattle.order_table.specs.declared.views.View.{View}
use Rattle.order_table.specs.Rows.{at}
use Rattle.order_table.specs.Stages.{opens, ends, neither, deed, stage, stage_after}
use Rattle.order_table.specs.Owed.{stays, empties, aims_at, deed_of_pin, empty_after, fill_after, frees_target, has, is_freed, marked, owing, pin, target}
use Rattle.order_table.specs.Views.{IsInRole, known, pin_owed}
use Rattle.order_table.specs.Allowed.{HoldsOpen, MayDo, NoDebt, Settled}
use Rattle.order_table.specs.Tells.{GrowsByEntry}
use Rattle.order_table.proofs.Free.{peer_stays}
use Rattle.order_table.proofs.Gate.{stage_more}
use Rattle.order_table.proofs.Says.{freed_more, target_more}
use Rattle.seat_calls.specs.Gating.{HasEnded, HasOpened, OwesClearing}
use Rattle.seat_calls.specs.Paying.{IsPaid, IsPlain, OwesFreed}

-- an entry that leaves its caller's pin leaves nothing to be stored there
still_owes : (v w : View) (r : ℕ) (k : KeptEntry) → IsPaid v w r k → deed_of_pin k ≡ stays → (w.fill ≡ v.fill) × (w.empty ≡ v.empty)
still_owes v w r k p e = let still : pin_owed v k.entry.made ≡ stays = ap (owing (pin (known v (caller_line k.entry.made.caller)))) e in (
  p.fill ∙ ap (λ d. fill_after d (caller_place k.entry.made.caller) v.fill) still,
  p.empty ∙ ap (λ d. empty_after d (caller_place k.entry.made.caller) v.empty) still,
)

-- nothing is owed of cells after an entry that frees nothing
none_owed : (v w : View) (k : KeptEntry) → IsPaid v w 0 k → k.freed ≡ [] → NoDebt w
none_owed v w k p frees c = ⊎_elim (λ o. absurd (no_target (target (known v 0) c) (ap (frees_target (target (known v 0) c)) (sym frees) ∙ (p.debts refl c o).1)))
    (λ e. e) (cases_Bool (at false w.debts c))
  where
    no_target : (o : Option ℕ) → frees_target o [] ≡ true → ⊥
    no_target None e = true≢false (sym e)
    no_target (Some m) e = true≢false (sym e)

-- the managed list after an entry of the peer's or of its own
stage_now : (v w : View) (r : ℕ) (k : KeptEntry) → GrowsByEntry v w r k → r < 2 → (r ≡ 1) ⊎ (deed k.entry.made.op ≡ neither) → stage (known w 0) ≡ stage (known v 0)
stage_now v w r k g small which = ⊎_elim
    (λ (e : r ≡ 0). ⊎_elim (λ one. absurd (omega arith))
    (λ d. ap stage (subst (λ i. known w i ≡ known v i ++ k ∷ []) e g.role) ∙ (stage_more (known v 0) k ∙ ap (stage_after (stage (known v 0))) d)) which)
    (λ n. ap stage (g.others 0 (λ z. n (sym z)) (λ z. let z' : 0 ≡ caller_place k.entry.made.caller + 10 = z in omega arith)))
    (cases_eq r 0)

-- a seat is settled after a peer's entry, and after a managed one that frees nothing, opens and ends no cycle, and
-- leaves every pin
pub plain_settled : (v w : View) (r : ℕ) (k : KeptEntry) → r < 2 → IsInRole r k.entry.made → GrowsByEntry v w r k → IsPaid v w r k → (r ≡ 1) ⊎ IsPlain k → Settled v → Settled w
plain_settled v w r k small stands g p which s =
    let pin_stays : deed_of_pin k ≡ stays = ⊎_elim (λ (e : r ≡ 1). peer_stays k.entry.made.caller k.entry.made.op k.entry.made.reply (stands.peer e).1) (λ q. q.pin) which in
    let still = still_owes v w r k p pin_stays in
    let same = stage_now v w r k g small (⊎_elim (λ e. inl e) (λ q. inr q.cycles) which) in record {
      outside = p.inside ∙ s.outside;
      clear = p.owes ∙ s.clear;
      paid = ⊎_elim
          (λ (e : r ≡ 0). ⊎_elim (λ one. absurd (omega arith)) (λ q. none_owed v w k (subst (λ i. IsPaid v w i k) e p) q.frees) which)
          (λ n. λ c. ap (λ ds. at false ds c) (p.others n) ∙ s.paid c)
          (cases_eq r 0);
      stored = (still.0 ∙ s.stored.0, still.1 ∙ s.stored.1);
      gate = λ o. ⊎_elim
          (λ z. inl (p.holds ∙ z.0, (z.1.0, same ∙ z.1.1)))
          (λ z. inr (subst (λ h. 0 < h) (sym p.holds) z.0, same ∙ (z.1 ∙ ap (λ h. 2 * h) (sym p.holds))))
          (s.gate (sym (ap (λ os. at false os 0) g.owns) ∙ o));
    }

-- the cells whose words are owed after an entry that sets none are those of freed targets
pub owes_freed : (v w : View) (k : KeptEntry) → GrowsByEntry v w 0 k → IsPaid v w 0 k → marked k ≡ None → OwesFreed w
owes_freed v w k g p unmarked c o =
    let t = p.debts refl c o in (t.0, by_target (target (known v 0) c) refl t.1)
  where
    freed_now : (m : ℕ) → has k.freed m ≡ true → is_freed (known w 0) m ≡ true
    freed_now m h = ap (λ ks. is_freed ks m) g.role ∙ (freed_more (known v 0) k m ∙ (ap (λ b. is_freed (known v 0) m || b) h ∙ or_last (is_freed (known v 0) m)))
      where
        or_last : (b : Bool) → (b || true) ≡ true
        or_last true = refl
        or_last false = refl

    by_target : (t : Option ℕ) → target (known v 0) c ≡ t → frees_target (target (known v 0) c) k.freed ≡ true → (m : ℕ) × (target (known w 0) c ≡ Some m) × (is_freed (known w 0) m ≡ true)
    by_target None e h = absurd (true≢false (sym h ∙ ap (λ z. frees_target z k.freed) e))
    by_target (Some m) e h = (
      m,
      ap (λ ks. target ks c) g.role ∙ (target_more c (known v 0) k ∙ (ap (aims_at c (target (known v 0) c)) unmarked ∙ e)),
      freed_now m (sym (ap (λ z. frees_target z k.freed) e) ∙ h),
    )

-- a snapshot's entry opens the cycle that the gate is held for
pub has_opened : (v w : View) (k : KeptEntry) (c : ℕ) → GrowsByEntry v w 0 k → IsPaid v w 0 k → deed k.entry.made.op ≡ opens c → MayDo v (opens c) → HasOpened w
has_opened v w k c g p d may =
    let held : w.holds ≡ c = p.holds ∙ may.1 in
    let next = may.0 in
    let now : stage (known w 0) ≡ max (stage (known v 0)) (2 * c) = ap stage g.role ∙ (stage_more (known v 0) k ∙ ap (stage_after (stage (known v 0))) d) in (omega arith, omega arith)

-- an entry that ends the open cycle ends that which the gate is held for
pub has_ended : (v w : View) (k : KeptEntry) (c : ℕ) → GrowsByEntry v w 0 k → IsPaid v w 0 k → deed k.entry.made.op ≡ ends c → MayDo v (ends c) → HoldsOpen v → HasEnded w
has_ended v w k c g p d may holds =
    let open' : stage (known v 0) ≡ 2 * c = may in
    let now : stage (known w 0) ≡ max (stage (known v 0)) (2 * c + 1) = ap stage g.role ∙ (stage_more (known v 0) k ∙ ap (stage_after (stage (known v 0))) d) in
    let same : (0 < v.holds) × (v.holds ≡ c) = ⊎_elim (λ z. absurd (let q : stage (known v 0) ≡ 2 * z.1.0 + 1 = z.1.1 in omega arith))
    (λ z. let q : stage (known v 0) ≡ 2 * v.holds = z.1 in (z.0, omega arith)) holds in
    let held : w.holds ≡ v.holds = p.holds in
    let pos = same.0 in let is = same.1 in (omega arith, omega arith, (c, omega arith))

-- a `take` leaves the pin empty, and nothing to be done but its clearing
pub owes_clearing : (v w : View) (k : KeptEntry) (reader : ℕ) → caller_place k.entry.made.caller ≡ reader → GrowsByEntry v w 0 k
    → IsPaid v w 0 k → deed_of_pin k ≡ empties → k.freed ≡ [] → deed k.entry.made.op ≡ neither → HoldsOpen v → Settled v → OwesClearing w reader
owes_clearing v w k reader place g p takes frees quiet holds s =
    let same = stage_now v w 0 k g (omega arith) (inr quiet) in
    let p0 : ℕ = pin (known v (caller_line k.entry.made.caller)) in
    let owed : pin_owed v k.entry.made ≡ owing p0 empties = ap (owing p0) takes in record {
      outside = p.inside ∙ s.outside;
      clear = p.owes ∙ s.clear;
      paid = none_owed v w k p frees;
      fill = p.fill ∙ (ap (λ d. fill_after d (caller_place k.entry.made.caller) v.fill) owed ∙ (no_fill p0 ∙ s.stored.0));
      empty = ⊎_elim (λ z. inl (p.empty ∙ (ap (λ d. empty_after d (caller_place k.entry.made.caller) v.empty) owed ∙ (z ∙ s.stored.1))))
          (λ z. inr (p.empty ∙ (ap (λ d. empty_after d (caller_place k.entry.made.caller) v.empty) owed ∙ (z ∙ place)))) (by_pin p0);
      gate = ⊎_elim
          (λ z. inl (p.holds ∙ z.0, (z.1.0, same ∙ z.1.1)))
          (λ z. inr (subst (λ h. 0 < h) (sym p.holds) z.0, same ∙ (z.1 ∙ ap (λ h. 2 * h) (sym p.holds)))) holds;
    }
  where
    no_fill : (q : ℕ) → fill_after (owing q empties) (caller_place k.entry.made.caller) v.fill ≡ v.fill
    no_fill q = either_way (q == 0)
      where
        either_way : (b : Bool) → fill_after (if b then stays else empties) (caller_place k.entry.made.caller) v.fill ≡ v.fill
        either_way true = refl
        either_way false = refl

    by_pin : (q : ℕ) → (empty_after (owing q empties) (caller_place k.entry.made.caller) v.empty ≡ v.empty)
        ⊎ (empty_after (owing q empties) (caller_place k.entry.made.caller) v.empty ≡ caller_place k.entry.made.caller)
    by_pin q = either_way (q == 0)
      where
        either_way : (b : Bool) → (empty_after (if b then stays else empties) (caller_place k.entry.made.caller) v.empty ≡ v.empty)
            ⊎ (empty_after (if b then stays else empties) (caller_place k.entry.made.caller) v.empty ≡ caller_place k.entry.made.caller)
        either_way true = inl refl
        either_way false = inr refl
