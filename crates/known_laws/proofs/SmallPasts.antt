-- The small pasts and states, computed. Where two entries have one number, that no past has two is what refutes the
-- conclusion.
use Rattle.std.proofs.Common.{◌≡◌, inl, inr, ⊎_elim, ℕ, Bool, zero, suc, ◌≤◌, true, false, List, [], ◌∷◌, Some, None, refl, sym, ap, ◌∙◌, arith, true≢false, if◌then◌else◌}
use Rattle.joint_machine.specs.declared.names.Thread.TheVariants.{M, P}
use Rattle.joint_machine.specs.declared.names.Phase.TheVariants as at
use Rattle.joint_machine.specs.declared.events.Entry.{Entry}
use Rattle.joint_machine.specs.Components.{Rises}
use Rattle.joint_machine.specs.Control.{OpenSnap}
use Rattle.joint_machine.specs.Cycles.{IsSnapshot}
use Rattle.joint_machine.specs.Draws.{Drawn}
use Rattle.joint_machine.specs.Histories.{NumberedFrom}
use Rattle.joint_machine.specs.Heaps.{IsLive}
use Rattle.joint_machine.specs.Lines.{is_peer_event}
use Rattle.joint_machine.specs.Linked.{Linkage, MayCome, opening_linkage}
use Rattle.joint_machine.specs.Sides.{managed_rules, peer_rules}
use Rattle.joint_machine.specs.Managed.{opening_managed}
use Rattle.joint_machine.specs.ManagedReplay.{ManagedReplay, MayContract, opening_replay}
use Rattle.joint_machine.specs.PeerReplay.{MayClear, MayRelease, MayRestore, MayWeaken, opening_peer_replay}
use Rattle.joint_machine.specs.Told.{Noted, phase_of}
use Rattle.joint_machine.proofs.Deciding.{none_some}
use Rattle.joint_machine.proofs.Members.{Contains-nil, Contains-here, Contains-there}
use Rattle.known_laws.specs.Conditions.{IsOpenHere}
use Rattle.known_laws.specs.Drawn.{AreDrawn, IsToldIn, drawn_by}
use Rattle.known_laws.specs.Growing.{Kept, AreKnown, IsTurnedPast, all_shown, entries_kept, grown, shown}
use Rattle.known_laws.specs.Known.{Comes}
use Rattle.known_laws.specs.PastEntries.{TellsPlainly, InPast}
use Rattle.known_laws.proofs.Pinned.{none_stand}
use Rattle.known_laws.specs.Driving.{PastInvariant}
use Rattle.known_laws.proofs.KnownPasts.{past_invariant_holds}
use Rattle.known_laws.specs.Pasts.{HasSameDeadPart, Joined, Lawful, PastRunsFrom, Within, end_of, line, driver_line}
use Rattle.known_laws.specs.Worked.{a_read, a_take, a_drop, a_peer_drop, a_refusal, a_release, a_give, a_snap, lines_of, released_twice, turned_numbers, two_drops, without_candidates, wrong_lines}
use Rattle.known_laws.specs.Worked.{wrongly_drawn}
use Rattle.known_laws.proofs.CitedOnce.{none_is_cited_twice}
use Rattle.known_laws.proofs.PastLines.{in-line, in_begins, one-number}
use Rattle.known_laws.proofs.PastsJoin.{in_whole_past}
use Rattle.known_laws.proofs.SnapTold.{numbers_are_once}

-- two entries with one number
pub one : Lawful (a_drop 5 ∷ [])
one = (
  record {
    later = omega arith;
    comes = record {
      tells = refl;
      stand = none_stand _;
      comes = record { event = (((omega arith, omega arith), omega arith), tt); line = omega arith; short = omega arith; lawful = record { allowed = tt; replies = refl }; order = refl };
    };
    plain = tt;
  },
  tt,
)

pub other : Lawful (a_peer_drop 5 ∷ [])
other = (
  record {
    later = omega arith;
    comes = record {
      tells = refl;
      stand = none_stand _;
      comes = record { event = (((omega arith, omega arith), omega arith), tt); line = omega arith; short = omega arith; lawful = record { allowed = tt; replies = refl }; order = refl };
    };
    plain = tt;
  },
  tt,
)

callers-differ : (x y : Noted) → x ≡ y → x.entry.made.caller ≡ M 1 → y.entry.made.caller ≡ P 1 → ⊥
callers-differ x y e p q = let s : M 1 ≡ P 1 = sym p ∙ (ap (λ (z : Noted). z.entry.made.caller) e ∙ q) in cc

pub no_run : (whole : List Noted) → PastRunsFrom 0 whole → Within whole (a_drop 5 ∷ []) → Within whole (a_peer_drop 5 ∷ []) → ⊥
no_run whole runs a b = callers-differ (a_drop 5) (a_peer_drop 5)
    (one-number 0 whole (a_drop 5) (a_peer_drop 5) runs (in_whole_past whole (a_drop 5) (a_drop 5 ∷ []) (inl refl) a) (in_whole_past whole (a_peer_drop 5) (a_peer_drop 5 ∷ []) (inl refl) b) refl)
    refl refl

pub no_join : Joined (a_drop 5 ∷ []) (a_peer_drop 5 ∷ []) → ⊥
no_join j =
    let x = in-line 0 j.past (a_drop 5) (in_begins (a_drop 5 ∷ []) (line 0 j.past) (a_drop 5) (j.first 0) (inl refl)) in
    let y = in-line 1 j.past (a_peer_drop 5) (in_begins (a_peer_drop 5 ∷ []) (line 1 j.past) (a_peer_drop 5) (j.second 1) (inl refl)) in
    callers-differ (a_drop 5) (a_peer_drop 5) (numbers_are_once j.past j.lawful (a_drop 5) (a_peer_drop 5) x y refl) refl refl

pub comes : Comes false (end_of (a_drop 5 ∷ [])) (a_peer_drop 5)
comes = record {
  tells = refl;
  stand = none_stand _;
  comes = record {
    event = (((omega arith, omega arith), omega arith), tt);
    line = omega arith;
    short = omega arith;
    lawful = record { allowed = tt; replies = refl };
    order = refl;
  };
}

in_shown : (xs : List Noted) (k : Kept) → all_shown xs ≡ k ∷ [] → (n : Noted) × InPast xs n × (n.entry ≡ k.entry)
in_shown [] k q = absurd (cc)
in_shown (x ∷ xs) k q = (x, inl refl, ap first_entry q)
  where
    first_entry : List Kept → Entry
    first_entry [] = k.entry
    first_entry (y ∷ ys) = y.entry

pub unknown : AreKnown (grown (lines_of (a_drop 5 ∷ [])) (shown (a_peer_drop 5))) → ⊥
unknown k =
    let x = in_shown (line 0 k.past) (shown (a_drop 5)) (sym (k.same 0)) in
    let y = in_shown (line 1 k.past) (shown (a_peer_drop 5)) (sym (k.same 1)) in
    let number : x.0.entry.number ≡ y.0.entry.number = ap (λ (e : Entry). e.number) x.2 ∙ sym (ap (λ (e : Entry). e.number) y.2) in
    callers-differ x.0 y.0 (numbers_are_once k.past k.lawful x.0 y.0 (in-line 0 k.past x.0 x.1) (in-line 1 k.past y.0 y.1) number)
    (ap (λ (e : Entry). e.made.caller) x.2) (ap (λ (e : Entry). e.made.caller) y.2)

-- a number left out
pub lawful : Lawful two_drops
lawful = (
  record {
    later = omega arith;
    comes = record {
      tells = refl;
      stand = none_stand _;
      comes = record { event = (((omega arith, omega arith), omega arith), tt); line = omega arith; short = omega arith; lawful = record { allowed = tt; replies = refl }; order = refl };
    };
    plain = tt;
  },
  (
    record {
      later = omega arith;
      comes = record {
        tells = refl;
        stand = none_stand _;
        comes = record { event = (((omega arith, omega arith), omega arith), tt); line = omega arith; short = omega arith; lawful = record { allowed = tt; replies = refl }; order = refl };
      };
      plain = tt;
    },
    tt,
  ),
)

pub unnumbered : NumberedFrom 0 (entries_kept turned_numbers) → ⊥
unnumbered n = let f : 5 ≡ 0 = n.0 in omega (arith, f)

abbrev first_number : List Kept → ℕ
first_number [] = 0
first_number (k ∷ ks) = k.entry.number

pub no_history : IsTurnedPast turned_numbers two_drops → ⊥
no_history h = let f : 3 ≡ 5 = ap first_number h.same in omega (arith, f)

-- the snap of a cycle where nothing is
no-live : (m : ℕ) → IsLive opening_managed.heap m → ⊥
no-live m l = let a = l.made.0 in let b : m ≤ 0 = l.made.1 in omega (arith, a, b)

none-rises : Rises []
none-rises = tt

snapshot : IsSnapshot opening_managed 1 [] [] []
snapshot = record {
  closed = refl;
  next = refl;
  freed_rise = none-rises;
  frees = λ m. (λ c. absurd (Contains-nil m c), λ w. absurd (no-live m w.0));
  candidates_rise = none-rises;
  picks = λ m. (λ c. absurd (Contains-nil m c), λ w. absurd (no-live m w.0.1.live));
  dead_rise = none-rises;
  leaves = λ m. (λ c. absurd (Contains-nil m c), λ w. absurd (no-live m w.0));
}

pub snap-lawful : Lawful (a_snap ∷ [])
snap-lawful = (
  record {
    later = omega arith;
    comes = record {
      tells = refl;
      stand = none_stand _;
      comes = record { event = tt; line = omega arith; short = omega arith; lawful = record { allowed = snapshot; replies = refl }; order = refl };
    };
    plain = tt;
  },
  tt,
)

pub other_line : line driver_line [] ≡ line driver_line (a_snap ∷ []) → ⊥
other_line e = cc

pub other_part : HasSameDeadPart (end_of []).managed.managed (end_of (a_snap ∷ [])).managed.managed → ⊥
other_part h = let e = h.cycle in cc

pub other_state : (end_of []).managed ≡ (end_of (a_snap ∷ [])).managed → ⊥
other_state e = let f : 0 ≡ 1 = ap (λ (z : ManagedReplay). z.managed.cycles) e in omega (arith, f)

-- a refusal in a cycle without candidates
pub mirrored : MayCome without_candidates (a_refusal at.Mirrored)
mirrored = record {
  event = tt;
  line = omega arith;
  short = omega arith;
  lawful = record { allowed = record { refused = refl; idle = (λ e. absurd (cc), λ e. absurd (cc)) }; replies = refl };
  order = ((refl, inl (refl, refl, refl)), refl);
}

pub weakened : MayCome without_candidates (a_refusal at.Weakened)
weakened = record {
  event = tt;
  line = omega arith;
  short = omega arith;
  lawful = record { allowed = record { refused = refl; idle = (λ e. absurd (cc), λ e. absurd (cc)) }; replies = refl };
  order = ((refl, inr (refl, refl)), refl);
}

pub told_differ : phase_of at.Mirrored ≡ phase_of at.Weakened → ⊥
told_differ e = cc

-- two releases of one give
pub released : Lawful released_twice → ⊥
released l = ⊎_elim
    (λ (e : a_release 2 ≡ a_release 1). let f : 2 ≡ 1 = ap (λ (z : Noted). z.entry.number) e in omega (arith, f))
    (λ s. s)
    (none_is_cited_twice released_twice l (a_release 2) (a_release 1) a_give (inl refl) (inr (inl refl)) (inr (inr (inl refl))) refl refl)

-- a wrong target
no-target : (h : List Noted) → IsToldIn h wrongly_drawn → ⊥
no-target h t = by (is_peer_event t.entry.entry.made.caller t.entry.entry.made.op) t.same
  where
    target : (s : Linkage) → (a_drop 0).entry ≡ t.entry.entry → wrongly_drawn.drawn.target ≡ managed_rules.target s.managed t.entry.entry.made → ⊥
    target s e f = let g : wrongly_drawn.drawn.target ≡ None = f ∙ ap (λ (z : Entry). managed_rules.target s.managed z.made) (sym e) in cc

    by : (b : Bool) → wrongly_drawn.drawn ≡ (if b then drawn_by peer_rules (end_of t.back).peer t.entry else drawn_by managed_rules (end_of t.back).managed t.entry) → ⊥
    by true e = (let g : wrongly_drawn.drawn.target ≡ None = ap (λ (z : Drawn). z.target) e in cc)
    by false e = target (end_of t.back) (ap (λ (z : Drawn). z.entry) e) (ap (λ (z : Drawn). z.target) e)

pub wrong : AreDrawn wrong_lines → ⊥
wrong a = no-target a.known.past (a.told 0 wrongly_drawn (Contains-here wrongly_drawn []))

-- before the first entry
pub no_release : (h : ℕ) → MayRelease opening_peer_replay h → ⊥
no_release zero w = none_some w.row w.tabled
no_release (suc n) w = none_some w.row w.tabled

pub no_contraction : (k : ℕ) (comps : List (List ℕ)) (heavy : List ℕ) (xrefs : List (ℕ × ℕ)) → MayContract opening_replay k comps heavy xrefs → ⊥
no_contraction k comps heavy xrefs w = none_some w.cycle w.open_cycle.0

pub no_weaken : (h : ℕ) → MayWeaken opening_peer_replay h None → ⊥
no_weaken h w = none_some w.mirror w.stands

pub no_restore : (h : ℕ) → MayRestore opening_peer_replay h → ⊥
no_restore h w = none_some w.mirror w.stands

pub no_clear : (k : ℕ) → MayClear opening_peer_replay k → ⊥
no_clear k w = none_some w.mirror w.stands

pub no_cycle : (o : OpenSnap) → IsOpenHere opening_linkage o → ⊥
no_cycle o w = none_some w.0 w.1.0

pub snapped_open : (end_of (a_snap ∷ [])).managed.managed.cycle ≡ None → ⊥
snapped_open e = none_some _ (sym e)

pub kept : PastInvariant opening_linkage
kept = past_invariant_holds [] tt

pub unplain : TellsPlainly without_candidates.control.stand (a_refusal at.Weakened).entry.made.op (phase_of at.Weakened) → ⊥
unplain w = let e : false ≡ true = w refl in true≢false (sym e)

-- a pin that doesn't stand
pub unstanding : Lawful (a_take ∷ []) → ⊥
unstanding l = no-live 1 (l.0.comes.stand.live 1 (Contains-there (Some 1) None (Some 1 ∷ []) (Contains-here (Some 1) [])))

-- a read with a reply that no history has
pub unjudged : Lawful (a_read ∷ [])
unjudged = (
  record { later = omega arith; comes = record { event = (((omega arith, omega arith), omega arith), tt); line = omega arith; short = omega arith; order = refl; bare = refl }; plain = tt },
  tt,
)
