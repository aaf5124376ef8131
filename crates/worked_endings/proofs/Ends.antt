-- Each of these lists is refused at its last entry: what the definition promises of it is none of the replies that it
-- allows, or an end that isn't there.
use Rattle.std.proofs.Common.{◌≡◌, ℕ, ◌⊎◌, inl, inr, true, List, [], ◌∷◌, None, refl, sym, subst, nat_eq, arith, ⊎_elim}
use Rattle.std.specs.Prelude.{Contains}
use Rattle.joint_machine.specs.declared.events.Reply.{Reply}
use Rattle.joint_machine.specs.declared.events.Reply.TheVariants as says
use Rattle.joint_machine.specs.declared.names.Thread.TheVariants.{M, P}
use Rattle.joint_machine.specs.declared.lines.Act.{Act}
use Rattle.joint_machine.specs.declared.lines.Act.TheVariants as act
use Rattle.joint_machine.specs.declared.names.Cell.{Cell}
use Rattle.joint_machine.specs.declared.names.Cycle.{Cycle}
use Rattle.joint_machine.specs.declared.events.Entry.{Entry}
use Rattle.joint_machine.specs.declared.events.Op.TheVariants as op
use Rattle.joint_machine.specs.Told.{Noted, nothing}
use Rattle.joint_machine.specs.Readers.{ReadsCell}
use Rattle.joint_laws.specs.Afterwards.{IsGoneAfter, ReadsObject, ReadsPeer, ResolveFrees, SweepFrees, reading_at}
use Rattle.run_laws.specs.Final.{FreedReadsAreGone}
use Rattle.joint_machine.proofs.Members.{Contains-nil, Contains-here, Contains-there, Contains-cons_cases}
use Rattle.computed_histories.proofs.Reaching.{member}
use Rattle.computed_histories.proofs.Telling.{same}
use Rattle.worked_histories.specs.Notes.{note, var, cell_no, name_no, object_no, peer_no}
use Rattle.worked_endings.specs.Endings.{AreCyclesRefused, AreReadsRefused, AreWaitsRefused, reads, read_after, waits, weakly_read_after, opens, while_open}

abbrev only_one : List ℕ
only_one = 1 ∷ []

one : Contains only_one 1
one = (member nat_eq same (1 ∷ []) 1).holds refl

module _ (a : Act) (of_cell : ReadsCell (op.Line a) 0) (reply : Reply) where
  abbrev read : Noted
  read = note 3 (M 1) 4 (op.Line a) reply None nothing

  freed : ResolveFrees (read_after a reply) 2 1 1
  freed = record { element = _; there = refl; is = (refl, [], 1 ∷ [], refl, one) }

  reads_it : ReadsObject (reading_at (read_after a reply) 3).managed.managed read 1
  reads_it = record { cell = 0; reads = of_cell; target = refl }

  -- a read that has none of the allowed replies
  refused : ((c : Cycle) → reply ≡ says.Pending c → ⊥) → (IsGoneAfter (reading_at (read_after a reply) 3).managed.managed (M 1) 1 reply → ⊥) → FreedReadsAreGone (read_after a reply) → ⊥
  refused pending allowed f = elim (f 2 3 1 1 read freed (omega arith) refl reads_it) [ inl p ↦ pending p.0 p.1 | inr w ↦ allowed w ]

module _ (reply : Reply) where
  abbrev weak_read : Noted
  weak_read = note 3 (P 1) 4 (op.Line (act.WRead (var 1) (name_no 0))) reply None nothing

  swept : SweepFrees (weakly_read_after reply) 2 1
  swept = record { element = _; there = refl; is = (refl, 1 ∷ [], refl, one) }

  reads_weakly : ReadsPeer (reading_at (weakly_read_after reply) 3).peer weak_read 1
  reads_weakly = record { var = var 1; name = name_no 0; reads = refl; handle = 1; named = refl; leads = refl }

pub reads_refused : AreReadsRefused
reads_refused = record {
  object = refused reads refl (says.M (object_no 1)) (λ c e. cc) (λ w. elim w [ inl g ↦ cc | inr (inl p) ↦ (let e = p.2 in cc) | inr (inr l) ↦ (let e = l.3 in cc) ]);
  awaited = refused waits refl (says.M (object_no 1)) (λ c e. cc) (λ w. elim w [ inl g ↦ cc | inr (inl p) ↦ (let e = p.2 in cc) | inr (inr l) ↦ (let e = l.3 in cc) ]);
  unset = refused reads refl says.Unset (λ c e. cc) (λ w. elim w [ inl g ↦ cc | inr (inl p) ↦ (let e = p.2 in cc) | inr (inr l) ↦ (let e = l.3 in cc) ]);
  unfilled_pin = refused reads refl (says.Pinned (object_no 1)) (λ c e. cc) (λ w. elim w [ inl g ↦ cc | inr (inl p) ↦ (let e = p.1 in cc) | inr (inr l) ↦ (let e = l.3 in cc) ]);
  empty = refused reads refl says.Empty (λ c e. cc) (λ w. elim w [ inl g ↦ cc | inr (inl p) ↦ (let e = p.2 in cc) | inr (inr l) ↦ (let e = l.3 in cc) ]);
  peer = λ f. let e = f 2 3 1 (weak_read (says.P (peer_no 1))) (swept (says.P (peer_no 1))) (omega arith) refl (reads_weakly (says.P (peer_no 1))) in cc;
  unset_name = λ f. let e = f 2 3 1 (weak_read says.Unset) (swept says.Unset) (omega arith) refl (reads_weakly says.Unset) in cc;
}

pub cycles_refused : AreCyclesRefused
cycles_refused = record {
  ends = (refl, (tt, (refl, (tt, tt))));
  abandoned = λ a. a.1.0;
  abandoned_unopened = λ a. a.0;
  unresolved = λ a. a.0;
  last_unresolved = λ a. a.1.1.0;
  reopened = λ a. a.0;
  resolved_as_another = λ a. let e = a.0 in omega (arith, e);
  later_resolved_as_another = λ a. let e = a.1.1.0 in omega (arith, e);
}

-- the second of two entries, and what either is
second : (d e : Entry) → Contains (d ∷ e ∷ []) e
second d e = Contains-there e d (e ∷ []) (Contains-here e [])

either : (d e x : Entry) → Contains (d ∷ e ∷ []) x → (x ≡ d) ⊎ (x ≡ e)
either d e x c = ⊎_elim (λ p. inl (sym p)) (λ r. ⊎_elim (λ p. inr (sym p)) (λ n. absurd (Contains-nil x n)) (Contains-cons_cases e [] x r)) (Contains-cons_cases d (e ∷ []) x c)

pub waits_refused : AreWaitsRefused
waits_refused = record {
  waiting = λ k c w. w _ (second _ _) k c refl refl;
  reading = λ k c e there j d of_line reply. elim (either _ _ e there) [
    | inl s ↦ (let o = subst (λ (e : Entry). e.made.op ≡ op.Line (act.Await j)) s of_line in cc)
    | inr s ↦ (let o = subst (λ (e : Entry). e.made.op ≡ op.Line (act.Await j)) s of_line in cc)
  ];
}
