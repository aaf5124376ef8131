-- The histories of two threads, computed: each thread's lines are held, whichever came first, and both are linked.
use Rattle.std.proofs.Common.{◌≡◌, ℕ, Bool, true, false, List, [], ◌∷◌, ◌++◌, map, take, drop, None, refl, sym, ◌∙◌, ap, inl, subst, arith}
use Rattle.std.specs.Prelude.{filter, nat_eq}
use Rattle.joint_machine.specs.declared.names.Thread.{Thread}
use Rattle.joint_machine.specs.declared.names.Thread.TheVariants.{M, P, C}
use Rattle.joint_machine.specs.declared.lines.Act.{Act}
use Rattle.joint_machine.specs.declared.lines.Act.TheVariants as act
use Rattle.joint_machine.specs.declared.events.Op.TheVariants as op
use Rattle.joint_machine.specs.declared.events.Reply.{Reply}
use Rattle.joint_machine.specs.declared.events.Reply.TheVariants as says
use Rattle.joint_machine.specs.declared.events.Entry.{Entry}
use Rattle.joint_machine.specs.Control.{IsDone}
use Rattle.joint_machine.specs.LinkedHistories.{IsLinked}
use Rattle.joint_machine.specs.Told.{Noted, nothing}
use Rattle.joint_laws.proofs.Hands.{opening-free}
use Rattle.script_laws.specs.Ending.{AllCyclesEnd}
use Rattle.script_laws.specs.Holding.{HoldsLines, opening_standing, numbered_from, HoldsInOrder, HoldsPerThread, AreLine, AreOnLine}
use Rattle.script_laws.specs.Worked.{entry, first_cycle, a_variable, history_of, two_threads, managed_first, peer_first, a_cycle_and_a_thread, a_thread_meanwhile, abandoning, one_snap}
use Rattle.script_laws.proofs.Ending.{held-end}

-- of the threads m1 and p1, those that are picked
abbrev pick : Bool → Bool → Bool → Thread → Bool
pick m p c (M n) = m
pick m p c (P n) = p
pick m p c C = c

abbrev Picked : Bool → Bool → Bool → List (Thread × Act) → List Entry → Type 0
Picked m p c script es = HoldsLines opening_standing (filter (λ line. pick m p c line.1.0) (numbered_from 1 script)) (filter (λ e. pick m p c e.made.caller) es)

none-left : Picked false false false two_threads managed_first
none-left = record { places = tt; events = refl }

one-drop : (b : Bool) → Picked b false false two_threads managed_first
one-drop true = (
  take 1 managed_first,
  [],
  refl,
  record { lawful = ((omega arith, omega arith), omega arith); places = (record { caller = refl; line = refl }, tt); events = (refl, refl) },
  record { places = tt; events = refl },
)
one-drop false = record { places = tt; events = refl }

peer-drop : (b : Bool) → Picked false b false two_threads managed_first
peer-drop true = (
  drop 1 managed_first,
  [],
  refl,
  record { lawful = ((omega arith, omega arith), omega arith); places = (record { caller = refl; line = refl }, tt); events = (refl, refl) },
  record { places = tt; events = refl },
)
peer-drop false = record { places = tt; events = refl }

pub one_held : HoldsPerThread two_threads managed_first
one_held (M n) = one-drop (nat_eq n 1)
one_held (P n) = peer-drop (nat_eq n 1)
one_held C = none-left

later-drop : (b : Bool) → Picked b false false two_threads peer_first
later-drop true = (
  drop 1 peer_first,
  [],
  refl,
  record { lawful = ((omega arith, omega arith), omega arith); places = (record { caller = refl; line = refl }, tt); events = (refl, refl) },
  record { places = tt; events = refl },
)
later-drop false = record { places = tt; events = refl }

first-drop : (b : Bool) → Picked false b false two_threads peer_first
first-drop true = (
  take 1 peer_first,
  [],
  refl,
  record { lawful = ((omega arith, omega arith), omega arith); places = (record { caller = refl; line = refl }, tt); events = (refl, refl) },
  record { places = tt; events = refl },
)
first-drop false = record { places = tt; events = refl }

pub other_held : HoldsPerThread two_threads peer_first
other_held (M n) = later-drop (nat_eq n 1)
other_held (P n) = first-drop (nat_eq n 1)
other_held C = record { places = tt; events = refl }

pub in_order : HoldsInOrder two_threads managed_first
in_order = (
  take 1 managed_first,
  drop 1 managed_first,
  refl,
  record { lawful = ((omega arith, omega arith), omega arith); places = (record { caller = refl; line = refl }, tt); events = (refl, refl) },
  (
    drop 1 managed_first,
    [],
    refl,
    record { lawful = ((omega arith, omega arith), omega arith); places = (record { caller = refl; line = refl }, tt); events = (refl, refl) },
    record { places = tt; events = refl },
  ),
)

-- the first line's own entry isn't the first entry
pub out_of_order : HoldsInOrder two_threads peer_first → ⊥
out_of_order h = by h.0 h.1 h.2 h.3
  where
    by : (own rest : List Entry) → peer_first ≡ own ++ rest → AreLine opening_standing 1 (M 1, act.Drop a_variable) own → ⊥
    by [] rest e l = (let w = l.events in cc)
    by (x ∷ own) rest e l =
        let same : entry 0 (P 1) 2 (op.Line (act.Drop a_variable)) says.Ok None ≡ x = cc in
        let made : x.made.caller ≡ M 1 = l.places.0.caller in
        let p : P 1 ≡ M 1 = (λ i. (same i).made.caller) ∙ made in
        cc

-- the line of the first entry
abbrev first_line : List Entry → ℕ
first_line [] = 0
first_line (e ∷ es) = e.made.index

pub differ : managed_first ≡ peer_first → ⊥
differ e = let f : 1 ≡ 2 = ap first_line e in omega (arith, f)

-- both are linked
abbrev noted : Entry → Noted
noted e = record { entry = e; told = nothing }

abbrev told : List Entry → List Noted
told es = map noted es

pub managed_first-linked : IsLinked (history_of managed_first)
managed_first-linked = record {
  noted = told managed_first;
  linked = record {
    same = refl;
    numbers = (refl, (refl, tt));
    lawful = (
      record { event = (((omega arith, omega arith), omega arith), tt); line = omega arith; short = omega arith; lawful = record { allowed = tt; replies = refl }; order = refl },
      (record { event = (((omega arith, omega arith), omega arith), tt); line = omega arith; short = omega arith; lawful = record { allowed = tt; replies = refl }; order = refl }, tt),
    );
    whole = record { threads = λ t. subst IsDone (sym (opening-free 9 t)) tt; driver = tt };
    freed_managed = refl;
    freed_peers = refl;
    notices = refl;
  };
}

pub peer_first-linked : IsLinked (history_of peer_first)
peer_first-linked = record {
  noted = told peer_first;
  linked = record {
    same = refl;
    numbers = (refl, (refl, tt));
    lawful = (
      record { event = (((omega arith, omega arith), omega arith), tt); line = omega arith; short = omega arith; lawful = record { allowed = tt; replies = refl }; order = refl },
      (record { event = (((omega arith, omega arith), omega arith), tt); line = omega arith; short = omega arith; lawful = record { allowed = tt; replies = refl }; order = refl }, tt),
    );
    whole = record { threads = λ t. subst IsDone (sym (opening-free 9 t)) tt; driver = tt };
    freed_managed = refl;
    freed_peers = refl;
    notices = refl;
  };
}

-- a cycle with a thread's entry among its own
abbrev own_entries : List Entry
own_entries = filter (λ e. pick false false true e.made.caller) a_thread_meanwhile

abbrev cut : ℕ → ℕ → List Entry
cut from count = take count (drop from own_entries)

abbrev last : Entry
last = entry 6 C 1 (op.Clear first_cycle) says.Ok None

cycle-held : Picked false false true a_cycle_and_a_thread a_thread_meanwhile
cycle-held = (
  own_entries,
  [],
  refl,
  record {
    lawful = tt;
    places = places;
    events = (
      cut 0 1,
      cut 1 6,
      refl,
      record { each = (tt, tt); count = refl },
      (
        cut 1 1,
        cut 2 5,
        refl,
        record { each = (tt, tt); count = refl },
        (
          cut 2 1,
          cut 3 4,
          refl,
          record { each = (tt, tt); count = refl },
          (
            cut 3 0,
            cut 3 4,
            refl,
            record { each = tt; count = refl },
            (
              cut 3 1,
              cut 4 3,
              refl,
              inl record { each = (tt, tt); count = refl },
              (
                cut 4 1,
                cut 5 2,
                refl,
                record { each = (tt, tt); count = refl },
                (
                  cut 5 1,
                  cut 6 1,
                  refl,
                  ([], last, refl, record { each = tt; count = refl }, tt),
                  (cut 6 1, [], refl, record { each = (tt, tt); count = refl }, refl),
                ),
              ),
            ),
          ),
        ),
      ),
    );
  },
  record { places = tt; events = refl },
)
  where
    places : AreOnLine 1 C own_entries
    places = (
      record { caller = refl; line = refl },
      (
        record { caller = refl; line = refl },
        (
          record { caller = refl; line = refl },
          (
            record { caller = refl; line = refl },
            (record { caller = refl; line = refl }, (record { caller = refl; line = refl }, (record { caller = refl; line = refl }, tt))),
          ),
        ),
      ),
    )

meanwhile : (b : Bool) → Picked false b false a_cycle_and_a_thread a_thread_meanwhile
meanwhile true = (
  entry 2 (P 1) 2 (op.Line (act.Drop a_variable)) says.Ok None ∷ [],
  [],
  refl,
  record { lawful = ((omega arith, omega arith), omega arith); places = (record { caller = refl; line = refl }, tt); events = (refl, refl) },
  record { places = tt; events = refl },
)
meanwhile false = record { places = tt; events = refl }

pub among_held : HoldsPerThread a_cycle_and_a_thread a_thread_meanwhile
among_held (M n) = record { places = tt; events = refl }
among_held (P n) = meanwhile (nat_eq n 1)
among_held C = cycle-held

pub among_ends : AllCyclesEnd a_thread_meanwhile
among_ends = (refl, (tt, (tt, (tt, (tt, (tt, (tt, (tt, tt))))))))

pub abandoned : AllCyclesEnd abandoning → ⊥
abandoned a = a.0

pub unheld : (script : List (Thread × Act)) → HoldsInOrder script abandoning → ⊥
unheld script h = (held-end script abandoning h).0

-- where the span of a snap begins
abbrev first_in : Reply → ℕ
first_in (says.Snapped n s) = s.first
first_in r = 0

abbrev begins_at : List Entry → ℕ
begins_at [] = 0
begins_at (e ∷ es) = first_in e.made.reply

pub spans_differ : one_snap 1 ≡ one_snap 0 → ⊥
spans_differ e = let f : 1 ≡ 0 = ap begins_at e in omega (arith, f)
