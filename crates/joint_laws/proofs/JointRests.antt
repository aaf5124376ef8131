-- The entries that are no steps of the joint machine leave the joint state as it is, and the flags and the marking
-- agree with what they leave: a weakened handle stays in the table.
use Rattle.std.proofs.Common.{◌≡◌, ℕ, ◌+◌, ◌-◌, Bool, true, false, List, [], ◌∷◌, ◌++◌, length, Option, Some, None, refl, sym, subst, ◌∙◌}
use Rattle.std.specs.Prelude.{if◌then◌else◌, min, nat_lt}
use Rattle.joint_machine.specs.declared.names.Thread.{Thread}
use Rattle.joint_machine.specs.declared.events.Reply.TheVariants as says
use Rattle.joint_machine.specs.Heaps.{answer, numbered_at, numbered_set}
use Rattle.joint_machine.specs.Joint.{JointMarking}
use Rattle.joint_machine.specs.Managed.{Managed}
use Rattle.joint_machine.specs.Peers.{strong, weak}
use Rattle.joint_machine.specs.PeerReplay.{PeerReplay, Mirror, Marking, row_of, is_thread, sliced, mirrored, with_weakened}
use Rattle.joint_laws.specs.JointAgreement.{AreSameMarkings, Agrees, Flags, joint_as}
use Rattle.joint_machine.proofs.Numbered.{slot-named}
use Rattle.joint_laws.proofs.JointFlags.{removed-written, IsSameMarking-later}
use Rattle.joint_machine.specs.Components.{End}

-- the joint state is as it was, and agrees
pub record Rests (m : Managed) (s : PeerReplay) (flags : Flags) (jm : Option JointMarking) (n : Managed) (u : PeerReplay) : Type 0 where
  pub same : joint_as n u flags jm ≡ joint_as m s flags jm
  pub agrees : Agrees u flags jm

module _ (m : Managed) (s : PeerReplay) (flags : Flags) (jm : Option JointMarking) (ag : Agrees s flags jm) where
  pub rests-still : Rests m s flags jm m s
  rests-still = record { same = refl; agrees = ag }

  -- a slice blackens
  same-black : (mk : Marking) (y : Option JointMarking) (b : ℕ) → AreSameMarkings (Some mk) y → AreSameMarkings (Some (record mk { blackened = b })) y
  same-black mk None b w = w
  same-black mk (Some y) b w = IsSameMarking-later mk y mk.brought b (λ x c. c) w

  pub rests-sliced : (x : Option Marking) (t : Thread) (n : ℕ) (closure : List ℕ) → s.marking ≡ x → Rests m s flags jm m (sliced s x t n closure).state
  rests-sliced None t n closure e = rests-still
  rests-sliced (Some mk) t n closure e = by (is_thread t mk.by)
    where
      black : (b : ℕ) → Rests m s flags jm m (record s { marking = Some (record mk { blackened = b }) })
      black b = record {
        same = refl;
        agrees = record {
          removed = ag.removed;
          markings = same-black mk jm b (subst (λ z. AreSameMarkings z jm) e ag.markings);
        };
      }

      by : (b : Bool) → Rests m s flags jm m (if b
          then (let black = mk.blackened + min n (length closure - mk.blackened) in
          answer (if nat_lt black (length closure) then says.More else says.Done) (record s { marking = Some (record mk { blackened = black }) }))
          else answer (says.MarkOpen record { 0 = mk.number }) s).state
      by true = black _
      by false = rests-still

  -- references come to stand, and go
  rests-references : (refs : List (End × End)) (mirror : Option Mirror) (ks : List ℕ) → Rests m s flags jm m (record s { refs = refs; mirror = mirror; mirrors = ks })
  rests-references refs mirror ks = record {
    same = refl;
    agrees = record { removed = ag.removed; markings = ag.markings };
  }

  pub rests-mirrored : (k : ℕ) (cites : Option ℕ) (refs : List (End × End)) → Rests m s flags jm m (mirrored s k cites refs)
  rests-mirrored k None refs = rests-still
  rests-mirrored k (Some snap) refs = rests-references refs (Some record { cycle = k; snap = snap; weakened = []; restored = []; renewed = [] }) (s.mirrors ++ k ∷ [])

  pub rests-cleared : Rests m s flags jm m (record s { refs = []; mirror = None })
  rests-cleared = rests-references [] None s.mirrors

  -- a handle is weakened
  pub rests-weakened : (h : ℕ) → row_of s h ≡ Some record { strength = strong; cleared = false }
      → Rests m s flags jm m (record s { table = numbered_set s.table h (Some record { strength = weak; cleared = false }); mirror = with_weakened s.mirror h })
  rests-weakened h e = record {
    same = refl;
    agrees = record {
      removed = ag.removed ∙ sym (removed-written s.table h (record { strength = strong; cleared = false })
          (record { strength = weak; cleared = false }) (slot-named (numbered_at s.table h) (record { strength = strong; cleared = false }) e));
      markings = ag.markings;
    };
  }
