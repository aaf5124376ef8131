-- All that both sides, the threads and the driver keep, and how it stays so at the managed entries after which rows
-- hold the same handles, at the quiet entries of the peer side, and when a thread goes on to something else.
use Rattle.std.proofs.Common.{◌≡◌, ℕ, List, set, sym, subst}
use Rattle.joint_machine.specs.Control.{Doing, free, Stand}
use Rattle.joint_machine.specs.ManagedReplay.{ManagedReplay}
use Rattle.joint_machine.specs.PeerReplay.{PeerReplay}
use Rattle.joint_laws.specs.ManagedInvariants.{ReplayInvariant}
use Rattle.joint_laws.specs.PeerInvariants.{PeerInvariant}
use Rattle.joint_laws.specs.LinkedInvariants.{OwnersInvariant, CallersInvariant, DriverInvariant, doing_in, HasMadePair, given_at, hands}
use Rattle.joint_laws.proofs.ManagedMoves.{GoesOn}
use Rattle.joint_laws.proofs.OwnersManaged.{OwnersAlike, owners_alike, callers_alike}
use Rattle.joint_laws.proofs.DriverManaged.{driver_goes_on}
use Rattle.joint_laws.proofs.DriverPeers.{owners_quiet, callers_quiet, driver_quiet}
use Rattle.joint_laws.proofs.PeerQuiet.{IsQuiet}
use Rattle.joint_laws.proofs.Hands.{MayHave, MayHave-free, CallersInvariant-set, CallersInvariant-threads, shift, put-doing, put-set}

pub record BothInvariants (r : ManagedReplay) (s : PeerReplay) (ds : List Doing) (d : Stand) : Type 0 where
  pub managed : ReplayInvariant r
  pub peer : PeerInvariant s
  pub owners : OwnersInvariant r s
  pub callers : CallersInvariant r s (hands d ds)
  pub driver : DriverInvariant r s d

-- rows hold the same handles after a managed entry that goes on
pub kept-alike : (r u : ManagedReplay) (s : PeerReplay) (ds : List Doing) (d : Stand) → BothInvariants r s ds d
    → OwnersAlike r u → GoesOn r.managed u.managed → ReplayInvariant u → BothInvariants u s ds d
kept-alike r u s ds d k a g m = record {
  managed = m;
  peer = k.peer;
  owners = owners_alike r u s a k.owners;
  callers = callers_alike r u s a (hands d ds) k.callers;
  driver = driver_goes_on r u s k.managed.managed g d k.driver;
}

-- a quiet entry of the peer side, which reads no handle of a peer just made
pub kept-quiet : (via : ℕ → Type 0) (r : ManagedReplay) (s t : PeerReplay) (ds : List Doing) (d : Stand) → BothInvariants r s ds d → IsQuiet via s t → PeerInvariant t
    → ((u h p g : ℕ) → HasMadePair (doing_in (hands d ds) u) h p → via g → g ≡ h → ⊥) → BothInvariants r t ds d
kept-quiet via r s t ds d k q m other = record {
  managed = k.managed;
  peer = m;
  owners = owners_quiet via r s t k.peer k.owners q;
  callers = callers_quiet via r s t k.peer k.owners q (hands d ds) k.callers other;
  driver = driver_quiet via r s t k.peer k.owners q d k.driver;
}

-- a thread's place in all hands
abbrev pub place_in : Stand → ℕ → ℕ
place_in d t = shift (given_at d) t

-- what threads alone have in hand
pub threads-callers : (r : ManagedReplay) (s : PeerReplay) (ds : List Doing) (d : Stand) → BothInvariants r s ds d → CallersInvariant r s ds
threads-callers r s ds d k = CallersInvariant-threads r s (given_at d) ds k.callers

-- what a thread has in hand, in its place
pub in_place : (ds : List Doing) (d : Stand) (Q : Doing → Type 0) (t : ℕ) → Q (doing_in ds t) → Q (doing_in (hands d ds) (place_in d t))
in_place ds d Q t w = subst Q (sym (put-doing (given_at d) ds t)) w

-- all hands, after a thread's changed
pub hands-set : (ds : List Doing) (d : Stand) (t : ℕ) (now : Doing) → hands d (set ds t now) ≡ set (hands d ds) (place_in d t) now
hands-set ds d t now = put-set (given_at d) ds t now

-- a thread goes on to something else
pub kept-doing : (r : ManagedReplay) (s : PeerReplay) (ds : List Doing) (d : Stand) (t : ℕ) (now : Doing)
    → BothInvariants r s ds d → MayHave r s (hands d ds) (place_in d t) now → BothInvariants r s (set ds t now) d
kept-doing r s ds d t now k m = record {
  managed = k.managed;
  peer = k.peer;
  owners = k.owners;
  callers = subst (CallersInvariant r s) (sym (hands-set ds d t now)) (CallersInvariant-set r s (hands d ds) (place_in d t) now k.callers m);
  driver = k.driver;
}

pub kept-free : (r : ManagedReplay) (s : PeerReplay) (ds : List Doing) (d : Stand) (t : ℕ) → BothInvariants r s ds d → BothInvariants r s (set ds t free) d
kept-free r s ds d t k = kept-doing r s ds d t free k (MayHave-free r s (hands d ds) (place_in d t))
