-- Before the first entry nothing is there, and nothing in any thread's mind.
use Rattle.std.proofs.Common.{◌≡◌, ℕ, zero, suc, ◌+◌, inr, Bool, true, false, List, [], Option, Some, None, replicate, refl, sym, ap, subst, ◌∙◌, arith}
use Rattle.std.specs.Prelude.{is_some}
use Rattle.joint_machine.specs.declared.names.Thread.TheVariants.{M, P, C}
use Rattle.joint_machine.specs.declared.events.Entry.{Entry}
use Rattle.joint_machine.specs.Heaps.{slot, place}
use Rattle.joint_machine.specs.Linked.{opening_linkage}
use Rattle.joint_machine.specs.Managed.{opening_managed}
use Rattle.joint_machine.specs.Peers.{opening_peers}
use Rattle.joint_machine.specs.PeerReplay.{opening_peer_replay}
use Rattle.joint_machine.proofs.Deciding.{none_some}
use Rattle.joint_machine.proofs.Members.{Contains-nil}
use Rattle.joint_machine.proofs.Numbered.{replicate-none, numbered-within}
use Rattle.script_laws.specs.Holding.{entries_by}
use Rattle.generated_laws.proofs.Totals.{Each}
use Rattle.generated_laws.proofs.Pictures.{Seen, at, no_slots, Mind, empty_mind, Going}
use Rattle.generated_laws.proofs.Showing.{Group, StaticIs, IsShown, number_of}
use Rattle.generated_laws.proofs.PeerShowing.{Filled, filled, none_filled, PeerStaticIs, ArePeersShown, PeerGoing}
use Rattle.generated_laws.proofs.Moves.{AreHeld}
use Rattle.generated_laws.proofs.Running.{IsCycleEntry, FilledIn, Inv}

pub no-slot : {X : Type 0} (n i : ℕ) → slot {A = X} (replicate n None) i ≡ None
no-slot zero i = refl
no-slot (suc n) zero = refl
no-slot (suc n) (suc i) = no-slot n i

pub nothing-at : (v : ℕ) → at no_slots v ≡ None
nothing-at zero = refl
nothing-at (suc zero) = refl
nothing-at (suc (suc zero)) = refl
nothing-at (suc (suc (suc v))) = refl

pub unfilled-at : (v : ℕ) → filled none_filled v ≡ false
unfilled-at zero = refl
unfilled-at (suc zero) = refl
unfilled-at (suc (suc v)) = refl

abbrev no_minds : ℕ → Mind
no_minds t = empty_mind

abbrev no_fills : ℕ → Filled
no_fills t = none_filled

abbrev no_groups : List (Option Group)
no_groups = replicate 32 None

no-seen : {A : Type 0} (v : ℕ) (x : Seen) → at no_slots v ≡ Some x → A
no-seen v x e = absurd (let f : None ≡ Some x = sym (nothing-at v) ∙ e in cc)

no-group : {A : Type 0} (i : ℕ) (g : Group) → slot no_groups i ≡ Some g → A
no-group i g e = absurd (let f : None ≡ Some g = sym (no-slot 32 i) ∙ e in cc)

opening-shown : IsShown opening_managed no_minds no_groups
opening-shown = record {
  places = refl;
  size = refl;
  shelf = refl;
  spots = refl;
  vars = λ t v l. no-slot 72 (place t v) ∙ sym (ap number_of (nothing-at v));
  objects = λ t v x e. no-seen v x e;
  apart = λ t v u w x y e f g. no-seen v x e;
  unpinned = λ z c. replicate-none 9 z c;
  groups_are = λ i g e. no-group i g e;
  statics = λ y l. subst (λ o. StaticIs o (slot no_groups y)) (sym (no-slot 16 y)) (subst (StaticIs None) (sym (no-slot 32 y)) tt);
  disjoint = λ i j g k z e f m n. no-group i g e;
  fresh = λ t v x i g e f h m. no-group i g h;
}

opening-peers_shown : ArePeersShown opening_peers no_fills no_groups
opening-peers_shown = record {
  size = refl;
  shelf = refl;
  vars = λ t v l e. no-slot 72 (place t v);
  unnamed = λ n i e v f. none_some i.peer (sym (no-slot 72 v) ∙ f);
  bare = λ n i q e c. absurd (let b = numbered-within [] n i e in omega (arith, b.0, b.1));
  made = λ n i e. absurd (let b = numbered-within [] n i e in omega (arith, b.0, b.1));
  holds = λ n i e. absurd (let b = numbered-within [] n i e in omega (arith, b.0, b.1));
  statics = λ y l. subst (λ o. PeerStaticIs o (slot no_groups (16 + y))) (sym (no-slot 16 y)) (subst (PeerStaticIs None) (sym (no-slot 32 (16 + y))) tt);
}

opening-held : AreHeld opening_managed opening_peer_replay [] no_minds no_groups
opening-held = record {
  owned = λ n row t. absurd (let b = numbered-within [] n (Some row) t in omega (arith, b.0, b.1));
  freed = λ x n e c. absurd (Contains-nil x c);
  leads = λ i g n e d. no-group i g e;
}

pub inv-opening : (keep : ℕ → Bool) (rest : List Entry) → ((t : ℕ) → Going (entries_by (M t) rest) empty_mind)
    → ((t : ℕ) → PeerGoing (entries_by (P t) rest) none_filled) → Each IsCycleEntry (entries_by C rest)
    → ((i : ℕ) → FilledIn i rest → keep i ≡ true) → ((i : ℕ) → keep i ≡ true → FilledIn i rest) → Inv keep opening_linkage rest
inv-opening keep rest going peer_going driven there back = record {
  minds = no_minds;
  fills = no_fills;
  groups = no_groups;
  shown = opening-shown;
  peers = opening-peers_shown;
  are_held = opening-held;
  going = going;
  peer_going = peer_going;
  driven = driven;
  kept = λ i e. absurd (let f : false ≡ true = sym (ap is_some (no-slot {X = Group} 32 i)) ∙ e in cc);
  kept_rest = there;
  all = λ i l e. inr (back i e);
}
