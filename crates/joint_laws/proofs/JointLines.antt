-- The entries of threads on the peer side are steps of the joint machine: both compute on the same peers, and where a
-- handle leads is the same.
use Rattle.std.proofs.Common.{◌≡◌, ℕ, ◌≤◌, ◌||◌, List, length, Option, Some, None, set, refl, sym, ap, subst, ◌∙◌, arith}
use Rattle.joint_machine.specs.declared.names.Thread.TheVariants.{M, P}
use Rattle.joint_machine.specs.declared.names.Sort.{Sort}
use Rattle.joint_machine.specs.declared.names.Var.{Var}
use Rattle.joint_machine.specs.declared.names.GName.{GName}
use Rattle.joint_machine.specs.declared.names.StaticNo.{StaticNo}
use Rattle.joint_machine.specs.declared.names.HNum.{HNum}
use Rattle.joint_machine.specs.declared.lines.Act.{Act}
use Rattle.joint_machine.specs.declared.lines.Act.TheVariants as act
use Rattle.joint_machine.specs.declared.events.Op.TheVariants as op
use Rattle.joint_machine.specs.declared.events.Reply.{Reply}
use Rattle.joint_machine.specs.declared.events.Reply.TheVariants as says
use Rattle.joint_machine.specs.Control.{Doing, Stand}
use Rattle.joint_machine.specs.Heaps.{Answered, slot, is_full}
use Rattle.joint_machine.specs.Joint.{Joint, JointMarking, joint_target}
use Rattle.joint_machine.specs.ManagedReplay.{ManagedReplay}
use Rattle.joint_machine.specs.Peers.{Peers, peer_line, pair_made, gripped, landed, issued_since, handles_full}
use Rattle.joint_machine.specs.PeerReplay.{PeerReplay, table_target, on_table, brings, untabled, peer_thread_line}
use Rattle.joint_machine.specs.Run.{on_peers, without}
use Rattle.joint_machine.specs.Told.{Told}
use Rattle.joint_laws.specs.JointAgreement.{Agrees, issued_flags, gone_flags, Flags, joint_as}
use Rattle.joint_laws.specs.LinkedInvariants.{IsLoose}
use Rattle.joint_machine.proofs.Numbered.{slot-Contains}
use Rattle.joint_laws.proofs.PeerEvents.{freed_by}
use Rattle.joint_laws.proofs.PeerQuietEvents.{IsRawOne, quiet-line, quiet-pair, quiet-grip, quiet-land}
use Rattle.joint_laws.proofs.JointFlags.{AreFlags-issued}
use Rattle.joint_laws.proofs.JointTargets.{target-same}
use Rattle.joint_laws.proofs.JointSteps.{Steps, bring-peers, bring-reply, agrees-peers, agrees-brought, joint-brought, flags-gone}
use Rattle.joint_laws.proofs.LinkedQuiet.{BothInvariants}

module _ (r : ManagedReplay) (s : PeerReplay) (ds : List Doing) (d : Stand) (k : BothInvariants r s ds d) (flags : Flags) (jm : Option JointMarking) (ag : Agrees s flags jm) where
  abbrev j : Joint
  j = joint_as r.managed s flags jm

  abbrev more : Peers → Flags
  more g = issued_flags flags (issued_since s.peers g)

  targets : joint_target j ≡ table_target s
  targets = λ i h. target-same r s ds d k flags ag.removed jm h i

  -- a name loses its handle
  unglobal-by : (u : ℕ) (g : GName) (o : Option ℕ) (reply : Reply) → slot s.peers.names g.0 ≡ o → ((h : ℕ) → o ≡ Some h → IsRawOne s h) → reply ≡ (freed_by s.peers g.0 o).reply
      → (after : Flags) × (after.answers ≡ flags.answers) × (joint_as r.managed (on_table (untabled s o) (freed_by s.peers g.0 o)).state after
      jm ≡ (on_peers (without j o) (freed_by s.peers g.0 o)).state) × Agrees (on_table (untabled s o) (freed_by s.peers g.0 o)).state after jm
  unglobal-by u g None reply e w q = (more s.peers, refl, refl, agrees-peers r s ds d k flags jm ag s.peers (omega arith))
  unglobal-by u g (Some h) reply e w q =
      let names : Peers = record s.peers { names = set s.peers.names g.0 None } in
      let gone : PeerReplay = untabled s (Some h) in
      let removed = flags-gone r s ds d k flags jm ag h in (
        issued_flags (gone_flags flags h) (issued_since s.peers names),
        refl,
        refl,
        record { removed = AreFlags-issued gone names (gone_flags flags h) removed; markings = ag.markings },
      )

  named-raw : (g : ℕ) (h : ℕ) → slot s.peers.names g ≡ Some h → IsRawOne s h
  named-raw g h e = k.peer.handles.named h (slot-Contains s.peers.names g h e)

  -- a weak read, which looks where its name's handle leads
  step-wread : (u : ℕ) (v : Var) (g : GName) (reply : Reply) (told : Told) → reply ≡ (peer_thread_line s u (act.WRead v g)).reply
      → Steps r.managed s flags flags.answers jm (P u) (op.Line (act.WRead v g)) reply told r.managed (peer_thread_line s u (act.WRead v g)).state
  step-wread u v g reply told q =
      let a : Answered Peers = peer_line (table_target s) s.peers u (act.WRead v g) in
      record {
        flags_after = more a.state;
        told_after = refl;
        marking_after = jm;
        event = record {
          joint = refl;
          replies = q ∙ (bring-reply (on_table s a) a.reply ∙ ap (λ t. (peer_line t s.peers u (act.WRead v g)).reply) (sym targets));
          state = joint-brought r s ds d k flags jm ag a.state a.reply ∙ ap (λ t. (on_peers j (peer_line t s.peers u (act.WRead v g))).state) (sym targets);
        };
        agrees = agrees-brought r s ds d k flags jm ag a.state a.reply (longer u v g);
      }
    where
      longer : (u : ℕ) (v : Var) (g : GName) → length s.peers.issued ≤ length (peer_line (table_target s) s.peers u (act.WRead v g)).state.issued
      longer u v g =
          let a : Answered Peers = peer_line (table_target s) s.peers u (act.WRead v g) in
          subst (λ (z : Peers). length s.peers.issued ≤ length z.issued) (bring-peers (on_table s a) a.reply) (quiet-line s u (act.WRead v g) k.peer).handles.count

  -- the other lines
  pub step-line : (u : ℕ) (a : Act) (reply : Reply) (told : Told) → ((n : ℕ) → a ≡ act.Slice n → ⊥) → reply ≡ (peer_thread_line s u a).reply
      → Steps r.managed s flags flags.answers jm (P u) (op.Line a) reply told r.managed (peer_thread_line s u a).state
  step-line u (act.Slice n) reply told no_slice q = absurd (no_slice n refl)
  step-line u (act.WRead v g) reply told no_slice q = step-wread u v g reply told q
  step-line u (act.UnGlobal g) reply told no_slice q =
      let w = unglobal-by u g (slot s.peers.names g.0) reply refl (named-raw g.0) q in
      record { flags_after = w.0; told_after = w.1; marking_after = jm; event = record { joint = refl; replies = q; state = w.2 }; agrees = w.3 }
  step-line u a reply told no_slice q = record {
    flags_after = more (peer_line (table_target s) s.peers u a).state;
    told_after = refl;
    marking_after = jm;
    event = record { joint = refl; replies = q; state = refl };
    agrees = agrees-peers r s ds d k flags jm ag (peer_line (table_target s) s.peers u a).state (quiet-line s u a k.peer).handles.count;
  }

  pub step-make : (u : ℕ) (sort : Sort) (n : ℕ) (reply : Reply) (told : Told) → reply ≡ (pair_made s.peers sort n).reply
      → Steps r.managed s flags flags.answers jm (M u) (op.Make sort n) reply told r.managed (on_table s (pair_made s.peers sort n)).state
  step-make u sort n reply told q = record {
    flags_after = more (pair_made s.peers sort n).state;
    told_after = refl;
    marking_after = jm;
    event = record { joint = refl; replies = q; state = refl };
    agrees = agrees-peers r s ds d k flags jm ag (pair_made s.peers sort n).state
        (quiet-pair (λ h. ⊥) s sort n (is_full s.peers.heap.fields || handles_full s.peers) k.peer.handles.places).handles.count;
  }

  pub step-grip : (u : ℕ) (x : StaticNo) (reply : Reply) (told : Told) → reply ≡ (gripped s.peers x.0).reply
      → Steps r.managed s flags flags.answers jm (M u) (op.Grip x) reply told r.managed (on_table s (gripped s.peers x.0)).state
  step-grip u x reply told q = record {
    flags_after = more (gripped s.peers x.0).state;
    told_after = refl;
    marking_after = jm;
    event = record { joint = refl; replies = q; state = refl };
    agrees = agrees-peers r s ds d k flags jm ag (gripped s.peers x.0).state (quiet-grip (λ h. ⊥) s x.0 (slot s.peers.heap.statics x.0) k.peer.handles.places refl).handles.count;
  }

  pub step-land : (u : ℕ) (h : HNum) (x : StaticNo) (reply : Reply) (told : Told) → reply ≡ (brings (on_table s (landed s.peers x.0 (table_target s h.0)))).reply
      → Steps r.managed s flags flags.answers jm (M u) (op.Land h x) reply told r.managed (brings (on_table s (landed s.peers x.0 (table_target s h.0)))).state
  step-land u h x reply told q =
      let a : Answered Peers = landed s.peers x.0 (table_target s h.0) in
      let same : table_target s h.0 ≡ joint_target j h.0 = λ i. (sym targets) i h.0 in
      record {
        flags_after = more a.state;
        told_after = refl;
        marking_after = jm;
        event = record {
          joint = refl;
          replies = q ∙ (bring-reply (on_table s a) a.reply ∙ ap (λ o. (landed s.peers x.0 o).reply) same);
          state = joint-brought r s ds d k flags jm ag a.state a.reply ∙ ap (λ o. (on_peers j (landed s.peers x.0 o)).state) same;
        };
        agrees = agrees-brought r s ds d k flags jm ag a.state a.reply
            (subst (λ (z : Peers). length s.peers.issued ≤ length z.issued) (bring-peers (on_table s a) a.reply) (quiet-land (λ g. g ≡ h.0) s x.0 h.0 (table_target s h.0) refl refl).handles.count);
      }

  pub step-release : (u : ℕ) (h : HNum) (reply : Reply) (told : Told) → IsLoose r s h.0 → reply ≡ says.Ok
      → Steps r.managed s flags flags.answers jm (M u) (op.Release h) reply told r.managed (untabled s (Some h.0))
  step-release u h reply told loose q = record {
    flags_after = gone_flags flags h.0;
    told_after = refl;
    marking_after = jm;
    event = record { joint = refl; replies = q; state = refl };
    agrees = record { removed = flags-gone r s ds d k flags jm ag h.0; markings = ag.markings };
  }
