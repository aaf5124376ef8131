-- A restore by cases: its handle isn't in the table, is cleared, or is removed for a new one on its peer.
use Rattle.std.proofs.Common.{◌≡◌, ℕ, Bool, true, false, Option, Some, None, refl}
use Rattle.std.specs.Prelude.{if◌then◌else◌}
use Rattle.joint_machine.specs.declared.events.Reply.TheVariants as says
use Rattle.joint_machine.specs.Heaps.{Answered, answer}
use Rattle.joint_machine.specs.Peers.{peer_of, next_handle}
use Rattle.joint_machine.specs.PeerReplay.{PeerReplay, TableRow, restored_by, renewed_on, withdrawn, given_anew}

-- the answer that gives a new handle on the peer
abbrev pub renewal : PeerReplay → ℕ → ℕ → Answered PeerReplay
renewal s h p = answer (says.Renewed record { 0 = next_handle s.peers }) (given_anew (withdrawn s h) p)

-- what is shown of each of the three answers holds of a restore; of the third it may be used that the handle isn't
-- cleared
pub restored-cases : (Q : Answered PeerReplay → Type 0) (s : PeerReplay) (h : ℕ) (o : Option TableRow)
    → (o ≡ None → Q (answer says.Cleared s)) → ((row : TableRow) → o ≡ Some row → row.cleared ≡ true → Q (answer says.Cleared (withdrawn s h)))
    → (peer_of s.peers.issued h ≡ None → Q (answer says.Cleared (withdrawn s h)))
    → ((row : TableRow) (p : ℕ) → o ≡ Some row → row.cleared ≡ false → peer_of s.peers.issued h ≡ Some p → Q (renewal s h p)) → Q (restored_by s h o)
restored-cases Q s h None missing cleared unissued new = missing refl
restored-cases Q s h (Some row) missing cleared unissued new = by row.cleared refl
  where
    fresh : (x : Option ℕ) → peer_of s.peers.issued h ≡ x → row.cleared ≡ false → Q (renewed_on s h x)
    fresh None e f = unissued e
    fresh (Some p) e f = new row p refl f e

    by : (b : Bool) → row.cleared ≡ b → Q (if b then answer says.Cleared (withdrawn s h) else renewed_on s h (peer_of s.peers.issued h))
    by true e = cleared row refl e
    by false e = fresh (peer_of s.peers.issued h) refl e

-- the same where nothing is used
pub restored-any : (Q : Answered PeerReplay → Type 0) (s : PeerReplay) (h : ℕ) (o : Option TableRow)
    → Q (answer says.Cleared s) → Q (answer says.Cleared (withdrawn s h)) → ((p : ℕ) → Q (renewal s h p)) → Q (restored_by s h o)
restored-any Q s h o missing cleared new = restored-cases Q s h o (λ e. missing) (λ row e f. cleared) (λ e. cleared) (λ row p e f g. new p)
