-- A collect of a peer thread, which is made in one hold of the peer side's lock: a begin and, if that gave a number,
-- the sweep of that marking. Neither cites anything. Where a marking is open the begin stands alone, and says so.
use Rattle.std.specs.Prelude.{◌≡◌, ◌⊎◌, ℕ, List, [], ◌∷◌, None}
use Rattle.joint_machine.specs.declared.names.Marking.{Marking}
use Rattle.joint_machine.specs.declared.names.Span.{Span}
use Rattle.joint_machine.specs.declared.names.Thread.{Thread}
use Rattle.joint_machine.specs.declared.events.Entry.{Entry}
use Rattle.joint_machine.specs.declared.events.Op.TheVariants as op
use Rattle.joint_machine.specs.declared.events.Reply.TheVariants as says
use Rattle.joint_machine.specs.PeerReplay.{PeerReplay}
use Rattle.joint_machine.specs.Sides.{Side, peer_rules}
use Rattle.joint_machine.specs.Told.{nothing, sweep_of}
use Rattle.order_table.specs.declared.views.View.{View}
use Rattle.order_table.specs.Views.{OrderId, Shown}
use Rattle.joint_history.specs.declared.callers.Receipt.{Receipt}
use Rattle.joint_history.specs.Locked.{Drew}
use Rattle.joint_history.specs.Operations.{MakesAll, entry_by}

-- the entry of a begin that gave a number, of one that an open marking refused, and of the sweep that ended a marking
abbrev pub began_at : Thread → ℕ → ℕ → Marking → Entry
began_at t index n j = entry_by t index n op.Begin (says.Mark j) None

abbrev pub refused_at : Thread → ℕ → ℕ → Marking → Entry
refused_at t index n j = entry_by t index n op.Begin (says.MarkOpen j) None

abbrev pub swept_at : Thread → ℕ → ℕ → Marking → Span → Entry
swept_at t index n j freed = entry_by t index n op.Sweep (says.Swept j freed) None

-- the side drew a whole collection: the begin and the sweep, one after the other
pub record DrawsWhole (order : OrderId) (seat seat' : Shown)
    (side side' : Side PeerReplay) (t : Thread) (index : ℕ) (r : Receipt) : Type 0 where
  pub marking : Marking
  pub freed : Span
  pub gone : List ℕ
  pub between : Shown
  pub begun : Side PeerReplay
  pub begins : Drew peer_rules 1 order seat between side begun (began_at t index r.first marking) nothing
  pub ends : Drew peer_rules 1 order between seat' begun side' (swept_at t index r.last marking freed) (sweep_of gone)
  pub answer : r.reply ≡ says.Swept marking freed

-- the side drew a begin alone, since a marking is open
pub record DrawsRefusal (order : OrderId) (seat seat' : Shown)
    (side side' : Side PeerReplay) (t : Thread) (index : ℕ) (r : Receipt) : Type 0 where
  pub marking : Marking
  pub drew : Drew peer_rules 1 order seat seat' side side' (refused_at t index r.first marking) nothing
  pub last : r.last ≡ r.first
  pub answer : r.reply ≡ says.MarkOpen marking

-- the one or the other
abbrev pub DrawsCollect : OrderId → Shown → Shown → Side PeerReplay → Side PeerReplay → Thread → ℕ → Receipt → Type 0
DrawsCollect order seat seat' side side' t index r = DrawsWhole order seat seat' side side' t index r
    ⊎ DrawsRefusal order seat seat' side side' t index r

-- a caller made a whole collection: it answers which marking was ended, and where the peers that it freed stand among
-- all that were freed
pub record CollectsWhole (t : Thread) (old new : View) (index : ℕ) (r : Receipt) : Type 0 where
  pub marking : Marking
  pub freed : Span
  pub made : MakesAll t old new (began_at t index r.first marking ∷ swept_at t index r.last marking freed ∷ [])
  pub answer : r.reply ≡ says.Swept marking freed

-- a caller made a begin alone, since a marking is open: it answers which
pub record CollectsNone (t : Thread) (old new : View) (index : ℕ) (r : Receipt) : Type 0 where
  pub marking : Marking
  pub made : MakesAll t old new (refused_at t index r.first marking ∷ [])
  pub last : r.last ≡ r.first
  pub answer : r.reply ≡ says.MarkOpen marking

-- a caller made a collect
abbrev pub Collects : Thread → View → View → ℕ → Receipt → Type 0
Collects t old new index r = CollectsWhole t old new index r ⊎ CollectsNone t old new index r
