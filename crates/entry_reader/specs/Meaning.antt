-- Which reply is meant where two have one text, and where its list stands behind those that came before.
use Rattle.std.specs.Prelude.{◌≡◌, ℕ, List, length, ◌++◌, map}
use Rattle.joint_machine.specs.declared.names.MNum.{MNum}
use Rattle.joint_machine.specs.declared.names.PNum.{PNum}
use Rattle.joint_machine.specs.declared.names.Span.{Span}
use Rattle.joint_machine.specs.declared.events.Reply.{Reply}
use Rattle.joint_machine.specs.declared.events.Reply.TheVariants as reply

-- three lists of a history as far as they were named
pub record Lists : Type 0 where
  pub managed : List MNum
  pub peers : List PNum
  pub notices : List MNum

-- numbers as those of managed objects, and as those of peers
abbrev pub as_managed : List ℕ → List MNum
as_managed ns = map (λ n. record { 0 = n }) ns

abbrev pub as_peers : List ℕ → List PNum
as_peers ns = map (λ n. record { 0 = n }) ns

-- the lists with the numbers behind the one that a reply shows
abbrev pub grown : Lists → Reply → List ℕ → Lists
grown l (reply.Snapped n s) ns = record l { managed = l.managed ++ as_managed ns }
grown l (reply.Freed s) ns = record l { managed = l.managed ++ as_managed ns }
grown l (reply.Swept j s) ns = record l { peers = l.peers ++ as_peers ns }
grown l (reply.Took s) ns = record l { notices = l.notices ++ as_managed ns }
grown l r ns = l

-- a span begins where a list of so many ends, and is of so many
abbrev pub Spans : ℕ → Span → List ℕ → Type 0
Spans from s ns = (s.first ≡ from) × (s.count ≡ length ns)

-- a reply's span begins where its list ended before, and is as long as what it names
abbrev pub BeginsAt : Lists → Reply → List ℕ → Type 0
BeginsAt l (reply.Snapped n s) ns = Spans (length l.managed) s ns
BeginsAt l (reply.Freed s) ns = Spans (length l.managed) s ns
BeginsAt l (reply.Swept j s) ns = Spans (length l.peers) s ns
BeginsAt l (reply.Took s) ns = Spans (length l.notices) s ns
BeginsAt l r ns = Unit {0}
