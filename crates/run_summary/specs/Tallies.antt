-- What entries made and what is left of it, counted by their events and replies alone.
use Rattle.std.specs.Prelude.{ℕ, ◌+◌, ◌-◌, Bool, true, false, List, [], ◌∷◌}
use Rattle.joint_machine.specs.declared.lines.Act.TheVariants as act
use Rattle.joint_machine.specs.declared.events.Op.{Op}
use Rattle.joint_machine.specs.declared.events.Op.TheVariants as op
use Rattle.joint_machine.specs.declared.events.Reply.{Reply}
use Rattle.joint_machine.specs.declared.events.Reply.TheVariants as says
use Rattle.joint_machine.specs.declared.events.Entry.{Entry}
use Rattle.run_summary.specs.declared.tallies.Objects.{Objects}
use Rattle.run_summary.specs.declared.tallies.Tally.{Tally}
use Rattle.run_summary.specs.Lines.{one}

-- whether the reply names a managed object, a new one that was met, a peer, a peer that was made with a handle, a peer
-- that was gripped, or a handle; and whether it is `ok` or `cleared`
abbrev pub is_m : Reply → Bool
is_m (says.M m) = true
is_m _ = false

abbrev pub is_new : Reply → Bool
is_new (says.New m) = true
is_new _ = false

abbrev pub is_p : Reply → Bool
is_p (says.P p) = true
is_p _ = false

abbrev pub is_made : Reply → Bool
is_made (says.Made p h) = true
is_made _ = false

abbrev pub is_gripped : Reply → Bool
is_gripped (says.Gripped p h sort n) = true
is_gripped _ = false

abbrev pub is_h : Reply → Bool
is_h (says.H h) = true
is_h _ = false

abbrev pub is_ok : Reply → Bool
is_ok says.Ok = true
is_ok _ = false

abbrev pub is_cleared : Reply → Bool
is_cleared says.Cleared = true
is_cleared _ = false

-- whether the event opens a cycle
abbrev pub opens_cycle : Op → Bool
opens_cycle (op.Snap k) = true
opens_cycle _ = false

-- whether the event made a managed object: a `new`, or an adopt or a meet that answers with a new number
abbrev pub makes_managed : Op → Reply → Bool
makes_managed (op.Line (act.New v kind n)) r = is_m r
makes_managed (op.Adopt v kind n p h) r = is_m r
makes_managed (op.Meet v sort n p h) r = is_new r
makes_managed _ r = false

-- whether the event made a peer: a `new` of a peer thread, or a make
abbrev pub makes_peer : Op → Reply → Bool
makes_peer (op.Line (act.NewPeer v n)) r = is_p r
makes_peer (op.Make sort n) r = is_made r
makes_peer _ r = false

-- whether the event made a handle: a make, a grip, a `global` or a `wglobal`
abbrev pub makes_handle : Op → Reply → Bool
makes_handle (op.Make sort n) r = is_made r
makes_handle (op.Grip x) r = is_gripped r
makes_handle (op.Line (act.Global g v)) r = is_h r
makes_handle (op.Line (act.WGlobal g v)) r = is_h r
makes_handle _ r = false

-- whether the event took a handle out of the table: a release, an `unglobal`, or a restore of a cleared one
abbrev pub removes_handle : Op → Reply → Bool
removes_handle (op.Release h) r = is_ok r
removes_handle (op.Line (act.UnGlobal g)) r = is_ok r
removes_handle (op.Restore h) r = is_cleared r
removes_handle _ r = false

-- how many managed objects a snap or a resolve freed
abbrev pub freed_managed : Reply → ℕ
freed_managed (says.Snapped n s) = s.count
freed_managed (says.Freed s) = s.count
freed_managed _ = 0

-- how many peers a sweep freed
abbrev pub freed_peers : Reply → ℕ
freed_peers (says.Swept j s) = s.count
freed_peers _ = 0

-- with what an event made
abbrev pub more : Objects → Op → Reply → Objects
more o e r = record {
  managed = o.managed + one (makes_managed e r);
  peers = o.peers + one (makes_peer e r);
  handles = o.handles + one (makes_handle e r);
}

-- without what an event freed or removed
abbrev pub less : Objects → Op → Reply → Objects
less o e r = record {
  managed = o.managed - freed_managed r;
  peers = o.peers - freed_peers r;
  handles = o.handles - one (removes_handle e r);
}

-- the tally after a further event and its reply
abbrev pub tallied : Tally → Op → Reply → Tally
tallied t e r = record {
  cycles = t.cycles + one (opens_cycle e);
  made = more t.made e r;
  left = less (more t.left e r) e r;
}

-- the tally after further entries
abbrev pub tally_from : Tally → List Entry → Tally
tally_from t [] = t
tally_from t (e ∷ es) = tally_from (tallied t e.made.op e.made.reply) es

-- before the first entry
abbrev pub no_objects : Objects
no_objects = record { managed = 0; peers = 0; handles = 0 }

abbrev pub nothing_yet : Tally
nothing_yet = record { cycles = 0; made = no_objects; left = no_objects }

-- the tally of a history's entries
abbrev pub tally_of : List Entry → Tally
tally_of entries = tally_from nothing_yet entries
