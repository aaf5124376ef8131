use Rattle.std.proofs.Common.{◌≡◌, sym, ◌∙◌}
use Rattle.run_check.proofs.Wholes.{gives-managed, match-none}
use Rattle.run_check.proofs.replays.Replay.gives.Goals as goal

pub returns : goal.returns
returns c = λ past w.
    let g = gives-managed past c.args.made.now (sym c.is_peers.ensures ∙ c.if-is_peers.false) (match-none c.read_cell.result _ _ c.read_cell.ensures (sym c.is_some.ensures ∙ c.if-is_some.false)) in
    let s = c.gives_snap.ensures past w in
    ((λ t. g.0 (s.0 t)), λ x. s.1 (g.1 x))
