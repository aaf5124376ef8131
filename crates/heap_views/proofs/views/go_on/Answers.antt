use Rattle.heap_views.proofs.Seeing.{if_ok, seen-on}
use Rattle.heap_views.proofs.views.go_on.Goals as goal

pub returns : goal.returns
returns c = if_ok c.go.result _ _ (λ went g. seen-on went c.args.h.now c.args.i c.args.entry.now _ _ c.requires.there c.requires.seen g) c.go.ensures
