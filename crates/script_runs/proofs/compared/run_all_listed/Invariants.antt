use Rattle.script_runs.proofs.Listing.{ListedSoFar}
use Rattle.script_runs.proofs.Seated.{ComeSoFar}
use Rattle.script_runs.proofs.compared.run_all_listed.Given as goal

abbrev pub invariant-loop-line : goal.invariant-loop-line
invariant-loop-line g l = ComeSoFar l.script l.line-index l.number l.last l.driver l.others.items
    × ListedSoFar l.fn.listing l.listing (g.O.Sink.held l.fn.out) (g.O.Sink.held l.out) (g.O.Sink.faults l.fn.out) (g.O.Sink.faults l.out) l.driver l.line-index
