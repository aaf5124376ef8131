-- Each event by its lemma.
use Rattle.peer_heap.proofs.Mirrored.{stood-answer, weakened-answer, removed-answer, renewed-answer, gone-answer}
use Rattle.peer_heap.proofs.mirror_laws.mirrored_rows_go_on.Goals as goal

pub returns : goal.returns
returns c = record { stands = stood-answer; weakens = weakened-answer; removes = removed-answer; restores = renewed-answer; clears = gone-answer }
