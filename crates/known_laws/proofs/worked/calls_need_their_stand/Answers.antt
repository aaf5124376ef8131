use Rattle.std.proofs.Common.{refl}
use Rattle.known_laws.proofs.SmallPasts.{no_release, no_contraction, no_weaken, no_restore, no_clear, no_cycle, snapped_open, kept}
use Rattle.known_laws.proofs.worked.calls_need_their_stand.Goals as goal

pub returns : goal.returns
returns c = record {
  kept = kept;
  release = no_release;
  contracted = no_contraction;
  weaken = no_weaken;
  restore = no_restore;
  clear = no_clear;
  open_cycle = no_cycle;
  snapped = refl;
  snap = snapped_open;
}
