-- One flag more is down, and its object is put last.
use Rattle.std.proofs.Common.{◌≡◌, ◌≤◌, ◌+◌, ◌∙◌, ◌++◌, [], ◌∷◌, take, get_or, refl, append_assoc}
use Rattle.std.proofs.lemmas.List.{take_more}
use Rattle.joint_replay.proofs.Flags.{Lowers-next}
use Rattle.joint_replay.proofs.heap.lower.Goals as goal

pub loop-x-preserved : goal.loop-x-preserved
loop-x-preserved c =
    let xs = c.args.xs.now in
    let i = c.loop-x.x-index in
    let more : take (i + 1) xs ≡ take i xs ++ get_or xs i 0 ∷ [] = take_more xs i 0 c.loop-x-test.true in
    let low : 1 ≤ get_or xs i 0 = (c.requires.made i 0 c.loop-x-test.true).0 in
    record {
      flags = Lowers-next (take i xs) (take (i + 1) xs) (get_or xs i 0) c.args.flags.now.items c.loop-x.flags.items c.loop-x.invariant.flags more low;
      freed = rw (c.push_reserved.ensures.items, c.loop-x.invariant.freed, append_assoc, more) refl;
      capacity = c.push_reserved.ensures.capacity ∙ c.loop-x.invariant.capacity;
    }
