-- The further object stands last, with its flag up.
use Rattle.std.proofs.Common.{◌≡◌, ◌∙◌, ◌++◌, ◌+◌, ◌<◌, [], ◌∷◌, ap, map, length, refl, true, arith, length-append}
use Rattle.std.proofs.lemmas.List.{length-map}
use Rattle.joint_machine.specs.Heaps.{Heap, MOST}
use Rattle.joint_replay.proofs.Flags.{IsFlagged-more}
use Rattle.joint_replay.proofs.heap.PlainHeap.add_object.Goals as goal

pub invariant_of-self-2 : goal.invariant_of-self-2
invariant_of-self-2 c =
    let fields = c.self.inside.fields.items in
    let seen : length (map (λ v. v.items) fields) ≡ length c.args.self.now.fields = ap (λ (h : Heap). length h.fields) c.self.view_is in
    let few : length (map (λ v. v.items) fields) < MOST = omega (arith, c.requires, seen) in
    let longer : length (map (λ v. v.items) c.push_reserved.new.self.items) ≡ length (map (λ v. v.items) fields) + 1 =
    omega (
      arith,
      length-map fields (λ v. v.items),
      length-map c.push_reserved.new.self.items (λ v. v.items),
      ap length c.push_reserved.ensures.items,
      length-append c.reserve.new.self.items (c.in_ok-row.row ∷ []),
      ap length c.reserve.ensures.items,
    ) in
    IsFlagged-more _ _ c.self.inside.flags.items _ c.self.invariant few longer refl refl refl (c.push_reserved-2.ensures.items ∙ ap (λ l. l ++ true ∷ []) c.reserve-2.ensures.items)
