-- A class is listed at its least node.
use Rattle.std.proofs.Common.{◌≡◌, ◌+◌, ◌<◌, ◌++◌, ◌∷◌, [], ℕ, length, refl, sym, ◌∙◌, ap, arith, append-nil, append_assoc}
use Rattle.std.proofs.lemmas.List.{length_push, length-append, length-map}
use Rattle.joint_machine.specs.Components.{first_of}
use Rattle.bridge_graph.specs.Parts.{IsBridgeNode, NodeLeads}
use Rattle.compare_pass.proofs.HeavyList.{heavy-none, heavy-skip, heavy-more}
use Rattle.compare_pass.proofs.Numbering.{numbered-room}
use Rattle.compare_pass.proofs.heaviness.list_heavy.Goals as goal
use Rattle.compare_pass.proofs.heaviness.list_heavy.Goals.{then-is_heavy+in_ok-indexes+in_ok-push, else-is_heavy}

pub loop-x-init : goal.loop-x-init
loop-x-init c = record {
  heavy = (
    [],
    sym c.requires.heavy,
    sym (append-nil c.args.stands.now.items),
    heavy-none (IsBridgeNode c.args.graph.now.nodes) (NodeLeads c.args.graph.now.edges)
        (length c.args.graph.now.nodes) c.args.labels.now c.args.indexes.now c.args.stands.now.items c.requires.numbered,
  );
  comps = refl;
  pairs = refl;
}

pub bridgeless-requires : goal.bridgeless-requires
bridgeless-requires c =
    let h = c.loop-x.invariant.heavy in
    let firsts = c.args.stands.now.items in
    let comps = c.args.builder.now.comps in
    let x : ℕ = c.loop-x.x in
    let lt : x < length c.args.graph.now.nodes = omega arith in
    let small = c.requires.classes.small x 0 (omega (arith, lt, c.requires.classes.whole)) in
    let room = numbered-room (length c.args.graph.now.nodes) c.args.labels.now c.loop-x.indexes (firsts ++ h.0) x lt small c.if-is_heavy.ensures.0 c.nodes-x-end.ensures.part.few h.3.numbered in
    omega (arith, room, length-append firsts h.0, h.1, ap length c.requires.firsts, length-map comps first_of, ap length c.loop-x.invariant.comps, c.nodes-x-end.ensures.part.few)

pub loop-x-preserved : goal.loop-x-preserved
loop-x-preserved c =
    let i = c.loop-x.invariant in
    let h = i.heavy in
    let B = IsBridgeNode c.args.graph.now.nodes in
    let E = NodeLeads c.args.graph.now.edges in
    let n = length c.args.graph.now.nodes in
    let labels = c.args.labels.now in
    let firsts = c.args.stands.now.items in
    let x : ℕ = c.loop-x.x in
    elim c.if-is_heavy.branch [
      | then-is_heavy+in_ok-indexes+in_ok-push w ↦
          let e = w.if-is_heavy.ensures in
          let hx = (c.requires.exact x (omega arith) (h.3.still x e.0)).0 e.1 in
          let sizes : length firsts ≡ length c.args.builder.now.comps = sym (ap length c.requires.firsts) ∙ length-map c.args.builder.now.comps first_of in
          let at : w.in_ok-indexes.field-0 ≡ length firsts + length h.0 = omega (arith, w.in_ok-indexes.ensures.index, h.1, ap length i.comps, sizes) in
          let lt : x < n = omega arith in
          let small = c.requires.classes.small x 0 (omega (arith, lt, c.requires.classes.whole)) in
          let room = numbered-room n labels c.loop-x.indexes (firsts ++ h.0) x lt small e.0 c.nodes-x-end.ensures.part.few h.3.numbered in
          let few : length firsts + length h.0 < 4294967295 = omega (arith, room, length-append firsts h.0, c.nodes-x-end.ensures.part.few) in
          let m = heavy-more B E n labels c.args.indexes.now firsts x c.loop-x.indexes h.0 lt small e.0 hx few
          (λ y l r. sym ((c.requires.classes.exact x y (omega arith) l).1 r)) h.3 in
          rw (w.indexes-is, w.stands-is, w.builder-is, at) record {
            heavy = (
              h.0 ++ x ∷ [],
              omega (arith, length_push h.0 x, h.1, w.in_ok-indexes.ensures.heavy),
              w.in_ok-push.ensures.items ∙ ap (λ xs. xs ++ x ∷ []) h.2 ∙ append_assoc firsts h.0 (x ∷ []),
              m,
            );
            comps = w.bridgeless.ensures.comps ∙ i.comps;
            pairs = w.bridgeless.ensures.pairs ∙ i.pairs;
          }
      | else-is_heavy w ↦ rw (w.indexes-is, w.stands-is, w.builder-is) record {
        heavy = (
          h.0,
          h.1,
          h.2,
          heavy-skip B E n labels c.args.indexes.now firsts x c.loop-x.indexes h.0
              (λ e k. w.if-is_heavy.ensures (e, (c.requires.exact x (omega arith) (h.3.still x e)).1 k)) h.3,
        );
        comps = i.comps;
        pairs = i.pairs;
      }
    ]
