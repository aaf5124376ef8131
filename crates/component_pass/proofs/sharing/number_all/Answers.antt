-- One class more: with an index it has the set of that alone, and its references are kept; without one it hands on the
-- union, or the empty set where it is thin.
use Rattle.component_pass.specs.Counting.{cap}
use Rattle.std.proofs.Common.{◌≡◌, ◌↔◌, ℕ, ◌+◌, ◌<◌, List, [], ◌∷◌, true, false, length, get_or, refl, sym, subst, ◌∙◌, ap, arith}
use Rattle.std.proofs.lemmas.List.Elements.{All-replicate, Contains-get_or}
use Rattle.std.specs.List.{All, Contains}
use Rattle.bridge_graph.specs.Parts.{row_at}
use Rattle.component_pass.specs.Gathering.{AreSets, set_at}
use Rattle.component_pass.specs.Sharing.{IsOpen, Leaves}
use Rattle.component_pass.proofs.Nearness.{near_leaves}
use Rattle.component_pass.proofs.Shared.{Puts, own-counted, union-shared, shared-more, shared-thin, shared-none, sets-none, sets-more, referred-none, referred-bare, referred-more}
use Rattle.component_pass.proofs.sharing.number_all.Goals as goal
use Rattle.component_pass.proofs.sharing.number_all.Goals.{then-indexes-c+in_ok-refs, else-indexes-c+then-not-is_thin+in_ok-found, else-indexes-c+else-not-is_thin}

pub loop-c-init : goal.loop-c-init
loop-c-init c =
    let all = subst (λ (xs : List ℕ). All (λ s. s ≡ c.args.count) xs) (sym (c.fill.ensures.after (λ y e. e))) (All-replicate (λ s. s ≡ c.args.count) (length c.args.sets.now) c.args.count refl) in
    rw (c.requires.lists, c.requires.known) record {
      shared = shared-none c.args.graph.now.edges (length c.args.graph.now.nodes) c.args.sets.now c.args.indexes.now c.args.thin.now c.args.count c.fill.new.self
          ([] ∷ []) (c.fill.ensures.len ∙ c.requires.classes.whole) all;
      referred = referred-none c.args.graph.now.nodes c.args.graph.now.edges c.args.sets.now c.args.indexes.now
          c.args.rows.now c.args.count 0 c.requires.order _ c.args.refs.now ([] ∷ []) c.requires.refs;
      valid = sets-none c.args.count c.fill.new.self all;
      work_marks = c.requires.work_marks;
      clear = c.requires.clear;
      size = c.requires.marks;
      unmarked = c.requires.unmarked;
    }

pub share_through-requires-clause-members : goal.share_through-requires-clause-members
share_through-requires-clause-members c =
    rw c.row-class.ensures (λ k d lt. ((c.requires.order.members c.loop-c.c (get_or (row_at c.args.rows.now c.loop-c.c) k d)).0 (Contains-get_or (row_at c.args.rows.now c.loop-c.c) k d lt)).0)

pub share_through-requires-then-not-is_thin-clause-members : goal.share_through-requires-then-not-is_thin-clause-members
share_through-requires-then-not-is_thin-clause-members c =
    rw c.row-class.ensures (λ k d lt. ((c.requires.order.members c.loop-c.c (get_or (row_at c.args.rows.now c.loop-c.c) k d)).0 (Contains-get_or (row_at c.args.rows.now c.loop-c.c) k d lt)).0)

pub is_thin-requires : goal.is_thin-requires
is_thin-requires c =
    rw c.row-class.ensures (λ k d lt.
    let m = (c.requires.order.members c.loop-c.c (get_or (row_at c.args.rows.now c.loop-c.c) k d)).0 (Contains-get_or (row_at c.args.rows.now c.loop-c.c) k d lt) in
    omega (arith, m.0, c.requires.thin.whole))

pub put-requires : goal.put-requires
put-requires c =
    rw c.row-class.ensures (λ k d lt.
    let m = (c.requires.order.members c.loop-c.c (get_or (row_at c.args.rows.now c.loop-c.c) k d)).0 (Contains-get_or (row_at c.args.rows.now c.loop-c.c) k d lt) in
    omega (arith, m.0, c.loop-c.invariant.shared.size))

pub put-requires-then-not-is_thin : goal.put-requires-then-not-is_thin
put-requires-then-not-is_thin c =
    rw c.row-class.ensures (λ k d lt.
    let m = (c.requires.order.members c.loop-c.c (get_or (row_at c.args.rows.now c.loop-c.c) k d)).0 (Contains-get_or (row_at c.args.rows.now c.loop-c.c) k d lt) in
    omega (arith, m.0, c.loop-c.invariant.shared.size))

pub loop-c-preserved : goal.loop-c-preserved
loop-c-preserved c =
    let i = c.loop-c.invariant in
    let nodes = c.args.graph.now.nodes in
    let edges = c.args.graph.now.edges in
    let labels = c.args.sets.now in
    let indexes = c.args.indexes.now in
    let rows = c.args.rows.now in
    let thin = c.args.thin.now in
    let th = c.requires.thin in
    let part = c.requires.part in
    let cl = c.requires.classes in
    let o = c.requires.order in
    let count : ℕ = c.args.count in
    let own : ℕ = c.loop-c.c in
    let sets = c.loop-c.sets in
    let lists = c.loop-c.lists in
    let valid : AreSets sets lists count (count + length lists) = subst (λ (n : ℕ). AreSets sets lists count n) i.valid.all i.valid in
    let in_own : (x : ℕ) → x < length nodes → get_or labels x 0 ≡ own → Contains (row_at rows own) x = λ x lt is. (o.members own x).1 (lt, is) in
    let thin_as : (x : ℕ) → x < length nodes → get_or labels x 0 ≡ own → get_or thin x false ≡ get_or thin (get_or (row_at rows own) 0 0) false = λ x lt is.
    let m = in_own x lt is in
    let f = (o.members own (get_or (row_at rows own) 0 0)).0 (Contains-get_or (row_at rows own) 0 0 (omega (arith, m.1))) in
    th.same x (get_or (row_at rows own) 0 0) lt f.0 (is ∙ sym f.1) in
    elim c.if-indexes-c.branch [
      | then-indexes-c+in_ok-refs w ↦
          let at : ℕ = get_or indexes own 0 in
          let below : at < count = c.requires.numbered.below own (omega arith) w.if-indexes-c.true in
          let closed : (x : ℕ) → get_or labels x 0 ≡ own → IsOpen labels indexes x → ⊥ = λ x is bare. w.if-indexes-c.true (ap (λ (l : ℕ). get_or indexes l 0) (sym is) ∙ bare) in
          let more = w.share_through.new.lists in
          let found : ℕ = w.in_ok-refs.field-0 in
          let numbers : ℕ = length w.share_through.new.work.known.items in
          let f = w.in_ok-refs.ensures.found in
          let puts : Puts (row_at rows own) sets w.put.new.sets at = record {
            size = omega arith;
            taken = rw c.row-class.ensures at w.put.ensures.taken;
            others = rw c.row-class.ensures at w.put.ensures.others;
          } in
          let e = rw c.row-class.ensures at w.in_ok-refs.ensures.exact in
          let exact : (j : ℕ) → Contains (set_at count more found) j ↔ Leaves edges (length nodes) labels indexes own j = λ j.
          let l = near_leaves nodes edges labels indexes thin part cl th rows sets lists count own o i.shared i.valid.none j in
          ((λ t. l.0 ((e j).0 t)), (λ t. (e j).1 (l.1 t))) in
          rw (w.sets-is, w.refs-is, w.lists-is, w.work-is, w.marks-is) record {
            shared = shared-more nodes edges labels indexes rows count own o thin numbers found at sets w.put.new.sets lists more i.shared valid f puts
                (own-counted nodes edges labels indexes rows count own o cap more part cl below c.requires.count) (λ x lt is t. closed x is (th.bare x lt t));
            referred = referred-more nodes edges labels indexes rows count own o c.loop-c.refs lists more found below
                (λ x lt cx at. sym (c.requires.numbered.apart own (get_or labels x 0) (omega arith) (o.labelled x lt) w.if-indexes-c.true (sym at)))
                f.longer f.kept (omega (arith, f.known, f.valid.all)) exact i.referred;
            valid = sets-more nodes edges labels indexes rows count own o numbers found at sets w.put.new.sets lists more i.shared.size f puts (omega (arith, below, f.valid.all));
            work_marks = w.in_ok-refs.ensures.marks;
            clear = w.in_ok-refs.ensures.clear;
            size = omega (arith, w.share_through.ensures.size, i.size);
            unmarked = w.in_ok-refs.ensures.unmarked;
          }
      | else-indexes-c+then-not-is_thin+in_ok-found w ↦
          let bare : get_or indexes own 0 ≡ 4294967295 = w.if-indexes-c.false in
          let more = w.share_through-then-not-is_thin.new.lists in
          let found : ℕ = w.in_ok-found.found in
          let numbers : ℕ = length w.share_through-then-not-is_thin.new.work.known.items in
          let f = w.in_ok-found.ensures.found in
          let thick = rw c.row-class.ensures at w.if-not-is_thin.ensures in
          let none_thin : (x : ℕ) → x < length nodes → get_or labels x 0 ≡ own → get_or thin x false ≡ true → ⊥ = λ x lt is t.
          thick (omega (arith, (in_own x lt is).1), sym (thin_as x lt is) ∙ t) in
          let puts : Puts (row_at rows own) sets w.put-then-not-is_thin.new.sets found = record {
            size = omega arith;
            taken = rw c.row-class.ensures at w.put-then-not-is_thin.ensures.taken;
            others = rw c.row-class.ensures at w.put-then-not-is_thin.ensures.others;
          } in
          let e = rw c.row-class.ensures at w.in_ok-found.ensures.exact in
          let exact : (j : ℕ) → Contains (set_at count more found) j ↔ Leaves edges (length nodes) labels indexes own j = λ j.
          let l = near_leaves nodes edges labels indexes thin part cl th rows sets lists count own o i.shared i.valid.none j in
          ((λ t. l.0 ((e j).0 t)), (λ t. (e j).1 (l.1 t))) in
          rw (w.sets-is, w.refs-is, w.lists-is, w.work-is, w.marks-is) record {
            shared = shared-more nodes edges labels indexes rows count own o thin numbers found found sets w.put-then-not-is_thin.new.sets lists more i.shared valid f puts
                (union-shared nodes edges labels indexes rows count own o thin sets lists (set_at count more found) part cl th bare i.shared i.valid.none exact) none_thin;
            referred = referred-bare nodes edges labels indexes rows count own o c.loop-c.refs lists more bare f.longer f.kept i.referred;
            valid = sets-more nodes edges labels indexes rows count own o numbers found found sets w.put-then-not-is_thin.new.sets lists more i.shared.size f puts f.known;
            work_marks = w.in_ok-found.ensures.marks;
            clear = w.in_ok-found.ensures.clear;
            size = omega (arith, w.share_through-then-not-is_thin.ensures.size, i.size);
            unmarked = w.in_ok-found.ensures.unmarked;
          }
      | else-indexes-c+else-not-is_thin w ↦
          let bare : get_or indexes own 0 ≡ 4294967295 = w.if-indexes-c.false in
          let all = rw c.row-class.ensures at w.if-not-is_thin.ensures in
          rw (w.sets-is, w.refs-is, w.lists-is, w.work-is, w.marks-is) record {
            shared = shared-thin nodes edges labels indexes rows count own o thin sets lists i.shared (λ x lt is. thin_as x lt is ∙ all.1);
            referred = referred-bare nodes edges labels indexes rows count own o c.loop-c.refs lists lists bare (omega arith) (λ k lt. refl) i.referred;
            valid = i.valid;
            work_marks = i.work_marks;
            clear = i.clear;
            size = i.size;
            unmarked = i.unmarked;
          }
    ]
