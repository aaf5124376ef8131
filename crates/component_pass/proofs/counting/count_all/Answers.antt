-- One class more: its set has only what leaves it, and all of it where it is small or something was left to be read;
-- what has an index keeps that set and hands on itself.
use Rattle.component_pass.specs.Counting.{cap}
use Rattle.std.proofs.Common.{◌≡◌, ◌⊎◌, ℕ, ◌+◌, ◌<◌, ◌≤◌, List, [], ◌∷◌, length, min, get_or, sym, subst, ◌∙◌, arith, inl, inr}
use Rattle.std.proofs.lemmas.List.{length-set}
use Rattle.std.proofs.lemmas.List.Elements.{Contains-get_or}
use Rattle.std.proofs.lemmas.Bool.{cases_eq}
use Rattle.std.specs.List.{Contains}
use Rattle.bridge_graph.specs.Parts.{row_at}
use Rattle.component_pass.specs.Gathering.{AreSets, set_at}
use Rattle.component_pass.specs.Sharing.{AreReferred, ComesOut, Leaves}
use Rattle.component_pass.proofs.Shared.{Puts, counted-more, own-counted, full-leaves, union-leaves, bare-out, leaves-count, counts-more, counted-none, referred-none, referred-bare, referred-more}
use Rattle.component_pass.proofs.Shared.{sets-none, sets-more}
use Rattle.component_pass.proofs.counting.count_all.Goals as goal

pub loop-c-init : goal.loop-c-init
loop-c-init c = rw (c.requires.lists, c.requires.known) record {
  counted = counted-none c.args.graph.now.edges (length c.args.graph.now.nodes) c.args.found.now.labels.items
      c.args.indexes.now cap c.args.left.now c.args.count c.args.sets.now ([] ∷ []) c.requires.whole c.requires.empty;
  counts = λ k lt. absurd (omega (arith, lt));
  referred = λ left. referred-none c.args.graph.now.nodes c.args.graph.now.edges c.args.found.now.labels.items
      c.args.indexes.now c.args.found.now.rows c.args.count 0 c.requires.order _ c.args.refs.now ([] ∷ []) c.requires.refs;
  valid = sets-none c.args.count c.args.sets.now c.requires.empty;
  size = c.requires.counts;
  refs = c.requires.refs;
  marks = c.requires.marks;
  clear = c.requires.clear;
}

pub put-requires : goal.put-requires
put-requires c =
    rw c.row-class.ensures (λ k d lt.
    let m = (c.requires.order.members c.loop-c.c (get_or (row_at c.args.found.now.rows c.loop-c.c) k d)).0 (Contains-get_or (row_at c.args.found.now.rows c.loop-c.c) k d lt) in
    omega (arith, m.0, c.loop-c.invariant.counted.size))

pub count_in-requires-clause-members : goal.count_in-requires-clause-members
count_in-requires-clause-members c =
    rw c.row-class.ensures (λ k d lt. ((c.requires.order.members c.loop-c.c (get_or (row_at c.args.found.now.rows c.loop-c.c) k d)).0
    (Contains-get_or (row_at c.args.found.now.rows c.loop-c.c) k d lt)).0)

pub handed_on-requires : goal.handed_on-requires
handed_on-requires c = λ ne. omega (arith, c.requires.numbered.below c.loop-c.c (omega arith) ne, c.loop-c.invariant.refs)

pub loop-c-preserved : goal.loop-c-preserved
loop-c-preserved c =
    let i = c.loop-c.invariant in
    let nodes = c.args.graph.now.nodes in
    let edges = c.args.graph.now.edges in
    let labels = c.args.found.now.labels.items in
    let indexes = c.args.indexes.now in
    let rows = c.args.found.now.rows in
    let part = c.requires.part in
    let cl = c.requires.classes in
    let o = c.requires.order in
    let count : ℕ = c.args.count in
    let own : ℕ = c.loop-c.c in
    let sets = c.loop-c.sets in
    let lists = c.loop-c.lists in
    let left : ℕ = c.loop-c.left in
    let next : ℕ = c.count_in.new.left in
    let less : next ≤ left = c.count_in.ensures.left in
    let valid : AreSets sets lists count (count + length lists) = subst (λ (n : ℕ). AreSets sets lists count n) i.valid.all i.valid in
    let number : ℕ = c.in_ok-number.number in
    let more = c.count_in.new.lists in
    let numbers : ℕ = length c.count_in.new.work.known.items in
    let f = c.in_ok-number.ensures.found in
    let S = set_at count more number in
    let after = c.put.new.sets in
    let to : ℕ = c.handed_on.result in
    let puts : Puts (row_at rows own) sets after to = record {
      size = omega arith;
      taken = rw c.row-class.ensures at c.put.ensures.taken;
      others = rw c.row-class.ensures at c.put.ensures.others;
    } in
    let exact = rw c.row-class.ensures at c.in_ok-number.ensures.exact in
    let parts : ((j : ℕ) → Contains S j → Leaves edges (length nodes) labels indexes own j)
    × ((j : ℕ) → (length S < cap) ⊎ (0 < next) → Leaves edges (length nodes) labels indexes own j → Contains S j) =
    elim exact [
      | inl a ↦
          let s = full-leaves nodes edges labels indexes rows count own o cap left number sets lists part cl i.counted i.valid.none a.0 in
          ((λ j h. s j (subst (λ (l : List (List ℕ)). Contains (set_at count l number) j) a.2 h)), (λ j few t. absurd (elim few [ inl g ↦ omega (arith, g, a.1) | inr g ↦ omega (arith, g, a.3) ])))
      | inr b ↦
          let e = union-leaves nodes edges labels indexes rows count own o cap left sets lists S part cl i.counted i.valid.none b.0 b.1 in
          ((λ j. (e j).0), (λ j few. (e j).1))
    ] in
    let size : c.min.result ≡ min (length S) cap = omega (arith, c.size_of.ensures) in
    let ol : own < length rows = omega (arith, c.loop-c-test.true) in
    let at : ℕ = get_or indexes own 0 in
    let known : number < count + length more = omega (arith, f.known, f.valid.all) in
    let out : (to < numbers) × ((x j : ℕ) → x < length nodes → get_or labels x 0 ≡ own → Contains (set_at count more to) j → ComesOut edges labels indexes x j)
    × ((x j : ℕ) → x < length nodes → get_or labels x 0 ≡ own → (length (set_at count more to) < cap) ⊎ (0 < next) → ComesOut edges labels indexes x j → Contains (set_at count more to) j)
    × (0 < next → AreReferred (length nodes) edges labels indexes count (own + 1) (count + length more) c.handed_on.new.refs more) × (length c.handed_on.new.refs ≡ count) =
    elim (cases_eq at 4294967295) [
      | inl bare ↦
          let h = c.handed_on.ensures.bare bare in
          let b = bare-out nodes edges labels indexes rows count own o part cl bare in
          rw (h.0, h.1) (
            f.known,
            (λ x j lt is t. (b x j lt is).1 (parts.0 j t)),
            (λ x j lt is few t. parts.1 j few ((b x j lt is).0 t)),
            (λ some. referred-bare nodes edges labels indexes rows count own o c.loop-c.refs lists more bare f.longer f.kept (i.referred (omega (arith, some, less)))),
            i.refs,
          )
      | inr ne ↦
          let h = c.handed_on.ensures.own ne in
          let below : at < count = c.requires.numbered.below own ol ne in
          let e = own-counted nodes edges labels indexes rows count own o cap more part cl below c.requires.count in
          rw (h.0, h.1) (
            omega (arith, below, f.valid.all),
            (λ x j lt is. (e x j lt is).0),
            (λ x j lt is few. (e x j lt is).1),
            (λ some. referred-more nodes edges labels indexes rows count own o c.loop-c.refs lists more number below
                (λ x lt cx same. sym (c.requires.numbered.apart own (get_or labels x 0) ol (o.labelled x lt) ne (sym same)))
                f.longer f.kept known (λ j. (parts.0 j, parts.1 j (inr some))) (i.referred (omega (arith, some, less)))),
            length-set c.loop-c.refs at number ∙ i.refs,
          )
    ] in
    record {
      counted = counted-more nodes edges labels indexes rows count own o cap left next numbers number to sets after lists more less i.counted valid f puts out.1 out.2;
      counts = rw size (counts-more nodes edges labels indexes rows count own o cap (min (length S) cap) c.loop-c.counts (omega (arith, ol, i.size))
          (leaves-count nodes edges labels indexes rows count own o cap next number more f.valid.rising known parts.0 parts.1) i.counts);
      referred = out.3;
      valid = sets-more nodes edges labels indexes rows count own o numbers number to sets after lists more i.counted.size f puts out.0;
      size = length-set c.loop-c.counts own c.min.result ∙ i.size;
      refs = out.4;
      marks = c.in_ok-number.ensures.marks;
      clear = c.in_ok-number.ensures.clear;
    }
