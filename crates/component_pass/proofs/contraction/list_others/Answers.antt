-- Where nothing is heavy, the sets that were found for the counts are those of the references.
use Rattle.std.proofs.Common.{◌≡◌, ◌+◌, ℕ, [], length, refl, sym, subst, arith}
use Rattle.std.proofs.lemmas.Bool.Decides.{nat_tests}
use Rattle.std.proofs.lemmas.Result.{on_ok_weaker}
use Rattle.component_pass.specs.Reporting.{AreAllListed}
use Rattle.component_pass.specs.Sharing.{AreNumbered, AreReferences}
use Rattle.component_pass.proofs.Heavies.{AreFound, components_numbered, none_reported}
use Rattle.component_pass.proofs.References.{set-known, set-below, set-apart, set-rising, references-of}
use Rattle.component_pass.proofs.contraction.list_others.Goals as goal

pub count_reached-requires-clause-numbered : goal.count_reached-requires-clause-numbered
count_reached-requires-clause-numbered c =
    let nodes = c.args.graph.now.nodes in
    let edges = c.args.graph.now.edges in
    let labels = c.args.found.now.labels.items in
    let rows = c.args.found.now.rows in
    let comps = c.args.builder.now.comps in
    let indexes = c.args.indexes.now in
    let f : AreFound nodes edges labels rows comps indexes
    = record { part = c.requires.part; classes = c.requires.classes; order = c.requires.order; listed = c.requires.listed; plain = c.requires.plain; few = omega (arith, c.len-count.ensures.few) } in
    let is : c.len-count.result ≡ length comps = omega (arith, c.len-count.ensures.count, c.requires.heavy) in
    let num = subst (λ (n : ℕ). AreNumbered (length nodes) labels (length rows) indexes n) (sym is) (components_numbered nodes edges labels rows comps indexes f) in
    num

pub count_heavy-requires-clause-numbered : goal.count_heavy-requires-clause-numbered
count_heavy-requires-clause-numbered c =
    let nodes = c.args.graph.now.nodes in
    let edges = c.args.graph.now.edges in
    let labels = c.args.found.now.labels.items in
    let rows = c.args.found.now.rows in
    let comps = c.args.builder.now.comps in
    let indexes = c.args.indexes.now in
    let f : AreFound nodes edges labels rows comps indexes
    = record { part = c.requires.part; classes = c.requires.classes; order = c.requires.order; listed = c.requires.listed; plain = c.requires.plain; few = omega (arith, c.len-count.ensures.few) } in
    let is : c.len-count.result ≡ length comps = omega (arith, c.len-count.ensures.count, c.requires.heavy) in
    let num = subst (λ (n : ℕ). AreNumbered (length nodes) labels (length rows) indexes n) (sym is) (components_numbered nodes edges labels rows comps indexes f) in
    num

pub list_sets-requires-clause-known : goal.list_sets-requires-clause-known
list_sets-requires-clause-known c =
    let nodes = c.args.graph.now.nodes in
    let edges = c.args.graph.now.edges in
    let labels = c.args.found.now.labels.items in
    let rows = c.args.found.now.rows in
    let comps = c.args.builder.now.comps in
    let indexes = c.args.indexes.now in
    let f : AreFound nodes edges labels rows comps indexes
    = record { part = c.requires.part; classes = c.requires.classes; order = c.requires.order; listed = c.requires.listed; plain = c.requires.plain; few = omega (arith, c.len-count.ensures.few) } in
    let is : c.len-count.result ≡ length comps = omega (arith, c.len-count.ensures.count, c.requires.heavy) in
    let num = subst (λ (n : ℕ). AreNumbered (length nodes) labels (length rows) indexes n) (sym is) (components_numbered nodes edges labels rows comps indexes f) in
    let asked = rw c.in-None.is at c.in_ok-ins.ensures.asked in
    let r = c.in_ok-reached.ensures.referred (grind (arith, nat_tests, asked)) in
    let lists = c.in_ok-reached.reached.lists in
    let refs = c.in_ok-reached.reached.refs.items in
    rw c.deref-in-None.ensures.value (set-known nodes edges labels indexes rows c.len-count.result refs lists f.part f.classes f.order (omega (arith, is, f.few)) num r)

pub list_sets-requires-clause-rises : goal.list_sets-requires-clause-rises
list_sets-requires-clause-rises c =
    let nodes = c.args.graph.now.nodes in
    let edges = c.args.graph.now.edges in
    let labels = c.args.found.now.labels.items in
    let rows = c.args.found.now.rows in
    let comps = c.args.builder.now.comps in
    let indexes = c.args.indexes.now in
    let f : AreFound nodes edges labels rows comps indexes
    = record { part = c.requires.part; classes = c.requires.classes; order = c.requires.order; listed = c.requires.listed; plain = c.requires.plain; few = omega (arith, c.len-count.ensures.few) } in
    let is : c.len-count.result ≡ length comps = omega (arith, c.len-count.ensures.count, c.requires.heavy) in
    let num = subst (λ (n : ℕ). AreNumbered (length nodes) labels (length rows) indexes n) (sym is) (components_numbered nodes edges labels rows comps indexes f) in
    let asked = rw c.in-None.is at c.in_ok-ins.ensures.asked in
    let r = c.in_ok-reached.ensures.referred (grind (arith, nat_tests, asked)) in
    let lists = c.in_ok-reached.reached.lists in
    let refs = c.in_ok-reached.reached.refs.items in
    rw c.deref-in-None.ensures.value (λ i lt. set-rising nodes edges labels indexes rows c.len-count.result refs lists f.part f.classes f.order
    (omega (arith, is, f.few)) num r i lt c.in_ok-reached.ensures.rising)

pub list_sets-requires-clause-below : goal.list_sets-requires-clause-below
list_sets-requires-clause-below c =
    let nodes = c.args.graph.now.nodes in
    let edges = c.args.graph.now.edges in
    let labels = c.args.found.now.labels.items in
    let rows = c.args.found.now.rows in
    let comps = c.args.builder.now.comps in
    let indexes = c.args.indexes.now in
    let f : AreFound nodes edges labels rows comps indexes
    = record { part = c.requires.part; classes = c.requires.classes; order = c.requires.order; listed = c.requires.listed; plain = c.requires.plain; few = omega (arith, c.len-count.ensures.few) } in
    let is : c.len-count.result ≡ length comps = omega (arith, c.len-count.ensures.count, c.requires.heavy) in
    let num = subst (λ (n : ℕ). AreNumbered (length nodes) labels (length rows) indexes n) (sym is) (components_numbered nodes edges labels rows comps indexes f) in
    let asked = rw c.in-None.is at c.in_ok-ins.ensures.asked in
    let r = c.in_ok-reached.ensures.referred (grind (arith, nat_tests, asked)) in
    let lists = c.in_ok-reached.reached.lists in
    let refs = c.in_ok-reached.reached.refs.items in
    rw c.deref-in-None.ensures.value (set-below nodes edges labels indexes rows c.len-count.result refs lists f.part f.classes f.order (omega (arith, is, f.few)) num r)

pub list_sets-requires-clause-apart : goal.list_sets-requires-clause-apart
list_sets-requires-clause-apart c =
    let nodes = c.args.graph.now.nodes in
    let edges = c.args.graph.now.edges in
    let labels = c.args.found.now.labels.items in
    let rows = c.args.found.now.rows in
    let comps = c.args.builder.now.comps in
    let indexes = c.args.indexes.now in
    let f : AreFound nodes edges labels rows comps indexes
    = record { part = c.requires.part; classes = c.requires.classes; order = c.requires.order; listed = c.requires.listed; plain = c.requires.plain; few = omega (arith, c.len-count.ensures.few) } in
    let is : c.len-count.result ≡ length comps = omega (arith, c.len-count.ensures.count, c.requires.heavy) in
    let num = subst (λ (n : ℕ). AreNumbered (length nodes) labels (length rows) indexes n) (sym is) (components_numbered nodes edges labels rows comps indexes f) in
    let asked = rw c.in-None.is at c.in_ok-ins.ensures.asked in
    let r = c.in_ok-reached.ensures.referred (grind (arith, nat_tests, asked)) in
    let lists = c.in_ok-reached.reached.lists in
    let refs = c.in_ok-reached.reached.refs.items in
    rw c.deref-in-None.ensures.value (set-apart nodes edges labels indexes rows c.len-count.result refs lists f.part f.classes f.order (omega (arith, is, f.few)) num r)

pub list_sets-requires-clause-refs : goal.list_sets-requires-clause-refs
list_sets-requires-clause-refs c =
    let asked = rw c.in-None.is at c.in_ok-ins.ensures.asked in
    let r = c.in_ok-reached.ensures.referred (grind (arith, nat_tests, asked)) in
    rw c.deref-in-None.ensures.value r.size

pub returns : goal.returns
returns c =
    let nodes = c.args.graph.now.nodes in
    let edges = c.args.graph.now.edges in
    let labels = c.args.found.now.labels.items in
    let rows = c.args.found.now.rows in
    let comps = c.args.builder.now.comps in
    let indexes = c.args.indexes.now in
    let f : AreFound nodes edges labels rows comps indexes
    = record { part = c.requires.part; classes = c.requires.classes; order = c.requires.order; listed = c.requires.listed; plain = c.requires.plain; few = omega (arith, c.len-count.ensures.few) } in
    let is : c.len-count.result ≡ length comps = omega (arith, c.len-count.ensures.count, c.requires.heavy) in
    let num = subst (λ (n : ℕ). AreNumbered (length nodes) labels (length rows) indexes n) (sym is) (components_numbered nodes edges labels rows comps indexes f) in
    let asked = rw c.in-None.is at c.in_ok-ins.ensures.asked in
    let r = c.in_ok-reached.ensures.referred (grind (arith, nat_tests, asked)) in
    let lists = c.in_ok-reached.reached.lists in
    let refs = c.in_ok-reached.reached.refs.items in
    let counts = c.in_ok-reached.reached.counts.items in
    let none = rw (c.in-None.is, c.deref.ensures.value) at c.in_ok-ins.ensures.none in
    let rp = none_reported nodes edges labels rows comps indexes f counts none.0 c.in_ok-reached.ensures.counts none.2 c.requires.indexes none.1 in
    let p = rw c.deref-in-None.ensures.value at c.list_sets.ensures.pairs in
    record {
      listed = rw (c.list_sets.ensures.comps, c.list_sets.ensures.heavy, c.requires.heavy) (on_ok_weaker c.list_sets.result
          (λ q.
          let e = references-of nodes edges labels indexes rows c.len-count.result refs lists f.part f.classes f.order
          (omega (arith, is, f.few)) num r c.list_sets.new.builder.pairs c.len-count.result (omega arith) (omega arith) q in
          let rf = subst (λ (n : ℕ). AreReferences edges (length nodes) labels indexes n c.list_sets.new.builder.pairs) (let z : c.len-count.result ≡ length comps + 0 = omega (arith, is) in z) e in
          let all : AreAllListed nodes edges labels (length rows) comps 0
          c.list_sets.new.builder.pairs = record { indexes = indexes; heavy = []; count = refl; listed = f.listed; reported = rp; references = rf } in
          all) p);
    }
