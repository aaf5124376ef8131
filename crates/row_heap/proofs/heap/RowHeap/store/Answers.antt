-- Each case is the definition's, with the static written.
use Rattle.row_heap.proofs.Cases.{static-none, static-empty, static-some, rest-stays}
use Rattle.row_heap.proofs.heap.RowHeap.store.Goals as goal

pub returns-in-None-clause-done : goal.returns-in-None-clause-done
returns-in-None-clause-done g c = λ name. static-none c.args.self.now c.set_static.new.self c.args.s c.args.v c.in-None.is c.set_static.ensures

pub returns-in-None-clause-rest : goal.returns-in-None-clause-rest
returns-in-None-clause-rest g c = rest-stays c.args.self.now _ _ c.set_static.ensures

pub returns-in-None-var-clause-done : goal.returns-in-None-var-clause-done
returns-in-None-var-clause-done g c = λ name. static-empty _ _ _ _ c.in-Some.is c.in-None-var.ensures.value

pub returns-in-Some-var-clause-done : goal.returns-in-Some-var-clause-done
returns-in-Some-var-clause-done g c = λ name. static-some c.args.self.now c.set_static-in-Some-var.new.self c.args.s
    c.args.v c.in-Some.place c.in-Some-var.x c.in-Some.is c.in-Some-var.ensures.value c.set_static-in-Some-var.ensures

pub returns-in-Some-var-clause-rest : goal.returns-in-Some-var-clause-rest
returns-in-Some-var-clause-rest g c = rest-stays c.args.self.now _ _ c.set_static-in-Some-var.ensures
