-- Each case is the definition's, with the field written.
use Rattle.row_heap.proofs.Cases.{field-none, field-empty, field-some, rest-stays}
use Rattle.row_heap.proofs.heap.RowHeap.store_field.Goals as goal

pub returns-in-None-clause-done : goal.returns-in-None-clause-done
returns-in-None-clause-done g c = λ name. field-none c.args.self.now c.set_field.new.self c.args.x c.args.i c.args.w c.in-None.is c.set_field.ensures

pub returns-in-None-clause-rest : goal.returns-in-None-clause-rest
returns-in-None-clause-rest g c = rest-stays c.args.self.now _ _ c.set_field.ensures

pub returns-in-None-var-clause-done : goal.returns-in-None-var-clause-done
returns-in-None-var-clause-done g c = λ name. field-empty _ _ _ _ _ c.in-Some.is c.in-None-var.ensures.value

pub returns-in-Some-var-clause-done : goal.returns-in-Some-var-clause-done
returns-in-Some-var-clause-done g c = λ name. field-some c.args.self.now c.set_field-in-Some-var.new.self c.args.x
    c.args.i c.args.w c.in-Some.place c.in-Some-var.y c.in-Some.is c.in-Some-var.ensures.value c.set_field-in-Some-var.ensures

pub returns-in-Some-var-clause-rest : goal.returns-in-Some-var-clause-rest
returns-in-Some-var-clause-rest g c = rest-stays c.args.self.now _ _ c.set_field-in-Some-var.ensures
