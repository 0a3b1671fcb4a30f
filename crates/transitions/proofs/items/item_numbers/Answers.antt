-- `transitions::item_numbers` meets its contract.
use Rattle.std.proofs.Common.{arith}
use Rattle.transitions.specs.OutcomeLaws.{name_fit, variable_fit, item_name, item_number}
use Rattle.transitions.specs.OutcomeLaws.{item_variable, item_declared}
use Rattle.transitions.proofs.items.item_numbers.Goals as goal

pub overflow_cast-place : goal.overflow_cast-place
overflow_cast-place c = omega (arith, name_fit c.args.item c.requires _ _ c.in-Name.is)

pub overflow_cast-size : goal.overflow_cast-size
overflow_cast-size c = omega (arith, name_fit c.args.item c.requires _ _ c.in-Name.is)

pub overflow_cast-number : goal.overflow_cast-number
overflow_cast-number c = omega (arith, variable_fit c.args.item c.requires _ _ c.in-Variable.is)

pub overflow_cast-kind : goal.overflow_cast-kind
overflow_cast-kind c = omega (arith, variable_fit c.args.item c.requires _ _ c.in-Variable.is)

pub returns-in-Name : goal.returns-in-Name
returns-in-Name c = λ i e. item_name c.args.item _ i e _ _ c.in-Name.is c.name.ensures

pub returns-in-Number : goal.returns-in-Number
returns-in-Number c = λ i e. item_number c.args.item _ i e _ c.in-Number.is c.number.ensures

pub returns-in-Variable : goal.returns-in-Variable
returns-in-Variable c = λ i e. item_variable c.args.item _ i e _ _ c.in-Variable.is c.variable.ensures

pub returns-in-Declared : goal.returns-in-Declared
returns-in-Declared c = λ i e. item_declared c.args.item _ i e _ _ c.in-Declared.is c.declared.ensures
