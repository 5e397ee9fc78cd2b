use Rattle.ntx_eval.proofs.WorkedProofs as worked
use Rattle.ntx_eval.proofs.laws.worked_examples.Goals as goal

pub returns-clause-floors : goal.returns-clause-floors
returns-clause-floors c = worked.floors

pub returns-clause-faults_have_lines : goal.returns-clause-faults_have_lines
returns-clause-faults_have_lines c = worked.faults_have_lines

pub returns-clause-loops_are_charged : goal.returns-clause-loops_are_charged
returns-clause-loops_are_charged c = worked.loops_are_charged

pub returns-clause-calls_are_charged : goal.returns-clause-calls_are_charged
returns-clause-calls_are_charged c = worked.calls_are_charged

pub returns-clause-operands_decide : goal.returns-clause-operands_decide
returns-clause-operands_decide c = worked.operands_decide

pub returns-clause-calls_in_the_middle_give_one : goal.returns-clause-calls_in_the_middle_give_one
returns-clause-calls_in_the_middle_give_one c = worked.calls_in_the_middle_give_one

pub returns-clause-for_never_wraps : goal.returns-clause-for_never_wraps
returns-clause-for_never_wraps c = worked.for_never_wraps

pub returns-clause-steps_are_not_zero : goal.returns-clause-steps_are_not_zero
returns-clause-steps_are_not_zero c = worked.steps_are_not_zero

pub returns-clause-until_sees_locals : goal.returns-clause-until_sees_locals
returns-clause-until_sees_locals c = worked.until_sees_locals

pub returns-clause-calls_of_nil : goal.returns-clause-calls_of_nil
returns-clause-calls_of_nil c = worked.calls_of_nil

pub returns-clause-turns_have_their_own_variables : goal.returns-clause-turns_have_their_own_variables
returns-clause-turns_have_their_own_variables c = worked.turns_have_their_own_variables

pub returns-clause-break_leaves : goal.returns-clause-break_leaves
returns-clause-break_leaves c = worked.break_leaves

pub returns-clause-levels_are_bounded : goal.returns-clause-levels_are_bounded
returns-clause-levels_are_bounded c = worked.levels_are_bounded
