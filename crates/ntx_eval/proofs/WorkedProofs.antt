-- Each example is computed.
use Rattle.std.proofs.Common.{refl}
use Rattle.ntx_eval.specs.Worked.{Floors, FaultsHaveLines, LoopsAreCharged, CallsAreCharged, OperandsDecide, CallsInTheMiddleGiveOne, ForNeverWraps, StepsAreNotZero, UntilSeesLocals, CallsOfNil, TurnsHaveTheirOwnVariables, BreakLeaves, LevelsAreBounded}

pub floors : Floors
floors = refl

pub faults_have_lines : FaultsHaveLines
faults_have_lines = refl

pub loops_are_charged : LoopsAreCharged
loops_are_charged = refl

pub calls_are_charged : CallsAreCharged
calls_are_charged = (refl, refl, refl)

pub operands_decide : OperandsDecide
operands_decide = refl

pub calls_in_the_middle_give_one : CallsInTheMiddleGiveOne
calls_in_the_middle_give_one = refl

pub for_never_wraps : ForNeverWraps
for_never_wraps = refl

pub steps_are_not_zero : StepsAreNotZero
steps_are_not_zero = refl

pub until_sees_locals : UntilSeesLocals
until_sees_locals = refl

pub calls_of_nil : CallsOfNil
calls_of_nil = refl

pub turns_have_their_own_variables : TurnsHaveTheirOwnVariables
turns_have_their_own_variables = refl

pub break_leaves : BreakLeaves
break_leaves = refl

pub levels_are_bounded : LevelsAreBounded
levels_are_bounded = refl
