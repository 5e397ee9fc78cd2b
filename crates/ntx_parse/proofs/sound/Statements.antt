-- Statements: what is read of them is spelled.
use Rattle.std.proofs.Common.{◌≡◌, ℕ, Bool, true, false, cond, List, [], ◌∷◌, ◌++◌, Option, Some, refl, sym, subst}
use Rattle.ntx_syntax.specs.declared.tree.Block.{Block}
use Rattle.ntx_syntax.specs.declared.tree.StatKind.TheVariants as stat
use Rattle.ntx_syntax.specs.declared.tree.IfArm.{IfArm, roll-IfArm}
use Rattle.ntx_syntax.specs.declared.tree.FunctionBody.{FunctionBody}
use Rattle.ntx_syntax.specs.declared.tree.LocalName.{LocalName}
use Rattle.ntx_syntax.specs.declared.tree.Exp.{Exp}
use Rattle.ntx_syntax.specs.declared.fault.SyntaxWhy.TheVariants as why
use Rattle.ntx_parse.specs.declared.place.Place.{Place}
use Rattle.ntx_parse.specs.declared.precedence.Precedence.TheVariants as precedence
use Rattle.ntx_syntax.specs.declared.terminal.Terminal.{Terminal}
use Rattle.ntx_syntax.specs.declared.terminal.Terminal.TheVariants as terminal
use Rattle.ntx_parse.specs.Words.{Word}
use Rattle.ntx_parse.specs.Grammar as grammar
use Rattle.ntx_parse.specs.Grammar.{Placed, Is, within, within_loop, IsPath, IsNames, IsBlock, IsKind, IsArm, arm, IsArms, no_arms, more_arms, IsElse, no_else, IsStep, no_step, IsValues, IsExp, IsExps, IsBody}
use Rattle.ntx_parse.specs.inner.Reading.{Readers, read, stopped, and_then, take_word, begins, block_to_end, read_do, loop_body, read_while, read_repeat, read_arm, arms_behind, else_behind, read_if, step_behind, numeric_for_behind, generic_for_behind, read_for, read_function, local_function_behind, locals_behind, read_local, kind_at}
use Rattle.ntx_parse.proofs.TerminalLemmas.{begins-true}
use Rattle.ntx_parse.proofs.sound.Answers.{Completes, IsSound, IsTaken, word_taken, IsOther, sound_read, sound_as, sound_if, sound_then, sound_never, sound_taken, sound_taken_where, sound_expected, sound_where}
use Rattle.ntx_parse.proofs.sound.Phrases.{IsName, name_read, IsLocalName, local_read, IsBehind, behind_all, behind_one, behind_none, IsMoreNames, AreSound}
use Rattle.ntx_parse.proofs.sound.Lists.{sound_name, sound_local_name, sound_read_names, sound_read_exps, names_whole}
use Rattle.ntx_parse.proofs.sound.Tables.{sound_body}
use Rattle.ntx_parse.proofs.sound.Assignments.{sound_values, sound_expression_statement}

-- ---- blocks

-- block end
pub data IsEnded : Place → Place → Block → List Placed → List Placed → Type 0 where
  ended : {p inside : Place} {e : Placed} {body : Block} {words rest : List Placed} → IsBlock inside body words (e ∷ rest) → Is p terminal.End e → IsEnded p inside body words rest

pub ended_read : {p inside : Place} {e : Word} {body : Block} {words behind rest : List Placed} → IsBlock inside body words behind → IsTaken p terminal.End e behind rest → IsEnded p inside body words rest
ended_read body (word_taken is) = ended body is

pub do_read : {p : Place} {o : Word} {body : Block} {words inner rest : List Placed} → IsTaken p terminal.Do o words inner → IsEnded p (within p) body inner rest → IsKind p (stat.Do body) words rest
do_read (word_taken is) (ended body e) = grammar.do_end is body e

-- do block end, of a loop
pub data IsLooped : Place → Block → List Placed → List Placed → Type 0 where
  looped : {p : Place} {d e : Placed} {body : Block} {words rest : List Placed} → Is p terminal.Do d → IsBlock (within_loop p) body words (e ∷ rest) → Is p terminal.End e → IsLooped p body (d ∷ words) rest

pub looped_read : {p : Place} {d : Word} {body : Block} {words inner rest : List Placed} → IsTaken p terminal.Do d words inner → IsEnded p (within_loop p) body inner rest → IsLooped p body words rest
looped_read (word_taken is) (ended body e) = looped is body e

pub while_read : {p : Place} {o : Word} {condition : Exp} {body : Block} {words second behind rest : List Placed} → IsTaken p terminal.While o words second → IsExp p precedence.Or condition second behind → IsLooped p body behind rest → IsKind p (stat.While condition body) words rest
while_read (word_taken is) condition (looped d body e) = grammar.while_do is condition d body e

pub repeat_read : {p : Place} {o u : Word} {condition : Exp} {body : Block} {words inner behind second rest : List Placed} → IsTaken p terminal.Repeat o words inner → IsBlock (within_loop p) body inner behind → IsTaken p terminal.Until u behind second → IsExp p precedence.Or condition second rest → IsKind p (stat.Repeat body condition) words rest
repeat_read (word_taken is) body (word_taken until) condition = grammar.repeat_until is body until condition

-- ---- if

pub arm_read : {p : Place} {t : Terminal} {o m : Word} {condition : Exp} {body : Block} {words second behind inner rest : List Placed} → IsTaken p t o words second → IsExp p precedence.Or condition second behind → IsTaken p terminal.Then m behind inner → IsBlock (within p) body inner rest → IsArm p t (roll-IfArm (record { condition = condition; block = body })) words rest
arm_read (word_taken is) condition (word_taken then) body = arm is condition then body

pub arms_on : {p : Place} {first : IfArm} {before all : List IfArm} {words inner rest : List Placed} → IsArm p terminal.Elseif first words inner → IsBehind (before ++ first ∷ []) (IsArms p) all inner rest → IsBehind before (IsArms p) all words rest
arms_on first h = behind_one _ h (λ others arms. more_arms first arms)

pub else_read : {p : Place} {o : Word} {body : Block} {words inner rest : List Placed} → IsTaken p terminal.Else o words inner → IsBlock (within p) body inner rest → IsElse p (Some body) words rest
else_read (word_taken is) body = grammar.else is body

pub if_read : {p : Place} {e : Word} {first : IfArm} {arms : List IfArm} {other : Option Block} {words behind_first behind_arms behind rest : List Placed} → IsArm p terminal.If first words behind_first → IsBehind (first ∷ []) (IsArms p) arms behind_first behind_arms → IsElse p other behind_arms behind → IsTaken p terminal.End e behind rest → IsKind p (stat.If arms other) words rest
if_read {p} {other = other} {words = words} {rest = rest} first h otherwise (word_taken is) = subst (λ arms. IsKind p (stat.If arms other) words rest) (sym h.all_are) (grammar.if_then first h.derives otherwise is)

-- ---- for

pub step_read : {p : Place} {o : Word} {value : Exp} {words second rest : List Placed} → IsTaken p terminal.Comma o words second → IsExp p precedence.Or value second rest → IsStep p (Some value) words rest
step_read (word_taken is) value = grammar.step is value

pub numeric_read : {p : Place} {f a c : Word} {name : LocalName} {first limit : Exp} {step : Option Exp} {body : Block} {words named assigned second behind_first third behind_limit behind_step rest : List Placed}
    → IsTaken p terminal.For f words named → IsLocalName p name named assigned → IsTaken p terminal.Assign a assigned second
    → IsExp p precedence.Or first second behind_first → IsTaken p terminal.Comma c behind_first third → IsExp p precedence.Or limit third behind_limit
    → IsStep p step behind_limit behind_step → IsLooped p body behind_step rest → IsKind p (stat.NumericFor name first limit step body) words rest
numeric_read (word_taken for) (local_read is) (word_taken assign) first (word_taken comma) limit by (looped d body e) =
    grammar.numeric_for for is assign first comma limit by d body e

pub generic_read : {p : Place} {f i : Word} {name : LocalName} {names : List LocalName} {values : List Exp} {body : Block} {words named behind behind_names second behind_values rest : List Placed}
    → IsTaken p terminal.For f words named → IsLocalName p name named behind → IsBehind (name ∷ []) (IsMoreNames p) names behind behind_names
    → IsTaken p terminal.In i behind_names second → IsExps p values second behind_values → IsLooped p body behind_values rest
    → IsKind p (stat.GenericFor names values body) words rest
generic_read (word_taken for) is more (word_taken inside) values (looped d body e) = grammar.generic_for for (names_whole is more) inside values d body e

-- ---- functions and locals

pub function_read : {p : Place} {f : Word} {name : List ℕ} {fields : List (List ℕ)} {body : FunctionBody} {words named behind_name behind rest : List Placed} → IsTaken p terminal.Function f words named → IsName p name named behind_name → IsBehind [] (IsPath p) fields behind_name behind → IsBody (within p) body behind rest → IsKind p (stat.Function name fields body) words rest
function_read (word_taken is) (name_read name) path inside = grammar.function is name (behind_none path) inside

pub local_function_read : {p : Place} {l f : Word} {name : LocalName} {body : FunctionBody} {words second named behind rest : List Placed} → IsTaken p terminal.Local l words second → IsTaken p terminal.Function f second named → IsLocalName p name named behind → IsBody (within p) body behind rest → IsKind p (stat.LocalFunction name body) words rest
local_function_read (word_taken is) (word_taken function) (local_read name) inside = grammar.local_function is function name inside

pub locals_read : {p : Place} {l : Word} {names : List LocalName} {values : List Exp} {words second behind rest : List Placed} → IsTaken p terminal.Local l words second → IsNames p names second behind → IsValues p values behind rest → IsKind p (stat.Local names values) words rest
locals_read (word_taken is) names all = grammar.locals is names all

-- ---- single words

pub empty_read : {p : Place} {o : Word} {words rest : List Placed} → IsTaken p terminal.Semicolon o words rest → IsKind p stat.Empty words rest
empty_read (word_taken is) = grammar.empty is

pub break_read : {p : Place} {o : Word} {words rest : List Placed} → IsTaken p terminal.Break o words rest → IsKind p stat.Break words rest
break_read (word_taken is) = grammar.break is

sound_break_where : (p : Place) (in_loop : Bool) (words : List Word) → p.in_loop ≡ in_loop → begins terminal.Break words ≡ true → IsSound (IsKind p) words (and_then (take_word p words) (λ _ rest. cond in_loop (read stat.Break rest) (stopped why.Break words)))
sound_break_where p true words here is = sound_then (sound_taken_where p terminal.Break words (λ _. here) is) (λ _ rest. sound_read (λ _ _ _ is. break_read is))
sound_break_where p false words here is = sound_never (take_word p words) _ (λ o rest. (record { why = why.Break; words = words }, refl))

module _ (r : Readers) (s : AreSound r) where
  sound_ended : (p inside : Place) (words : List Word) → IsSound (IsEnded p inside) words (block_to_end r p inside words)
  sound_ended p inside words =
      sound_then (s.block inside words) (λ body behind.
      sound_then (sound_expected p terminal.End behind refl) (λ _ rest. sound_read (λ _ _ _ e _ body. ended_read body e)))

  sound_do : (p : Place) (words : List Word) → begins terminal.Do words ≡ true → IsSound (IsKind p) words (read_do r p words)
  sound_do p words is =
      sound_then (sound_taken p terminal.Do words refl is) (λ _ inside.
      sound_then (sound_ended p (within p) inside) (λ body rest. sound_read (λ _ _ _ body _ is. do_read is body)))

  sound_looped : (p : Place) (words : List Word) → IsSound (IsLooped p) words (loop_body r p words)
  sound_looped p words = sound_then (sound_expected p terminal.Do words refl) (λ _ inside. sound_as (sound_ended p (within_loop p) inside) (λ _ _ _ body. λ _ is. looped_read is body))

  sound_while : (p : Place) (words : List Word) → begins terminal.While words ≡ true → IsSound (IsKind p) words (read_while r p words)
  sound_while p words is =
      sound_then (sound_taken p terminal.While words refl is) (λ _ second.
      sound_then (s.exp p precedence.Or second) (λ condition behind.
      sound_then (sound_looped p behind) (λ body rest. sound_read (λ _ _ _ body _ condition _ is. while_read is condition body))))

  sound_repeat : (p : Place) (words : List Word) → begins terminal.Repeat words ≡ true → IsSound (IsKind p) words (read_repeat r p words)
  sound_repeat p words is =
      sound_then (sound_taken p terminal.Repeat words refl is) (λ _ inside.
      sound_then (s.block (within_loop p) inside) (λ body behind.
      sound_then (sound_expected p terminal.Until behind refl) (λ _ second.
      sound_then (s.exp p precedence.Or second) (λ condition rest. sound_read (λ _ _ _ condition _ until _ body _ is. repeat_read is body until condition)))))

  sound_arm : (p : Place) (t : Terminal) (words : List Word) → IsOther t → begins t words ≡ true → IsSound (IsArm p t) words (read_arm r p words)
  sound_arm p t words other is =
      sound_then (sound_taken p t words other is) (λ _ second.
      sound_then (s.exp p precedence.Or second) (λ condition behind.
      sound_then (sound_expected p terminal.Then behind refl) (λ _ inside.
      sound_then (s.block (within p) inside) (λ body rest. sound_read (λ _ _ _ body _ then _ condition _ is. arm_read is condition then body)))))

  pub sound_arms : (p : Place) (before : List IfArm) (words : List Word) → IsSound (IsBehind before (IsArms p)) words (arms_behind r p before words)
  sound_arms p before words = sound_if (begins terminal.Elseif words)
      (λ is. sound_then (sound_arm p terminal.Elseif words refl is) (λ first rest. sound_as (s.arms p (before ++ first ∷ []) rest) (λ _ _ _ h. λ _ first. arms_on first h)))
      (λ _. sound_read (λ _ _. behind_all no_arms))

  sound_else : (p : Place) (words : List Word) → IsSound (IsElse p) words (else_behind r p words)
  sound_else p words = sound_where p terminal.Else words refl
      (λ _ inside. sound_then (s.block (within p) inside) (λ body rest. sound_read (λ _ _ _ body _ is. else_read is body)))
      (λ _. sound_read (λ _ _. no_else))

  sound_if_statement : (p : Place) (words : List Word) → begins terminal.If words ≡ true → IsSound (IsKind p) words (read_if r p words)
  sound_if_statement p words is =
      sound_then (sound_arm p terminal.If words refl is) (λ first behind_first.
      sound_then (s.arms p (first ∷ []) behind_first) (λ arms behind_arms.
      sound_then (sound_else p behind_arms) (λ other behind.
      sound_then (sound_expected p terminal.End behind refl) (λ _ rest. sound_read (λ _ _ _ e _ other _ arms _ first. if_read first arms other e)))))

  sound_step : (p : Place) (words : List Word) → IsSound (IsStep p) words (step_behind r p words)
  sound_step p words = sound_where p terminal.Comma words refl
      (λ _ second. sound_then (s.exp p precedence.Or second) (λ value rest. sound_read (λ _ _ _ value _ is. step_read is value)))
      (λ _. sound_read (λ _ _. no_step))

  sound_numeric : (p : Place) (f : Word) (name : LocalName) (words : List Word) → begins terminal.Assign words ≡ true → IsSound (Completes (IsLocalName p) name (Completes (IsTaken p terminal.For) f (IsKind p))) words (numeric_for_behind r p name words)
  sound_numeric p f name words is =
      sound_then (sound_taken p terminal.Assign words refl is) (λ _ second.
      sound_then (s.exp p precedence.Or second) (λ first behind_first.
      sound_then (sound_expected p terminal.Comma behind_first refl) (λ _ third.
      sound_then (s.exp p precedence.Or third) (λ limit behind_limit.
      sound_then (sound_step p behind_limit) (λ step behind_step.
      sound_then (sound_looped p behind_step) (λ body rest.
      sound_read (λ _ _ _ body _ step _ limit _ comma _ first _ assign _ name _ for. numeric_read for name assign first comma limit step body)))))))

  sound_generic : (p : Place) (f : Word) (name : LocalName) (words : List Word) → IsSound (Completes (IsLocalName p) name (Completes (IsTaken p terminal.For) f (IsKind p))) words (generic_for_behind r p name words)
  sound_generic p f name words =
      sound_then (s.names p (name ∷ []) words) (λ names behind_names.
      sound_then (sound_expected p terminal.In behind_names refl) (λ _ second.
      sound_then (sound_read_exps r s p second) (λ all behind_values.
      sound_then (sound_looped p behind_values) (λ body rest.
      sound_read (λ _ _ _ body _ all _ inside _ more _ name _ for. generic_read for name more inside all body)))))

  sound_for : (p : Place) (words : List Word) → begins terminal.For words ≡ true → IsSound (IsKind p) words (read_for r p words)
  sound_for p words is =
      sound_then (sound_taken p terminal.For words refl is) (λ f second.
      sound_then (sound_local_name p second) (λ name behind.
      sound_if (begins terminal.Assign behind) (λ assign. sound_numeric p f name behind assign) (λ _. sound_generic p f name behind)))

  sound_function : (p : Place) (words : List Word) → begins terminal.Function words ≡ true → IsSound (IsKind p) words (read_function r p words)
  sound_function p words is =
      sound_then (sound_taken p terminal.Function words refl is) (λ _ second.
      sound_then (sound_name p second) (λ name behind_name.
      sound_then (s.path p [] behind_name) (λ fields behind.
      sound_then (sound_body r s (within p) behind) (λ body rest. sound_read (λ _ _ _ body _ path _ name _ is. function_read is name path body)))))

  sound_local_function : (p : Place) (l : Word) (words : List Word) → begins terminal.Function words ≡ true → IsSound (Completes (IsTaken p terminal.Local) l (IsKind p)) words (local_function_behind r p words)
  sound_local_function p l words is =
      sound_then (sound_taken p terminal.Function words refl is) (λ _ second.
      sound_then (sound_local_name p second) (λ name behind.
      sound_then (sound_body r s (within p) behind) (λ body rest. sound_read (λ _ _ _ body _ name _ function _ is. local_function_read is function name body))))

  sound_locals : (p : Place) (l : Word) (words : List Word) → IsSound (Completes (IsTaken p terminal.Local) l (IsKind p)) words (locals_behind r p words)
  sound_locals p l words =
      sound_then (sound_read_names r s p words) (λ names behind.
      sound_then (sound_values r s p behind) (λ all rest. sound_read (λ _ _ _ all _ names _ is. locals_read is names all)))

  sound_local : (p : Place) (words : List Word) → begins terminal.Local words ≡ true → IsSound (IsKind p) words (read_local r p words)
  sound_local p words is =
      sound_then (sound_taken p terminal.Local words refl is) (λ l second.
      sound_if (begins terminal.Function second) (λ function. sound_local_function p l second function) (λ _. sound_locals p l second))

  pub sound_kind : (p : Place) (t : Terminal) (o : Word) (words : List Word) → o.is ≡ t → IsSound (IsKind p) (o ∷ words) (kind_at r p t (o ∷ words))
  sound_kind p terminal.Semicolon o words is = sound_then (sound_taken p terminal.Semicolon (o ∷ words) refl (begins-true terminal.Semicolon o words is)) (λ _ rest. sound_read (λ _ _ _ is. empty_read is))
  sound_kind p terminal.Break o words is = sound_break_where p p.in_loop (o ∷ words) refl (begins-true terminal.Break o words is)
  sound_kind p terminal.Do o words is = sound_do p (o ∷ words) (begins-true terminal.Do o words is)
  sound_kind p terminal.While o words is = sound_while p (o ∷ words) (begins-true terminal.While o words is)
  sound_kind p terminal.Repeat o words is = sound_repeat p (o ∷ words) (begins-true terminal.Repeat o words is)
  sound_kind p terminal.If o words is = sound_if_statement p (o ∷ words) (begins-true terminal.If o words is)
  sound_kind p terminal.For o words is = sound_for p (o ∷ words) (begins-true terminal.For o words is)
  sound_kind p terminal.Function o words is = sound_function p (o ∷ words) (begins-true terminal.Function o words is)
  sound_kind p terminal.Local o words is = sound_local p (o ∷ words) (begins-true terminal.Local o words is)
  sound_kind p _ o words is = sound_expression_statement r s p (o ∷ words)
