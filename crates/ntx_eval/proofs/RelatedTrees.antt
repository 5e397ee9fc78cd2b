-- Two runs of one tree are related, if the functions that they enter are.
use Rattle.std.proofs.Common.{◌≡◌, refl, sym, ℕ, ◌≤◌, true, false, List, [], ◌∷◌, map, Option, Some, None, subst, subst₂}
use Rattle.ntx_syntax.specs.declared.tree.Exp.{Exp, map-Exp, roll-Exp}
use Rattle.ntx_syntax.specs.declared.tree.Field.{Field, map-Field, roll-Field}
use Rattle.ntx_syntax.specs.declared.tree.Head.{Head, map-Head, roll-Head}
use Rattle.ntx_syntax.specs.declared.tree.StatKind.{StatKind, map-StatKind, roll-StatKind}
use Rattle.ntx_syntax.specs.declared.tree.Suffix.{Suffix, map-Suffix, roll-Suffix}
use Rattle.ntx_syntax.specs.declared.tree.Var.{Var, map-Var, roll-Var}
use Rattle.ntx_syntax.specs.declared.tree.Block.{Block, map-Block, roll-Block}
use Rattle.ntx_syntax.specs.declared.tree.Call.{Call, map-Call, roll-Call}
use Rattle.ntx_syntax.specs.declared.tree.FunctionBody.{FunctionBody, map-FunctionBody, roll-FunctionBody, ind-FunctionBody}
use Rattle.ntx_syntax.specs.declared.tree.IfArm.{IfArm, map-IfArm, roll-IfArm}
use Rattle.ntx_syntax.specs.declared.tree.Operation.{Operation, map-Operation, roll-Operation}
use Rattle.ntx_syntax.specs.declared.tree.Prefix.{Prefix, map-Prefix, roll-Prefix}
use Rattle.ntx_syntax.specs.declared.tree.Return.{Return, map-Return, roll-Return}
use Rattle.ntx_syntax.specs.declared.tree.Stat.{Stat, map-Stat, roll-Stat}
use Rattle.ntx_syntax.specs.declared.tree.Exp.TheOpen.{Exp-F, Field-F, Head-F, StatKind-F, Suffix-F, Var-F, Block-F, Call-F, FunctionBody-F, IfArm-F, Operation-F, Prefix-F, Return-F, Stat-F}
use Rattle.ntx_values.specs.declared.value.Value.{Value}
use Rattle.ntx_eval.specs.Ending.{Action}
use Rattle.ntx_values.specs.Steps.{new_table_step}
use Rattle.ntx_eval.specs.Operators.{unary_of}
use Rattle.ntx_eval.specs.Host.{World}
use Rattle.ntx_eval.specs.Variables.{Here, first, others}
use Rattle.ntx_values.specs.declared.value.Value.TheVariants.{Table}
use Rattle.ntx_eval.specs.State.{onward}
use Rattle.ntx_eval.specs.Trees.{Layer, MapOf, meanings}
use Rattle.ntx_eval.specs.Expressions.{exp_layer, field_layer, head_layer, suffix_layer, call_layer, prefix_layer}
use Rattle.ntx_eval.specs.Statements.{kind_layer, var_layer, arm_layer, operation_layer, names_of}
use Rattle.ntx_eval.specs.Blocks.{block_layer, body_layer, return_layer, stat_layer}
use Rattle.ntx_eval.proofs.Whole.{Meanings, whole, with_trees, exp_rolls, field_rolls, head_rolls, kind_rolls, suffix_rolls, var_rolls, block_rolls, call_rolls, body_rolls, arm_rolls, operation_rolls, prefix_rolls, ret_rolls, stat_rolls}
use Rattle.ntx_eval.proofs.Related.{Kept, of_stores, texts, binds, reads_name}
use Rattle.ntx_eval.proofs.RelatedParts as parts
use Rattle.ntx_eval.proofs.RelatedParts.{Both, given, Exps, Suffixes, Fields, Operations, Blocks, ones, firsts, alls, each_operation, each_suffix, fills}
use Rattle.ntx_eval.proofs.RelatedStatements as statements
use Rattle.ntx_eval.proofs.RelatedStatements.{Vars, Arms, Stats, Returns, Bodies, Maybe, Kinds, withins, blocks_in, finds, choices, steps_of, local_functions, begins, in_turns}

-- the meanings of a list of trees
abbrev pub meanings_of : {A T : Type 0} {P : T → Type 0} → (T → A) → List ((t : T) × P t) → List A
meanings_of {A} {T} {P} f xs = map {A = T × A} (λ x. x.1) (map (λ t. (t, f t)) (map {A = (t : T) × P t} (λ x. x.0) xs))

both_of : {A T : Type 0} (P : A → A → Type 0) (f g : T → A) (xs : List ((t : T) × P (f t) (g t))) → Both P (meanings_of f xs) (meanings_of g xs)
both_of P f g [] = tt
both_of P f g (x ∷ xs) = (x.1, both_of P f g xs)

module _ {S : Type 0} (R : (A : Type 0) → Action S A → Action S A → Type 0) (kept : Kept R) (world : World S) (n n' : ℕ) (most : n ≤ n')
    (enter enter' : Value → List Value → ℕ → Action S (List Value)) (entered : (f : Value) (args : List Value) (line : ℕ) → R _ (enter f args line) (enter' f args line)) where
  abbrev w : Meanings S
  w = whole (given world n enter)

  abbrev w' : Meanings S
  w' = whole (given world n' enter')

  abbrev SureExp : Exp → Type 0
  SureExp t = Exps R kept (w.exp t) (w'.exp t)

  abbrev SureField : Field → Type 0
  SureField t = Fields R kept (w.field t) (w'.field t)

  abbrev SureHead : Head → Type 0
  SureHead t = Exps R kept (w.head t) (w'.head t)

  abbrev SureStatKind : StatKind → Type 0
  SureStatKind t = Kinds R kept (w.kind t) (w'.kind t)

  abbrev SureSuffix : Suffix → Type 0
  SureSuffix t = Suffixes R kept (w.suffix t) (w'.suffix t)

  abbrev SureVar : Var → Type 0
  SureVar t = Vars R kept (w.var t) (w'.var t)

  abbrev SureBlock : Block → Type 0
  SureBlock t = Blocks R kept (w.block t) (w'.block t)

  abbrev SureCall : Call → Type 0
  SureCall t = Exps R kept (w.call t) (w'.call t)

  abbrev SureFunctionBody : FunctionBody → Type 0
  SureFunctionBody t = Bodies R kept (w.body t) (w'.body t)

  abbrev SureIfArm : IfArm → Type 0
  SureIfArm t = Arms R kept (w.arm t) (w'.arm t)

  abbrev SureOperation : Operation → Type 0
  SureOperation t = Operations R kept (w.operation t) (w'.operation t)

  abbrev SurePrefix : Prefix → Type 0
  SurePrefix t = Exps R kept (w.prefix t) (w'.prefix t)

  abbrev SureReturn : Return → Type 0
  SureReturn t = Returns R kept (w.ret t) (w'.ret t)

  abbrev SureStat : Stat → Type 0
  SureStat t = Stats R kept (w.stat t) (w'.stat t)

  -- a layer of trees whose meanings are known to be related
  abbrev Sure : Layer → Type 0
  Sure F =
      F ((t : Exp) × SureExp t) ((t : Field) × SureField t) ((t : Head) × SureHead t) ((t : StatKind) × SureStatKind t) ((t : Suffix) × SureSuffix t) ((t : Var) × SureVar t) ((t : Block) × SureBlock t)
      ((t : Call) × SureCall t) ((t : FunctionBody) × SureFunctionBody t) ((t : IfArm) × SureIfArm t) ((t : Operation) × SureOperation t) ((t : Prefix) × SurePrefix t) ((t : Return) × SureReturn t) ((t : Stat) × SureStat t)

  abbrev trees : (F : Layer) → MapOf F → Sure F → F Exp Field Head StatKind Suffix Var Block Call FunctionBody IfArm Operation Prefix Return Stat
  trees F map layer =
      map ((t : Exp) × SureExp t) ((t : Field) × SureField t) ((t : Head) × SureHead t) ((t : StatKind) × SureStatKind t) ((t : Suffix) × SureSuffix t) ((t : Var) × SureVar t) ((t : Block) × SureBlock t)
      ((t : Call) × SureCall t) ((t : FunctionBody) × SureFunctionBody t) ((t : IfArm) × SureIfArm t) ((t : Operation) × SureOperation t) ((t : Prefix) × SurePrefix t) ((t : Return) × SureReturn t) ((t : Stat) × SureStat t)
      Exp Field Head StatKind Suffix Var Block
      Call FunctionBody IfArm Operation Prefix Return Stat
      (λ x. x.0) (λ x. x.0) (λ x. x.0) (λ x. x.0) (λ x. x.0) (λ x. x.0) (λ x. x.0)
      (λ x. x.0) (λ x. x.0) (λ x. x.0) (λ x. x.0) (λ x. x.0) (λ x. x.0) (λ x. x.0) layer

  block_by : (stats : List ((t : Stat) × SureStat t)) (last : Option ((t : Return) × SureReturn t)) (here : Here) → R _ (block_layer (meanings Block-F map-Block (with_trees Block-F map-Block w (trees Block-F map-Block (record { stats = stats; last = last })))) here) (block_layer (meanings Block-F map-Block (with_trees Block-F map-Block w' (trees Block-F map-Block (record { stats = stats; last = last })))) here)
  block_by stats None here = in_turns R kept (meanings_of w.stat stats) (meanings_of w'.stat stats) (both_of (Stats R kept) w.stat w'.stat stats) None None tt here.scope
  block_by stats (Some r) here = in_turns R kept (meanings_of w.stat stats) (meanings_of w'.stat stats) (both_of (Stats R kept) w.stat w'.stat stats) (Some (w.ret r.0)) (Some (w'.ret r.0)) r.1 here.scope

  exp_step : (y : Sure Exp-F) → Exps R kept (exp_layer (meanings Exp-F map-Exp (with_trees Exp-F map-Exp w (trees Exp-F map-Exp y)))) (exp_layer (meanings Exp-F map-Exp (with_trees Exp-F map-Exp w' (trees Exp-F map-Exp y))))
  exp_step Exp-F.Nil here = ones R kept (kept.gives _)
  exp_step Exp-F.False here = ones R kept (kept.gives _)
  exp_step Exp-F.True here = ones R kept (kept.gives _)
  exp_step (Exp-F.Numeral k) here = ones R kept (kept.gives _)
  exp_step (Exp-F.Text bytes) here = ones R kept (texts R kept bytes here.line)
  exp_step (Exp-F.Exp::Function b) here = ones R kept (kept.makes_function b.0 here.scope)
  exp_step (Exp-F.Prefix m) here = m.1 here
  exp_step (Exp-F.Table fs) here = kept.then_ (kept.stores here.line new_table_step) (λ t. kept.then_ (fills R kept (meanings_of w.field fs) (meanings_of w'.field fs) (both_of (Fields R kept) w.field w'.field fs) t 1 here) (λ _. kept.gives _))
  exp_step (Exp-F.Binary m os) here = kept.then_ (firsts R kept (m.1 here)) (λ a. ones R kept (each_operation R kept (meanings_of w.operation os) (meanings_of w'.operation os) (both_of (Operations R kept) w.operation w'.operation os) a here))
  exp_step (Exp-F.Unary op m) here = kept.then_ (firsts R kept (m.1 here)) (λ a. ones R kept (of_stores R kept here.line (unary_of op a)))

  field_step : (y : Sure Field-F) → Fields R kept (field_layer (given world n enter) (meanings Field-F map-Field (with_trees Field-F map-Field w (trees Field-F map-Field y)))) (field_layer (given world n' enter') (meanings Field-F map-Field (with_trees Field-F map-Field w' (trees Field-F map-Field y))))
  field_step (Field-F.Keyed k m) t i last here = kept.then_ (firsts R kept (k.1 here)) (λ key. kept.then_ (firsts R kept (m.1 here)) (λ v. kept.then_ (parts.writes R kept world n n' most enter enter' entered (Table t) key v here.line) (λ _. kept.gives i)))
  field_step (Field-F.Named name m) t i last here = kept.then_ (texts R kept name here.line) (λ key. kept.then_ (firsts R kept (m.1 here)) (λ v. kept.then_ (parts.writes R kept world n n' most enter enter' entered (Table t) key v here.line) (λ _. kept.gives i)))
  field_step (Field-F.Positional m) t i true here = kept.then_ (m.1 here) (λ vs. parts.places_values R kept world n n' most enter enter' entered t i vs here)
  field_step (Field-F.Positional m) t i false here = kept.then_ (firsts R kept (m.1 here)) (λ v. parts.places_value R kept world n n' most enter enter' entered t i v here)

  head_step : (y : Sure Head-F) → Exps R kept (head_layer (meanings Head-F map-Head (with_trees Head-F map-Head w (trees Head-F map-Head y)))) (head_layer (meanings Head-F map-Head (with_trees Head-F map-Head w' (trees Head-F map-Head y))))
  head_step (Head-F.Head::Name name) here = ones R kept (reads_name R kept name here)
  head_step (Head-F.Parenthesized m) here = ones R kept (firsts R kept (m.1 here))

  kind_step : (y : Sure StatKind-F) → Kinds R kept (kind_layer (given world n enter) (meanings StatKind-F map-StatKind (with_trees StatKind-F map-StatKind w (trees StatKind-F map-StatKind y)))) (kind_layer (given world n' enter') (meanings StatKind-F map-StatKind (with_trees StatKind-F map-StatKind w' (trees StatKind-F map-StatKind y))))
  kind_step StatKind-F.Empty = tt
  kind_step (StatKind-F.Assign vars es) = λ here. withins R kept here (kept.then_ (finds R kept (meanings_of w.var vars) (meanings_of w'.var vars) (both_of (Vars R kept) w.var w'.var vars) here) (λ places. kept.then_ (alls R kept (meanings_of w.exp es) (meanings_of w'.exp es) (both_of (Exps R kept) w.exp w'.exp es) here) (λ vs. kept.then_ (statements.assigns_all R kept world n n' most enter enter' entered places vs here) (λ _. kept.gives _))))
  kind_step (StatKind-F.StatKind::Call m) = λ here. withins R kept here (kept.then_ (m.1 here) (λ _. kept.gives _))
  kind_step StatKind-F.Break = λ here. withins R kept here (kept.gives _)
  kind_step (StatKind-F.Do b) = λ here. withins R kept here (blocks_in R kept (w.block b.0) (w'.block b.0) b.1 here)
  kind_step (StatKind-F.While m b) = λ here. withins R kept here (parts.whiles R kept n n' most (w.exp m.0) (w'.exp m.0) m.1 (w.block b.0) (w'.block b.0) b.1 here)
  kind_step (StatKind-F.Repeat b m) = λ here. withins R kept here (parts.repeats R kept n n' most (w.block b.0) (w'.block b.0) b.1 (w.exp m.0) (w'.exp m.0) m.1 here)
  kind_step (StatKind-F.If arms None) = λ here. withins R kept here (choices R kept (meanings_of w.arm arms) (meanings_of w'.arm arms) (both_of (Arms R kept) w.arm w'.arm arms) None None tt here)
  kind_step (StatKind-F.If arms (Some b)) = λ here. withins R kept here (choices R kept (meanings_of w.arm arms) (meanings_of w'.arm arms) (both_of (Arms R kept) w.arm w'.arm arms) (Some (w.block b.0)) (Some (w'.block b.0)) b.1 here)
  kind_step (StatKind-F.NumericFor name a l None b) = λ here. withins R kept here (kept.then_ (firsts R kept (a.1 here)) (λ i. kept.then_ (firsts R kept (l.1 here)) (λ last. kept.then_ (kept.gives _) (λ by. parts.numeric_fors R kept n n' most name.name i last by (w.block b.0) (w'.block b.0) b.1 here))))
  kind_step (StatKind-F.NumericFor name a l (Some m) b) = λ here. withins R kept here (kept.then_ (firsts R kept (a.1 here)) (λ i. kept.then_ (firsts R kept (l.1 here)) (λ last. kept.then_ (firsts R kept (m.1 here)) (λ by. parts.numeric_fors R kept n n' most name.name i last by (w.block b.0) (w'.block b.0) b.1 here))))
  kind_step (StatKind-F.GenericFor names es b) = λ here. withins R kept here (kept.then_ (alls R kept (meanings_of w.exp es) (meanings_of w'.exp es) (both_of (Exps R kept) w.exp w'.exp es) here) (λ vs. parts.generics R kept world n n' most enter enter' entered (names_of names) (first vs) (first (others vs)) (w.block b.0) (w'.block b.0) b.1 here (first (others (others vs)))))
  kind_step (StatKind-F.StatKind::Function name path b) = λ here. withins R kept here (kept.then_ (statements.function_places R kept world n n' most enter enter' entered name path here) (λ place. kept.then_ (kept.makes_function b.0 here.scope) (λ f. kept.then_ (statements.assigns R kept world n n' most enter enter' entered place f here) (λ _. kept.gives onward))))
  kind_step (StatKind-F.LocalFunction name b) = λ here. local_functions R kept name.name b.0 here
  kind_step (StatKind-F.Local names es) = λ here. kept.then_ (alls R kept (meanings_of w.exp es) (meanings_of w'.exp es) (both_of (Exps R kept) w.exp w'.exp es) here) (λ vs. kept.then_ (binds R kept (names_of names) vs here.scope) (λ scope. kept.gives _))

  suffix_step : (y : Sure Suffix-F) → Suffixes R kept (suffix_layer (given world n enter) (meanings Suffix-F map-Suffix (with_trees Suffix-F map-Suffix w (trees Suffix-F map-Suffix y)))) (suffix_layer (given world n' enter') (meanings Suffix-F map-Suffix (with_trees Suffix-F map-Suffix w' (trees Suffix-F map-Suffix y))))
  suffix_step (Suffix-F.Suffix::Index m) v here = kept.then_ (firsts R kept (m.1 here)) (λ key. ones R kept (parts.reads R kept world n n' most enter enter' entered v key here.line))
  suffix_step (Suffix-F.Suffix::Field name) v here = kept.then_ (texts R kept name here.line) (λ key. ones R kept (parts.reads R kept world n n' most enter enter' entered v key here.line))
  suffix_step (Suffix-F.Suffix::Call es) v here = kept.then_ (alls R kept (meanings_of w.exp es) (meanings_of w'.exp es) (both_of (Exps R kept) w.exp w'.exp es) here) (λ vs. parts.calls R kept world n n' most enter enter' entered v vs here.line)

  var_step : (y : Sure Var-F) → Vars R kept (var_layer (meanings Var-F map-Var (with_trees Var-F map-Var w (trees Var-F map-Var y)))) (var_layer (meanings Var-F map-Var (with_trees Var-F map-Var w' (trees Var-F map-Var y))))
  var_step (Var-F.Var::Name name) here = kept.gives _
  var_step (Var-F.Var::Index m k) here = kept.then_ (firsts R kept (m.1 here)) (λ t. kept.then_ (firsts R kept (k.1 here)) (λ key. kept.gives _))
  var_step (Var-F.Var::Field m name) here = kept.then_ (firsts R kept (m.1 here)) (λ t. kept.then_ (texts R kept name here.line) (λ key. kept.gives _))

  block_step : (y : Sure Block-F) → Blocks R kept (block_layer (meanings Block-F map-Block (with_trees Block-F map-Block w (trees Block-F map-Block y)))) (block_layer (meanings Block-F map-Block (with_trees Block-F map-Block w' (trees Block-F map-Block y))))
  block_step y here = block_by y.stats y.last here

  call_step : (y : Sure Call-F) → Exps R kept (call_layer (given world n enter) (meanings Call-F map-Call (with_trees Call-F map-Call w (trees Call-F map-Call y)))) (call_layer (given world n' enter') (meanings Call-F map-Call (with_trees Call-F map-Call w' (trees Call-F map-Call y))))
  call_step y here = kept.then_ (firsts R kept (y.function.1 here)) (λ f. kept.then_ (alls R kept (meanings_of w.exp y.arguments) (meanings_of w'.exp y.arguments) (both_of (Exps R kept) w.exp w'.exp y.arguments) here) (λ vs. parts.calls R kept world n n' most enter enter' entered f vs here.line))

  body_step : (y : Sure FunctionBody-F) → Bodies R kept (body_layer (meanings FunctionBody-F map-FunctionBody (with_trees FunctionBody-F map-FunctionBody w (trees FunctionBody-F map-FunctionBody y)))) (body_layer (meanings FunctionBody-F map-FunctionBody (with_trees FunctionBody-F map-FunctionBody w' (trees FunctionBody-F map-FunctionBody y))))
  body_step y args scope line = kept.then_ (binds R kept (names_of y.parameters) args scope) (λ inner. kept.then_ (y.block.1 _) (λ ended. kept.gives _))

  arm_step : (y : Sure IfArm-F) → Arms R kept (arm_layer (meanings IfArm-F map-IfArm (with_trees IfArm-F map-IfArm w (trees IfArm-F map-IfArm y)))) (arm_layer (meanings IfArm-F map-IfArm (with_trees IfArm-F map-IfArm w' (trees IfArm-F map-IfArm y))))
  arm_step y = (y.condition.1, y.block.1)

  operation_step : (y : Sure Operation-F) → Operations R kept (operation_layer (meanings Operation-F map-Operation (with_trees Operation-F map-Operation w (trees Operation-F map-Operation y)))) (operation_layer (meanings Operation-F map-Operation (with_trees Operation-F map-Operation w' (trees Operation-F map-Operation y))))
  operation_step y = (refl, y.operand.1)

  prefix_step : (y : Sure Prefix-F) → Exps R kept (prefix_layer (meanings Prefix-F map-Prefix (with_trees Prefix-F map-Prefix w (trees Prefix-F map-Prefix y)))) (prefix_layer (meanings Prefix-F map-Prefix (with_trees Prefix-F map-Prefix w' (trees Prefix-F map-Prefix y))))
  prefix_step y here = kept.then_ (y.head.1 here) (λ vs. each_suffix R kept (meanings_of w.suffix y.suffixes) (meanings_of w'.suffix y.suffixes) (both_of (Suffixes R kept) w.suffix w'.suffix y.suffixes) vs here)

  ret_step : (y : Sure Return-F) → Returns R kept (return_layer (meanings Return-F map-Return (with_trees Return-F map-Return w (trees Return-F map-Return y)))) (return_layer (meanings Return-F map-Return (with_trees Return-F map-Return w' (trees Return-F map-Return y))))
  ret_step y scope = kept.then_ (kept.charges y.line) (λ _. kept.then_ (alls R kept (meanings_of w.exp y.values) (meanings_of w'.exp y.values) (both_of (Exps R kept) w.exp w'.exp y.values) _) (λ vs. kept.gives _))

  stat_step : (y : Sure Stat-F) → Stats R kept (stat_layer (meanings Stat-F map-Stat (with_trees Stat-F map-Stat w (trees Stat-F map-Stat y)))) (stat_layer (meanings Stat-F map-Stat (with_trees Stat-F map-Stat w' (trees Stat-F map-Stat y))))
  stat_step y scope = begins R kept (w.kind y.kind.0) (w'.kind y.kind.0) y.kind.1 _

  exp_sure : (x : Exp-F Exp Field Head StatKind Suffix Var Block Call FunctionBody IfArm Operation Prefix Return Stat) (y : Sure Exp-F) → trees Exp-F map-Exp y ≡ x → SureExp (roll-Exp x)
  exp_sure x y is = subst (λ z. SureExp (roll-Exp z)) is (subst₂ (Exps R kept) (sym (exp_rolls (given world n enter) (trees Exp-F map-Exp y))) (sym (exp_rolls (given world n' enter') (trees Exp-F map-Exp y))) (exp_step y))

  field_sure : (x : Field-F Exp Field Head StatKind Suffix Var Block Call FunctionBody IfArm Operation Prefix Return Stat) (y : Sure Field-F) → trees Field-F map-Field y ≡ x → SureField (roll-Field x)
  field_sure x y is = subst (λ z. SureField (roll-Field z)) is (subst₂ (Fields R kept) (sym (field_rolls (given world n enter) (trees Field-F map-Field y))) (sym (field_rolls (given world n' enter') (trees Field-F map-Field y))) (field_step y))

  head_sure : (x : Head-F Exp Field Head StatKind Suffix Var Block Call FunctionBody IfArm Operation Prefix Return Stat) (y : Sure Head-F) → trees Head-F map-Head y ≡ x → SureHead (roll-Head x)
  head_sure x y is = subst (λ z. SureHead (roll-Head z)) is (subst₂ (Exps R kept) (sym (head_rolls (given world n enter) (trees Head-F map-Head y))) (sym (head_rolls (given world n' enter') (trees Head-F map-Head y))) (head_step y))

  kind_sure : (x : StatKind-F Exp Field Head StatKind Suffix Var Block Call FunctionBody IfArm Operation Prefix Return Stat) (y : Sure StatKind-F) → trees StatKind-F map-StatKind y ≡ x → SureStatKind (roll-StatKind x)
  kind_sure x y is = subst (λ z. SureStatKind (roll-StatKind z)) is (subst₂ (Kinds R kept) (sym (kind_rolls (given world n enter) (trees StatKind-F map-StatKind y))) (sym (kind_rolls (given world n' enter') (trees StatKind-F map-StatKind y))) (kind_step y))

  suffix_sure : (x : Suffix-F Exp Field Head StatKind Suffix Var Block Call FunctionBody IfArm Operation Prefix Return Stat) (y : Sure Suffix-F) → trees Suffix-F map-Suffix y ≡ x → SureSuffix (roll-Suffix x)
  suffix_sure x y is = subst (λ z. SureSuffix (roll-Suffix z)) is (subst₂ (Suffixes R kept) (sym (suffix_rolls (given world n enter) (trees Suffix-F map-Suffix y))) (sym (suffix_rolls (given world n' enter') (trees Suffix-F map-Suffix y))) (suffix_step y))

  var_sure : (x : Var-F Exp Field Head StatKind Suffix Var Block Call FunctionBody IfArm Operation Prefix Return Stat) (y : Sure Var-F) → trees Var-F map-Var y ≡ x → SureVar (roll-Var x)
  var_sure x y is = subst (λ z. SureVar (roll-Var z)) is (subst₂ (Vars R kept) (sym (var_rolls (given world n enter) (trees Var-F map-Var y))) (sym (var_rolls (given world n' enter') (trees Var-F map-Var y))) (var_step y))

  block_sure : (x : Block-F Exp Field Head StatKind Suffix Var Block Call FunctionBody IfArm Operation Prefix Return Stat) (y : Sure Block-F) → trees Block-F map-Block y ≡ x → SureBlock (roll-Block x)
  block_sure x y is = subst (λ z. SureBlock (roll-Block z)) is (subst₂ (Blocks R kept) (sym (block_rolls (given world n enter) (trees Block-F map-Block y))) (sym (block_rolls (given world n' enter') (trees Block-F map-Block y))) (block_step y))

  call_sure : (x : Call-F Exp Field Head StatKind Suffix Var Block Call FunctionBody IfArm Operation Prefix Return Stat) (y : Sure Call-F) → trees Call-F map-Call y ≡ x → SureCall (roll-Call x)
  call_sure x y is = subst (λ z. SureCall (roll-Call z)) is (subst₂ (Exps R kept) (sym (call_rolls (given world n enter) (trees Call-F map-Call y))) (sym (call_rolls (given world n' enter') (trees Call-F map-Call y))) (call_step y))

  body_sure : (x : FunctionBody-F Exp Field Head StatKind Suffix Var Block Call FunctionBody IfArm Operation Prefix Return Stat) (y : Sure FunctionBody-F) → trees FunctionBody-F map-FunctionBody y ≡ x → SureFunctionBody (roll-FunctionBody x)
  body_sure x y is = subst (λ z. SureFunctionBody (roll-FunctionBody z)) is (subst₂ (Bodies R kept) (sym (body_rolls (given world n enter) (trees FunctionBody-F map-FunctionBody y))) (sym (body_rolls (given world n' enter') (trees FunctionBody-F map-FunctionBody y))) (body_step y))

  arm_sure : (x : IfArm-F Exp Field Head StatKind Suffix Var Block Call FunctionBody IfArm Operation Prefix Return Stat) (y : Sure IfArm-F) → trees IfArm-F map-IfArm y ≡ x → SureIfArm (roll-IfArm x)
  arm_sure x y is = subst (λ z. SureIfArm (roll-IfArm z)) is (subst₂ (Arms R kept) (sym (arm_rolls (given world n enter) (trees IfArm-F map-IfArm y))) (sym (arm_rolls (given world n' enter') (trees IfArm-F map-IfArm y))) (arm_step y))

  operation_sure : (x : Operation-F Exp Field Head StatKind Suffix Var Block Call FunctionBody IfArm Operation Prefix Return Stat) (y : Sure Operation-F) → trees Operation-F map-Operation y ≡ x → SureOperation (roll-Operation x)
  operation_sure x y is = subst (λ z. SureOperation (roll-Operation z)) is (subst₂ (Operations R kept) (sym (operation_rolls (given world n enter) (trees Operation-F map-Operation y))) (sym (operation_rolls (given world n' enter') (trees Operation-F map-Operation y))) (operation_step y))

  prefix_sure : (x : Prefix-F Exp Field Head StatKind Suffix Var Block Call FunctionBody IfArm Operation Prefix Return Stat) (y : Sure Prefix-F) → trees Prefix-F map-Prefix y ≡ x → SurePrefix (roll-Prefix x)
  prefix_sure x y is = subst (λ z. SurePrefix (roll-Prefix z)) is (subst₂ (Exps R kept) (sym (prefix_rolls (given world n enter) (trees Prefix-F map-Prefix y))) (sym (prefix_rolls (given world n' enter') (trees Prefix-F map-Prefix y))) (prefix_step y))

  ret_sure : (x : Return-F Exp Field Head StatKind Suffix Var Block Call FunctionBody IfArm Operation Prefix Return Stat) (y : Sure Return-F) → trees Return-F map-Return y ≡ x → SureReturn (roll-Return x)
  ret_sure x y is = subst (λ z. SureReturn (roll-Return z)) is (subst₂ (Returns R kept) (sym (ret_rolls (given world n enter) (trees Return-F map-Return y))) (sym (ret_rolls (given world n' enter') (trees Return-F map-Return y))) (ret_step y))

  stat_sure : (x : Stat-F Exp Field Head StatKind Suffix Var Block Call FunctionBody IfArm Operation Prefix Return Stat) (y : Sure Stat-F) → trees Stat-F map-Stat y ≡ x → SureStat (roll-Stat x)
  stat_sure x y is = subst (λ z. SureStat (roll-Stat z)) is (subst₂ (Stats R kept) (sym (stat_rolls (given world n enter) (trees Stat-F map-Stat y))) (sym (stat_rolls (given world n' enter') (trees Stat-F map-Stat y))) (stat_step y))

  pub bodies_related : (b : FunctionBody) → SureFunctionBody b
  bodies_related = ind-FunctionBody SureExp SureField SureHead SureStatKind SureSuffix SureVar SureBlock SureCall SureFunctionBody SureIfArm SureOperation SurePrefix SureReturn SureStat
      exp_sure field_sure head_sure kind_sure suffix_sure var_sure block_sure
      call_sure body_sure arm_sure operation_sure prefix_sure ret_sure stat_sure
