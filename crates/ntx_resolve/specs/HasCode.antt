-- What code a script has (Lua 5.3 Reference Manual, section 3.5): the code is the tree, except that each use of a name says which variable it is, and each body
-- of a function is the number of a function of the code.
--     HasCode chunk code     the script has this code
-- The rules below read `IsExp functions scope e c`: in this scope the expression has this code. `IsBlock` and `IsStats` also say the scope at their end, and
-- `IsKind` the scope in which the next statement stands.
--     the scope of a local variable begins after its `local` statement, so `local x = x` gives the value of an older x
--     a `local function` is in scope in its own body
--     the condition of a `repeat` is in the scope of its block's names
--     the names of a loop are in scope in its block alone
use Rattle.std.specs.Prelude.{◌≡◌, ℕ, ℤ, List, [], ◌∷◌, slice_get, Option, None, Some}
use Rattle.ntx_syntax.specs.declared.tree.Chunk.{Chunk}
use Rattle.ntx_syntax.specs.declared.tree.Exp as tree-exp
use Rattle.ntx_syntax.specs.declared.tree.Exp.TheVariants as exp
use Rattle.ntx_syntax.specs.declared.tree.Field as tree-field
use Rattle.ntx_syntax.specs.declared.tree.Field.TheVariants as field
use Rattle.ntx_syntax.specs.declared.tree.Head as tree-head
use Rattle.ntx_syntax.specs.declared.tree.Head.TheVariants as head
use Rattle.ntx_syntax.specs.declared.tree.StatKind as tree-kind
use Rattle.ntx_syntax.specs.declared.tree.StatKind.TheVariants as stat
use Rattle.ntx_syntax.specs.declared.tree.Suffix as tree-suffix
use Rattle.ntx_syntax.specs.declared.tree.Suffix.TheVariants as suffix
use Rattle.ntx_syntax.specs.declared.tree.Var as tree-var
use Rattle.ntx_syntax.specs.declared.tree.Var.TheVariants as var
use Rattle.ntx_syntax.specs.declared.tree.Block as tree-block
use Rattle.ntx_syntax.specs.declared.tree.Call as tree-call
use Rattle.ntx_syntax.specs.declared.tree.FunctionBody.{FunctionBody, out-FunctionBody}
use Rattle.ntx_syntax.specs.declared.tree.IfArm as tree-arm
use Rattle.ntx_syntax.specs.declared.tree.Operation as tree-operation
use Rattle.ntx_syntax.specs.declared.tree.Prefix as tree-prefix
use Rattle.ntx_syntax.specs.declared.tree.Return as tree-return
use Rattle.ntx_syntax.specs.declared.tree.Stat as tree-stat
use Rattle.ntx_syntax.specs.declared.tree.LocalName.{LocalName}
use Rattle.ntx_syntax.specs.declared.tree.UnaryOp.{UnaryOp}
use Rattle.ntx_resolve.specs.declared.code.Code.{Code}
use Rattle.ntx_resolve.specs.declared.code.Function.{Function}
use Rattle.ntx_resolve.specs.declared.code.Variable.{Variable}
use Rattle.ntx_resolve.specs.declared.code.Exp.{Exp}
use Rattle.ntx_resolve.specs.declared.code.Exp.TheVariants as code-exp
use Rattle.ntx_resolve.specs.declared.code.Field.{Field}
use Rattle.ntx_resolve.specs.declared.code.Field.TheVariants as code-field
use Rattle.ntx_resolve.specs.declared.code.Head.{Head}
use Rattle.ntx_resolve.specs.declared.code.Head.TheVariants as code-head
use Rattle.ntx_resolve.specs.declared.code.StatKind.{StatKind}
use Rattle.ntx_resolve.specs.declared.code.StatKind.TheVariants as code-stat
use Rattle.ntx_resolve.specs.declared.code.Suffix.{Suffix}
use Rattle.ntx_resolve.specs.declared.code.Suffix.TheVariants as code-suffix
use Rattle.ntx_resolve.specs.declared.code.Var.{Var}
use Rattle.ntx_resolve.specs.declared.code.Var.TheVariants as code-var
use Rattle.ntx_resolve.specs.declared.code.Block.{Block, out-Block}
use Rattle.ntx_resolve.specs.declared.code.Call.{Call}
use Rattle.ntx_resolve.specs.declared.code.IfArm.{IfArm, out-IfArm}
use Rattle.ntx_resolve.specs.declared.code.Operation.{Operation}
use Rattle.ntx_resolve.specs.declared.code.Prefix.{Prefix}
use Rattle.ntx_resolve.specs.declared.code.Return.{Return}
use Rattle.ntx_resolve.specs.declared.code.Stat.{Stat}
use Rattle.ntx_resolve.specs.Scopes.{Scope, IsVariable, outermost, declare, enter}

mutual
  -- ---- expressions

  pub data IsExp (functions : List Function) : Scope → tree-exp.Exp → Exp → Type 0 where
    nil : {s : Scope} → IsExp functions s exp.Nil code-exp.Nil
    false_ : {s : Scope} → IsExp functions s exp.False code-exp.False
    true_ : {s : Scope} → IsExp functions s exp.True code-exp.True
    numeral : {s : Scope} {value : ℤ} → IsExp functions s (exp.Numeral value) (code-exp.Numeral value)
    text : {s : Scope} {bytes : List ℕ} → IsExp functions s (exp.Text bytes) (code-exp.Text bytes)
    function_exp : {s : Scope} {body : FunctionBody} {k : ℕ} → IsFunction functions s body k → IsExp functions s (exp.Function body) (code-exp.Function k)
    prefix_exp : {s : Scope} {p : tree-prefix.Prefix} {q : Prefix} → IsPrefix functions s p q → IsExp functions s (exp.Prefix p) (code-exp.Prefix q)
    table : {s : Scope} {fields : List tree-field.Field} {codes : List Field}
        → IsFields functions s fields codes → IsExp functions s (exp.Table fields) (code-exp.Table codes)
    binary : {s : Scope} {first : tree-exp.Exp} {code : Exp} {others : List tree-operation.Operation} {codes : List Operation}
        → IsExp functions s first code → IsOperations functions s others codes → IsExp functions s (exp.Binary first others) (code-exp.Binary code codes)
    unary : {s : Scope} {op : UnaryOp} {operand : tree-exp.Exp} {code : Exp}
        → IsExp functions s operand code → IsExp functions s (exp.Unary op operand) (code-exp.Unary op code)

  pub data IsExps (functions : List Function) : Scope → List tree-exp.Exp → List Exp → Type 0 where
    no_exps : {s : Scope} → IsExps functions s [] []
    next_exp : {s : Scope} {e : tree-exp.Exp} {c : Exp} {es : List tree-exp.Exp} {cs : List Exp}
        → IsExp functions s e c → IsExps functions s es cs → IsExps functions s (e ∷ es) (c ∷ cs)

  pub data IsOperations (functions : List Function) : Scope → List tree-operation.Operation → List Operation → Type 0 where
    no_operations : {s : Scope} → IsOperations functions s [] []
    next_operation : {s : Scope} {o : tree-operation.Operation} {c : Operation} {os : List tree-operation.Operation} {cs : List Operation}
        → c.operator ≡ o.operator → IsExp functions s o.operand c.operand → IsOperations functions s os cs → IsOperations functions s (o ∷ os) (c ∷ cs)

  pub data IsField (functions : List Function) : Scope → tree-field.Field → Field → Type 0 where
    keyed : {s : Scope} {key value : tree-exp.Exp} {c d : Exp}
        → IsExp functions s key c → IsExp functions s value d → IsField functions s (field.Keyed key value) (code-field.Keyed c d)
    named : {s : Scope} {name : List ℕ} {value : tree-exp.Exp} {c : Exp}
        → IsExp functions s value c → IsField functions s (field.Named name value) (code-field.Named name c)
    positional : {s : Scope} {value : tree-exp.Exp} {c : Exp} → IsExp functions s value c → IsField functions s (field.Positional value) (code-field.Positional c)

  pub data IsFields (functions : List Function) : Scope → List tree-field.Field → List Field → Type 0 where
    no_fields : {s : Scope} → IsFields functions s [] []
    next_field : {s : Scope} {f : tree-field.Field} {c : Field} {fs : List tree-field.Field} {cs : List Field}
        → IsField functions s f c → IsFields functions s fs cs → IsFields functions s (f ∷ fs) (c ∷ cs)

  -- a name and the variable that it is, or a parenthesized expression; and what stands after it
  pub data IsHead (functions : List Function) : Scope → tree-head.Head → Head → Type 0 where
    name_head : {s : Scope} {name : List ℕ} {v : Variable} → IsVariable name s v → IsHead functions s (head.Name name) (code-head.Name name v)
    parenthesized : {s : Scope} {e : tree-exp.Exp} {c : Exp}
        → IsExp functions s e c → IsHead functions s (head.Parenthesized e) (code-head.Parenthesized c)

  pub data IsSuffix (functions : List Function) : Scope → tree-suffix.Suffix → Suffix → Type 0 where
    index_suffix : {s : Scope} {key : tree-exp.Exp} {c : Exp} → IsExp functions s key c → IsSuffix functions s (suffix.Index key) (code-suffix.Index c)
    field_suffix : {s : Scope} {name : List ℕ} → IsSuffix functions s (suffix.Field name) (code-suffix.Field name)
    call_suffix : {s : Scope} {arguments : List tree-exp.Exp} {cs : List Exp}
        → IsExps functions s arguments cs → IsSuffix functions s (suffix.Call arguments) (code-suffix.Call cs)

  pub data IsSuffixes (functions : List Function) : Scope → List tree-suffix.Suffix → List Suffix → Type 0 where
    no_suffixes : {s : Scope} → IsSuffixes functions s [] []
    next_suffix : {s : Scope} {x : tree-suffix.Suffix} {c : Suffix} {xs : List tree-suffix.Suffix} {cs : List Suffix}
        → IsSuffix functions s x c → IsSuffixes functions s xs cs → IsSuffixes functions s (x ∷ xs) (c ∷ cs)

  pub data IsPrefix (functions : List Function) : Scope → tree-prefix.Prefix → Prefix → Type 0 where
    prefix : {s : Scope} {p : tree-prefix.Prefix} {q : Prefix}
        → IsHead functions s p.head q.head → IsSuffixes functions s p.suffixes q.suffixes → IsPrefix functions s p q

  -- a function with this body, which is made in this scope
  pub data IsFunction (functions : List Function) : Scope → FunctionBody → ℕ → Type 0 where
    function : {s after : Scope} {body : FunctionBody} {k : ℕ} {f : Function}
        → slice_get functions k ≡ Some f → f.parameters ≡ (out-FunctionBody body).parameters
        → IsBlock functions (declare (enter s) (out-FunctionBody body).parameters) (out-FunctionBody body).block f.block after
        → IsFunction functions s body k

  -- ---- statements

  -- a block, and the scope at its end
  pub data IsBlock (functions : List Function) : Scope → tree-block.Block → Block → Scope → Type 0 where
    block : {s after : Scope} {b : tree-block.Block} {c : Block}
        → IsStats functions s (tree-block.out-Block b).stats (out-Block c).stats after
        → IsReturn functions after (tree-block.out-Block b).last (out-Block c).last → IsBlock functions s b c after

  pub data IsReturn (functions : List Function) : Scope → Option tree-return.Return → Option Return → Type 0 where
    no_return : {s : Scope} → IsReturn functions s None None
    returned : {s : Scope} {r : tree-return.Return} {c : Return}
        → c.line ≡ r.line → IsExps functions s r.values c.values → IsReturn functions s (Some r) (Some c)

  -- each statement in the scope that the one before it leaves
  pub data IsStats (functions : List Function) : Scope → List tree-stat.Stat → List Stat → Scope → Type 0 where
    no_stats : {s : Scope} → IsStats functions s [] [] s
    next_stat : {s between after : Scope} {t : tree-stat.Stat} {c : Stat} {ts : List tree-stat.Stat} {cs : List Stat}
        → c.line ≡ t.line → IsKind functions s t.kind c.kind between → IsStats functions between ts cs after → IsStats functions s (t ∷ ts) (c ∷ cs) after

  pub data IsKind (functions : List Function) : Scope → tree-kind.StatKind → StatKind → Scope → Type 0 where
    empty : {s : Scope} → IsKind functions s stat.Empty code-stat.Empty s
    assign : {s : Scope} {vars : List tree-var.Var} {cs : List Var} {values : List tree-exp.Exp} {ds : List Exp}
        → IsVars functions s vars cs → IsExps functions s values ds → IsKind functions s (stat.Assign vars values) (code-stat.Assign cs ds) s
    call : {s : Scope} {a : tree-call.Call} {c : Call}
        → IsPrefix functions s a.function c.function → IsExps functions s a.arguments c.arguments → IsKind functions s (stat.Call a) (code-stat.Call c) s
    break : {s : Scope} → IsKind functions s stat.Break code-stat.Break s
    do_block : {s after : Scope} {b : tree-block.Block} {c : Block} → IsBlock functions s b c after → IsKind functions s (stat.Do b) (code-stat.Do c) s
    while : {s after : Scope} {e : tree-exp.Exp} {d : Exp} {b : tree-block.Block} {c : Block}
        → IsExp functions s e d → IsBlock functions s b c after → IsKind functions s (stat.While e b) (code-stat.While d c) s
    repeat : {s after : Scope} {e : tree-exp.Exp} {d : Exp} {b : tree-block.Block} {c : Block}
        → IsBlock functions s b c after → IsExp functions after e d → IsKind functions s (stat.Repeat b e) (code-stat.Repeat c d) s
    if_stat : {s : Scope} {arms : List tree-arm.IfArm} {cs : List IfArm} {other : Option tree-block.Block} {d : Option Block}
        → IsArms functions s arms cs → IsElse functions s other d → IsKind functions s (stat.If arms other) (code-stat.If cs d) s
    numeric_for : {s after : Scope} {name : LocalName} {from limit : tree-exp.Exp} {f l : Exp} {step : Option tree-exp.Exp} {t : Option Exp} {b : tree-block.Block} {c : Block}
        → IsExp functions s from f → IsExp functions s limit l → IsStep functions s step t → IsBlock functions (declare s (name ∷ [])) b c after
        → IsKind functions s (stat.NumericFor name from limit step b) (code-stat.NumericFor name f l t c) s
    generic_for : {s after : Scope} {names : List LocalName} {values : List tree-exp.Exp} {cs : List Exp} {b : tree-block.Block} {c : Block}
        → IsExps functions s values cs → IsBlock functions (declare s names) b c after
        → IsKind functions s (stat.GenericFor names values b) (code-stat.GenericFor names cs c) s
    function_stat : {s : Scope} {name : List ℕ} {v : Variable} {path : List (List ℕ)} {body : FunctionBody} {k : ℕ}
        → IsVariable name s v → IsFunction functions s body k → IsKind functions s (stat.Function name path body) (code-stat.Function name v path k) s
    local_function : {s : Scope} {name : LocalName} {body : FunctionBody} {k : ℕ} → IsFunction functions (declare s (name ∷ [])) body k
        → IsKind functions s (stat.LocalFunction name body) (code-stat.LocalFunction name k) (declare s (name ∷ []))
    local : {s : Scope} {names : List LocalName} {values : List tree-exp.Exp} {cs : List Exp}
        → IsExps functions s values cs → IsKind functions s (stat.Local names values) (code-stat.Local names cs) (declare s names)

  -- the parts of statements

  pub data IsVar (functions : List Function) : Scope → tree-var.Var → Var → Type 0 where
    name_var : {s : Scope} {name : List ℕ} {v : Variable} → IsVariable name s v → IsVar functions s (var.Name name) (code-var.Name name v)
    index_var : {s : Scope} {p : tree-prefix.Prefix} {q : Prefix} {key : tree-exp.Exp} {c : Exp}
        → IsPrefix functions s p q → IsExp functions s key c → IsVar functions s (var.Index p key) (code-var.Index q c)
    field_var : {s : Scope} {p : tree-prefix.Prefix} {q : Prefix} {name : List ℕ}
        → IsPrefix functions s p q → IsVar functions s (var.Field p name) (code-var.Field q name)

  pub data IsVars (functions : List Function) : Scope → List tree-var.Var → List Var → Type 0 where
    no_vars : {s : Scope} → IsVars functions s [] []
    next_var : {s : Scope} {x : tree-var.Var} {c : Var} {xs : List tree-var.Var} {cs : List Var}
        → IsVar functions s x c → IsVars functions s xs cs → IsVars functions s (x ∷ xs) (c ∷ cs)

  pub data IsArms (functions : List Function) : Scope → List tree-arm.IfArm → List IfArm → Type 0 where
    no_arms : {s : Scope} → IsArms functions s [] []
    next_arm : {s after : Scope} {a : tree-arm.IfArm} {c : IfArm} {rest : List tree-arm.IfArm} {cs : List IfArm}
        → IsExp functions s (tree-arm.out-IfArm a).condition (out-IfArm c).condition
        → IsBlock functions s (tree-arm.out-IfArm a).block (out-IfArm c).block after → IsArms functions s rest cs → IsArms functions s (a ∷ rest) (c ∷ cs)

  pub data IsElse (functions : List Function) : Scope → Option tree-block.Block → Option Block → Type 0 where
    no_else : {s : Scope} → IsElse functions s None None
    else_block : {s after : Scope} {b : tree-block.Block} {c : Block} → IsBlock functions s b c after → IsElse functions s (Some b) (Some c)

  pub data IsStep (functions : List Function) : Scope → Option tree-exp.Exp → Option Exp → Type 0 where
    no_step : {s : Scope} → IsStep functions s None None
    step : {s : Scope} {e : tree-exp.Exp} {c : Exp} → IsExp functions s e c → IsStep functions s (Some e) (Some c)

pub record HasCode (chunk : Chunk) (code : Code) : Type 0 where
  pub after : Scope
  pub is : IsBlock code.functions outermost chunk.block code.block after
