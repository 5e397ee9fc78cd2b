-- The grammar of scripts: which words spell which tree (Lua 5.3 Reference Manual, sections 3.3, 3.4 and 9).
-- Most rules read `IsPhrase place tree words rest`: the words begin with a phrase that has this tree, and the rest comes after it. The place is that of
-- the words which the rule itself names; where a rule puts some of them deeper, it says `within`. The comment before each rule is the grammar that it
-- represents: `{a}` is any number of a, and `[a]` is a or nothing. Unlike Lua's, it has no `goto` and labels, no `...`, no methods, no calls of a text or
-- a table without parentheses, no `/` and no `^`.
-- The nesting of a word is the number of blocks, bodies of functions, tables, parts in `( )` or `[ ]` with their brackets, operands of unary operators and
-- right operands of binary operators that hold it. The parameters of a body are one such part. The script's own block is not counted.
--     Accepts words chunk    the words are a script with this tree, in which no word lies too deep and each `break` stands in a loop of its function
use Rattle.std.specs.Prelude.{◌≡◌, ◌≤◌, ℕ, ◌+◌, Bool, true, false, List, [], ◌∷◌, ◌++◌, map, ℤ, Option, None, Some}
use Rattle.std.specs.List.{AllByRecursion}
use Rattle.ntx_syntax.specs.declared.tree.Chunk.{Chunk}
use Rattle.ntx_syntax.specs.declared.tree.Block.{Block, roll-Block}
use Rattle.ntx_syntax.specs.declared.tree.Return.{Return}
use Rattle.ntx_syntax.specs.declared.tree.Stat.{Stat}
use Rattle.ntx_syntax.specs.declared.tree.StatKind.{StatKind}
use Rattle.ntx_syntax.specs.declared.tree.StatKind.TheVariants as stat
use Rattle.ntx_syntax.specs.declared.tree.IfArm.{IfArm, roll-IfArm}
use Rattle.ntx_syntax.specs.declared.tree.FunctionBody.{FunctionBody, roll-FunctionBody}
use Rattle.ntx_syntax.specs.declared.tree.LocalName.{LocalName}
use Rattle.ntx_syntax.specs.declared.tree.Var.{Var}
use Rattle.ntx_syntax.specs.declared.tree.Var.TheVariants as var
use Rattle.ntx_syntax.specs.declared.tree.Call.{Call}
use Rattle.ntx_syntax.specs.declared.tree.Prefix.{Prefix}
use Rattle.ntx_syntax.specs.declared.tree.Head.TheVariants as head
use Rattle.ntx_syntax.specs.declared.tree.Suffix.{Suffix}
use Rattle.ntx_syntax.specs.declared.tree.Suffix.TheVariants as suffix
use Rattle.ntx_syntax.specs.declared.tree.Exp.{Exp}
use Rattle.ntx_syntax.specs.declared.tree.Exp.TheVariants as exp
use Rattle.ntx_syntax.specs.declared.tree.Operation.{Operation}
use Rattle.ntx_syntax.specs.declared.tree.Field.{Field}
use Rattle.ntx_syntax.specs.declared.tree.Field.TheVariants as field
use Rattle.ntx_syntax.specs.declared.tree.BinaryOp.{BinaryOp}
use Rattle.ntx_syntax.specs.declared.tree.BinaryOp.TheVariants as binary
use Rattle.ntx_syntax.specs.declared.tree.UnaryOp.{UnaryOp}
use Rattle.ntx_syntax.specs.declared.tree.UnaryOp.TheVariants as unary
use Rattle.ntx_syntax.specs.Values.{numeral_value, text_value}
use Rattle.ntx_parse.specs.declared.place.Place.{Place}
use Rattle.ntx_parse.specs.declared.precedence.Precedence.{Precedence}
use Rattle.ntx_parse.specs.declared.precedence.Precedence.TheVariants as precedence
use Rattle.ntx_syntax.specs.declared.terminal.Terminal.{Terminal}
use Rattle.ntx_syntax.specs.declared.terminal.Terminal.TheVariants as terminal
use Rattle.ntx_parse.specs.Words.{Word}

-- ---- places

-- A script's own block is not counted.
abbrev pub outermost : Place
outermost = record { nesting = 0; in_loop = false }

-- in a part that is counted: a block, a function's body, a table, a part in `( )` or `[ ]` with its brackets, an operand after an operator
abbrev pub within : Place → Place
within p = record { nesting = p.nesting + 1; in_loop = p.in_loop }

-- in the block of a loop, and in that of a function
abbrev pub within_loop : Place → Place
within_loop p = record { nesting = p.nesting + 1; in_loop = true }

abbrev pub within_function : Place → Place
within_function p = record { nesting = p.nesting + 1; in_loop = false }

-- A word at its place.
pub record Placed : Type 0 where
  pub word : Word
  pub place : Place

-- The word is this, and stands at this place.
pub record Is (p : Place) (t : Terminal) (o : Placed) : Type 0 where
  pub is : o.word.is ≡ t
  pub place : o.place ≡ p

-- The words do not begin with this.
abbrev pub NotBefore : Terminal → List Placed → Type 0
NotBefore t words = (o : Placed) (others : List Placed) → words ≡ o ∷ others → o.word.is ≡ t → ⊥

abbrev pub local_name : Placed → LocalName
local_name o = record { name = o.word.spelled; line = o.word.line }

-- ---- operators

abbrev pub binary_precedence : BinaryOp → Precedence
binary_precedence binary.Or = precedence.Or
binary_precedence binary.And = precedence.And
binary_precedence binary.Less = precedence.Comparison
binary_precedence binary.Greater = precedence.Comparison
binary_precedence binary.LessEqual = precedence.Comparison
binary_precedence binary.GreaterEqual = precedence.Comparison
binary_precedence binary.NotEqual = precedence.Comparison
binary_precedence binary.Equal = precedence.Comparison
binary_precedence binary.BitOr = precedence.BitOr
binary_precedence binary.BitXor = precedence.BitXor
binary_precedence binary.BitAnd = precedence.BitAnd
binary_precedence binary.ShiftLeft = precedence.Shift
binary_precedence binary.ShiftRight = precedence.Shift
binary_precedence binary.Concat = precedence.Concat
binary_precedence binary.Add = precedence.Additive
binary_precedence binary.Subtract = precedence.Additive
binary_precedence binary.Multiply = precedence.Multiplicative
binary_precedence binary.FloorDivide = precedence.Multiplicative
binary_precedence binary.Modulo = precedence.Multiplicative

abbrev pub binary_terminal : BinaryOp → Terminal
binary_terminal binary.Or = terminal.Or
binary_terminal binary.And = terminal.And
binary_terminal binary.Less = terminal.Less
binary_terminal binary.Greater = terminal.Greater
binary_terminal binary.LessEqual = terminal.LessEqual
binary_terminal binary.GreaterEqual = terminal.GreaterEqual
binary_terminal binary.NotEqual = terminal.NotEqual
binary_terminal binary.Equal = terminal.Equal
binary_terminal binary.BitOr = terminal.Bar
binary_terminal binary.BitXor = terminal.Tilde
binary_terminal binary.BitAnd = terminal.Ampersand
binary_terminal binary.ShiftLeft = terminal.ShiftLeft
binary_terminal binary.ShiftRight = terminal.ShiftRight
binary_terminal binary.Concat = terminal.DoubleDot
binary_terminal binary.Add = terminal.Plus
binary_terminal binary.Subtract = terminal.Minus
binary_terminal binary.Multiply = terminal.Star
binary_terminal binary.FloorDivide = terminal.DoubleSlash
binary_terminal binary.Modulo = terminal.Percent

abbrev pub unary_terminal : UnaryOp → Terminal
unary_terminal unary.Not = terminal.Not
unary_terminal unary.Length = terminal.Hash
unary_terminal unary.Minus = terminal.Minus
unary_terminal unary.BitNot = terminal.Tilde

-- the next tighter precedence (Lua 5.3 Reference Manual, section 3.4.8); the tightest gives itself
abbrev pub tighter : Precedence → Precedence
tighter precedence.Or = precedence.And
tighter precedence.And = precedence.Comparison
tighter precedence.Comparison = precedence.BitOr
tighter precedence.BitOr = precedence.BitXor
tighter precedence.BitXor = precedence.BitAnd
tighter precedence.BitAnd = precedence.Shift
tighter precedence.Shift = precedence.Concat
tighter precedence.Concat = precedence.Additive
tighter precedence.Additive = precedence.Multiplicative
tighter precedence.Multiplicative = precedence.Unary
tighter precedence.Unary = precedence.Unary

-- The binary operators of this precedence associate to the left. None is as tight as the unary ones.
abbrev pub associates_left : Precedence → Bool
associates_left precedence.Concat = false
associates_left precedence.Unary = false
associates_left _ = true

-- ---- parts of trees

-- The tree of a run. An operand without operators is its own tree.
abbrev pub run_of : Exp → List Operation → Exp
run_of first [] = first
run_of first (o ∷ operations) = exp.Binary first (o ∷ operations)

abbrev pub with_suffix : Prefix → Suffix → Prefix
with_suffix prefix s = record { head = prefix.head; suffixes = prefix.suffixes ++ s ∷ [] }

-- ---- phrases

-- [;]
pub data IsSemicolon : Place → List Placed → List Placed → Type 0 where
  no_semicolon : {p : Place} {rest : List Placed} → IsSemicolon p rest rest
  semicolon : {p : Place} {o : Placed} {rest : List Placed} → Is p terminal.Semicolon o → IsSemicolon p (o ∷ rest) rest

-- {. Name}
pub data IsPath : Place → List (List ℕ) → List Placed → List Placed → Type 0 where
  no_path : {p : Place} {rest : List Placed} → IsPath p [] rest rest
  more_path : {p : Place} {d n : Placed} {fields : List (List ℕ)} {words rest : List Placed}
      → Is p terminal.Dot d → Is p terminal.Name n → IsPath p fields words rest → IsPath p (n.word.spelled ∷ fields) (d ∷ n ∷ words) rest

-- namelist = Name {, Name}
pub data IsNames : Place → List LocalName → List Placed → List Placed → Type 0 where
  one_name : {p : Place} {n : Placed} {rest : List Placed} → Is p terminal.Name n → IsNames p (local_name n ∷ []) (n ∷ rest) rest
  more_names : {p : Place} {n c : Placed} {names : List LocalName} {words rest : List Placed}
      → Is p terminal.Name n → Is p terminal.Comma c → IsNames p names words rest → IsNames p (local_name n ∷ names) (n ∷ c ∷ words) rest

-- [namelist]
pub data IsParameters : Place → List LocalName → List Placed → List Placed → Type 0 where
  no_parameters : {p : Place} {rest : List Placed} → IsParameters p [] rest rest
  parameters : {p : Place} {names : List LocalName} {words rest : List Placed}
      → IsNames p names words rest → IsParameters p names words rest

-- , or ;
pub data IsSeparator : Place → Placed → Type 0 where
  comma : {p : Place} {o : Placed} → Is p terminal.Comma o → IsSeparator p o
  semicolon_separator : {p : Place} {o : Placed} → Is p terminal.Semicolon o → IsSeparator p o

mutual
  -- block = {stat} [return [explist] [;]]
  pub data IsBlock : Place → Block → List Placed → List Placed → Type 0 where
    block : {p : Place} {stats : List Stat} {last : Option Return} {words middle rest : List Placed}
        → IsStats p stats words middle → IsLast p last middle rest → IsBlock p (roll-Block (record { stats = stats; last = last })) words rest

  pub data IsStats : Place → List Stat → List Placed → List Placed → Type 0 where
    no_stats : {p : Place} {rest : List Placed} → IsStats p [] rest rest
    more_stats : {p : Place} {s : Stat} {stats : List Stat} {words middle rest : List Placed}
        → IsStat p s words middle → IsStats p stats middle rest → IsStats p (s ∷ stats) words rest

  pub data IsLast : Place → Option Return → List Placed → List Placed → Type 0 where
    no_return : {p : Place} {rest : List Placed} → IsLast p None rest rest
    last_return : {p : Place} {o : Placed} {values : List Exp} {words middle rest : List Placed}
        → Is p terminal.Return o → IsReturned p values words middle → IsSemicolon p middle rest
        → IsLast p (Some (record { line = o.word.line; values = values })) (o ∷ words) rest

  pub data IsReturned : Place → List Exp → List Placed → List Placed → Type 0 where
    returns_nothing : {p : Place} {rest : List Placed} → IsReturned p [] rest rest
    returns : {p : Place} {values : List Exp} {words rest : List Placed} → IsExps p values words rest → IsReturned p values words rest

  -- A statement has the line of its first word.
  pub data IsStat : Place → Stat → List Placed → List Placed → Type 0 where
    statement : {p : Place} {kind : StatKind} {o : Placed} {words rest : List Placed}
        → IsKind p kind (o ∷ words) rest → IsStat p (record { line = o.word.line; kind = kind }) (o ∷ words) rest

  pub data IsKind : Place → StatKind → List Placed → List Placed → Type 0 where
    -- ;
    empty : {p : Place} {o : Placed} {rest : List Placed} → Is p terminal.Semicolon o → IsKind p stat.Empty (o ∷ rest) rest
    -- varlist = explist
    assignment : {p : Place} {o : Placed} {vars : List Var} {values : List Exp} {words middle rest : List Placed}
        → IsVars p vars words (o ∷ middle) → Is p terminal.Assign o → IsExps p values middle rest → IsKind p (stat.Assign vars values) words rest
    -- call, after which no parenthesis opens: it would begin the arguments of a further call (section 3.3.1)
    called : {p : Place} {call : Call} {words rest : List Placed}
        → IsCall p call words rest → NotBefore terminal.LeftParenthesis rest → IsKind p (stat.Call call) words rest
    -- break
    break : {p : Place} {o : Placed} {rest : List Placed} → Is p terminal.Break o → IsKind p stat.Break (o ∷ rest) rest
    -- do block end
    do_end : {p : Place} {o e : Placed} {body : Block} {words rest : List Placed}
        → Is p terminal.Do o → IsBlock (within p) body words (e ∷ rest) → Is p terminal.End e → IsKind p (stat.Do body) (o ∷ words) rest
    -- while exp do block end
    while_do : {p : Place} {o d e : Placed} {condition : Exp} {body : Block} {words middle rest : List Placed}
        → Is p terminal.While o → IsExp p precedence.Or condition words (d ∷ middle) → Is p terminal.Do d
        → IsBlock (within_loop p) body middle (e ∷ rest) → Is p terminal.End e → IsKind p (stat.While condition body) (o ∷ words) rest
    -- repeat block until exp
    repeat_until : {p : Place} {o u : Placed} {body : Block} {condition : Exp} {words middle rest : List Placed}
        → Is p terminal.Repeat o → IsBlock (within_loop p) body words (u ∷ middle) → Is p terminal.Until u
        → IsExp p precedence.Or condition middle rest → IsKind p (stat.Repeat body condition) (o ∷ words) rest
    -- if exp then block {elseif exp then block} [else block] end
    if_then : {p : Place} {e : Placed} {first : IfArm} {arms : List IfArm} {other : Option Block} {words behind_first behind_arms rest : List Placed}
        → IsArm p terminal.If first words behind_first → IsArms p arms behind_first behind_arms → IsElse p other behind_arms (e ∷ rest)
        → Is p terminal.End e → IsKind p (stat.If (first ∷ arms) other) words rest
    -- for Name = exp , exp [, exp] do block end
    numeric_for : {p : Place} {f n a c d e : Placed} {first limit : Exp} {step : Option Exp} {body : Block}
        {words behind_first behind_limit behind_step rest : List Placed}
        → Is p terminal.For f → Is p terminal.Name n → Is p terminal.Assign a → IsExp p precedence.Or first words (c ∷ behind_first)
        → Is p terminal.Comma c → IsExp p precedence.Or limit behind_first behind_limit → IsStep p step behind_limit (d ∷ behind_step)
        → Is p terminal.Do d → IsBlock (within_loop p) body behind_step (e ∷ rest) → Is p terminal.End e
        → IsKind p (stat.NumericFor (local_name n) first limit step body) (f ∷ n ∷ a ∷ words) rest
    -- for namelist in explist do block end
    generic_for : {p : Place} {f i d e : Placed} {names : List LocalName} {values : List Exp} {body : Block}
        {words behind_names behind_values rest : List Placed}
        → Is p terminal.For f → IsNames p names words (i ∷ behind_names) → Is p terminal.In i
        → IsExps p values behind_names (d ∷ behind_values) → Is p terminal.Do d → IsBlock (within_loop p) body behind_values (e ∷ rest)
        → Is p terminal.End e → IsKind p (stat.GenericFor names values body) (f ∷ words) rest
    -- function Name {. Name} body
    function : {p : Place} {f n : Placed} {fields : List (List ℕ)} {body : FunctionBody} {words middle rest : List Placed}
        → Is p terminal.Function f → Is p terminal.Name n → IsPath p fields words middle → IsBody (within p) body middle rest
        → IsKind p (stat.Function n.word.spelled fields body) (f ∷ n ∷ words) rest
    -- local function Name body
    local_function : {p : Place} {l f n : Placed} {body : FunctionBody} {words rest : List Placed}
        → Is p terminal.Local l → Is p terminal.Function f → Is p terminal.Name n → IsBody (within p) body words rest
        → IsKind p (stat.LocalFunction (local_name n) body) (l ∷ f ∷ n ∷ words) rest
    -- local namelist [= explist]
    locals : {p : Place} {l : Placed} {names : List LocalName} {values : List Exp} {words middle rest : List Placed}
        → Is p terminal.Local l → IsNames p names words middle → IsValues p values middle rest
        → IsKind p (stat.Local names values) (l ∷ words) rest

  -- exp then block, after the word that begins it, which is `if` or `elseif`
  pub data IsArm : Place → Terminal → IfArm → List Placed → List Placed → Type 0 where
    arm : {p : Place} {begins : Terminal} {o t : Placed} {condition : Exp} {body : Block} {words middle rest : List Placed}
        → Is p begins o → IsExp p precedence.Or condition words (t ∷ middle) → Is p terminal.Then t → IsBlock (within p) body middle rest
        → IsArm p begins (roll-IfArm (record { condition = condition; block = body })) (o ∷ words) rest

  -- {elseif exp then block}
  pub data IsArms : Place → List IfArm → List Placed → List Placed → Type 0 where
    no_arms : {p : Place} {rest : List Placed} → IsArms p [] rest rest
    more_arms : {p : Place} {first : IfArm} {arms : List IfArm} {words middle rest : List Placed}
        → IsArm p terminal.Elseif first words middle → IsArms p arms middle rest → IsArms p (first ∷ arms) words rest

  -- [else block]
  pub data IsElse : Place → Option Block → List Placed → List Placed → Type 0 where
    no_else : {p : Place} {rest : List Placed} → IsElse p None rest rest
    else : {p : Place} {o : Placed} {body : Block} {words rest : List Placed}
        → Is p terminal.Else o → IsBlock (within p) body words rest → IsElse p (Some body) (o ∷ words) rest

  -- [, exp]
  pub data IsStep : Place → Option Exp → List Placed → List Placed → Type 0 where
    no_step : {p : Place} {rest : List Placed} → IsStep p None rest rest
    step : {p : Place} {c : Placed} {value : Exp} {words rest : List Placed}
        → Is p terminal.Comma c → IsExp p precedence.Or value words rest → IsStep p (Some value) (c ∷ words) rest

  -- [= explist]
  pub data IsValues : Place → List Exp → List Placed → List Placed → Type 0 where
    no_values : {p : Place} {rest : List Placed} → IsValues p [] rest rest
    values : {p : Place} {a : Placed} {all : List Exp} {words rest : List Placed}
        → Is p terminal.Assign a → IsExps p all words rest → IsValues p all (a ∷ words) rest

  -- explist = exp {, exp}
  pub data IsExps : Place → List Exp → List Placed → List Placed → Type 0 where
    one_exp : {p : Place} {e : Exp} {words rest : List Placed} → IsExp p precedence.Or e words rest → IsExps p (e ∷ []) words rest
    more_exps : {p : Place} {c : Placed} {e : Exp} {exps : List Exp} {words middle rest : List Placed}
        → IsExp p precedence.Or e words (c ∷ middle) → Is p terminal.Comma c → IsExps p exps middle rest → IsExps p (e ∷ exps) words rest

  -- varlist = var {, var}
  pub data IsVars : Place → List Var → List Placed → List Placed → Type 0 where
    one_var : {p : Place} {v : Var} {words rest : List Placed} → IsVar p v words rest → IsVars p (v ∷ []) words rest
    more_vars : {p : Place} {c : Placed} {v : Var} {vars : List Var} {words middle rest : List Placed}
        → IsVar p v words (c ∷ middle) → Is p terminal.Comma c → IsVars p vars middle rest → IsVars p (v ∷ vars) words rest

  -- body = ( [namelist] ) block end, at the place of the body, which is counted already. The part in parentheses and the block are each one deeper.
  pub data IsBody : Place → FunctionBody → List Placed → List Placed → Type 0 where
    body : {p : Place} {o c e : Placed} {parameters : List LocalName} {block : Block} {words middle rest : List Placed}
        → Is (within p) terminal.LeftParenthesis o → IsParameters (within p) parameters words (c ∷ middle)
        → Is (within p) terminal.RightParenthesis c → IsBlock (within_function p) block middle (e ∷ rest) → Is p terminal.End e
        → IsBody p (roll-FunctionBody (record { parameters = parameters; block = block })) (o ∷ words) rest

  -- var = Name | prefix [ exp ] | prefix . Name
  pub data IsVar : Place → Var → List Placed → List Placed → Type 0 where
    name_var : {p : Place} {n : Placed} {rest : List Placed} → Is p terminal.Name n → IsVar p (var.Name n.word.spelled) (n ∷ rest) rest
    index_var : {p : Place} {prefix : Prefix} {key : Exp} {words middle rest : List Placed}
        → IsPrefix p prefix words middle → IsIndex (within p) key middle rest → IsVar p (var.Index prefix key) words rest
    field_var : {p : Place} {d n : Placed} {prefix : Prefix} {words rest : List Placed}
        → IsPrefix p prefix words (d ∷ n ∷ rest) → Is p terminal.Dot d → Is p terminal.Name n
        → IsVar p (var.Field prefix n.word.spelled) words rest

  -- prefix = var | call | ( exp )
  pub data IsPrefix : Place → Prefix → List Placed → List Placed → Type 0 where
    name_prefix : {p : Place} {n : Placed} {rest : List Placed}
        → Is p terminal.Name n → IsPrefix p (record { head = head.Name n.word.spelled; suffixes = [] }) (n ∷ rest) rest
    index_prefix : {p : Place} {prefix : Prefix} {key : Exp} {words middle rest : List Placed}
        → IsPrefix p prefix words middle → IsIndex (within p) key middle rest → IsPrefix p (with_suffix prefix (suffix.Index key)) words rest
    field_prefix : {p : Place} {d n : Placed} {prefix : Prefix} {words rest : List Placed}
        → IsPrefix p prefix words (d ∷ n ∷ rest) → Is p terminal.Dot d → Is p terminal.Name n
        → IsPrefix p (with_suffix prefix (suffix.Field n.word.spelled)) words rest
    call_prefix : {p : Place} {prefix : Prefix} {arguments : List Exp} {words middle rest : List Placed}
        → IsPrefix p prefix words middle → IsArguments (within p) arguments middle rest
        → IsPrefix p (with_suffix prefix (suffix.Call arguments)) words rest
    parenthesized : {p : Place} {o c : Placed} {e : Exp} {words rest : List Placed}
        → Is (within p) terminal.LeftParenthesis o → IsExp (within p) precedence.Or e words (c ∷ rest) → Is (within p) terminal.RightParenthesis c
        → IsPrefix p (record { head = head.Parenthesized e; suffixes = [] }) (o ∷ words) rest

  -- [ exp ], at the place of this part, which is counted already
  pub data IsIndex : Place → Exp → List Placed → List Placed → Type 0 where
    index : {p : Place} {o c : Placed} {key : Exp} {words rest : List Placed}
        → Is p terminal.LeftBracket o → IsExp p precedence.Or key words (c ∷ rest) → Is p terminal.RightBracket c → IsIndex p key (o ∷ words) rest

  -- call = prefix ( [explist] )
  pub data IsCall : Place → Call → List Placed → List Placed → Type 0 where
    call : {p : Place} {prefix : Prefix} {arguments : List Exp} {words middle rest : List Placed}
        → IsPrefix p prefix words middle → IsArguments (within p) arguments middle rest
        → IsCall p (record { function = prefix; arguments = arguments }) words rest

  -- ( [explist] ), at the place of this part, which is counted already
  pub data IsArguments : Place → List Exp → List Placed → List Placed → Type 0 where
    no_arguments : {p : Place} {o c : Placed} {rest : List Placed}
        → Is p terminal.LeftParenthesis o → Is p terminal.RightParenthesis c → IsArguments p [] (o ∷ c ∷ rest) rest
    arguments : {p : Place} {o c : Placed} {all : List Exp} {words rest : List Placed}
        → Is p terminal.LeftParenthesis o → IsExps p all words (c ∷ rest) → Is p terminal.RightParenthesis c → IsArguments p all (o ∷ words) rest

  -- exp = exp binop exp | unop exp | simple, whose own operators bind as tight as this precedence or tighter. Those in its parenthesized parts,
  -- arguments, keys, tables and bodies of functions are not its own.
  pub data IsExp : Place → Precedence → Exp → List Placed → List Placed → Type 0 where
    -- operators that associate to the left
    operations : {p : Place} {at : Precedence} {first : Exp} {others : List Operation} {words rest : List Placed}
        → associates_left at ≡ true → IsRun p at first others words rest → IsExp p at (run_of first others) words rest
    -- exp .. exp
    concatenation : {p : Place} {at : Precedence} {o : Placed} {left right : Exp} {words middle rest : List Placed}
        → at ≡ precedence.Concat → IsExp p (tighter at) left words (o ∷ middle) → Is p terminal.DoubleDot o → IsExp (within p) at right middle rest
        → IsExp p at (exp.Binary left (record { operator = binary.Concat; operand = right } ∷ [])) words rest
    no_concatenation : {p : Place} {at : Precedence} {e : Exp} {words rest : List Placed}
        → at ≡ precedence.Concat → IsExp p (tighter at) e words rest → IsExp p at e words rest
    -- unop exp
    operator : {p : Place} {at : Precedence} {o : Placed} {op : UnaryOp} {e : Exp} {words rest : List Placed}
        → at ≡ precedence.Unary → Is p (unary_terminal op) o → IsExp (within p) at e words rest → IsExp p at (exp.Unary op e) (o ∷ words) rest
    simple : {p : Place} {at : Precedence} {e : Exp} {words rest : List Placed}
        → at ≡ precedence.Unary → IsSimple p e words rest → IsExp p at e words rest

  -- exp {binop exp}, with operators of this precedence between operands that bind tighter
  pub data IsRun : Place → Precedence → Exp → List Operation → List Placed → List Placed → Type 0 where
    first_operand : {p : Place} {at : Precedence} {first : Exp} {words rest : List Placed}
        → IsExp p (tighter at) first words rest → IsRun p at first [] words rest
    more_operands : {p : Place} {at : Precedence} {o : Placed} (op : BinaryOp) {first operand : Exp} {others : List Operation} {words middle rest : List Placed}
        → IsRun p at first others words (o ∷ middle) → binary_precedence op ≡ at → Is p (binary_terminal op) o
        → IsExp (within p) (tighter at) operand middle rest
        → IsRun p at first (others ++ record { operator = op; operand = operand } ∷ []) words rest

  -- simple = nil | false | true | Numeral | Text | function body | prefix | table
  pub data IsSimple : Place → Exp → List Placed → List Placed → Type 0 where
    nil : {p : Place} {o : Placed} {rest : List Placed} → Is p terminal.Nil o → IsSimple p exp.Nil (o ∷ rest) rest
    false_ : {p : Place} {o : Placed} {rest : List Placed} → Is p terminal.False o → IsSimple p exp.False (o ∷ rest) rest
    true_ : {p : Place} {o : Placed} {rest : List Placed} → Is p terminal.True o → IsSimple p exp.True (o ∷ rest) rest
    numeral : {p : Place} {o : Placed} {value : ℤ} {rest : List Placed}
        → Is p terminal.Numeral o → numeral_value o.word.spelled ≡ Some value → IsSimple p (exp.Numeral value) (o ∷ rest) rest
    text : {p : Place} {o : Placed} {value : List ℕ} {rest : List Placed}
        → Is p terminal.Text o → text_value o.word.spelled ≡ Some value → IsSimple p (exp.Text value) (o ∷ rest) rest
    function_exp : {p : Place} {f : Placed} {body : FunctionBody} {words rest : List Placed}
        → Is p terminal.Function f → IsBody (within p) body words rest → IsSimple p (exp.Function body) (f ∷ words) rest
    -- prefix, after which no parenthesis opens: it would begin the arguments of a call (section 3.3.1)
    prefix_exp : {p : Place} {prefix : Prefix} {words rest : List Placed}
        → IsPrefix p prefix words rest → NotBefore terminal.LeftParenthesis rest → IsSimple p (exp.Prefix prefix) words rest
    -- table = { [field {(,|;) field} [,|;]] }
    table : {p : Place} {o c : Placed} {fields : List Field} {words rest : List Placed}
        → Is (within p) terminal.LeftBrace o → IsFields (within p) fields words (c ∷ rest) → Is (within p) terminal.RightBrace c
        → IsSimple p (exp.Table fields) (o ∷ words) rest

  pub data IsFields : Place → List Field → List Placed → List Placed → Type 0 where
    no_fields : {p : Place} {rest : List Placed} → IsFields p [] rest rest
    last_field : {p : Place} {f : Field} {words rest : List Placed} → IsField p f words rest → IsFields p (f ∷ []) words rest
    more_fields : {p : Place} {s : Placed} {f : Field} {fields : List Field} {words middle rest : List Placed}
        → IsField p f words (s ∷ middle) → IsSeparator p s → IsFields p fields middle rest → IsFields p (f ∷ fields) words rest

  -- field = [ exp ] = exp | Name = exp | exp
  pub data IsField : Place → Field → List Placed → List Placed → Type 0 where
    keyed : {p : Place} {a : Placed} {key value : Exp} {words middle rest : List Placed}
        → IsIndex (within p) key words (a ∷ middle) → Is p terminal.Assign a → IsExp p precedence.Or value middle rest
        → IsField p (field.Keyed key value) words rest
    named_field : {p : Place} {n a : Placed} {value : Exp} {words rest : List Placed}
        → Is p terminal.Name n → Is p terminal.Assign a → IsExp p precedence.Or value words rest
        → IsField p (field.Named n.word.spelled value) (n ∷ a ∷ words) rest
    positional : {p : Place} {value : Exp} {words rest : List Placed} → IsExp p precedence.Or value words rest → IsField p (field.Positional value) words rest

-- ---- scripts

-- The words, each at its place, are a script with this tree.
abbrev pub IsChunk : Chunk → List Placed → Type 0
IsChunk chunk words = IsBlock outermost chunk.block words []

-- the greatest nesting that a word of a script may have
abbrev pub max_nesting : ℕ
max_nesting = 200

-- The word does not lie too deep, and if it is `break`, it stands in a loop of its own function.
pub record IsAllowed (o : Placed) : Type 0 where
  pub nesting : o.place.nesting ≤ max_nesting
  pub in_loop : o.word.is ≡ terminal.Break → o.place.in_loop ≡ true

pub record Accepts (words : List Word) (chunk : Chunk) : Type 0 where
  pub placed : List Placed
  pub words_are : map (λ o. o.word) placed ≡ words
  pub derives : IsChunk chunk placed
  pub allowed : AllByRecursion IsAllowed placed
