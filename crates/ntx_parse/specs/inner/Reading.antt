-- How words are read from the left, one phrase after the other (Lua 5.3 Reference Manual, section 9): the tree of the phrase at their beginning and the
-- words that are left, or the word at which the reading stops and why. `readers n` reads with calls that lie n deep at most, and tells nothing where
-- that is too few.
use Rattle.std.specs.Prelude.{ℕ, zero, suc, nat_le, Bool, true, false, ◌||◌, ◌&&◌, List, [], ◌∷◌, ◌++◌, Option, None, Some, Result, Ok, Err, if◌then◌else◌}
use denote.Enum.Bare.{sameb}
use Rattle.ntx_syntax.specs.declared.fault.SyntaxWhy.{SyntaxWhy}
use Rattle.ntx_syntax.specs.declared.fault.SyntaxWhy.TheVariants as why
use Rattle.ntx_syntax.specs.declared.tree.Block.{Block, roll-Block}
use Rattle.ntx_syntax.specs.declared.tree.Return.{Return}
use Rattle.ntx_syntax.specs.declared.tree.Stat.{Stat}
use Rattle.ntx_syntax.specs.declared.tree.StatKind.{StatKind}
use Rattle.ntx_syntax.specs.declared.tree.StatKind.TheVariants as stat
use Rattle.ntx_syntax.specs.declared.tree.IfArm.{IfArm, roll-IfArm}
use Rattle.ntx_syntax.specs.declared.tree.FunctionBody.{FunctionBody, roll-FunctionBody}
use Rattle.ntx_syntax.specs.declared.tree.LocalName.{LocalName}
use Rattle.ntx_syntax.specs.declared.tree.Var.{Var}
use Rattle.ntx_syntax.specs.declared.tree.Var.TheVariants as var
use Rattle.ntx_syntax.specs.declared.tree.Prefix.{Prefix}
use Rattle.ntx_syntax.specs.declared.tree.Head.TheVariants as head
use Rattle.ntx_syntax.specs.declared.tree.Suffix.TheVariants as suffix
use Rattle.ntx_syntax.specs.declared.tree.Exp.{Exp}
use Rattle.ntx_syntax.specs.declared.tree.Exp.TheVariants as exp
use Rattle.ntx_syntax.specs.declared.tree.Operation.{Operation}
use Rattle.ntx_syntax.specs.declared.tree.Field.{Field}
use Rattle.ntx_syntax.specs.declared.tree.Field.TheVariants as field
use Rattle.ntx_syntax.specs.declared.tree.BinaryOp.{BinaryOp}
use Rattle.ntx_syntax.specs.declared.tree.BinaryOp.TheVariants as binary
use Rattle.ntx_syntax.specs.declared.tree.UnaryOp.{UnaryOp}
use Rattle.ntx_syntax.specs.declared.tree.UnaryOp.TheVariants as unary
use Rattle.ntx_syntax.specs.Terminals.{same_terminal}
use Rattle.ntx_syntax.specs.Values.{numeral_value, text_value}
use Rattle.ntx_parse.specs.contracts.precedence.Precedence.{the_type}
use Rattle.ntx_parse.specs.declared.part.Part.{Part}
use Rattle.ntx_parse.specs.declared.part.Part.TheVariants as part
use Rattle.ntx_parse.specs.declared.place.Place.{Place}
use Rattle.ntx_parse.specs.declared.precedence.Precedence.{Precedence}
use Rattle.ntx_parse.specs.declared.precedence.Precedence.TheVariants as precedence
use Rattle.ntx_syntax.specs.declared.terminal.Terminal.{Terminal}
use Rattle.ntx_syntax.specs.declared.terminal.Terminal.TheVariants as terminal
use Rattle.ntx_parse.specs.Words.{Word}
use Rattle.ntx_parse.specs.Grammar.{within, within_loop, within_function, outermost, tighter, binary_precedence, run_of, with_suffix, max_nesting}

-- ---- answers

-- Why a reading stops, and the words from there on.
pub record Stop : Type 0 where
  pub why : SyntaxWhy
  pub words : List Word

-- What is read and the words after it, or where the reading stops. Nothing where the calls lie too deep.
abbrev pub Answer : Type 0 → Type 0
Answer A = Option (Result (A × List Word) Stop)

abbrev pub read : {A : Type 0} → A → List Word → Answer A
read a words = Some (Ok (a, words))

abbrev pub stopped : {A : Type 0} → SyntaxWhy → List Word → Answer A
stopped reason words = Some (Err (record { why = reason; words = words }))

-- One reading, and after it another that knows what was read.
abbrev pub and_then : {A B : Type 0} → Answer A → (A → List Word → Answer B) → Answer B
and_then None next = None
and_then (Some (Err stop)) next = Some (Err stop)
and_then (Some (Ok found)) next = next found.0 found.1

-- ---- words

-- The words begin with this.
abbrev pub begins : Terminal → List Word → Bool
begins t [] = false
begins t (o ∷ words) = same_terminal o.is t

-- The first word is taken at this place, if it does not lie too deep there.
abbrev pub take_word : Place → List Word → Answer Word
take_word p [] = stopped why.Expected []
take_word p (o ∷ words) = if nat_le p.nesting max_nesting then read o words else stopped why.Depth (o ∷ words)

-- The same of a word that is to be this.
abbrev pub expect_word : Place → Terminal → List Word → Answer Word
expect_word p t words = if begins t words then take_word p words else stopped why.Expected words

abbrev pub local_of : Word → LocalName
local_of o = record { name = o.spelled; line = o.line }

-- ---- operators

abbrev pub binary_of : Terminal → Option BinaryOp
binary_of terminal.Or = Some binary.Or
binary_of terminal.And = Some binary.And
binary_of terminal.Less = Some binary.Less
binary_of terminal.Greater = Some binary.Greater
binary_of terminal.LessEqual = Some binary.LessEqual
binary_of terminal.GreaterEqual = Some binary.GreaterEqual
binary_of terminal.NotEqual = Some binary.NotEqual
binary_of terminal.Equal = Some binary.Equal
binary_of terminal.Bar = Some binary.BitOr
binary_of terminal.Tilde = Some binary.BitXor
binary_of terminal.Ampersand = Some binary.BitAnd
binary_of terminal.ShiftLeft = Some binary.ShiftLeft
binary_of terminal.ShiftRight = Some binary.ShiftRight
binary_of terminal.DoubleDot = Some binary.Concat
binary_of terminal.Plus = Some binary.Add
binary_of terminal.Minus = Some binary.Subtract
binary_of terminal.Star = Some binary.Multiply
binary_of terminal.DoubleSlash = Some binary.FloorDivide
binary_of terminal.Percent = Some binary.Modulo
binary_of _ = None

abbrev pub unary_of : Terminal → Option UnaryOp
unary_of terminal.Not = Some unary.Not
unary_of terminal.Hash = Some unary.Length
unary_of terminal.Minus = Some unary.Minus
unary_of terminal.Tilde = Some unary.BitNot
unary_of _ = None

-- `==` on precedences
abbrev pub same_precedence : Precedence → Precedence → Bool
same_precedence = sameb the_type

-- this operator, if it has this precedence
abbrev pub of_precedence : Precedence → Option BinaryOp → Option BinaryOp
of_precedence at None = None
of_precedence at (Some op) = if same_precedence (binary_precedence op) at then Some op else None

-- the operator of this precedence at the beginning
abbrev pub operator_at : Precedence → List Word → Option BinaryOp
operator_at at [] = None
operator_at at (o ∷ words) = of_precedence at (binary_of o.is)

abbrev pub sign_at : List Word → Option UnaryOp
sign_at [] = None
sign_at (o ∷ words) = unary_of o.is

-- ---- prefixes

abbrev pub joined : Part → Prefix
joined (part.Name name) = record { head = head.Name name; suffixes = [] }
joined (part.Parenthesized e) = record { head = head.Parenthesized e; suffixes = [] }
joined (part.Index before key) = with_suffix before (suffix.Index key)
joined (part.Field before name) = with_suffix before (suffix.Field name)
joined (part.Call before arguments) = with_suffix before (suffix.Call arguments)

-- what can be assigned to, if the prefix is that
abbrev pub var_of : Part → Option Var
var_of (part.Name name) = Some (var.Name name)
var_of (part.Parenthesized e) = None
var_of (part.Index before key) = Some (var.Index before key)
var_of (part.Field before name) = Some (var.Field before name)
var_of (part.Call before arguments) = None

-- ---- readers

-- One reading for each kind of phrase. A list is read after the parts of it that are read already.
pub record Readers : Type 0 where
  pub block : Place → List Word → Answer Block
  pub stats : Place → List Stat → List Word → Answer (List Stat)
  pub arms : Place → List IfArm → List Word → Answer (List IfArm)
  pub path : Place → List (List ℕ) → List Word → Answer (List (List ℕ))
  pub names : Place → List LocalName → List Word → Answer (List LocalName)
  pub exps : Place → List Exp → List Word → Answer (List Exp)
  pub vars : Place → List Var → List Word → Answer (List Var)
  pub suffixes : Place → Part → List Word → Answer Part
  pub exp : Place → Precedence → List Word → Answer Exp
  pub operations : Place → Precedence → List Operation → List Word → Answer (List Operation)
  pub fields : Place → List Field → List Word → Answer (List Field)

-- ---- names and lists

abbrev pub read_name : Place → List Word → Answer (List ℕ)
read_name p words = and_then (expect_word p terminal.Name words) (λ o rest. read o.spelled rest)

abbrev pub read_local_name : Place → List Word → Answer LocalName
read_local_name p words = and_then (expect_word p terminal.Name words) (λ o rest. read (local_of o) rest)

-- {. Name}
abbrev pub path_behind : Readers → Place → List (List ℕ) → List Word → Answer (List (List ℕ))
path_behind r p before words =
    if begins terminal.Dot words then
    and_then (take_word p words) (λ _ rest. and_then (read_name p rest) (λ name others. r.path p (before ++ name ∷ []) others))
    else read before words

-- {, Name}
abbrev pub names_behind : Readers → Place → List LocalName → List Word → Answer (List LocalName)
names_behind r p before words =
    if begins terminal.Comma words then
    and_then (take_word p words) (λ _ rest. and_then (read_local_name p rest) (λ name others. r.names p (before ++ name ∷ []) others))
    else read before words

abbrev pub read_names : Readers → Place → List Word → Answer (List LocalName)
read_names r p words = and_then (read_local_name p words) (λ name rest. r.names p (name ∷ []) rest)

-- {, exp}
abbrev pub exps_behind : Readers → Place → List Exp → List Word → Answer (List Exp)
exps_behind r p before words =
    if begins terminal.Comma words then
    and_then (take_word p words) (λ _ rest. and_then (r.exp p precedence.Or rest) (λ e others. r.exps p (before ++ e ∷ []) others))
    else read before words

abbrev pub read_exps : Readers → Place → List Word → Answer (List Exp)
read_exps r p words = and_then (r.exp p precedence.Or words) (λ e rest. r.exps p (e ∷ []) rest)

-- ---- prefixes

-- [ exp ]
abbrev pub read_index : Readers → Place → List Word → Answer Exp
read_index r p words =
    and_then (expect_word p terminal.LeftBracket words) (λ _ inside.
    and_then (r.exp p precedence.Or inside) (λ key behind.
    and_then (expect_word p terminal.RightBracket behind) (λ _ rest. read key rest)))

-- ( [explist] )
abbrev pub read_arguments : Readers → Place → List Word → Answer (List Exp)
read_arguments r p words =
    and_then (expect_word p terminal.LeftParenthesis words) (λ _ inside.
    if begins terminal.RightParenthesis inside then and_then (take_word p inside) (λ _ rest. read [] rest)
    else and_then (read_exps r p inside) (λ arguments behind.
    and_then (expect_word p terminal.RightParenthesis behind) (λ _ rest. read arguments rest)))

abbrev pub suffixes_behind : Readers → Place → Part → List Word → Answer Part
suffixes_behind r p before words =
    if begins terminal.LeftBracket words then
    and_then (read_index r (within p) words) (λ key rest. r.suffixes p (part.Index (joined before) key) rest)
    else if begins terminal.Dot words then
    and_then (take_word p words) (λ _ behind. and_then (read_name p behind) (λ name rest. r.suffixes p (part.Field (joined before) name) rest))
    else if begins terminal.LeftParenthesis words then
    and_then (read_arguments r (within p) words) (λ arguments rest. r.suffixes p (part.Call (joined before) arguments) rest)
    else read before words

-- ( exp )
abbrev pub read_parenthesized : Readers → Place → List Word → Answer Exp
read_parenthesized r p words =
    and_then (expect_word p terminal.LeftParenthesis words) (λ _ inside.
    and_then (r.exp p precedence.Or inside) (λ e behind.
    and_then (expect_word p terminal.RightParenthesis behind) (λ _ rest. read e rest)))

abbrev pub read_prefix : Readers → Place → List Word → Answer Part
read_prefix r p words =
    if begins terminal.LeftParenthesis words then
    and_then (read_parenthesized r (within p) words) (λ e rest. r.suffixes p (part.Parenthesized e) rest)
    else and_then (read_name p words) (λ name rest. r.suffixes p (part.Name name) rest)

-- ---- functions and tables

-- ( [namelist] ) block end
abbrev pub read_parameters : Readers → Place → List Word → Answer (List LocalName)
read_parameters r p words =
    and_then (expect_word p terminal.LeftParenthesis words) (λ _ inside.
    if begins terminal.RightParenthesis inside then and_then (take_word p inside) (λ _ rest. read [] rest)
    else and_then (read_names r p inside) (λ names behind.
    and_then (expect_word p terminal.RightParenthesis behind) (λ _ rest. read names rest)))

abbrev pub read_body : Readers → Place → List Word → Answer FunctionBody
read_body r p words =
    and_then (read_parameters r (within p) words) (λ parameters inside.
    and_then (r.block (within_function p) inside) (λ block behind.
    and_then (expect_word p terminal.End behind) (λ _ rest. read (roll-FunctionBody (record { parameters = parameters; block = block })) rest)))

abbrev pub names_a_field : List Word → Bool
names_a_field [] = false
names_a_field (n ∷ words) = same_terminal n.is terminal.Name && begins terminal.Assign words

abbrev pub read_field : Readers → Place → List Word → Answer Field
read_field r p words =
    if begins terminal.LeftBracket words then
    and_then (read_index r (within p) words) (λ key behind.
    and_then (expect_word p terminal.Assign behind) (λ _ second.
    and_then (r.exp p precedence.Or second) (λ value rest. read (field.Keyed key value) rest)))
    else if names_a_field words then
    and_then (read_name p words) (λ name behind.
    and_then (expect_word p terminal.Assign behind) (λ _ second.
    and_then (r.exp p precedence.Or second) (λ value rest. read (field.Named name value) rest)))
    else and_then (r.exp p precedence.Or words) (λ value rest. read (field.Positional value) rest)

-- the fields after these, up to the closing brace
abbrev pub fields_behind : Readers → Place → List Field → List Word → Answer (List Field)
fields_behind r p before words =
    if begins terminal.RightBrace words then read before words
    else and_then (read_field r p words) (λ f behind.
    if begins terminal.Comma behind || begins terminal.Semicolon behind then
    and_then (take_word p behind) (λ _ rest. r.fields p (before ++ f ∷ []) rest)
    else read (before ++ f ∷ []) behind)

abbrev pub read_table : Readers → Place → List Word → Answer (List Field)
read_table r p words =
    and_then (expect_word p terminal.LeftBrace words) (λ _ inside.
    and_then (r.fields p [] inside) (λ fields behind.
    and_then (expect_word p terminal.RightBrace behind) (λ _ rest. read fields rest)))

-- ---- expressions

abbrev pub read_value : {A : Type 0} → (A → Exp) → Option A → List Word → List Word → Answer Exp
read_value f None words rest = stopped why.Expected words
read_value f (Some value) words rest = read (f value) rest

abbrev pub simple_at : Readers → Place → Terminal → List Word → Answer Exp
simple_at r p terminal.Nil words = and_then (take_word p words) (λ _ rest. read exp.Nil rest)
simple_at r p terminal.False words = and_then (take_word p words) (λ _ rest. read exp.False rest)
simple_at r p terminal.True words = and_then (take_word p words) (λ _ rest. read exp.True rest)
simple_at r p terminal.Numeral words = and_then (take_word p words) (λ o rest. read_value exp.Numeral (numeral_value o.spelled) words rest)
simple_at r p terminal.Text words = and_then (take_word p words) (λ o rest. read_value exp.Text (text_value o.spelled) words rest)
simple_at r p terminal.Function words = and_then (take_word p words) (λ _ behind. and_then (read_body r (within p) behind) (λ body rest. read (exp.Function body) rest))
simple_at r p terminal.LeftBrace words = and_then (read_table r (within p) words) (λ fields rest. read (exp.Table fields) rest)
simple_at r p terminal.Name words = and_then (read_prefix r p words) (λ found rest. read (exp.Prefix (joined found)) rest)
simple_at r p terminal.LeftParenthesis words = and_then (read_prefix r p words) (λ found rest. read (exp.Prefix (joined found)) rest)
simple_at r p _ words = stopped why.Expected words

abbrev pub read_simple : Readers → Place → List Word → Answer Exp
read_simple r p [] = stopped why.Expected []
read_simple r p (o ∷ words) = simple_at r p o.is (o ∷ words)

-- unop exp, or a simple expression
abbrev pub read_operand : Readers → Place → Option UnaryOp → List Word → Answer Exp
read_operand r p None words = read_simple r p words
read_operand r p (Some op) words =
    and_then (take_word p words) (λ _ behind. and_then (r.exp (within p) precedence.Unary behind) (λ e rest. read (exp.Unary op e) rest))

-- .. exp, if it is there
abbrev pub concat_behind : Readers → Place → Exp → List Word → Answer Exp
concat_behind r p left words =
    if begins terminal.DoubleDot words then
    and_then (take_word p words) (λ _ behind.
    and_then (r.exp (within p) precedence.Concat behind) (λ right rest.
    read (exp.Binary left (record { operator = binary.Concat; operand = right } ∷ [])) rest))
    else read left words

abbrev pub operations_by : Readers → Place → Precedence → List Operation → Option BinaryOp → List Word → Answer (List Operation)
operations_by r p at before None words = read before words
operations_by r p at before (Some op) words =
    and_then (take_word p words) (λ _ behind.
    and_then (r.exp (within p) (tighter at) behind) (λ operand rest.
    r.operations p at (before ++ record { operator = op; operand = operand } ∷ []) rest))

-- {binop exp}
abbrev pub operations_behind : Readers → Place → Precedence → List Operation → List Word → Answer (List Operation)
operations_behind r p at before words = operations_by r p at before (operator_at at words) words

abbrev pub read_run : Readers → Place → Precedence → List Word → Answer Exp
read_run r p at words =
    and_then (r.exp p (tighter at) words) (λ first behind.
    and_then (r.operations p at [] behind) (λ others rest. read (run_of first others) rest))

abbrev pub exp_at : Readers → Place → Precedence → List Word → Answer Exp
exp_at r p precedence.Unary words = read_operand r p (sign_at words) words
exp_at r p precedence.Concat words = and_then (r.exp p (tighter precedence.Concat) words) (λ left rest. concat_behind r p left rest)
exp_at r p at words = read_run r p at words

-- ---- statements

-- [= explist]
abbrev pub values_behind : Readers → Place → List Word → Answer (List Exp)
values_behind r p words =
    if begins terminal.Assign words then and_then (take_word p words) (λ _ rest. read_exps r p rest) else read [] words

-- what the prefix that is read is, as something that is assigned to
abbrev pub as_var : Option Var → List Word → Answer Var
as_var None rest = stopped why.Expected rest
as_var (Some v) rest = read v rest

-- {, var}
abbrev pub vars_behind : Readers → Place → List Var → List Word → Answer (List Var)
vars_behind r p before words =
    if begins terminal.Comma words then
    and_then (take_word p words) (λ _ second. and_then (read_prefix r p second) (λ found rest.
    and_then (as_var (var_of found) rest) (λ v others. r.vars p (before ++ v ∷ []) others)))
    else read before words

abbrev pub assignment_to : Readers → Place → Var → List Word → Answer StatKind
assignment_to r p first words =
    and_then (r.vars p (first ∷ []) words) (λ vars behind.
    and_then (expect_word p terminal.Assign behind) (λ _ second.
    and_then (read_exps r p second) (λ values rest. read (stat.Assign vars values) rest)))

-- a call, or the rest of an assignment
abbrev pub statement_of : Readers → Place → Part → List Word → Answer StatKind
statement_of r p (part.Name name) words = assignment_to r p (var.Name name) words
statement_of r p (part.Parenthesized e) words = stopped why.Expected words
statement_of r p (part.Index before key) words = assignment_to r p (var.Index before key) words
statement_of r p (part.Field before name) words = assignment_to r p (var.Field before name) words
statement_of r p (part.Call before arguments) words = read (stat.Call (record { function = before; arguments = arguments })) words

abbrev pub read_expression_statement : Readers → Place → List Word → Answer StatKind
read_expression_statement r p words = and_then (read_prefix r p words) (λ found rest. statement_of r p found rest)

abbrev pub read_break : Place → List Word → Answer StatKind
read_break p words =
    and_then (take_word p words) (λ _ rest. if p.in_loop then read stat.Break rest else stopped why.Break words)

-- this word, a block, and `end`
abbrev pub block_to_end : Readers → Place → Place → List Word → Answer Block
block_to_end r p inside words =
    and_then (r.block inside words) (λ body behind. and_then (expect_word p terminal.End behind) (λ _ rest. read body rest))

abbrev pub read_do : Readers → Place → List Word → Answer StatKind
read_do r p words = and_then (take_word p words) (λ _ inside. and_then (block_to_end r p (within p) inside) (λ body rest. read (stat.Do body) rest))

-- do block end, of a loop
abbrev pub loop_body : Readers → Place → List Word → Answer Block
loop_body r p words = and_then (expect_word p terminal.Do words) (λ _ inside. block_to_end r p (within_loop p) inside)

abbrev pub read_while : Readers → Place → List Word → Answer StatKind
read_while r p words =
    and_then (take_word p words) (λ _ second.
    and_then (r.exp p precedence.Or second) (λ condition behind.
    and_then (loop_body r p behind) (λ body rest. read (stat.While condition body) rest)))

abbrev pub read_repeat : Readers → Place → List Word → Answer StatKind
read_repeat r p words =
    and_then (take_word p words) (λ _ inside.
    and_then (r.block (within_loop p) inside) (λ body behind.
    and_then (expect_word p terminal.Until behind) (λ _ second.
    and_then (r.exp p precedence.Or second) (λ condition rest. read (stat.Repeat body condition) rest))))

-- if, or elseif, exp then block
abbrev pub read_arm : Readers → Place → List Word → Answer IfArm
read_arm r p words =
    and_then (take_word p words) (λ _ second.
    and_then (r.exp p precedence.Or second) (λ condition behind.
    and_then (expect_word p terminal.Then behind) (λ _ inside.
    and_then (r.block (within p) inside) (λ body rest. read (roll-IfArm (record { condition = condition; block = body })) rest))))

abbrev pub arms_behind : Readers → Place → List IfArm → List Word → Answer (List IfArm)
arms_behind r p before words =
    if begins terminal.Elseif words then and_then (read_arm r p words) (λ arm rest. r.arms p (before ++ arm ∷ []) rest)
    else read before words

-- [else block]
abbrev pub else_behind : Readers → Place → List Word → Answer (Option Block)
else_behind r p words =
    if begins terminal.Else words then
    and_then (take_word p words) (λ _ inside. and_then (r.block (within p) inside) (λ body rest. read (Some body) rest))
    else read None words

abbrev pub read_if : Readers → Place → List Word → Answer StatKind
read_if r p words =
    and_then (read_arm r p words) (λ first behind_first.
    and_then (r.arms p (first ∷ []) behind_first) (λ arms behind_arms.
    and_then (else_behind r p behind_arms) (λ other behind.
    and_then (expect_word p terminal.End behind) (λ _ rest. read (stat.If arms other) rest))))

-- [, exp]
abbrev pub step_behind : Readers → Place → List Word → Answer (Option Exp)
step_behind r p words =
    if begins terminal.Comma words then
    and_then (take_word p words) (λ _ second. and_then (r.exp p precedence.Or second) (λ value rest. read (Some value) rest))
    else read None words

abbrev pub numeric_for_behind : Readers → Place → LocalName → List Word → Answer StatKind
numeric_for_behind r p name words =
    and_then (take_word p words) (λ _ second.
    and_then (r.exp p precedence.Or second) (λ first behind_first.
    and_then (expect_word p terminal.Comma behind_first) (λ _ third.
    and_then (r.exp p precedence.Or third) (λ limit behind_limit.
    and_then (step_behind r p behind_limit) (λ step behind_step.
    and_then (loop_body r p behind_step) (λ body rest. read (stat.NumericFor name first limit step body) rest))))))

abbrev pub generic_for_behind : Readers → Place → LocalName → List Word → Answer StatKind
generic_for_behind r p name words =
    and_then (r.names p (name ∷ []) words) (λ names behind_names.
    and_then (expect_word p terminal.In behind_names) (λ _ second.
    and_then (read_exps r p second) (λ values behind_values.
    and_then (loop_body r p behind_values) (λ body rest. read (stat.GenericFor names values body) rest))))

abbrev pub read_for : Readers → Place → List Word → Answer StatKind
read_for r p words =
    and_then (take_word p words) (λ _ second.
    and_then (read_local_name p second) (λ name behind.
    if begins terminal.Assign behind then numeric_for_behind r p name behind else generic_for_behind r p name behind))

abbrev pub read_function : Readers → Place → List Word → Answer StatKind
read_function r p words =
    and_then (take_word p words) (λ _ second.
    and_then (read_name p second) (λ name behind_name.
    and_then (r.path p [] behind_name) (λ fields behind.
    and_then (read_body r (within p) behind) (λ body rest. read (stat.Function name fields body) rest))))

abbrev pub local_function_behind : Readers → Place → List Word → Answer StatKind
local_function_behind r p words =
    and_then (take_word p words) (λ _ second.
    and_then (read_local_name p second) (λ name behind.
    and_then (read_body r (within p) behind) (λ body rest. read (stat.LocalFunction name body) rest)))

abbrev pub locals_behind : Readers → Place → List Word → Answer StatKind
locals_behind r p words =
    and_then (read_names r p words) (λ names behind.
    and_then (values_behind r p behind) (λ values rest. read (stat.Local names values) rest))

abbrev pub read_local : Readers → Place → List Word → Answer StatKind
read_local r p words =
    and_then (take_word p words) (λ _ second.
    if begins terminal.Function second then local_function_behind r p second else locals_behind r p second)

abbrev pub kind_at : Readers → Place → Terminal → List Word → Answer StatKind
kind_at r p terminal.Semicolon words = and_then (take_word p words) (λ _ rest. read stat.Empty rest)
kind_at r p terminal.Break words = read_break p words
kind_at r p terminal.Do words = read_do r p words
kind_at r p terminal.While words = read_while r p words
kind_at r p terminal.Repeat words = read_repeat r p words
kind_at r p terminal.If words = read_if r p words
kind_at r p terminal.For words = read_for r p words
kind_at r p terminal.Function words = read_function r p words
kind_at r p terminal.Local words = read_local r p words
kind_at r p _ words = read_expression_statement r p words

-- A statement begins with this.
abbrev pub begins_statement : Terminal → Bool
begins_statement terminal.Semicolon = true
begins_statement terminal.Break = true
begins_statement terminal.Do = true
begins_statement terminal.While = true
begins_statement terminal.Repeat = true
begins_statement terminal.If = true
begins_statement terminal.For = true
begins_statement terminal.Function = true
begins_statement terminal.Local = true
begins_statement terminal.Name = true
begins_statement terminal.LeftParenthesis = true
begins_statement _ = false

-- the statements after these
abbrev pub stats_behind : Readers → Place → List Stat → List Word → Answer (List Stat)
stats_behind r p before [] = read before []
stats_behind r p before (o ∷ words) =
    if begins_statement o.is then
    and_then (kind_at r p o.is (o ∷ words)) (λ kind rest. r.stats p (before ++ record { line = o.line; kind = kind } ∷ []) rest)
    else read before (o ∷ words)

-- [;]
abbrev pub semicolon_behind : Place → List Word → Answer Bool
semicolon_behind p words =
    if begins terminal.Semicolon words then and_then (take_word p words) (λ _ rest. read true rest) else read false words

-- After `return` these begin no expression, but what ends it or its block.
abbrev pub ends_return : Terminal → Bool
ends_return terminal.End = true
ends_return terminal.Else = true
ends_return terminal.Elseif = true
ends_return terminal.Until = true
ends_return terminal.Semicolon = true
ends_return _ = false

abbrev pub ends_returned : List Word → Bool
ends_returned [] = true
ends_returned (o ∷ words) = ends_return o.is

abbrev pub returned_behind : Readers → Place → List Word → Answer (List Exp)
returned_behind r p words = if ends_returned words then read [] words else read_exps r p words

-- [return [explist] [;]]
abbrev pub last_behind : Readers → Place → List Word → Answer (Option Return)
last_behind r p words =
    if begins terminal.Return words then
    and_then (take_word p words) (λ o second.
    and_then (returned_behind r p second) (λ values behind.
    and_then (semicolon_behind p behind) (λ _ rest. read (Some (record { line = o.line; values = values })) rest)))
    else read None words

abbrev pub block_at : Readers → Place → List Word → Answer Block
block_at r p words =
    and_then (r.stats p [] words) (λ stats behind.
    and_then (last_behind r p behind) (λ last rest. read (roll-Block (record { stats = stats; last = last })) rest))

-- ---- all together

-- Readings that tell nothing.
abbrev pub nothing : Readers
nothing = record {
  block = λ p words. None;
  stats = λ p before words. None;
  arms = λ p before words. None;
  path = λ p before words. None;
  names = λ p before words. None;
  exps = λ p before words. None;
  vars = λ p before words. None;
  suffixes = λ p before words. None;
  exp = λ p at words. None;
  operations = λ p at before words. None;
  fields = λ p before words. None;
}

-- Readings that have these for their parts.
abbrev pub over : Readers → Readers
over r = record {
  block = block_at r;
  stats = stats_behind r;
  arms = arms_behind r;
  path = path_behind r;
  names = names_behind r;
  exps = exps_behind r;
  vars = vars_behind r;
  suffixes = suffixes_behind r;
  exp = exp_at r;
  operations = operations_behind r;
  fields = fields_behind r;
}

abbrev pub readers : ℕ → Readers
readers zero = nothing
readers (suc n) = over (readers n)

-- A script ends after its block.
abbrev pub ended : Block → List Word → Answer Block
ended block [] = read block []
ended block (o ∷ words) = stopped why.Expected (o ∷ words)

abbrev pub script_by : ℕ → List Word → Answer Block
script_by n words = and_then ((readers n).block outermost words) ended
