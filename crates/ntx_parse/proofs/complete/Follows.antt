-- What can stand after phrases, and what they begin with.
use Rattle.std.specs.Prelude.{◌≡◌, nat_eq, nat_lt, Bool, true, false, not, ◌&&◌, Option, None, Some}
use Rattle.std.proofs.Common.{refl}
use Rattle.ntx_syntax.specs.declared.tree.BinaryOp.{BinaryOp}
use Rattle.ntx_syntax.specs.declared.tree.UnaryOp.{UnaryOp}
use Rattle.ntx_syntax.specs.declared.tree.UnaryOp.TheVariants as unary
use Rattle.ntx_syntax.specs.Terminals.{same_terminal}
use Rattle.ntx_parse.specs.declared.precedence.Precedence.{Precedence}
use Rattle.ntx_parse.specs.declared.precedence.Precedence.TheVariants as precedence
use Rattle.ntx_syntax.specs.declared.terminal.Terminal.{Terminal}
use Rattle.ntx_syntax.specs.declared.terminal.Terminal.TheVariants as terminal
use Rattle.ntx_parse.specs.Grammar.{binary_precedence, unary_terminal}
use Rattle.ntx_parse.specs.inner.Reading.{begins_statement, binary_of, ends_return}
use Rattle.ntx_parse.proofs.Ranks.{rank}
use Rattle.ntx_parse.proofs.complete.Begins.{is_this, implies}

-- ---- what ends phrases

abbrev pub ends_block : Terminal → Bool
ends_block terminal.End = true
ends_block terminal.Else = true
ends_block terminal.Elseif = true
ends_block terminal.Until = true
ends_block _ = false

abbrev pub ends_stats : Terminal → Bool
ends_stats terminal.Return = true
ends_stats t = ends_block t

abbrev pub ends_stat : Terminal → Bool
ends_stat terminal.Return = true
ends_stat terminal.End = true
ends_stat terminal.Else = true
ends_stat terminal.Elseif = true
ends_stat terminal.Until = true
ends_stat t = begins_statement t

-- It goes on with a prefix, but for the arguments of a call.
abbrev pub goes_on : Terminal → Bool
goes_on terminal.LeftBracket = true
goes_on terminal.Dot = true
goes_on _ = false

-- It is no operator that binds as tight.
abbrev pub binds_less : Precedence → Option BinaryOp → Bool
binds_less at None = true
binds_less at (Some op) = nat_lt (rank (binary_precedence op)) (rank at)

abbrev pub ends_exp : Precedence → Terminal → Bool
ends_exp at t = not (goes_on t) && binds_less at (binary_of t)

abbrev pub ends_exps : Terminal → Bool
ends_exps terminal.Comma = false
ends_exps t = ends_exp precedence.Or t

-- what stands after the arms of an `if`
abbrev pub ends_arms : Terminal → Bool
ends_arms terminal.Else = true
ends_arms terminal.End = true
ends_arms _ = false

abbrev pub ends_field : Terminal → Bool
ends_field terminal.Comma = true
ends_field terminal.Semicolon = true
ends_field terminal.RightBrace = true
ends_field _ = false

pub block_ends_stats : (t : Terminal) → implies (ends_block t) (ends_stats t) ≡ true
block_ends_stats terminal.Name = refl
block_ends_stats _ = refl

pub arms_end_block : (t : Terminal) → implies (ends_arms t) (ends_block t) ≡ true
arms_end_block terminal.Name = refl
arms_end_block _ = refl

pub end_ends_block : (t : Terminal) → implies (is_this terminal.End t) (ends_block t) ≡ true
end_ends_block terminal.Name = refl
end_ends_block _ = refl

pub end_ends_arms : (t : Terminal) → implies (is_this terminal.End t) (ends_arms t) ≡ true
end_ends_arms terminal.Name = refl
end_ends_arms _ = refl

pub do_ends_exp : (t : Terminal) → implies (is_this terminal.Do t) (ends_exp precedence.Or t) ≡ true
do_ends_exp terminal.Name = refl
do_ends_exp _ = refl

pub block_ends_return : (t : Terminal) → implies (ends_block t) (ends_return t) ≡ true
block_ends_return terminal.Name = refl
block_ends_return _ = refl

pub return_ends_exps : (t : Terminal) → implies (ends_return t) (ends_exps t) ≡ true
return_ends_exps terminal.Name = refl
return_ends_exps _ = refl

pub stats_end_stat : (t : Terminal) → implies (ends_stats t) (ends_stat t) ≡ true
stats_end_stat terminal.Name = refl
stats_end_stat _ = refl

pub statement_ends_stat : (t : Terminal) → implies (begins_statement t) (ends_stat t) ≡ true
statement_ends_stat terminal.Name = refl
statement_ends_stat _ = refl

pub stat_ends_exps : (t : Terminal) → implies (ends_stat t) (ends_exps t) ≡ true
stat_ends_exps terminal.Name = refl
stat_ends_exps _ = refl

pub stat_ends_exp : (t : Terminal) → implies (ends_stat t) (ends_exp precedence.Or t) ≡ true
stat_ends_exp terminal.Name = refl
stat_ends_exp _ = refl

pub exps_end_exp : (t : Terminal) → implies (ends_exps t) (ends_exp precedence.Or t) ≡ true
exps_end_exp terminal.Name = refl
exps_end_exp _ = refl

pub field_ends_exp : (t : Terminal) → implies (ends_field t) (ends_exp precedence.Or t) ≡ true
field_ends_exp terminal.Name = refl
field_ends_exp _ = refl

-- ---- what phrases begin with

abbrev pub begins_prefix : Terminal → Bool
begins_prefix terminal.Name = true
begins_prefix terminal.LeftParenthesis = true
begins_prefix _ = false

abbrev pub begins_simple : Terminal → Bool
begins_simple terminal.Nil = true
begins_simple terminal.False = true
begins_simple terminal.True = true
begins_simple terminal.Numeral = true
begins_simple terminal.Text = true
begins_simple terminal.Function = true
begins_simple terminal.LeftBrace = true
begins_simple t = begins_prefix t

abbrev pub begins_exp : Terminal → Bool
begins_exp terminal.Not = true
begins_exp terminal.Hash = true
begins_exp terminal.Minus = true
begins_exp terminal.Tilde = true
begins_exp t = begins_simple t

abbrev pub begins_field : Terminal → Bool
begins_field terminal.LeftBracket = true
begins_field t = begins_exp t

pub prefix_begins_simple : (t : Terminal) → implies (begins_prefix t) (begins_simple t) ≡ true
prefix_begins_simple terminal.Name = refl
prefix_begins_simple _ = refl

pub prefix_begins_statement : (t : Terminal) → implies (begins_prefix t) (begins_statement t) ≡ true
prefix_begins_statement terminal.Name = refl
prefix_begins_statement _ = refl

pub simple_begins_exp : (t : Terminal) → implies (begins_simple t) (begins_exp t) ≡ true
simple_begins_exp terminal.Name = refl
simple_begins_exp _ = refl

pub exp_begins_field : (t : Terminal) → implies (begins_exp t) (begins_field t) ≡ true
exp_begins_field terminal.Name = refl
exp_begins_field _ = refl

pub exp_begins_returned : (t : Terminal) → implies (begins_exp t) (not (ends_return t)) ≡ true
exp_begins_returned terminal.Name = refl
exp_begins_returned _ = refl

pub unary_begins_exp : (op : UnaryOp) → begins_exp (unary_terminal op) ≡ true
unary_begins_exp unary.Not = refl
unary_begins_exp _ = refl

pub bracket_begins_field : (t : Terminal) → implies (same_terminal t terminal.LeftBracket) (begins_field t) ≡ true
bracket_begins_field terminal.Name = refl
bracket_begins_field _ = refl

pub brace_ends_field : (t : Terminal) → implies (is_this terminal.RightBrace t) (ends_field t) ≡ true
brace_ends_field terminal.Name = refl
brace_ends_field _ = refl
