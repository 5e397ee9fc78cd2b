-- `nil` is an expression of each precedence.
use Rattle.std.proofs.Common.{List, [], ◌∷◌, refl}
use Rattle.ntx_syntax.specs.declared.tree.Exp.TheVariants as exp
use Rattle.ntx_parse.specs.declared.place.Place.{Place}
use Rattle.ntx_parse.specs.declared.precedence.Precedence.{Precedence}
use Rattle.ntx_parse.specs.declared.precedence.Precedence.TheVariants as precedence
use Rattle.ntx_syntax.specs.declared.terminal.Terminal.TheVariants as terminal
use Rattle.ntx_parse.specs.Grammar as grammar
use Rattle.ntx_parse.specs.Grammar.{Placed, tighter, IsExp}
use Rattle.ntx_parse.specs.Faults.{at_place}
use Rattle.ntx_parse.proofs.stuck.Answers.{no_call, HasPhrase}
use Rattle.ntx_parse.proofs.stuck.Words.{some_word}

-- a word `nil` is an expression of this precedence
abbrev IsNil : Place → Precedence → Type 0
IsNil p at = (behind : List Placed) → IsExp p at exp.Nil (at_place (some_word terminal.Nil) p ∷ behind) behind

nil_whole : (p : Place) (at : Precedence) → IsNil p at → HasPhrase no_call no_call (IsExp p at)
nil_whole p at h = record { others = at_place (some_word terminal.Nil) p ∷ []; tree = exp.Nil; derives = λ behind _. h behind; begins = λ behind _. refl }

nil_at : (p : Place) (at : Precedence) → IsNil p (tighter at) → IsNil p at
nil_at p precedence.Unary h = h
nil_at p precedence.Concat h = λ behind. grammar.no_concatenation refl (h behind)
nil_at p precedence.Or h = λ behind. grammar.operations refl (grammar.first_operand (h behind))
nil_at p precedence.And h = λ behind. grammar.operations refl (grammar.first_operand (h behind))
nil_at p precedence.Comparison h = λ behind. grammar.operations refl (grammar.first_operand (h behind))
nil_at p precedence.BitOr h = λ behind. grammar.operations refl (grammar.first_operand (h behind))
nil_at p precedence.BitXor h = λ behind. grammar.operations refl (grammar.first_operand (h behind))
nil_at p precedence.BitAnd h = λ behind. grammar.operations refl (grammar.first_operand (h behind))
nil_at p precedence.Shift h = λ behind. grammar.operations refl (grammar.first_operand (h behind))
nil_at p precedence.Additive h = λ behind. grammar.operations refl (grammar.first_operand (h behind))
nil_at p precedence.Multiplicative h = λ behind. grammar.operations refl (grammar.first_operand (h behind))

nil_unary : (p : Place) → IsNil p precedence.Unary
nil_unary p behind = grammar.simple refl (grammar.nil (record { is = refl; place = refl }))

nil_multiplicative : (p : Place) → IsNil p precedence.Multiplicative
nil_multiplicative p = nil_at p precedence.Multiplicative (nil_unary p)

nil_additive : (p : Place) → IsNil p precedence.Additive
nil_additive p = nil_at p precedence.Additive (nil_multiplicative p)

nil_concat : (p : Place) → IsNil p precedence.Concat
nil_concat p = nil_at p precedence.Concat (nil_additive p)

nil_shift : (p : Place) → IsNil p precedence.Shift
nil_shift p = nil_at p precedence.Shift (nil_concat p)

nil_bit_and : (p : Place) → IsNil p precedence.BitAnd
nil_bit_and p = nil_at p precedence.BitAnd (nil_shift p)

nil_bit_xor : (p : Place) → IsNil p precedence.BitXor
nil_bit_xor p = nil_at p precedence.BitXor (nil_bit_and p)

nil_bit_or : (p : Place) → IsNil p precedence.BitOr
nil_bit_or p = nil_at p precedence.BitOr (nil_bit_xor p)

nil_comparison : (p : Place) → IsNil p precedence.Comparison
nil_comparison p = nil_at p precedence.Comparison (nil_bit_or p)

nil_and : (p : Place) → IsNil p precedence.And
nil_and p = nil_at p precedence.And (nil_comparison p)

nil_or : (p : Place) → IsNil p precedence.Or
nil_or p = nil_at p precedence.Or (nil_and p)

pub nil_exp : (p : Place) (at : Precedence) → HasPhrase no_call no_call (IsExp p at)
nil_exp p precedence.Unary = nil_whole p precedence.Unary (nil_unary p)
nil_exp p precedence.Multiplicative = nil_whole p precedence.Multiplicative (nil_multiplicative p)
nil_exp p precedence.Additive = nil_whole p precedence.Additive (nil_additive p)
nil_exp p precedence.Concat = nil_whole p precedence.Concat (nil_concat p)
nil_exp p precedence.Shift = nil_whole p precedence.Shift (nil_shift p)
nil_exp p precedence.BitAnd = nil_whole p precedence.BitAnd (nil_bit_and p)
nil_exp p precedence.BitXor = nil_whole p precedence.BitXor (nil_bit_xor p)
nil_exp p precedence.BitOr = nil_whole p precedence.BitOr (nil_bit_or p)
nil_exp p precedence.Comparison = nil_whole p precedence.Comparison (nil_comparison p)
nil_exp p precedence.And = nil_whole p precedence.And (nil_and p)
nil_exp p precedence.Or = nil_whole p precedence.Or (nil_or p)
