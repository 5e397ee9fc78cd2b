use Rattle.std.proofs.Common.{sym, ◌∙◌}
use Rattle.ntx_syntax.proofs.FrontLemmas.{blank_front, word_as_front, numeral_as_front, text_as_front, comment_as_front, symbol_as_front}
use Rattle.ntx_syntax.proofs.lex.front.Goals as goal

pub returns-then-is_blank : goal.returns-then-is_blank
returns-then-is_blank c = blank_front c.args.bytes.now c.requires (sym c.is_blank.ensures ∙ c.if-is_blank.true)

pub returns-then-begins_name : goal.returns-then-begins_name
returns-then-begins_name c =
    word_as_front c.args.bytes.now _ _ (sym c.is_blank.ensures ∙ c.if-is_blank.false) (sym c.begins_name.ensures ∙ c.if-begins_name.true) c.word.ensures

pub returns-then-is_ascii_digit : goal.returns-then-is_ascii_digit
returns-then-is_ascii_digit c =
    numeral_as_front c.args.bytes.now _ _ (sym c.is_blank.ensures ∙ c.if-is_blank.false) (sym c.begins_name.ensures ∙ c.if-begins_name.false) (sym c.is_ascii_digit.ensures.value ∙ c.if-is_ascii_digit.true) c.numeral.ensures

pub returns-then-is_quote : goal.returns-then-is_quote
returns-then-is_quote c =
    text_as_front c.args.bytes.now _ _ (sym c.is_blank.ensures ∙ c.if-is_blank.false) (sym c.begins_name.ensures ∙ c.if-begins_name.false) (sym c.is_ascii_digit.ensures.value ∙ c.if-is_ascii_digit.false) (sym c.is_quote.ensures ∙ c.if-is_quote.true) c.text.ensures

pub returns-then-begins_comment : goal.returns-then-begins_comment
returns-then-begins_comment c =
    comment_as_front c.args.bytes.now _ _ (sym c.is_blank.ensures ∙ c.if-is_blank.false) (sym c.begins_name.ensures ∙ c.if-begins_name.false) (sym c.is_ascii_digit.ensures.value ∙ c.if-is_ascii_digit.false) (sym c.is_quote.ensures ∙ c.if-is_quote.false)
    (sym c.begins_comment.ensures ∙ c.if-begins_comment.true) c.comment.ensures.dashes c.comment.ensures.front

pub returns-else-begins_comment : goal.returns-else-begins_comment
returns-else-begins_comment c =
    symbol_as_front c.args.bytes.now _ _ (sym c.is_blank.ensures ∙ c.if-is_blank.false) (sym c.begins_name.ensures ∙ c.if-begins_name.false) (sym c.is_ascii_digit.ensures.value ∙ c.if-is_ascii_digit.false) (sym c.is_quote.ensures ∙ c.if-is_quote.false)
    (sym c.begins_comment.ensures ∙ c.if-begins_comment.false) c.symbol.ensures
