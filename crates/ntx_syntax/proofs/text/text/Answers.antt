use Rattle.std.proofs.Common.{sym, ◌∙◌, ap, subst, length, ◌≤◌, slice_index}
use Rattle.std.proofs.lemmas.List.{take_rest}
use Rattle.ntx_syntax.specs.inner.Front.{quoted_len}
use Rattle.ntx_syntax.proofs.TextLemmas.{text_right, text_open}
use Rattle.ntx_syntax.proofs.text.text.Goals as goal

pub returns-in-Some : goal.returns-in-Some
returns-in-Some c =
    text_right c.args.bytes.now c.in-Some.len c.requires (ap (quoted_len (slice_index c.args.bytes.now 0) 0) (sym (take_rest c.args.bytes.now 1)) ∙ sym c.quoted_len.ensures.value ∙ c.in-Some.is) (subst (λ rest. c.in-Some.len ≤ length rest) (take_rest c.args.bytes.now 1) c.in-Some.ensures.within)

pub returns-in-None : goal.returns-in-None
returns-in-None c = text_open c.args.bytes.now c.requires (ap (quoted_len (slice_index c.args.bytes.now 0) 0) (sym (take_rest c.args.bytes.now 1)) ∙ sym c.quoted_len.ensures.value ∙ c.in-None.is)
