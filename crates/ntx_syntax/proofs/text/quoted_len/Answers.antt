use Rattle.std.proofs.Common.{◌+◌, length, sym, ◌∙◌, ap, arith}
use Rattle.std.specs.Prelude.{option_map}
use Rattle.std.proofs.lemmas.Bool.{eq-eqb, ne_eqb}
use Rattle.std.proofs.lemmas.List.{take_rest, length-drop}
use Rattle.ntx_syntax.specs.Values.{escape}
use Rattle.ntx_syntax.proofs.TextLemmas.{closes_here, ends_here, plain_here, no_escape_here, escape_here}
use Rattle.ntx_syntax.proofs.text.quoted_len.Goals as goal

pub returns-then-b-quote-clause-value : goal.returns-then-b-quote-clause-value
returns-then-b-quote-clause-value c =
    closes_here c.args.quote c.loop-at.at c.args.bytes.now _ c.loop-at.invariant.0 c.loop-at-test.true (eq-eqb _ _ c.if-b-quote.true)

pub returns-then-b-eq10-clause-value : goal.returns-then-b-eq10-clause-value
returns-then-b-eq10-clause-value c =
    ends_here c.args.quote c.loop-at.at c.args.bytes.now _ c.loop-at.invariant.0 c.loop-at-test.true (ne_eqb _ _ c.if-b-quote.false) (eq-eqb _ _ c.if-b-eq10.true)

pub returns-in_err-at-clause-value : goal.returns-in_err-at-clause-value
returns-in_err-at-clause-value c =
    let bytes = c.args.bytes.now in
    let at = c.loop-at.at in
    c.from_residual.ensures
    ∙ no_escape_here c.args.quote at bytes _ c.loop-at.invariant.0 c.loop-at-test.true (ne_eqb _ _ c.if-b-quote.false) (ne_eqb _ _ c.if-b-eq10.false) (eq-eqb _ _ c.if-b-eq92.true)
    (ap (λ rest. option_map (λ e. e.1) (escape rest)) (sym (take_rest bytes (at + 1))) ∙ sym c.escape_len.ensures.value ∙ c.in_err-at.was)

pub loop-at-preserved-then-b-eq92 : goal.loop-at-preserved-then-b-eq92
loop-at-preserved-then-b-eq92 c =
    let bytes = c.args.bytes.now in
    let at = c.loop-at.at in
    let len = c.in_ok-at.field-0 in (
      escape_here c.args.quote at bytes _ c.loop-at.invariant.0 c.loop-at-test.true (ne_eqb _ _ c.if-b-quote.false) (ne_eqb _ _ c.if-b-eq10.false) (eq-eqb _ _ c.if-b-eq92.true) len
          (ap (λ rest. option_map (λ e. e.1) (escape rest)) (sym (take_rest bytes (at + 1))) ∙ sym c.escape_len.ensures.value ∙ c.in_ok-at.was),
      omega (arith, c.in_ok-at.ensures.within, ap length (take_rest bytes (at + 1)), length-drop (at + 1) bytes),
    )

pub loop-at-preserved : goal.loop-at-preserved
loop-at-preserved c = (
  plain_here c.args.quote c.loop-at.at c.args.bytes.now _ c.loop-at.invariant.0 c.loop-at-test.true (ne_eqb _ _ c.if-b-quote.false) (ne_eqb _ _ c.if-b-eq10.false) (ne_eqb _ _ c.if-b-eq92.false),
  omega arith,
)
