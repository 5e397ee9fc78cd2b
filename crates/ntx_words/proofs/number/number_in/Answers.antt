use Rattle.std.proofs.Common.{◌≡◌, sym, subst, true, inl, inr}
use Rattle.ntx_words.specs.Number.{is_numeral}
use Rattle.ntx_words.proofs.Numbers.{in_range, below_range, above_range, past_type}
use Rattle.ntx_words.proofs.number.number_in.Goals as goal

pub returns-in_default : goal.returns-in_default
returns-in_default c =
    let is : is_numeral c.args.most c.args.text.now ≡ true =
    subst (λ t. is_numeral c.args.most t ≡ true) c.as_bytes.ensures.value (sym c.if-not-is_numeral.ensures) in
    past_type c.args.most c.args.greatest c.args.text.now is c.ranges.greatest.fits c.in_default.ensures.value.0

pub returns-else-number-ge1 : goal.returns-else-number-ge1
returns-else-number-ge1 c =
    let is : is_numeral c.args.most c.args.text.now ≡ true =
    subst (λ t. is_numeral c.args.most t ≡ true) c.as_bytes.ensures.value (sym c.if-not-is_numeral.ensures) in
    elim c.else-number-ge1.either [
      | inl high ↦ above_range c.args.most c.args.greatest c.in-Ok.number c.args.text.now is c.in-Ok.ensures.value.0.1 high.0 high.1
      | inr low ↦ below_range c.args.most c.args.greatest c.in-Ok.number c.args.text.now is c.in-Ok.ensures.value.0.1 low
    ]

pub returns-then-number-greatest : goal.returns-then-number-greatest
returns-then-number-greatest c =
    let is : is_numeral c.args.most c.args.text.now ≡ true =
    subst (λ t. is_numeral c.args.most t ≡ true) c.as_bytes.ensures.value (sym c.if-not-is_numeral.ensures) in
    in_range c.args.most c.args.greatest c.in-Ok.number c.args.text.now is c.in-Ok.ensures.value.0.1 c.if-number-ge1.true c.if-number-greatest.true
