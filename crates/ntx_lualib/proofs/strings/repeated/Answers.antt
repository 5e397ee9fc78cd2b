use Rattle.std.proofs.Common.{◌≡◌, ◌++◌, ◌<◌, zero, length, ◌∙◌, sym, ap, arith, Ok}
use Rattle.std.specs.List.{repeat}
use Rattle.std.proofs.lemmas.List.{nil_from_length}
use Rattle.std.proofs.lemmas.Bool.Decides.{nat_tests}
use Rattle.ntx_values.specs.Texts.{max_text}
use Rattle.ntx_lualib.specs.inner.Lines.{limited}
use Rattle.ntx_lualib.proofs.Repeats.{repeat_more, repeat_nil, few_fit, many_do_not}
use Rattle.ntx_lualib.proofs.Bounds.{limited_fits, limited_passes}
use Rattle.ntx_lualib.proofs.strings.repeated.Goals as goal

pub returns-then-is_empty : goal.returns-then-is_empty
returns-then-is_empty c =
    let none : length c.args.bytes.now ≡ 0 = grind (arith, nat_tests) in
    let nil = nil_from_length c.args.bytes.now none in
    ap (λ l. limited (Ok (repeat c.args.n l))) nil ∙ ap (λ l. limited (Ok l)) (repeat_nil c.args.n) ∙ ap Ok (sym c.new-all.ensures.items)

pub returns-then-n-bytes : goal.returns-then-n-bytes
returns-then-n-bytes c =
    let some : zero < length c.args.bytes.now = grind (arith, nat_tests) in
    limited_passes (repeat c.args.n c.args.bytes.now) (many_do_not max_text c.args.n c.args.bytes.now some (omega arith))

pub loop-k-preserved : goal.loop-k-preserved
loop-k-preserved c =
    c.in_ok-extend_from_slice.ensures.items ∙ ap (λ l. l ++ c.args.bytes.now) c.loop-k.invariant ∙ repeat_more c.loop-k._k c.args.bytes.now

pub returns : goal.returns
returns c =
    let some : zero < length c.args.bytes.now = grind (arith, nat_tests) in
    let last : c.loop-k._k ≡ c.args.n = omega arith in
    limited_fits (repeat c.args.n c.args.bytes.now) (few_fit max_text c.args.n c.args.bytes.now some (omega arith))
    ∙ ap Ok (sym (c.loop-k.invariant ∙ ap (λ n. repeat n c.args.bytes.now) last))
