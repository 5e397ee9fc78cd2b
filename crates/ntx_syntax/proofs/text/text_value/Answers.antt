use Rattle.std.proofs.Common.{◌≡◌, ◌+◌, length, is_ok, sym, ap, ◌∙◌, subst, slice_index, arith}
use Rattle.std.proofs.lemmas.Bool.{ne_eqb}
use Rattle.std.proofs.lemmas.List.{take_rest, length-drop}
use Rattle.std.proofs.ResultArms.{chosen}
use Rattle.ntx_syntax.specs.Values.{text_value}
use Rattle.ntx_syntax.specs.inner.Front.{character}
use Rattle.ntx_syntax.proofs.ValueLemmas.{CharactersFrom, text_closes, character_stands, character_more}
use Rattle.ntx_syntax.proofs.text.text_value.Goals as goal

pub unreachable-requires : goal.unreachable-requires
unreachable-requires c =
    let bytes = c.args.bytes.now in
    let s = c.loop-value in
    character_stands c.byte-quote.result s.found.items bytes s.at (text_value bytes) s.invariant.rest c.requires
    (ne_eqb (slice_index bytes s.at) c.byte-quote.result (λ e. c.loop-value-test.true (c.byte.ensures.value ∙ e)))
    (ap character (sym (take_rest bytes s.at)) ∙ sym c.character.ensures.value ∙ c.in-None.is)

pub returns : goal.returns
returns c =
    let bytes = c.args.bytes.now in
    let s = c.loop-value in
    text_closes c.byte-quote.result s.found.items bytes s.at (text_value bytes) s.invariant.rest c.requires (sym c.byte.ensures.value ∙ c.loop-value-test.false)

pub loop-value-preserved : goal.loop-value-preserved
loop-value-preserved c =
    let bytes = c.args.bytes.now in
    let s = c.loop-value in
    let pushed = chosen _ _ _ _ c.push.ensures.items (ap is_ok c.in_ok-push-in-Some.was) in
    record {
      rest = subst (λ items. CharactersFrom c.byte-quote.result items bytes (s.at + c.in-Some.len) ≡ text_value bytes) (sym pushed)
          (character_more c.byte-quote.result s.found.items bytes s.at (text_value bytes) s.invariant.rest c.requires
          (ne_eqb (slice_index bytes s.at) c.byte-quote.result (λ e. c.loop-value-test.true (c.byte.ensures.value ∙ e))) c.in-Some.value c.in-Some.len
          (ap character (sym (take_rest bytes s.at)) ∙ sym c.character.ensures.value ∙ c.in-Some.is));
      within = omega (arith, c.in-Some.ensures.within.1, ap length (take_rest bytes s.at), length-drop s.at bytes);
    }
