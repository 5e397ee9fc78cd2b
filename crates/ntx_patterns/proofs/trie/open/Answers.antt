use Rattle.std.proofs.Common.{◌≡◌, ◌++◌, ◌∷◌, [], ap, ◌∙◌, length, arith}
use Rattle.ntx_patterns.proofs.NodesLemmas.{opened_rows, opened_packed}
use Rattle.ntx_patterns.proofs.trie.open.Goals as goal

pub returns-clause-packed : goal.returns-clause-packed
returns-clause-packed c =
    let pushed : c.push_reserved.new.self.items ≡ c.args.children.now.items ++ c.new.result ∷ [] = c.push_reserved.ensures.items ∙ ap (λ items. items ++ c.new.result ∷ []) c.in_ok-reserve_exact.ensures.items in
    let place : c.len-place.result ≡ length c.args.children.now.items = omega (arith, c.len-place.ensures) in
    rw (pushed, place) (opened_packed c.args.places.now c.args.children.now.items c.new.result c.symbol_index-i.result c.requires.packed (omega (arith, c.requires.symbol, c.symbol_index-i.ensures)) c.if-places-i.false c.new.ensures.packed)

pub returns-clause-rows : goal.returns-clause-rows
returns-clause-rows c =
    let pushed : c.push_reserved.new.self.items ≡ c.args.children.now.items ++ c.new.result ∷ [] = c.push_reserved.ensures.items ∙ ap (λ items. items ++ c.new.result ∷ []) c.in_ok-reserve_exact.ensures.items in
    let place : c.len-place.result ≡ length c.args.children.now.items = omega (arith, c.len-place.ensures) in
    rw (pushed, place) (opened_rows c.args.places.now c.args.children.now.items c.new.result c.symbol_index-i.result c.requires.packed.here (omega (arith, c.requires.symbol, c.symbol_index-i.ensures)) c.if-places-i.false c.new.ensures.rows)
