use Rattle.std.proofs.Common.{◌≡◌, ◌+◌, ◌-◌, ◌<◌, get_or, set, take, drop, length, length-drop, ap, ◌∙◌, refl, arith}
use Rattle.std.proofs.lemmas.List.{get_or_read, take_rest}
use Rattle.std.proofs.lemmas.Grind.{get_or_after_one}
use Rattle.std.proofs.lemmas.Result.{on_ok_weaker}
use Rattle.ntx_patterns.specs.Kept.{row}
use Rattle.ntx_patterns.specs.inner.Adding.{added}
use Rattle.ntx_patterns.proofs.NodesLemmas.{opened_node, child_packed, rolled_digits, rolled_places, rolled_children, rolled_packed, raised_node, added_child, changed_packed}
use Rattle.ntx_patterns.proofs.trie.Node.+add.Goals as goal

pub open-requires-clause-packed : goal.open-requires-clause-packed
open-requires-clause-packed t c = opened_node c.args.self.now c.requires.packed

pub returns-in_err-place-in-len1-up-clause-packed :
    goal.returns-in_err-place-in-len1-up-clause-packed
returns-in_err-place-in-len1-up-clause-packed t c = rolled_packed _ c.open.ensures.packed

pub add-requires : goal.add-requires
add-requires t c =
    let symbols = c.args.symbols.now in
    let placed = c.in_ok-place-in-len1-up.ensures.place in
    let others : take (length symbols - 1) (drop 1 symbols) ≡ drop 1 symbols = take_rest symbols 1 in
    let shorter : length (take (length symbols - 1) (drop 1 symbols)) ≡ length symbols - 1 = ap length others ∙ length-drop 1 symbols in (
      omega (arith, c.decreases, shorter, c.in-len1-up.len_at_least),
      (
        (λ k d inside. let e : get_or (take (length symbols - 1) (drop 1 symbols)) k d ≡ get_or symbols (1 + k) d = ap (λ xs. get_or xs k d) others ∙ get_or_after_one symbols k d in
            rw e (c.requires.symbols (1 + k) d (omega (arith, inside, shorter)))),
        child_packed c.open.new.places c.open.new.children.items c.index_mut.result.now (get_or symbols 0 0) c.in_ok-place-in-len1-up.place c.open.ensures.packed placed.0 placed.1
            (c.index_mut.ensures.value ∙ ap (λ items. get_or items c.in_ok-place-in-len1-up.place c.index_mut.result.now) (rolled_children _)),
      ),
    )

pub returns-in-empty-clause-rows : goal.returns-in-empty-clause-rows
returns-in-empty-clause-rows t c =
    let none : length c.args.symbols.now ≡ 0 = omega (arith, c.in-empty.len_below) in
    on_ok_weaker c.raise.result (λ raised. raised_node c.args.self.now _ c.args.symbols.now c.args.digits.now none raised refl refl) c.raise.ensures

pub returns-in-empty-clause-packed : goal.returns-in-empty-clause-packed
returns-in-empty-clause-packed t c = rolled_packed _ (opened_node c.args.self.now c.requires.packed)

pub returns-in_ok-place-in-len1-up-clause-rows : goal.returns-in_ok-place-in-len1-up-clause-rows
returns-in_ok-place-in-len1-up-clause-rows t c =
    let place = c.in_ok-place-in-len1-up.place in
    let children = c.open.new.children.items in
    let child = c.add.new.self in
    let some : 0 < length c.args.symbols.now = omega (arith, c.in-len1-up.len_at_least) in
    let placed = c.in_ok-place-in-len1-up.ensures.place in
    let before : c.index_mut.result.now ≡ get_or children place child =
    get_or_read children place c.index_mut.result.now placed.1 (c.index_mut.ensures.value ∙ ap (λ items. get_or items place c.index_mut.result.now) (rolled_children _)) child in
    on_ok_weaker c.add.result
    (λ rows. added_child c.args.self.now _ c.open.new.places children child place c.args.symbols.now c.args.digits.now some
    (record {
      digits_kept = rolled_digits _ ∙ rolled_digits _;
      places_kept = rolled_places _ ∙ rolled_places _;
      child_set = rolled_children _ ∙ ap (λ items. set items place child) (rolled_children _);
      packed = c.open.ensures.packed.here;
      rows = c.open.ensures.rows;
      known = c.requires.symbols 0 0 some;
      placed = placed.0;
      within = placed.1;
    })
    (rows ∙ ap (λ node. added (take (length c.args.symbols.now - 1) (drop 1 c.args.symbols.now)) c.args.digits.now (row node)) before))
    c.add.ensures.rows

pub returns-in_ok-place-in-len1-up-clause-packed :
    goal.returns-in_ok-place-in-len1-up-clause-packed
returns-in_ok-place-in-len1-up-clause-packed t c =
    rolled_packed _ (rw (rolled_places _, rolled_children _) (changed_packed c.open.new.places c.open.new.children.items c.add.new.self c.in_ok-place-in-len1-up.place c.open.ensures.packed c.in_ok-place-in-len1-up.ensures.place.1 c.add.ensures.packed))
