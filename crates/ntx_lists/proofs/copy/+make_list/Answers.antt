use Rattle.std.proofs.Common.{rules}
use Rattle.std.proofs.lemmas.Result.{err_from_is_err_and}
use Rattle.ntx_lists.proofs.Making.{make_turn, make_refused, make_first, make_second, make_third}
use Rattle.ntx_lists.proofs.copy.+make_list.Goals as goal

pub returns-in_err-copy_one-clause-makes : goal.returns-in_err-copy_one-clause-makes
returns-in_err-copy_one-clause-makes g t c =
    let h = g.N.Nodes.heap in
    let p = err_from_is_err_and c.from_residual.result c.from_residual.ensures.1 in
    rw (p.1, p.2) (make_refused (h c.args.nodes.now) (h c.loop-at.nodes) (h c.copy_one.new.self) c.args.head c.loop-at.at c.in-Some.n c.args.depth _ c.loop-at.invariant.makes c.in-Some.is c.in_err-copy_one.ensures.step)

pub returns-in_err-make_list-clause-makes : goal.returns-in_err-make_list-clause-makes
returns-in_err-make_list-clause-makes g t c =
    let h = g.N.Nodes.heap in
    let p = err_from_is_err_and c.from_residual-in_err-make_list.result c.from_residual-in_err-make_list.ensures.1 in
    rw (p.1, p.2) (make_first (h c.args.nodes.now) (h c.loop-at.nodes) (h c.copy_one.new.self) (h c.make_list.new.nodes) c.args.head c.loop-at.at c.following-at.result c.in-Some.n c.in_ok-copy_one.field-0 c.args.depth c.inner_lists-lists.result _
    c.loop-at.invariant.makes c.in-Some.is c.inner_lists-lists.ensures c.following-at.ensures c.in_ok-copy_one.ensures.step c.in_err-make_list.ensures.makes)

pub returns-in_err-make_list-2-clause-makes : goal.returns-in_err-make_list-2-clause-makes
returns-in_err-make_list-2-clause-makes g t c =
    let h = g.N.Nodes.heap in
    let p = err_from_is_err_and c.from_residual-in_err-make_list-2.result c.from_residual-in_err-make_list-2.ensures.1 in
    rw (p.1, p.2) (make_second (h c.args.nodes.now) (h c.loop-at.nodes) (h c.copy_one.new.self) (h c.make_list.new.nodes) (h c.make_list-in-Some.new.nodes) c.args.head c.loop-at.at c.following-at.result c.in-Some.n c.in_ok-copy_one.field-0 c.args.depth c.inner_lists-lists.result tt _
    c.loop-at.invariant.makes c.in-Some.is c.inner_lists-lists.ensures c.following-at.ensures c.in_ok-copy_one.ensures.step c.in_ok-make_list.ensures.makes c.in_err-make_list-2.ensures.makes)

pub returns-in_err-make_list-3-clause-makes : goal.returns-in_err-make_list-3-clause-makes
returns-in_err-make_list-3-clause-makes g t c =
    let h = g.N.Nodes.heap in
    let p = err_from_is_err_and c.from_residual-in_err-make_list-3.result c.from_residual-in_err-make_list-3.ensures.1 in
    rw (p.1, p.2) (make_third (h c.args.nodes.now) (h c.loop-at.nodes) (h c.copy_one.new.self) (h c.make_list.new.nodes) (h c.make_list-in-Some.new.nodes) (h c.make_list-in-Some-2.new.nodes) c.args.head c.loop-at.at c.following-at.result c.in-Some.n c.in_ok-copy_one.field-0 c.args.depth c.inner_lists-lists.result tt tt _
    c.loop-at.invariant.makes c.in-Some.is c.inner_lists-lists.ensures c.following-at.ensures c.in_ok-copy_one.ensures.step c.in_ok-make_list.ensures.makes c.in_ok-make_list-2.ensures.makes c.in_err-make_list-3.ensures.makes)

pub loop-at-preserved : goal.loop-at-preserved
loop-at-preserved g t c =
    let h = g.N.Nodes.heap in
    record {
      makes = make_turn (h c.args.nodes.now) (h c.loop-at.nodes) (h c.copy_one.new.self) (h c.make_list.new.nodes) (h c.make_list-in-Some.new.nodes) (h c.make_list-in-Some-2.new.nodes) c.args.head c.loop-at.at c.following-at.result c.in-Some.n c.in_ok-copy_one.field-0 c.args.depth c.inner_lists-lists.result tt tt tt
          c.loop-at.invariant.makes c.in-Some.is c.inner_lists-lists.ensures c.following-at.ensures c.in_ok-copy_one.ensures.step c.in_ok-make_list.ensures.makes c.in_ok-make_list-2.ensures.makes c.in_ok-make_list-3.ensures.makes;
      grows = search rules;
    }
