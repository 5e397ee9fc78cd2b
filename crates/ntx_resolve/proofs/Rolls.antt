-- Blocks and arms, by what they are made of.
use Rattle.std.proofs.Common.{◌≡◌, List, Option, sym, subst}
use Rattle.ntx_syntax.specs.declared.tree.Block as tree-block
use Rattle.ntx_syntax.specs.declared.tree.IfArm as tree-arm
use Rattle.ntx_resolve.specs.declared.code.Block.{Block, out-Block, roll-Block}
use Rattle.ntx_resolve.specs.declared.code.IfArm.{IfArm, out-IfArm, roll-IfArm}
use Rattle.ntx_resolve.specs.declared.code.StatKind.TheViews.{out-roll-Block, out-roll-IfArm}
use Rattle.ntx_resolve.specs.declared.code.Exp.{Exp}
use Rattle.ntx_resolve.specs.declared.code.Function.{Function}
use Rattle.ntx_resolve.specs.declared.code.Return.{Return}
use Rattle.ntx_resolve.specs.declared.code.Stat.{Stat}
use Rattle.ntx_resolve.specs.Scopes.{Scope}
use Rattle.ntx_resolve.specs.HasCode.{IsBlock, block, IsStats, IsReturn, IsExp}
use Rattle.ntx_resolve.specs.inner.Closed.{IsClosed, IsArm}

pub block_made : {all : List Function} {s t : Scope} {b : tree-block.Block} {cs : List Stat} {last : Option Return} → IsStats all s (tree-block.out-Block b).stats cs t
    → IsReturn all t (tree-block.out-Block b).last last → IsBlock all s b (roll-Block (record { stats = cs; last = last })) t
block_made {all = all} {s = s} {t = t} {b = b} {cs = cs} {last = last} stats returned =
    let e = sym (out-roll-Block (record { stats = cs; last = last })) in
    block (subst (λ r. IsStats all s (tree-block.out-Block b).stats r.stats t) e stats) (subst (λ r. IsReturn all t (tree-block.out-Block b).last r.last) e returned)

pub arm_made : {all : List Function} {s : Scope} (a : tree-arm.IfArm) {e : Exp} {c : Block} → IsExp all s (tree-arm.out-IfArm a).condition e
    → IsClosed all s (tree-arm.out-IfArm a).block c → IsArm all s a (roll-IfArm (record { condition = e; block = c }))
arm_made {all = all} {s = s} a {e = e} {c = c} condition closed =
    let is = sym (out-roll-IfArm (record { condition = e; block = c })) in
    (subst (λ r. IsExp all s (tree-arm.out-IfArm a).condition r.condition) is condition, subst (λ r. IsClosed all s (tree-arm.out-IfArm a).block r.block) is closed)
