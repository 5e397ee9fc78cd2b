-- Where an `if` has a name too many, with an `else` and without.
use Rattle.std.proofs.Common.{◌≡◌, ℕ, List, map, Option, None, ap, ◌∙◌}
use Rattle.ntx_syntax.specs.declared.tree.Block.{Block}
use Rattle.ntx_syntax.specs.declared.tree.IfArm.{IfArm}
use Rattle.ntx_resolve.specs.Limit.{or_else, first, excess_of_arm, excess_of_arms, excess_of_block}
use Rattle.ntx_resolve.proofs.KindExcess.{or_none, arms_same}

pub with_none : (n : ℕ) (arms : List IfArm) → or_else (first (map (λ a. a n) (map excess_of_arm arms))) None ≡ excess_of_arms arms n
with_none n arms = or_none (first (map (λ a. a n) (map excess_of_arm arms))) ∙ arms_same n arms

pub with_else : (n : ℕ) (arms : List IfArm) (b : Block) → or_else (first (map (λ a. a n) (map excess_of_arm arms))) (excess_of_block b n) ≡ or_else (excess_of_arms arms n) (excess_of_block b n)
with_else n arms b = ap (λ x. or_else x (excess_of_block b n)) (arms_same n arms)
