use Rattle.std.proofs.Common.{length}
use Rattle.ntx_patterns.specs.Points.{dotted, value_of, value_in, points_of, points_in}
use Rattle.ntx_patterns.proofs.PointsLemmas.{allowed_ascending}
use Rattle.ntx_hyph.proofs.WholeLists.{whole_lists}
use Rattle.ntx_hyph.proofs.laws.hyphenated_lists_are_whole.Goals as goal

pub returns-clause-whole : goal.returns-clause-whole
returns-clause-whole c = whole_lists

pub returns-clause-table : goal.returns-clause-table
unfolding points_in
returns-clause-table c = λ t word left right. allowed_ascending (value_in t (dotted word)) (length word) left right

pub returns-clause-pairs : goal.returns-clause-pairs
unfolding points_of
returns-clause-pairs c = λ patterns word left right. allowed_ascending (value_of patterns (dotted word)) (length word) left right
