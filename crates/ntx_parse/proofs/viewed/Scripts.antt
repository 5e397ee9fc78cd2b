-- Two readings side by side: all of them together.
--     go_readers      those with calls of some depth, beside those with calls as deep or deeper
--     goes_script     the same of whole scripts
use Rattle.std.proofs.Common.{◌≤◌, ℕ, zero, suc, List, arith}
use Rattle.ntx_syntax.specs.declared.tree.Block.{Block}
use Rattle.ntx_parse.specs.Words.{Word}
use Rattle.ntx_parse.specs.Grammar.{outermost}
use Rattle.ntx_parse.specs.inner.Reading.{Readers, nothing, over, readers, ended, script_by}
use Rattle.ntx_parse.proofs.viewed.DeepNames.{AreDeep, deep_nothing, deep_over, deep_readers}
use Rattle.ntx_parse.proofs.viewed.Views.{View, Situation, At, Goes, goes_nothing, goes_read, goes_stopped, goes_then, Firsts, no_first, first, firsts}
use Rattle.ntx_parse.proofs.viewed.Lists.{Go, goes_path, goes_names, goes_exps}
use Rattle.ntx_parse.proofs.viewed.Prefixes.{goes_suffixes}
use Rattle.ntx_parse.proofs.viewed.Tables.{goes_fields}
use Rattle.ntx_parse.proofs.viewed.Expressions.{goes_exp, goes_operations}
use Rattle.ntx_parse.proofs.viewed.Names.{lost_exp}
use Rattle.ntx_parse.proofs.viewed.Statements.{goes_vars, goes_arms}
use Rattle.ntx_parse.proofs.viewed.Blocks.{goes_stats, goes_block}

go_nothing : {V : View} {other : Readers} → AreDeep other → Go V nothing other
go_nothing other_deep = record {
  block = λ p h. goes_nothing;
  stats = λ p before h. goes_nothing;
  arms = λ p before h. goes_nothing;
  path = λ p before h. goes_nothing;
  names = λ p before h. goes_nothing;
  exps = λ p before h. goes_nothing;
  vars = λ p before h. goes_nothing;
  suffixes = λ p before h. goes_nothing;
  exp = λ p at h. goes_nothing;
  operations = λ p at before h. goes_nothing;
  fields = λ p before h. goes_nothing;
  named = λ p at o words e fits l. goes_nothing;
  deep = deep_nothing;
  other_deep = other_deep;
}

pub go_over : {V : View} {r other : Readers} → Go V r other → Go V (over r) (over other)
go_over g = record {
  block = λ p h. goes_block g p h;
  stats = λ p before h. goes_stats g p before h;
  arms = λ p before h. goes_arms g p before h;
  path = λ p before h. goes_path g p before h;
  names = λ p before h. goes_names g p before h;
  exps = λ p before h. goes_exps g p before h;
  vars = λ p before h. goes_vars g p before h;
  suffixes = λ p before h. goes_suffixes g p before h;
  exp = λ p at h. goes_exp g p at h;
  operations = λ p at before h. goes_operations g p at before h;
  fields = λ p before h. goes_fields g p before h;
  named = λ p at o words e fits l. lost_exp g p o words e fits l at;
  deep = deep_over g.deep;
  other_deep = deep_over g.other_deep;
}

-- The first with calls of this depth go beside the others with calls as deep or deeper.
pub go_readers : {V : View} (n m : ℕ) → n ≤ m → Go V (readers n) (readers m)
go_readers zero m h = go_nothing (deep_readers m)
go_readers (suc n) zero h = absurd (omega arith)
go_readers (suc n) (suc m) h = go_over (go_readers n m (omega arith))

ended_first : {V : View} (block : Block) {s : Situation} {words others : List Word} → At V s words others → Firsts V s words others
    → Goes V s (ended block words) (ended block others)
ended_first block h no_first = goes_read h
ended_first block h (first behind) = goes_stopped h

pub goes_script : {V : View} {s : Situation} {words others : List Word} (n m : ℕ) → n ≤ m → At V s words others
    → Goes V s (script_by n words) (script_by m others)
goes_script n m deeper h = goes_then ((go_readers n m deeper).block outermost h) (λ block _ _ _ h. ended_first block h (firsts h))
