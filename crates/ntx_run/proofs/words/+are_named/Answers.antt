use Rattle.ntx_run.proofs.Fitting.{named_more}
use Rattle.ntx_run.proofs.words.+are_named.Goals as goal

pub returns-then-is_named : goal.returns-then-is_named
returns-then-is_named g t c = named_more _ _ _ _ _ c.feed-item.is c.if-is_named.true c.is_named.ensures c.in-len1-up.len_at_least c.are_named.ensures
