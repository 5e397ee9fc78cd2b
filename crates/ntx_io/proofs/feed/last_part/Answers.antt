use Rattle.ntx_io.proofs.Names.{whole_path, after_slash}
use Rattle.ntx_io.proofs.feed.last_part.Goals as goal

pub returns-in-None : goal.returns-in-None
returns-in-None c = whole_path _ c.in-None.ensures.cases

pub returns-in-Some : goal.returns-in-Some
returns-in-Some c =
    let split = c.in-Some.ensures.cases in
    after_slash _ _ split.0 split.1 split.2.0 split.2.1 split.4
