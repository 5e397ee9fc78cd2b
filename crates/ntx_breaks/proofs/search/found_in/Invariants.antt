-- What is known of the pass so far.
use Rattle.ntx_breaks.specs.inner.Search.{IsSound}
use Rattle.ntx_breaks.proofs.search.found_in.Given as goal

abbrev pub invariant-loop-n : goal.invariant-loop-n
invariant-loop-n l = IsSound l.fn.params l.fn.items l.fn.pass l.fn.places l.n l.search
