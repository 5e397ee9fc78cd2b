use Rattle.ntx_parse.proofs.script.+phrases.Given as goal

abbrev pub decreases-block : goal.decreases-block
decreases-block l = l.depth

abbrev pub decreases-exp : goal.decreases-exp
decreases-exp l = l.depth
