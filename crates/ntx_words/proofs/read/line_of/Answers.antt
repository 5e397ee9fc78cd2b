use Rattle.std.proofs.Common.{◌∙◌, Ok, ap, sym}
use Rattle.ntx_words.proofs.Lines.{too_few, too_many, no_steps, some_steps}
use Rattle.ntx_words.proofs.read.line_of.Goals as goal
use Rattle.ntx_words.proofs.read.line_of.Goals.{then-words-lt-FILES-via-then-words-lt-FILES, then-words-lt-FILES-via-else-words-lt-FILES+then-words}

pub returns-in-None : goal.returns-in-None
returns-in-None c = no_steps c.args.value c.args.words.now c.if-words-lt-FILES.false c.if-words.false c.in-None.ensures

pub returns-then-words-lt-FILES : goal.returns-then-words-lt-FILES
returns-then-words-lt-FILES c = elim c.then-words-lt-FILES.branch [
  | then-words-lt-FILES-via-then-words-lt-FILES w ↦ too_few c.args.value c.args.words.now w.if-words-lt-FILES.true
  | then-words-lt-FILES-via-else-words-lt-FILES+then-words w ↦ too_many c.args.value c.args.words.now w.if-words-lt-FILES.false w.if-words.true
]

pub returns-in_ok-line_with-in-Some : goal.returns-in_ok-line_with-in-Some
returns-in_ok-line_with-in-Some c =
    some_steps c.args.value c.args.words.now c.in-Some.steps c.if-words-lt-FILES.false c.if-words.false c.in-Some.ensures
    ∙ ap Ok (sym c.in_ok-line_with-in-Some.ensures)
