use Rattle.ntx_words.proofs.Forms.{form_is}
use Rattle.ntx_words.proofs.laws.parts_have_their_form.Goals as goal

pub returns : goal.returns
returns c = form_is
