use Rattle.std.proofs.Common.{◌≡◌, ◌≢◌, ◌∙◌, ap, subst, map, string_bytes, List, [], ℕ, Err}
use Rattle.std.specs.List.{All}
use Rattle.std.specs.Str.{IsUtf8}
use Rattle.ntx_num.specs.Answer.{Answers}
use Rattle.ntx_num.specs.declared.answer.Fail.{Fail}
use Rattle.ntx_num.specs.declared.answer.Fail.TheVariants.{NoMemory, Is}
use Rattle.clap.specs.Walk.{rows_of}
use Rattle.clap.specs.Simple.{is_simple, matches_of}
use Rattle.clap.specs.Faults.{fault_of, is_simple_and_free}
use Rattle.clap.specs.Kinds.{HasKind}
use Rattle.clap.specs.Words.{found_of, kind_of}
use Rattle.clap.specs.declared.error.Error.{Error}
use Rattle.clap.specs.declared.error.kind.ErrorKind.TheVariants as kind
use Rattle.ntx_words.specs.declared.words.BadWords.{BadWords}
use Rattle.ntx_words.specs.CommandLine.{or_bad_words}
use Rattle.ntx_words.specs.Parts.{Parts, parts_of}
use Rattle.ntx_words.specs.inner.Clap.{MatchFail, ntx_app}
use Rattle.ntx_words.proofs.Parsing.{accepted, refused}
use Rattle.ntx_words.proofs.Texts.{all_text}
use Rattle.ntx_words.proofs.parse.parse.Goals as goal

pub returns-in-Ok : goal.returns-in-Ok
returns-in-Ok c =
    let words = map string_bytes c.args.words.now in
    let app = c.in_ok-command.ensures in
    let none : fault_of ntx_app words ≡ [] = subst (λ a. fault_of a words ≡ []) app (c.in-Ok.ensures.kinds (ap is_simple_and_free app)) in
    let rows : rows_of (found_of c.in-Ok.matches) ≡ matches_of ntx_app words =
    (c.in-Ok.ensures.matches (ap is_simple app)).0 ∙ ap (λ a. matches_of a words) app in
    accepted words c.in-Ok.matches (all_text c.args.words.now) none rows

err_answers : (words : List (List ℕ)) (e : Error) (r : Fail BadWords) → All IsUtf8 words → HasKind (fault_of ntx_app words) e
    → MatchFail r (kind_of e ≡ kind.OutOfMemory) (kind_of e ≢ kind.OutOfMemory) → Answers {A = Parts} (Err r) (or_bad_words (parts_of words))
err_answers words e NoMemory utf8 has told = tt
err_answers words e (Is why) utf8 has told = refused words e utf8 has told

pub returns-in-Err : goal.returns-in-Err
returns-in-Err c =
    let words = map string_bytes c.args.words.now in
    let app = c.in_ok-command.ensures in
    let has : HasKind (fault_of ntx_app words) c.in-Err.error =
    subst (λ a. HasKind (fault_of a words) c.in-Err.error) app (c.in-Err.ensures.kinds (ap is_simple_and_free app)) in
    err_answers words c.in-Err.error c.refusal.result (all_text c.args.words.now) has
    (subst (λ k. MatchFail c.refusal.result (k ≡ kind.OutOfMemory) (k ≢ kind.OutOfMemory)) c.kind.ensures c.refusal.ensures)
