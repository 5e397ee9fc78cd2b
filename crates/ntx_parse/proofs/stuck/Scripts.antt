-- Where a script is refused, the words before stand, and the word there is wrong.
--     stand      the words before the stop stand, and if it lies too deep there or is a `break` outside of any loop, it can stand there but for that
--     refused    the script is refused there, if no word of the stop can follow where it is not expected
use Rattle.std.proofs.Common.{◌≡◌, ℕ, zero, suc, List, [], ◌∷◌, ◌++◌, None, Some, Ok, Err, refl, subst, append_assoc}
use Rattle.ntx_syntax.specs.declared.fault.SyntaxWhy.{SyntaxWhy}
use Rattle.ntx_syntax.specs.declared.fault.SyntaxWhy.TheVariants as why
use Rattle.ntx_syntax.specs.declared.tree.Block.{Block}
use Rattle.ntx_parse.specs.Words.{Word}
use Rattle.ntx_parse.specs.Grammar as grammar
use Rattle.ntx_parse.specs.Grammar.{Placed, outermost, max_nesting, IsBlock, IsExp, IsSimple}
use Rattle.ntx_parse.specs.Faults.{CanBegin, Stand, IsWrong, IsRefusedAt}
use Rattle.ntx_parse.specs.inner.Reading.{Answer, Stop, Readers, nothing, over, readers, and_then, ended, script_by}
use Rattle.ntx_parse.proofs.complete.Begins.{plain}
use Rattle.ntx_parse.proofs.sound.Answers.{Phrase}
use Rattle.ntx_parse.proofs.sound.Phrases.{behind_all, names_end, exps_end, vars_end}
use Rattle.ntx_parse.proofs.stuck.Answers.{Ends, no_call, MayFollow, EachHasValue, IsFront, IsWrongWord, not_expected, too_deep, no_loop, IsStuck, HasPhrase, IsViable, stop-injective}
use Rattle.ntx_parse.proofs.stuck.Words.{viable_nothing}
use Rattle.ntx_parse.proofs.stuck.Phrases.{AreViable}
use Rattle.ntx_parse.proofs.stuck.Lists.{viable_path, viable_names, viable_exps}
use Rattle.ntx_parse.proofs.stuck.Prefixes.{no_parenthesis, viable_suffixes}
use Rattle.ntx_parse.proofs.stuck.Tables.{viable_fields}
use Rattle.ntx_parse.proofs.stuck.Empty.{nil_exp}
use Rattle.ntx_parse.proofs.stuck.Expressions.{viable_exp, viable_operations}
use Rattle.ntx_parse.proofs.stuck.Assignments.{viable_vars}
use Rattle.ntx_parse.proofs.stuck.Statements.{viable_arms}
use Rattle.ntx_parse.proofs.stuck.Blocks.{viable_stats, viable_block}

-- ---- all readings

-- a phrase of no words
none_phrase : {A : Type 0} {c : Ends} {D : Phrase A} (x : A) → ((behind : List Placed) → MayFollow c (plain behind) → D x behind behind) → HasPhrase c c D
none_phrase x h = record { others = []; tree = x; derives = h; begins = λ behind f. f }

nothing_is_viable : AreViable nothing
nothing_is_viable = record {
  block = λ p words. viable_nothing (none_phrase _ (λ _ _. grammar.block grammar.no_stats grammar.no_return));
  stats = λ p before words. viable_nothing (none_phrase _ (λ _ _. behind_all grammar.no_stats));
  arms = λ p before words. viable_nothing (none_phrase _ (λ _ _. behind_all grammar.no_arms));
  path = λ p before words. viable_nothing (none_phrase _ (λ _ _. behind_all grammar.no_path));
  names = λ p before words. viable_nothing (none_phrase _ (λ _ _. behind_all names_end));
  exps = λ p before words. viable_nothing (none_phrase _ (λ _ _. behind_all exps_end));
  vars = λ p before words. viable_nothing (none_phrase _ (λ _ _. behind_all vars_end));
  suffixes = λ p before words. viable_nothing (none_phrase before (λ behind h. record { derives = λ start prefix. prefix; ends = no_parenthesis behind h }));
  exp = λ p at words. viable_nothing (nil_exp p at);
  operations = λ p at before words. viable_nothing (none_phrase before (λ _ _ first start run. run));
  fields = λ p before words. viable_nothing (none_phrase _ (λ _ _. behind_all grammar.no_fields));
}

over_is_viable : (r : Readers) → AreViable r → AreViable (over r)
over_is_viable r v = record {
  block = viable_block r v;
  stats = viable_stats r v;
  arms = viable_arms r v;
  path = viable_path r v;
  names = viable_names r v;
  exps = viable_exps r v;
  vars = viable_vars r v;
  suffixes = viable_suffixes r v;
  exp = viable_exp r v;
  operations = viable_operations r v;
  fields = viable_fields r v;
}

pub readers_are_viable : (n : ℕ) → AreViable (readers n)
readers_are_viable zero = nothing_is_viable
readers_are_viable (suc n) = over_is_viable (readers n) (readers_are_viable n)

-- ---- scripts

-- What is wrong with the first of these words, but that it is not expected.
abbrev pub IsWrongThere : SyntaxWhy → List Word → List Placed → List Word → Type 0
IsWrongThere why.Expected front placed behind = Unit {0}
IsWrongThere reason front placed behind = IsWrong reason front placed behind

-- The words up to the stop stand, and what is there is wrong.
pub record IsStopped (words : List Word) (s : Stop) : Type 0 where
  pub front : List Word
  pub words_are : words ≡ front ++ s.words
  pub stand : Stand front
  pub wrong : IsWrongThere s.why front stand.placed s.words

wrong_there : {reason : SyntaxWhy} {behind : List Word} {last : List Placed} (placed : List Placed) → IsWrongWord reason behind last → CanBegin (placed ++ last) → IsWrongThere reason (plain placed) placed behind
wrong_there placed not_expected h = tt
wrong_there placed (too_deep {p = p} deep) h = (p, h, deep)
wrong_there placed (no_loop {p = p} fits breaks outside) h = (p, h, fits, breaks, outside)

pub begins_less : (placed last : List Placed) → CanBegin (placed ++ last) → CanBegin placed
begins_less placed last h = (last ++ h.0, h.1, subst (λ z. IsBlock outermost (h.1).block z []) (append_assoc placed last h.0) h.2)

stopped_in : {words : List Word} {s : Stop} → IsStuck no_call no_call (IsBlock outermost) words s → IsStopped words s
stopped_in {words} {s} f =
    let w = f.completed in
    let begins : CanBegin (f.front ++ f.last) = (w.others ++ [], record { block = w.tree }, w.derives [] refl) in
    record {
      front = plain f.front;
      words_are = f.words_are;
      stand = record { placed = f.front; words_are = refl; can_begin = begins_less f.front f.last begins; allowed = f.allowed };
      wrong = wrong_there f.front f.wrong begins;
    }

stopped_behind : {words : List Word} {tree : Block} {o : Word} {behind : List Word} → IsFront no_call no_call (IsBlock outermost) words tree (o ∷ behind) → IsStopped words (record { why = why.Expected; words = o ∷ behind })
stopped_behind {tree = tree} f = record {
  front = plain f.front;
  words_are = f.words_are;
  stand = record { placed = f.front; words_are = refl; can_begin = ([], record { block = tree }, f.derives [] (λ _. refl)); allowed = f.allowed };
  wrong = tt;
}

stopped_by : {words : List Word} (a : Answer Block) → IsViable no_call no_call (IsBlock outermost) words a → EachHasValue words → (s : Stop) → and_then a ended ≡ Some (Err s) → IsStopped words s
stopped_by None h values s e = absurd cc
stopped_by (Some (Err stop)) h values s e = stopped_in (h.stops values s e)
stopped_by (Some (Ok (tree, []))) h values s e = absurd cc
stopped_by {words} (Some (Ok (tree, o ∷ behind))) h values s e = subst (IsStopped words) (stop-injective e) (stopped_behind (h.reads values tree (o ∷ behind) refl))

pub stand : (n : ℕ) (words : List Word) (s : Stop) → EachHasValue words → script_by n words ≡ Some (Err s) → IsStopped words s
stand n words s values e = stopped_by ((readers n).block outermost words) ((readers_are_viable n).block outermost words) values s e

-- ---- refusals

wrong_for : (reason : SyntaxWhy) (front behind : List Word) (placed : List Placed) → IsWrongThere reason front placed behind → (reason ≡ why.Expected → IsWrong why.Expected front placed behind) → IsWrong reason front placed behind
wrong_for why.Expected front behind placed h f = f refl
wrong_for _ front behind placed h f = h

pub refused : {words : List Word} {s : Stop} → IsStopped words s → ((front : List Word) (placed : List Placed) → words ≡ front ++ s.words → s.why ≡ why.Expected → IsWrong why.Expected front placed s.words) → IsRefusedAt s.why words s.words
refused {words} {s} h f = record {
  front = h.front;
  words_are = h.words_are;
  stand = h.stand;
  wrong = wrong_for s.why h.front s.words h.stand.placed h.wrong (f h.front h.stand.placed h.words_are);
}
