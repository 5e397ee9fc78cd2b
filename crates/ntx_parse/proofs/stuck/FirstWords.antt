-- A statement has a first word, whose line is the statement's.
use Rattle.std.proofs.Common.{◌≡◌, List, [], ◌∷◌, ◌++◌, refl, sym, subst}
use Rattle.ntx_syntax.specs.declared.tree.IfArm.{IfArm}
use Rattle.ntx_syntax.specs.declared.tree.StatKind.{StatKind}
use Rattle.ntx_syntax.specs.declared.tree.StatKind.TheVariants as stat
use Rattle.ntx_syntax.specs.declared.tree.Prefix.{Prefix}
use Rattle.ntx_syntax.specs.declared.tree.Var.{Var}
use Rattle.ntx_syntax.specs.declared.tree.Call.{Call}
use Rattle.ntx_syntax.specs.declared.fault.SyntaxWhy.{SyntaxWhy}
use Rattle.ntx_parse.specs.declared.place.Place.{Place}
use Rattle.ntx_syntax.specs.declared.terminal.Terminal.{Terminal}
use Rattle.ntx_syntax.specs.declared.terminal.Terminal.TheVariants as terminal
use Rattle.ntx_parse.specs.Words.{Word}
use Rattle.ntx_parse.specs.Grammar as grammar
use Rattle.ntx_parse.specs.Grammar.{Placed, IsPrefix, IsVar, IsVars, IsCall, IsArm, IsKind, IsStat, statement}
use Rattle.ntx_parse.specs.Faults.{at_place}
use Rattle.ntx_parse.specs.inner.Reading.{Answer, Stop}
use Rattle.ntx_parse.proofs.complete.Begins.{plain}
use Rattle.ntx_parse.proofs.sound.Answers.{Phrase}
use Rattle.ntx_parse.proofs.stuck.Answers.{no_call, MayFollow, IsCompleted, IsWrongWord, not_expected, too_deep, no_loop, HasPhrase, IsViable}

-- ---- phrases that are never empty

abbrev HasWord : List Placed → Type 0
HasWord [] = ⊥
HasWord (o ∷ words) = Unit {0}

prefix_word : {p : Place} {prefix : Prefix} {words rest : List Placed} → IsPrefix p prefix words rest → HasWord words
prefix_word (grammar.name_prefix is) = tt
prefix_word (grammar.index_prefix prefix key) = prefix_word prefix
prefix_word (grammar.field_prefix prefix dot name) = prefix_word prefix
prefix_word (grammar.call_prefix prefix all) = prefix_word prefix
prefix_word (grammar.parenthesized open_ e closed) = tt

var_word : {p : Place} {v : Var} {words rest : List Placed} → IsVar p v words rest → HasWord words
var_word (grammar.name_var is) = tt
var_word (grammar.index_var prefix key) = prefix_word prefix
var_word (grammar.field_var prefix dot name) = prefix_word prefix

vars_word : {p : Place} {vars : List Var} {words rest : List Placed} → IsVars p vars words rest → HasWord words
vars_word (grammar.one_var v) = var_word v
vars_word (grammar.more_vars v comma vars) = var_word v

call_word : {p : Place} {call : Call} {words rest : List Placed} → IsCall p call words rest → HasWord words
call_word (grammar.call prefix all) = prefix_word prefix

arm_word : {p : Place} {t : Terminal} {first : IfArm} {words rest : List Placed} → IsArm p t first words rest → HasWord words
arm_word (grammar.arm is condition then body) = tt

kind_word : {p : Place} {kind : StatKind} {words rest : List Placed} → IsKind p kind words rest → HasWord words
kind_word (grammar.assignment vars is values) = vars_word vars
kind_word (grammar.called c none) = call_word c
kind_word (grammar.if_then first arms other e) = arm_word first
kind_word _ = tt

-- ---- statements

first_is : {o other : Word} {words others : List Word} → o ∷ words ≡ other ∷ others → o ≡ other
first_is e = cc

-- a statement of some kind that has the line of this word
abbrev pub IsStatAt : Place → Word → Phrase StatKind
IsStatAt p o = λ kind placed behind. IsStat p (record { line = o.line; kind = kind }) placed behind

lined : {p : Place} {kind : StatKind} {first : Placed} {words rest : List Placed} {o : Word} → o ≡ first.word → IsKind p kind (first ∷ words) rest → IsStatAt p o kind (first ∷ words) rest
lined {p} {kind} {first} {words} {rest} e h = subst (λ w. IsStat p (record { line = w.line; kind = kind }) (first ∷ words) rest) (sym e) (statement h)

stat_phrase : (p : Place) (o : Word) → HasPhrase no_call no_call (IsStatAt p o)
stat_phrase p o = record {
  others = at_place (record { is = terminal.Semicolon; spelled = []; line = o.line }) p ∷ [];
  tree = stat.Empty;
  derives = λ behind _. statement (grammar.empty (record { is = refl; place = refl }));
  begins = λ behind _. refl;
}

front_lined : {p : Place} {o : Word} {words : List Word} {kind : StatKind} (rest : List Word) (front : List Placed) → o ∷ words ≡ plain front ++ rest → ((behind : List Placed) → (MayFollow no_call rest → MayFollow no_call (plain behind)) → IsKind p kind (front ++ behind) behind) → (behind : List Placed) → (MayFollow no_call rest → MayFollow no_call (plain behind)) → IsStatAt p o kind (front ++ behind) behind
front_lined rest [] same h behind f = absurd (kind_word (h [] (λ _. refl)))
front_lined rest (first ∷ front) same h behind f = lined (first_is same) (h behind f)

completed_none : {p : Place} {o : Word} {words : List Word} → IsCompleted no_call no_call (IsStatAt p o) (o ∷ words) []
completed_none {p} {o} = let w = stat_phrase p o in record { others = w.others; tree = w.tree; derives = w.derives; begins = λ behind h _. w.begins behind h }

completed_some : {p : Place} {o : Word} {words : List Word} {first : Placed} {upto : List Placed} → o ≡ first.word → IsCompleted no_call no_call (IsKind p) (o ∷ words) (first ∷ upto) → IsCompleted no_call no_call (IsStatAt p o) (o ∷ words) (first ∷ upto)
completed_some e w = record { others = w.others; tree = w.tree; derives = λ behind h. lined e (w.derives behind h); begins = w.begins }

-- where no word is read before the stop
completed_at : {p : Place} {o : Word} {words : List Word} {why : SyntaxWhy} {stopped : List Word} {last : List Placed} → IsWrongWord why stopped last → o ∷ words ≡ stopped → IsCompleted no_call no_call (IsKind p) (o ∷ words) last → IsCompleted no_call no_call (IsStatAt p o) (o ∷ words) last
completed_at not_expected same w = completed_none
completed_at (too_deep deep) same w = completed_some (first_is same) w
completed_at (no_loop fits breaks outside) same w = completed_some (first_is same) w

completed_lined : {p : Place} {o : Word} {words : List Word} {s : Stop} {last : List Placed} (front : List Placed) → o ∷ words ≡ plain front ++ s.words → IsWrongWord s.why s.words last → IsCompleted no_call no_call (IsKind p) (o ∷ words) (front ++ last) → IsCompleted no_call no_call (IsStatAt p o) (o ∷ words) (front ++ last)
completed_lined [] same wrong w = completed_at wrong same w
completed_lined (first ∷ front) same wrong w = completed_some (first_is same) w

pub viable_stat : {p : Place} {o : Word} {words : List Word} {answer : Answer StatKind} → IsViable no_call no_call (IsKind p) (o ∷ words) answer → IsViable no_call no_call (IsStatAt p o) (o ∷ words) answer
viable_stat {p} {o} h = record {
  whole = stat_phrase p o;
  reads = λ values x rest e.
      let f = h.reads values x rest e in
      record { front = f.front; words_are = f.words_are; allowed = f.allowed; derives = front_lined rest f.front f.words_are f.derives; begins = f.begins };
  stops = λ values s e.
      let f = h.stops values s e in
      record { front = f.front; words_are = f.words_are; allowed = f.allowed; last = f.last; wrong = f.wrong; completed = completed_lined {s = s} f.front f.words_are f.wrong f.completed };
}
