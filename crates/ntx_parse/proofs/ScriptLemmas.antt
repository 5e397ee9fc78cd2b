-- Whole scripts: what their reading says of the grammar.
use Rattle.std.proofs.Common.{◌≡◌, ℕ, ◌+◌, List, [], ◌∷◌, Some, Result, Ok, Err, refl, sym, ap, ◌∙◌, subst, arith, le_refl}
use Rattle.std.specs.Prelude.{IsSome, true, false, Bool, ◌&&◌}
use Rattle.std.specs.Result.{IsErrAnd}
use Rattle.std.proofs.lemmas.Bool.{false≢true}
use Rattle.std.specs.List.{list_all}
use Rattle.ntx_num.specs.Answer.{Answers}
use Rattle.ntx_num.specs.declared.answer.Fail.{Fail}
use Rattle.ntx_num.specs.declared.answer.Fail.TheVariants.{Is}
use Rattle.ntx_syntax.specs.declared.fault.SyntaxFault.{SyntaxFault}
use Rattle.ntx_syntax.specs.declared.fault.SyntaxWhy.TheVariants as why
use Rattle.ntx_syntax.specs.declared.tree.Block.{Block}
use Rattle.ntx_syntax.specs.declared.tree.Chunk.{Chunk}
use Rattle.ntx_syntax.specs.Lexes.{line_ends}
use Rattle.ntx_parse.specs.Faults.{IfRefused, IsRefused, line_at}
use Rattle.ntx_syntax.specs.Values.{numeral_value, text_value}
use Rattle.ntx_parse.specs.declared.place.Place.{Place}
use Rattle.ntx_syntax.specs.declared.terminal.Terminal.{Terminal}
use Rattle.ntx_syntax.specs.declared.terminal.Terminal.TheVariants as terminal
use Rattle.ntx_parse.specs.Grammar.{Accepts, outermost}
use Rattle.ntx_parse.specs.inner.Input.{Input, line_of, value_test, has_value, HaveValues}
use Rattle.ntx_parse.specs.inner.Reading.{Answer, stopped, ended, readers, script_by}
use Rattle.ntx_parse.specs.inner.Reads.{Reads, went, stops, out_of_memory, fault_at}
use Rattle.ntx_parse.specs.Words.{Word}
use Rattle.ntx_parse.proofs.complete.Scripts.{one_tree, stopped_is_none}
use Rattle.ntx_parse.proofs.reads.Answers.{ok, at_once, stops_at_once}
use Rattle.ntx_parse.proofs.faults.Refused.{refused_with_line}
use Rattle.ntx_parse.proofs.sound.Scripts.{sound_script}
use Rattle.ntx_parse.proofs.stuck.Answers.{EachHasValue}

-- ---- the end

pub ends_well : (b : Block) (words : List Word) → words ≡ [] → ended b words ≡ Some (Ok (b, []))
ends_well b words e = ap (ended b) e

pub ends_badly : (b : Block) (words : List Word) → (words ≡ [] → ⊥) → ended b words ≡ stopped why.Expected words
ends_badly b [] more = absurd (more refl)
ends_badly b (o ∷ words) more = refl

-- a block, read by a parser before all words
pub block_reads : {words : List Word} {last : ℕ} {r : Result Block (Fail SyntaxFault)} {new : Input} (parser : Input) (p : Place) → parser ≡ record { words = words; last_line = last } → p ≡ outermost
    → Reads (λ n. (readers n).block p parser.words) parser r new → Reads (λ n. (readers n).block outermost words) (record { words = words; last_line = last }) r new
block_reads {r = r} {new = new} parser p is at h =
    let first : Reads (λ n. (readers n).block outermost parser.words) parser r new = subst (λ q. Reads (λ n. (readers n).block q parser.words) parser r new) at h in
    subst (λ (i : Input). Reads (λ n. (readers n).block outermost i.words) i r new) is first

same_line : {A : Type 0} {f : ℕ → Answer A} {old new : Input} {a : A} → Reads f old (Ok a) new → new.last_line ≡ old.last_line
same_line (went first line shorter) = line

pub script_ends : {words : List Word} {last : ℕ} {b : Block} {new : Input} → Reads (λ n. (readers n).block outermost words) (record { words = words; last_line = last }) (Ok b) new → new.words ≡ []
    → Reads (λ n. script_by n words) (record { words = words; last_line = last }) (Ok b) (record { words = []; last_line = last })
script_ends {b = b} {new = new} h e = ok (λ _. ended) h (at_once (ends_well b new.words e) (sym (same_line h)) (omega arith))

pub script_stops : {words : List Word} {last : ℕ} {b : Block} {new : Input} (e : Fail SyntaxFault) → e ≡ Is (record { line = line_of new.last_line new.words; why = why.Expected })
    → Reads (λ n. (readers n).block outermost words) (record { words = words; last_line = last }) (Ok b) new → (new.words ≡ [] → ⊥)
    → Reads {A = Block} (λ n. script_by n words) (record { words = words; last_line = last }) (Err e) (record { words = []; last_line = last })
script_stops {b = b} {new = new} e is h more = rw is (ok (λ _. ended) h (stops_at_once (record { why = why.Expected; words = new.words }) (ends_badly b new.words more) refl))

-- ---- what is read

same_lines : (bytes : List ℕ) (words : List Word) → line_of (1 + line_ends bytes) words ≡ line_at bytes words
same_lines bytes [] = refl
same_lines bytes (o ∷ words) = refl

pub script_is_accepted : {words : List Word} {old new : Input} {b : Block} → Reads (λ n. script_by n words) old (Ok b) new → Accepts words (record { block = b })
script_is_accepted {words} {old} {new} {b} (went at_last line shorter) = sound_script at_last.from b words new.words (at_last.gives at_last.from (le_refl at_last.from))

pub no_other_tree : {words : List Word} {old new : Input} {b : Block} → Reads (λ n. script_by n words) old (Ok b) new → (chunk : Chunk) → Accepts words chunk → ◌≡◌ {A = Result Chunk SyntaxFault} (Ok chunk) (Ok (record { block = b }))
no_other_tree {words} {b = b} reads chunk a = ap (λ (x : Chunk). Ok x) (one_tree words chunk (record { block = b }) a (script_is_accepted reads))

-- What is refused has no tree,
refused_has_none : {words : List Word} {old new : Input} {e : Fail SyntaxFault} → Reads {A = Block} (λ n. script_by n words) old (Err e) new → (chunk : Chunk) → Accepts words chunk
    → Answers (Err e) (Ok chunk)
refused_has_none {words} (stops stop at_last is) chunk a = absurd (stopped_is_none words stop (at_last.from, at_last.gives) chunk a)
refused_has_none out_of_memory chunk a = tt

pub only_by : {words : List Word} {old new : Input} {e : Fail SyntaxFault} (r : Result Chunk (Fail SyntaxFault)) → IsErrAnd r (λ y. y ≡ e) → Reads {A = Block} (λ n. script_by n words) old (Err e) new
    → (chunk : Chunk) → Accepts words chunk → Answers r (Ok chunk)
only_by (Ok b) is h chunk a = absurd is
only_by (Err y) is h chunk a = rw is (refused_has_none h chunk a)

-- and is refused rightly.
refused_rightly : {words : List Word} {old new : Input} {e : Fail SyntaxFault} (bytes : List ℕ) → EachHasValue words → old.last_line ≡ 1 + line_ends bytes
    → Reads {A = Block} (λ n. script_by n words) old (Err e) new → IfRefused {A = Chunk} (Err e) (λ fault. IsRefused bytes words fault)
refused_rightly {words} bytes values line (stops stop at_last is) =
    subst (λ fault. IsRefused bytes words fault)
    (sym (is ∙ ap (λ l. fault_at l stop) line ∙ ap (λ l. record { line = l; why = stop.why }) (same_lines bytes stop.words)))
    (refused_with_line at_last.from bytes words stop values (at_last.gives at_last.from (le_refl at_last.from)))
refused_rightly bytes values line out_of_memory = tt

pub refused_by : {words : List Word} {old new : Input} {e : Fail SyntaxFault} (r : Result Chunk (Fail SyntaxFault)) (bytes : List ℕ) → IsErrAnd r (λ y. y ≡ e) → EachHasValue words → old.last_line ≡ 1 + line_ends bytes
    → Reads {A = Block} (λ n. script_by n words) old (Err e) new → IfRefused r (λ fault. IsRefused bytes words fault)
refused_by (Ok b) bytes is values line h = absurd is
refused_by (Err y) bytes is values line h = rw is (refused_rightly bytes values line h)

-- ---- values

test_holds : (t : Terminal) (spelled : List ℕ) → (t ≡ terminal.Numeral → IsSome (numeral_value spelled)) → (t ≡ terminal.Text → IsSome (text_value spelled)) → value_test t spelled ≡ true
test_holds terminal.Numeral spelled numeral text = numeral refl
test_holds terminal.Text spelled numeral text = text refl
test_holds _ spelled numeral text = refl

and_true : (a b : Bool) → a ≡ true → b ≡ true → (a && b) ≡ true
and_true true b first second = second
and_true false b first second = absurd (false≢true first)

pub all_values : (words : List Word) → EachHasValue words → HaveValues words
all_values [] h = refl
all_values (o ∷ words) h = and_true (has_value o) (list_all has_value words) (test_holds o.is o.spelled h.0.numeral h.0.text) (all_values words h.1)
