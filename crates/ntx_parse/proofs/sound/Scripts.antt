-- What is read as a script is one.
--     sound           words that are read to the end as a block are a script with this tree
--     sound_script    words that are read as a script are one with this tree
use Rattle.std.proofs.Common.{◌≡◌, ℕ, zero, suc, List, [], ◌∷◌, Some, Ok, ap, subst}
use Rattle.ntx_syntax.specs.declared.tree.Block.{Block}
use Rattle.ntx_parse.specs.Words.{Word}
use Rattle.ntx_parse.specs.Grammar.{outermost, Accepts}
use Rattle.ntx_parse.specs.inner.Reading.{Readers, read, nothing, over, readers, ended, script_by}
use Rattle.ntx_parse.proofs.sound.Answers.{read-injective, not_read, parts_read, sound_nothing}
use Rattle.ntx_parse.proofs.sound.Phrases.{AreSound}
use Rattle.ntx_parse.proofs.sound.Lists.{sound_path, sound_names, sound_exps}
use Rattle.ntx_parse.proofs.sound.Prefixes.{sound_suffixes}
use Rattle.ntx_parse.proofs.sound.Tables.{sound_fields}
use Rattle.ntx_parse.proofs.sound.Expressions.{sound_exp, sound_operations}
use Rattle.ntx_parse.proofs.sound.Assignments.{sound_vars}
use Rattle.ntx_parse.proofs.sound.Statements.{sound_arms}
use Rattle.ntx_parse.proofs.sound.Blocks.{sound_stats, sound_block}

nothing_is_sound : AreSound nothing
nothing_is_sound = record {
  block = λ p words. sound_nothing;
  stats = λ p before words. sound_nothing;
  arms = λ p before words. sound_nothing;
  path = λ p before words. sound_nothing;
  names = λ p before words. sound_nothing;
  exps = λ p before words. sound_nothing;
  vars = λ p before words. sound_nothing;
  suffixes = λ p before words. sound_nothing;
  exp = λ p at words. sound_nothing;
  operations = λ p at before words. sound_nothing;
  fields = λ p before words. sound_nothing;
}

over_is_sound : (r : Readers) → AreSound r → AreSound (over r)
over_is_sound r s = record {
  block = sound_block r s;
  stats = sound_stats r s;
  arms = sound_arms r s;
  path = sound_path r s;
  names = sound_names r s;
  exps = sound_exps r s;
  vars = sound_vars r s;
  suffixes = sound_suffixes r s;
  exp = sound_exp r s;
  operations = sound_operations r s;
  fields = sound_fields r s;
}

pub readers_are_sound : (n : ℕ) → AreSound (readers n)
readers_are_sound zero = nothing_is_sound
readers_are_sound (suc n) = over_is_sound (readers n) (readers_are_sound n)

pub sound : (n : ℕ) (tree : Block) (words : List Word) → (readers n).block outermost words ≡ Some (Ok (tree, [])) → Accepts words (record { block = tree })
sound n tree words e =
    let found = ((readers_are_sound n).block outermost words).holds tree [] e in
    record { placed = found.placed; words_are = found.words_are; derives = found.derives; allowed = found.allowed tt }

ended_sound : (n : ℕ) (block tree : Block) (words behind rest : List Word) → (readers n).block outermost words ≡ read block behind → ended block behind ≡ read tree rest → Accepts words (record { block = tree })
ended_sound n block tree words [] rest is ends = subst (λ b. Accepts words (record { block = b })) (ap (λ f. f.0) (read-injective ends)) (sound n block words is)
ended_sound n block tree words (o ∷ behind) rest is ends = not_read _ ends

pub sound_script : (n : ℕ) (tree : Block) (words rest : List Word) → script_by n words ≡ Some (Ok (tree, rest)) → Accepts words (record { block = tree })
sound_script n tree words rest e =
    let parts = parts_read ((readers n).block outermost words) ended tree rest e in
    ended_sound n parts.0 tree words parts.1 rest parts.2 parts.3
