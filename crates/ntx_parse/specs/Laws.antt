-- What holds of every script: it has one tree or one fault, and not both.
use Rattle.std.specs.Prelude.{◌≡◌, ◌⊎◌, ℕ, List}
use Rattle.ntx_syntax.specs.declared.fault.SyntaxFault.{SyntaxFault}
use Rattle.ntx_syntax.specs.declared.token.Token as token
use Rattle.ntx_syntax.specs.declared.tree.Chunk.{Chunk}
use Rattle.ntx_syntax.specs.Lexes.{Lexes}
use Rattle.ntx_parse.specs.Words.{Word, words_of}
use Rattle.ntx_parse.specs.Grammar.{Accepts}
use Rattle.ntx_parse.specs.Faults.{IsRefused}

-- A script that has tokens has a tree or a fault.
abbrev pub EachScriptIsDecided : Type 0
EachScriptIsDecided = (bytes : List ℕ) (tokens : List token.Token) → Lexes bytes tokens
    → ((chunk : Chunk) × Accepts (words_of bytes tokens) chunk) ⊎ ((fault : SyntaxFault) × IsRefused bytes (words_of bytes tokens) fault)

-- No script has two trees.
abbrev pub ScriptsHaveOneTree : Type 0
ScriptsHaveOneTree = (words : List Word) (a b : Chunk) → Accepts words a → Accepts words b → a ≡ b

-- No script has two faults.
abbrev pub ScriptsHaveOneFault : Type 0
ScriptsHaveOneFault = (bytes : List ℕ) (words : List Word) (a b : SyntaxFault) → IsRefused bytes words a → IsRefused bytes words b → a ≡ b

-- No script that has a fault has a tree.
abbrev pub RefusedScriptsHaveNoTree : Type 0
RefusedScriptsHaveNoTree = (bytes : List ℕ) (words : List Word) (chunk : Chunk) (fault : SyntaxFault) → Accepts words chunk → IsRefused bytes words fault → ⊥
