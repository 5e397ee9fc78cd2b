-- Statements and suffixes, one after the other.
use Rattle.std.proofs.Common.{◌≡◌, ◌≢◌, ℕ, Bool, true, false, ◌||◌, List, [], ◌∷◌, ◌++◌, refl, ap, sym, None, Some, Ok, Err, if◌then◌else◌}
use Rattle.ntx_syntax.specs.declared.tree.Stat.{Stat}
use Rattle.ntx_parse.specs.declared.part.Part.{Part}
use Rattle.ntx_parse.specs.declared.part.Tail.{Tail}
use Rattle.ntx_parse.specs.declared.part.Tail.TheVariants as tail
use Rattle.ntx_parse.specs.declared.place.Place.{Place}
use Rattle.ntx_syntax.specs.declared.terminal.Terminal.{Terminal}
use Rattle.ntx_syntax.specs.declared.terminal.Terminal.TheVariants as terminal
use Rattle.ntx_syntax.specs.declared.fault.SyntaxWhy.TheVariants as why
use Rattle.ntx_parse.specs.Words.{Word}
use Rattle.ntx_parse.specs.Grammar.{within}
use Rattle.ntx_parse.specs.inner.Reading.{Answer, Readers, and_then, read, stopped, begins, begins_statement, kind_at, stats_behind, suffixes_behind, simple_at, read_simple, take_word, read_name, read_index, read_arguments, read_expression_statement}
use Rattle.ntx_parse.specs.inner.Input.{next_of, statement_at}
use Rattle.ntx_parse.specs.inner.Steps.{tail_at, extended}

none_not_some : {X : Type 0} {x : X} → None ≡ Some x → ⊥
none_not_some is = cc

some_injective : {X : Type 0} {x y : X} → Some x ≡ Some y → x ≡ y
some_injective is = cc

no_test : {X : Type 0} (b : Bool) (x : X) → (if b then Some x else None) ≡ None → b ≡ false
no_test true x is = absurd (none_not_some (sym is))
no_test false x is = refl

by_test : {X : Type 0} (b : Bool) {x y : X} → (if b then Some x else None) ≡ Some y → (b ≡ true) × (Some x ≡ Some y)
by_test true is = (refl, is)
by_test false is = absurd (none_not_some is)

pub stat_by : (r : Readers) (p : Place) (before : List Stat) (words : List Word) (t : Terminal) (line : ℕ) → statement_at words ≡ Some (t, line)
    → stats_behind r p before words ≡ and_then (kind_at r p t words) (λ kind rest. r.stats p (before ++ record { line = line; kind = kind } ∷ []) rest)
stat_by r p before [] t line is = absurd (none_not_some is)
stat_by r p before (o ∷ words) t line is =
    let test = by_test (begins_statement o.is) is in
    let pair : (o.is, o.line) ≡ (t, line) = some_injective test.1 in
    rw test.0 (ap (λ (q : Terminal × ℕ). and_then (kind_at r p q.0 (o ∷ words)) (λ kind rest. r.stats p (before ++ record { line = q.1; kind = kind } ∷ []) rest)) pair)

pub stats_end : (r : Readers) (p : Place) (before : List Stat) (words : List Word) → statement_at words ≡ None → stats_behind r p before words ≡ read before words
stats_end r p before [] is = refl
stats_end r p before (o ∷ words) is = rw (no_test (begins_statement o.is) (o.is, o.line) is) refl

assoc : {A B C : Type 0} (a : Answer A) (f : A → B) (next : B → List Word → Answer C)
    → and_then (and_then a (λ x rest. read (f x) rest)) next ≡ and_then a (λ x rest. next (f x) rest)
assoc None f next = refl
assoc (Some (Err stop)) f next = refl
assoc (Some (Ok found)) f next = refl

assoc_twice : {A B C D : Type 0} (a : Answer A) (g : A → List Word → Answer B) (f : B → C) (next : C → List Word → Answer D)
    → and_then (and_then a (λ x rest. and_then (g x rest) (λ y others. read (f y) others))) next ≡ and_then a (λ x rest. and_then (g x rest) (λ y others. next (f y) others))
assoc_twice None g f next = refl
assoc_twice (Some (Err stop)) g f next = refl
assoc_twice (Some (Ok found)) g f next = assoc (g found.0 found.1) f next

pick : {A B : Type 0} (b1 b2 b3 : Bool) (x y z w : Answer B) (t1 t2 t3 : Answer A) (next : A → List Word → Answer B)
    → x ≡ and_then t1 next → y ≡ and_then t2 next → z ≡ and_then t3 next → (b1 || b2 || b3) ≡ true
    → (if b1 then x else if b2 then y else if b3 then z else w) ≡ and_then (if b1 then t1 else if b2 then t2 else t3) next
pick true b2 b3 x y z w t1 t2 t3 next e1 e2 e3 is = e1
pick false true b3 x y z w t1 t2 t3 next e1 e2 e3 is = e2
pick false false true x y z w t1 t2 t3 next e1 e2 e3 is = e3
pick false false false x y z w t1 t2 t3 next e1 e2 e3 is = absurd (cc)

pick_none : {B : Type 0} (b1 b2 b3 : Bool) (x y z w : Answer B) → (b1 || b2 || b3) ≡ false → (if b1 then x else if b2 then y else if b3 then z else w) ≡ w
pick_none true b2 b3 x y z w is = absurd (cc)
pick_none false true b3 x y z w is = absurd (cc)
pick_none false false true x y z w is = absurd (cc)
pick_none false false false x y z w is = refl

pub suffix_by : (r : Readers) (p : Place) (before : Part) (words : List Word)
    → (begins terminal.LeftBracket words || begins terminal.Dot words || begins terminal.LeftParenthesis words) ≡ true
    → suffixes_behind r p before words ≡ and_then (tail_at r p words) (λ t rest. r.suffixes p (extended before t) rest)
suffix_by r p before words is =
    let next : Tail → List Word → Answer Part = λ t rest. r.suffixes p (extended before t) rest in
    pick (begins terminal.LeftBracket words) (begins terminal.Dot words) (begins terminal.LeftParenthesis words) _ _ _ _ _ _ _ next
    (sym (assoc (read_index r (within p) words) tail.Index next))
    (sym (assoc_twice (take_word p words) (λ _ behind. read_name p behind) tail.Field next))
    (sym (assoc (read_arguments r (within p) words) tail.Call next)) is

pub suffix_end : (r : Readers) (p : Place) (before : Part) (words : List Word)
    → (begins terminal.LeftBracket words || begins terminal.Dot words || begins terminal.LeftParenthesis words) ≡ false
    → suffixes_behind r p before words ≡ read before words
suffix_end r p before words is = pick_none (begins terminal.LeftBracket words) (begins terminal.Dot words) (begins terminal.LeftParenthesis words) _ _ _ _ is

pub kind_other : (r : Readers) (p : Place) (t : Terminal) (words : List Word)
    → t ≢ terminal.Semicolon → t ≢ terminal.Break → t ≢ terminal.Do → t ≢ terminal.While → t ≢ terminal.Repeat → t ≢ terminal.If → t ≢ terminal.For → t ≢ terminal.Function → t ≢ terminal.Local
    → kind_at r p t words ≡ read_expression_statement r p words
kind_other r p terminal.Name words h0 h1 h2 h3 h4 h5 h6 h7 h8 = refl
kind_other r p terminal.Numeral words h0 h1 h2 h3 h4 h5 h6 h7 h8 = refl
kind_other r p terminal.Text words h0 h1 h2 h3 h4 h5 h6 h7 h8 = refl
kind_other r p terminal.And words h0 h1 h2 h3 h4 h5 h6 h7 h8 = refl
kind_other r p terminal.Break words h0 h1 h2 h3 h4 h5 h6 h7 h8 = absurd (h1 refl)
kind_other r p terminal.Do words h0 h1 h2 h3 h4 h5 h6 h7 h8 = absurd (h2 refl)
kind_other r p terminal.Else words h0 h1 h2 h3 h4 h5 h6 h7 h8 = refl
kind_other r p terminal.Elseif words h0 h1 h2 h3 h4 h5 h6 h7 h8 = refl
kind_other r p terminal.End words h0 h1 h2 h3 h4 h5 h6 h7 h8 = refl
kind_other r p terminal.False words h0 h1 h2 h3 h4 h5 h6 h7 h8 = refl
kind_other r p terminal.For words h0 h1 h2 h3 h4 h5 h6 h7 h8 = absurd (h6 refl)
kind_other r p terminal.Function words h0 h1 h2 h3 h4 h5 h6 h7 h8 = absurd (h7 refl)
kind_other r p terminal.Goto words h0 h1 h2 h3 h4 h5 h6 h7 h8 = refl
kind_other r p terminal.If words h0 h1 h2 h3 h4 h5 h6 h7 h8 = absurd (h5 refl)
kind_other r p terminal.In words h0 h1 h2 h3 h4 h5 h6 h7 h8 = refl
kind_other r p terminal.Local words h0 h1 h2 h3 h4 h5 h6 h7 h8 = absurd (h8 refl)
kind_other r p terminal.Nil words h0 h1 h2 h3 h4 h5 h6 h7 h8 = refl
kind_other r p terminal.Not words h0 h1 h2 h3 h4 h5 h6 h7 h8 = refl
kind_other r p terminal.Or words h0 h1 h2 h3 h4 h5 h6 h7 h8 = refl
kind_other r p terminal.Repeat words h0 h1 h2 h3 h4 h5 h6 h7 h8 = absurd (h4 refl)
kind_other r p terminal.Return words h0 h1 h2 h3 h4 h5 h6 h7 h8 = refl
kind_other r p terminal.Then words h0 h1 h2 h3 h4 h5 h6 h7 h8 = refl
kind_other r p terminal.True words h0 h1 h2 h3 h4 h5 h6 h7 h8 = refl
kind_other r p terminal.Until words h0 h1 h2 h3 h4 h5 h6 h7 h8 = refl
kind_other r p terminal.While words h0 h1 h2 h3 h4 h5 h6 h7 h8 = absurd (h3 refl)
kind_other r p terminal.Plus words h0 h1 h2 h3 h4 h5 h6 h7 h8 = refl
kind_other r p terminal.Minus words h0 h1 h2 h3 h4 h5 h6 h7 h8 = refl
kind_other r p terminal.Star words h0 h1 h2 h3 h4 h5 h6 h7 h8 = refl
kind_other r p terminal.DoubleSlash words h0 h1 h2 h3 h4 h5 h6 h7 h8 = refl
kind_other r p terminal.Percent words h0 h1 h2 h3 h4 h5 h6 h7 h8 = refl
kind_other r p terminal.Ampersand words h0 h1 h2 h3 h4 h5 h6 h7 h8 = refl
kind_other r p terminal.Tilde words h0 h1 h2 h3 h4 h5 h6 h7 h8 = refl
kind_other r p terminal.Bar words h0 h1 h2 h3 h4 h5 h6 h7 h8 = refl
kind_other r p terminal.ShiftLeft words h0 h1 h2 h3 h4 h5 h6 h7 h8 = refl
kind_other r p terminal.ShiftRight words h0 h1 h2 h3 h4 h5 h6 h7 h8 = refl
kind_other r p terminal.Hash words h0 h1 h2 h3 h4 h5 h6 h7 h8 = refl
kind_other r p terminal.Equal words h0 h1 h2 h3 h4 h5 h6 h7 h8 = refl
kind_other r p terminal.NotEqual words h0 h1 h2 h3 h4 h5 h6 h7 h8 = refl
kind_other r p terminal.LessEqual words h0 h1 h2 h3 h4 h5 h6 h7 h8 = refl
kind_other r p terminal.GreaterEqual words h0 h1 h2 h3 h4 h5 h6 h7 h8 = refl
kind_other r p terminal.Less words h0 h1 h2 h3 h4 h5 h6 h7 h8 = refl
kind_other r p terminal.Greater words h0 h1 h2 h3 h4 h5 h6 h7 h8 = refl
kind_other r p terminal.Assign words h0 h1 h2 h3 h4 h5 h6 h7 h8 = refl
kind_other r p terminal.LeftParenthesis words h0 h1 h2 h3 h4 h5 h6 h7 h8 = refl
kind_other r p terminal.RightParenthesis words h0 h1 h2 h3 h4 h5 h6 h7 h8 = refl
kind_other r p terminal.LeftBrace words h0 h1 h2 h3 h4 h5 h6 h7 h8 = refl
kind_other r p terminal.RightBrace words h0 h1 h2 h3 h4 h5 h6 h7 h8 = refl
kind_other r p terminal.LeftBracket words h0 h1 h2 h3 h4 h5 h6 h7 h8 = refl
kind_other r p terminal.RightBracket words h0 h1 h2 h3 h4 h5 h6 h7 h8 = refl
kind_other r p terminal.Semicolon words h0 h1 h2 h3 h4 h5 h6 h7 h8 = absurd (h0 refl)
kind_other r p terminal.Comma words h0 h1 h2 h3 h4 h5 h6 h7 h8 = refl
kind_other r p terminal.Dot words h0 h1 h2 h3 h4 h5 h6 h7 h8 = refl
kind_other r p terminal.DoubleDot words h0 h1 h2 h3 h4 h5 h6 h7 h8 = refl

pub simple_by : (r : Readers) (p : Place) (t : Terminal) (words : List Word) → next_of words ≡ Some t → read_simple r p words ≡ simple_at r p t words
simple_by r p t [] is = absurd (none_not_some is)
simple_by r p t (o ∷ words) is = ap (λ (q : Terminal). simple_at r p q (o ∷ words)) (some_injective is)

pub simple_none : (r : Readers) (p : Place) (words : List Word) → next_of words ≡ None → read_simple r p words ≡ stopped why.Expected words
simple_none r p [] is = refl
simple_none r p (o ∷ words) is = absurd (none_not_some (sym is))

pub simple_other : (r : Readers) (p : Place) (t : Terminal) (words : List Word)
    → (t ≡ terminal.Nil → ⊥) → (t ≡ terminal.False → ⊥) → (t ≡ terminal.True → ⊥) → (t ≡ terminal.Numeral → ⊥) → (t ≡ terminal.Text → ⊥) → (t ≡ terminal.Function → ⊥) → (t ≡ terminal.LeftBrace → ⊥) → (t ≡ terminal.Name → ⊥) → (t ≡ terminal.LeftParenthesis → ⊥)
    → simple_at r p t words ≡ stopped why.Expected words
simple_other r p terminal.Name words h0 h1 h2 h3 h4 h5 h6 h7 h8 = absurd (h7 refl)
simple_other r p terminal.Numeral words h0 h1 h2 h3 h4 h5 h6 h7 h8 = absurd (h3 refl)
simple_other r p terminal.Text words h0 h1 h2 h3 h4 h5 h6 h7 h8 = absurd (h4 refl)
simple_other r p terminal.And words h0 h1 h2 h3 h4 h5 h6 h7 h8 = refl
simple_other r p terminal.Break words h0 h1 h2 h3 h4 h5 h6 h7 h8 = refl
simple_other r p terminal.Do words h0 h1 h2 h3 h4 h5 h6 h7 h8 = refl
simple_other r p terminal.Else words h0 h1 h2 h3 h4 h5 h6 h7 h8 = refl
simple_other r p terminal.Elseif words h0 h1 h2 h3 h4 h5 h6 h7 h8 = refl
simple_other r p terminal.End words h0 h1 h2 h3 h4 h5 h6 h7 h8 = refl
simple_other r p terminal.False words h0 h1 h2 h3 h4 h5 h6 h7 h8 = absurd (h1 refl)
simple_other r p terminal.For words h0 h1 h2 h3 h4 h5 h6 h7 h8 = refl
simple_other r p terminal.Function words h0 h1 h2 h3 h4 h5 h6 h7 h8 = absurd (h5 refl)
simple_other r p terminal.Goto words h0 h1 h2 h3 h4 h5 h6 h7 h8 = refl
simple_other r p terminal.If words h0 h1 h2 h3 h4 h5 h6 h7 h8 = refl
simple_other r p terminal.In words h0 h1 h2 h3 h4 h5 h6 h7 h8 = refl
simple_other r p terminal.Local words h0 h1 h2 h3 h4 h5 h6 h7 h8 = refl
simple_other r p terminal.Nil words h0 h1 h2 h3 h4 h5 h6 h7 h8 = absurd (h0 refl)
simple_other r p terminal.Not words h0 h1 h2 h3 h4 h5 h6 h7 h8 = refl
simple_other r p terminal.Or words h0 h1 h2 h3 h4 h5 h6 h7 h8 = refl
simple_other r p terminal.Repeat words h0 h1 h2 h3 h4 h5 h6 h7 h8 = refl
simple_other r p terminal.Return words h0 h1 h2 h3 h4 h5 h6 h7 h8 = refl
simple_other r p terminal.Then words h0 h1 h2 h3 h4 h5 h6 h7 h8 = refl
simple_other r p terminal.True words h0 h1 h2 h3 h4 h5 h6 h7 h8 = absurd (h2 refl)
simple_other r p terminal.Until words h0 h1 h2 h3 h4 h5 h6 h7 h8 = refl
simple_other r p terminal.While words h0 h1 h2 h3 h4 h5 h6 h7 h8 = refl
simple_other r p terminal.Plus words h0 h1 h2 h3 h4 h5 h6 h7 h8 = refl
simple_other r p terminal.Minus words h0 h1 h2 h3 h4 h5 h6 h7 h8 = refl
simple_other r p terminal.Star words h0 h1 h2 h3 h4 h5 h6 h7 h8 = refl
simple_other r p terminal.DoubleSlash words h0 h1 h2 h3 h4 h5 h6 h7 h8 = refl
simple_other r p terminal.Percent words h0 h1 h2 h3 h4 h5 h6 h7 h8 = refl
simple_other r p terminal.Ampersand words h0 h1 h2 h3 h4 h5 h6 h7 h8 = refl
simple_other r p terminal.Tilde words h0 h1 h2 h3 h4 h5 h6 h7 h8 = refl
simple_other r p terminal.Bar words h0 h1 h2 h3 h4 h5 h6 h7 h8 = refl
simple_other r p terminal.ShiftLeft words h0 h1 h2 h3 h4 h5 h6 h7 h8 = refl
simple_other r p terminal.ShiftRight words h0 h1 h2 h3 h4 h5 h6 h7 h8 = refl
simple_other r p terminal.Hash words h0 h1 h2 h3 h4 h5 h6 h7 h8 = refl
simple_other r p terminal.Equal words h0 h1 h2 h3 h4 h5 h6 h7 h8 = refl
simple_other r p terminal.NotEqual words h0 h1 h2 h3 h4 h5 h6 h7 h8 = refl
simple_other r p terminal.LessEqual words h0 h1 h2 h3 h4 h5 h6 h7 h8 = refl
simple_other r p terminal.GreaterEqual words h0 h1 h2 h3 h4 h5 h6 h7 h8 = refl
simple_other r p terminal.Less words h0 h1 h2 h3 h4 h5 h6 h7 h8 = refl
simple_other r p terminal.Greater words h0 h1 h2 h3 h4 h5 h6 h7 h8 = refl
simple_other r p terminal.Assign words h0 h1 h2 h3 h4 h5 h6 h7 h8 = refl
simple_other r p terminal.LeftParenthesis words h0 h1 h2 h3 h4 h5 h6 h7 h8 = absurd (h8 refl)
simple_other r p terminal.RightParenthesis words h0 h1 h2 h3 h4 h5 h6 h7 h8 = refl
simple_other r p terminal.LeftBrace words h0 h1 h2 h3 h4 h5 h6 h7 h8 = absurd (h6 refl)
simple_other r p terminal.RightBrace words h0 h1 h2 h3 h4 h5 h6 h7 h8 = refl
simple_other r p terminal.LeftBracket words h0 h1 h2 h3 h4 h5 h6 h7 h8 = refl
simple_other r p terminal.RightBracket words h0 h1 h2 h3 h4 h5 h6 h7 h8 = refl
simple_other r p terminal.Semicolon words h0 h1 h2 h3 h4 h5 h6 h7 h8 = refl
simple_other r p terminal.Comma words h0 h1 h2 h3 h4 h5 h6 h7 h8 = refl
simple_other r p terminal.Dot words h0 h1 h2 h3 h4 h5 h6 h7 h8 = refl
simple_other r p terminal.DoubleDot words h0 h1 h2 h3 h4 h5 h6 h7 h8 = refl
