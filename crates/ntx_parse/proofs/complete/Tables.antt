-- Bodies of functions and fields of tables are read.
use Rattle.std.specs.Prelude.{◌≡◌, nat_eq, true, false, ◌||◌, List, [], ◌∷◌, ◌++◌}
use Rattle.std.proofs.Common.{refl}
use Rattle.std.proofs.lemmas.Bool.{and_from, or_from, or_left, or_right}
use Rattle.ntx_syntax.specs.declared.tree.Block.{Block}
use Rattle.ntx_syntax.specs.declared.tree.FunctionBody.{roll-FunctionBody}
use Rattle.ntx_syntax.specs.declared.tree.LocalName.{LocalName}
use Rattle.ntx_syntax.specs.declared.tree.Exp.{Exp}
use Rattle.ntx_syntax.specs.declared.tree.Field.{Field}
use Rattle.ntx_syntax.specs.declared.tree.Field.TheVariants as field
use Rattle.ntx_syntax.specs.Terminals.{same_terminal}
use Rattle.ntx_parse.specs.declared.place.Place.{Place}
use Rattle.ntx_parse.specs.declared.precedence.Precedence.TheVariants as precedence
use Rattle.ntx_syntax.specs.declared.terminal.Terminal.TheVariants as terminal
use Rattle.ntx_parse.specs.Words.{Word}
use Rattle.ntx_parse.specs.Grammar.{Placed, Is, within, within_function, IsParameters, IsSeparator, comma, semicolon_separator}
use Rattle.ntx_parse.specs.inner.Reading.{read, begins, take_word, readers, read_body, read_index, read_field, names_a_field}
use Rattle.ntx_parse.proofs.complete.Begins.{plain, AreAllowedBefore, is_this, Starts, starts_begin, starts_follows, begins_here, comes_word, is_other, not_begins, passes, comes_expected}
use Rattle.ntx_parse.proofs.complete.Comes.{Boundary, IsAllowedBefore, Comes, comes_as, comes_then, comes_now, comes_if, comes_else, comes_read, over_fields}
use Rattle.ntx_parse.proofs.complete.Follows.{begins_exp, begins_field, ends_field}
use Rattle.ntx_parse.proofs.complete.Forms.{Done, ListDone, ExpDone, BlockDone, all_before, one_more}
use Rattle.ntx_parse.proofs.complete.Names.{name_comes, parameters_done}

-- body
pub body_done : {boundary : Boundary} {p : Place} {o c e : Placed} {names : List LocalName} {inside : Block} {rest : List Placed} (words middle : List Placed)
    → Is (within p) terminal.LeftParenthesis o → IsParameters (within p) names words (c ∷ middle) → Is (within p) terminal.RightParenthesis c
    → AreAllowedBefore boundary (o ∷ words) → (AreAllowedBefore boundary middle → BlockDone boundary (within_function p) inside (plain middle) (e ∷ rest)) → Is p terminal.End e
    → Done boundary (plain (o ∷ words)) (λ n. read_body (readers n) p (plain (o ∷ words))) (roll-FunctionBody (record { parameters = names; block = inside })) rest
body_done words middle o names c allowed more e =
    let given = parameters_done o names c allowed in
    let all = more given.allowed in
    record {
      comes = comes_then _ given.comes (comes_then _ all.comes (comes_expected _ e refl all.allowed.0 (comes_read _)));
      allowed = all.allowed.1;
    }

-- ---- a field

abbrev pub FieldDone : Boundary → Place → Field → List Placed → List Placed → Type 0
FieldDone boundary p f words rest = Done boundary (plain words) (λ n. read_field (readers n) p (plain words)) f rest

pub keyed_done : {boundary : Boundary} {p : Place} {a : Placed} {key value : Exp} {rest : List Placed} (words middle : List Placed)
    → Starts (is_this terminal.LeftBracket) words
    → Done boundary (plain words) (λ n. read_index (readers n) (within p) (plain words)) key (a ∷ middle) → Is p terminal.Assign a
    → (AreAllowedBefore boundary middle → ExpDone boundary p precedence.Or value (plain middle) rest) → FieldDone boundary p (field.Keyed key value) words rest
keyed_done words middle start d a more =
    let found = more d.allowed.1 in
    record {
      comes = comes_if _ (starts_begin terminal.LeftBracket words start) (comes_then _ d.comes (comes_expected _ a refl d.allowed.0 (comes_then _ found.comes (comes_read _))));
      allowed = found.allowed;
    }

pub named_done : {boundary : Boundary} {p : Place} {n a : Placed} {value : Exp} {rest : List Placed} (words : List Placed) → Is p terminal.Name n
    → Is p terminal.Assign a → IsAllowedBefore boundary n (plain (a ∷ words)) → IsAllowedBefore boundary a (plain words)
    → ExpDone boundary p precedence.Or value (plain words) rest → FieldDone boundary p (field.Named n.word.spelled value) (n ∷ a ∷ words) rest
named_done words n a fine_n fine_a d = record {
  comes = comes_else _ (is_other terminal.LeftBracket n refl) (comes_if _ (and_from _ _ (begins_here n) (begins_here a))
      (comes_then _ (name_comes n fine_n) (comes_expected _ a refl fine_a (comes_then _ d.comes (comes_read _)))));
  allowed = d.allowed;
}

pub positional_done : {boundary : Boundary} {p : Place} {value : Exp} {rest : List Placed} (words : List Placed) → Starts begins_exp words
    → names_a_field (plain words) ≡ false
    → ExpDone boundary p precedence.Or value (plain words) rest → FieldDone boundary p (field.Positional value) words rest
positional_done words start h d = record {
  comes = comes_else _ (not_begins begins_exp terminal.LeftBracket words refl (starts_follows begins_exp words start)) (comes_else _ h (comes_then _ d.comes (comes_read _)));
  allowed = d.allowed;
}

-- ---- fields

abbrev pub FieldsDone : Boundary → Place → List Field → List Placed → List Placed → Type 0
FieldsDone boundary p fields words rest = ListDone boundary (plain words) (λ n before. (readers n).fields p before (plain words)) fields rest

pub no_fields_done : {boundary : Boundary} {p : Place} (rest : List Placed) → Starts (is_this terminal.RightBrace) rest → AreAllowedBefore boundary rest
    → FieldsDone boundary p [] rest rest
no_fields_done rest start allowed = record {
  comes = λ before. over_fields (comes_if _ (starts_begin terminal.RightBrace rest start) (comes_now (all_before before (plain rest))));
  allowed = allowed;
}

no_brace : (words : List Placed) → Starts begins_field words → begins terminal.RightBrace (plain words) ≡ false
no_brace words start = not_begins begins_field terminal.RightBrace words refl (starts_follows begins_field words start)

pub last_field_done : {boundary : Boundary} {p : Place} {f : Field} (words rest : List Placed) → Starts begins_field words → FieldDone boundary p f words rest
    → Starts (is_this terminal.RightBrace) rest
    → FieldsDone boundary p (f ∷ []) words rest
last_field_done words rest start d ends =
    let follow = starts_follows (is_this terminal.RightBrace) rest ends in
    record {
      comes = λ before. over_fields (comes_else _ (no_brace words start) (comes_then _ d.comes
          (comes_else _ (or_from _ _ (not_begins (is_this terminal.RightBrace) terminal.Comma rest refl follow) (not_begins (is_this terminal.RightBrace) terminal.Semicolon rest refl follow))
          (comes_read _))));
      allowed = d.allowed;
    }

separates : {p : Place} {s : Placed} → IsSeparator p s
    → (same_terminal s.word.is terminal.Comma || same_terminal s.word.is terminal.Semicolon) ≡ true
separates (comma i) = or_left _ _ (begins_here i)
separates (semicolon_separator i) = or_right _ _ (begins_here i)

separator_comes : {boundary : Boundary} {p : Place} {s : Placed} {words : List Word} → IsSeparator p s → IsAllowedBefore boundary s words
    → Comes boundary (s.word ∷ words) (λ n. take_word p (s.word ∷ words)) (read s.word words)
separator_comes (comma i) allowed = comes_word i refl allowed
separator_comes (semicolon_separator i) allowed = comes_word i refl allowed

pub separator_ends_field : {p : Place} {s : Placed} → IsSeparator p s → ends_field s.word.is ≡ true
separator_ends_field (comma i) = passes ends_field i refl
separator_ends_field (semicolon_separator i) = passes ends_field i refl

pub more_fields_done : {boundary : Boundary} {p : Place} {s : Placed} {f : Field} {fields : List Field} {rest : List Placed} (words middle : List Placed)
    → Starts begins_field words
    → FieldDone boundary p f words (s ∷ middle) → IsSeparator p s → (AreAllowedBefore boundary middle → FieldsDone boundary p fields middle rest) → FieldsDone boundary p (f ∷ fields) words rest
more_fields_done {f = f} {fields = fields} {rest = rest} words middle start d separator more =
    let others = more d.allowed.1 in
    record {
      comes = λ before. over_fields (comes_else _ (no_brace words start) (comes_then _ d.comes
          (comes_if _ (separates separator) (comes_then _ (separator_comes separator d.allowed.0)
          (comes_as (others.comes (before ++ f ∷ [])) (one_more before f fields (plain rest)))))));
      allowed = others.allowed;
    }
