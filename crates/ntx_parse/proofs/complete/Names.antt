-- Names, paths of names, and semicolons are read.
use Rattle.std.specs.Prelude.{◌≡◌, ℕ, Bool, true, false, List, [], ◌∷◌, ◌++◌}
use Rattle.std.proofs.Common.{refl}
use Rattle.std.specs.Prelude.{nat_eq}
use Rattle.ntx_syntax.specs.declared.tree.LocalName.{LocalName}
use Rattle.ntx_syntax.specs.Terminals.{same_terminal}
use Rattle.ntx_parse.specs.declared.place.Place.{Place}
use Rattle.ntx_syntax.specs.declared.terminal.Terminal.{Terminal}
use Rattle.ntx_syntax.specs.declared.terminal.Terminal.TheVariants as terminal
use Rattle.ntx_parse.specs.Words.{Word}
use Rattle.ntx_parse.specs.Grammar.{Placed, Is, IsSemicolon, no_semicolon, semicolon, IsPath, no_path, more_path, IsNames, one_name, more_names, IsParameters, no_parameters, parameters, local_name}
use Rattle.ntx_parse.specs.inner.Reading.{read, begins, readers, read_name, read_local_name, read_names, read_parameters, semicolon_behind}
use Rattle.ntx_parse.proofs.complete.Begins.{plain, AreAllowedBefore, begins_here, is_other, comes_taken, comes_expected}
use Rattle.ntx_parse.proofs.complete.Comes.{Boundary, IsAllowedBefore, Comes, comes_as, comes_then, comes_now, comes_if, comes_else, comes_read, over_names, over_path}
use Rattle.ntx_parse.proofs.complete.Forms.{Done, ListDone, NamesDone, all_before, one_more}

pub name_comes : {boundary : Boundary} {p : Place} {o : Placed} {words : List Word} → Is p terminal.Name o → IsAllowedBefore boundary o words
    → Comes boundary (o.word ∷ words) (λ n. read_name p (o.word ∷ words)) (read o.word.spelled words)
name_comes o allowed = comes_expected _ o refl allowed (comes_read _)

pub local_name_comes : {boundary : Boundary} {p : Place} {o : Placed} {words : List Word} → Is p terminal.Name o → IsAllowedBefore boundary o words
    → Comes boundary (o.word ∷ words) (λ n. read_local_name p (o.word ∷ words)) (read (local_name o) words)
local_name_comes o allowed = comes_expected _ o refl allowed (comes_read _)

pub path_done : {boundary : Boundary} {p : Place} {fields : List (List ℕ)} {words rest : List Placed} → IsPath p fields words rest → AreAllowedBefore boundary words
    → begins terminal.Dot (plain rest) ≡ false → ListDone boundary (plain words) (λ n before. (readers n).path p before (plain words)) fields rest
path_done (no_path {rest = rest}) allowed h = record { comes = λ before. over_path (comes_else _ h (comes_now (all_before before (plain rest)))); allowed = allowed }
path_done (more_path {n = n} {fields = fields} {rest = rest} d is_name path) allowed h =
    let others = path_done path allowed.1.1 h in
    record {
      comes = λ before. over_path (comes_if _ (begins_here d) (comes_taken _ d refl allowed.0 (comes_then _ (name_comes is_name allowed.1.0)
          (comes_as (others.comes (before ++ n.word.spelled ∷ [])) (one_more before n.word.spelled fields (plain rest))))));
      allowed = others.allowed;
    }

names_end : {boundary : Boundary} {p : Place} {words : List Word} (before : List LocalName) → begins terminal.Comma words ≡ false
    → Comes boundary words (λ n. (readers n).names p before words) (read before words)
names_end before h = over_names (comes_else _ h (comes_read _))

pub names_done : {boundary : Boundary} {p : Place} {names : List LocalName} {words rest : List Placed} → IsNames p names words rest → AreAllowedBefore boundary words
    → begins terminal.Comma (plain rest) ≡ false → NamesDone boundary p names (plain words) rest
names_done (one_name {n = n} {rest = rest} is_name) allowed h = record {
  one = local_name n;
  behind = plain rest;
  comes = local_name_comes is_name allowed.0;
  tail = λ before. names_end (before ++ local_name n ∷ []) h;
  allowed = allowed.1;
}
names_done (more_names {n = n} {c = c} {names = names} {words = words} {rest = rest} is_name is_comma more) allowed h =
    let others = names_done more allowed.1.1 h in
    record {
      one = local_name n;
      behind = plain (c ∷ words);
      comes = local_name_comes is_name allowed.0;
      tail = λ before. over_names (comes_if _ (begins_here is_comma) (comes_taken _ is_comma refl allowed.1.0 (comes_then _ others.comes
          (comes_as (others.tail (before ++ local_name n ∷ [])) (one_more before (local_name n) names (plain rest))))));
      allowed = others.allowed;
    }

-- After the first of some names stands a comma, or what stands after them all.
pub behind_first : (boundary : Boundary) {p : Place} {names : List LocalName} {words rest : List Placed} (u : Terminal) (d : IsNames p names words rest) (allowed : AreAllowedBefore boundary words)
    (h : begins terminal.Comma (plain rest) ≡ false) → same_terminal terminal.Comma u ≡ false → begins u (plain rest) ≡ false
    → begins u (names_done d allowed h).behind ≡ false
unfolding names_done
behind_first boundary u (one_name is_name) allowed h other e = e
behind_first boundary u (more_names is_name is_comma more) allowed h other e = is_other u is_comma other

pub names_start : {p : Place} {names : List LocalName} {words rest : List Placed} (u : Terminal) → IsNames p names words rest
    → same_terminal terminal.Name u ≡ false
    → begins u (plain words) ≡ false
names_start u (one_name is_name) e = is_other u is_name e
names_start u (more_names is_name is_comma more) e = is_other u is_name e

-- namelist
pub names_come : {boundary : Boundary} {p : Place} {names : List LocalName} {rest : List Placed} (words : List Word) → NamesDone boundary p names words rest
    → Done boundary words (λ n. read_names (readers n) p words) names rest
names_come words d = record { comes = comes_then _ d.comes (d.tail []); allowed = d.allowed }

-- ( [namelist] )
pub parameters_done : {boundary : Boundary} {p : Place} {o c : Placed} {names : List LocalName} {words rest : List Placed} → Is p terminal.LeftParenthesis o
    → IsParameters p names words (c ∷ rest)
    → Is p terminal.RightParenthesis c → AreAllowedBefore boundary (o ∷ words) → Done boundary (plain (o ∷ words)) (λ n. read_parameters (readers n) p (plain (o ∷ words))) names rest
parameters_done o no_parameters c allowed = record {
  comes = comes_expected _ o refl allowed.0 (comes_if _ (begins_here c) (comes_taken _ c refl allowed.1.0 (comes_read _)));
  allowed = allowed.1.1;
}
parameters_done {words = words} o (parameters names) c allowed =
    let all = names_come (plain words) (names_done names allowed.1 (is_other terminal.Comma c refl)) in
    record {
      comes = comes_expected _ o refl allowed.0 (comes_else _ (names_start terminal.RightParenthesis names refl) (comes_then _ all.comes (comes_expected _ c refl all.allowed.0 (comes_read _))));
      allowed = all.allowed.1;
    }

pub semicolon_done : {boundary : Boundary} {p : Place} {words rest : List Placed} → IsSemicolon p words rest → AreAllowedBefore boundary words
    → begins terminal.Semicolon (plain rest) ≡ false
    → (there : Bool) × Done boundary (plain words) (λ n. semicolon_behind p (plain words)) there rest
semicolon_done no_semicolon allowed h = (false, record { comes = comes_else _ h (comes_read _); allowed = allowed })
semicolon_done (semicolon o) allowed h = (true, record { comes = comes_if _ (begins_here o) (comes_taken _ o refl allowed.0 (comes_read _)); allowed = allowed.1 })
