-- Prefixes, what is assigned to, and arguments are read.
use Rattle.std.specs.Prelude.{◌≡◌, false, List, [], ◌∷◌, ◌++◌, Some}
use Rattle.std.proofs.Common.{refl, ap}
use Rattle.ntx_syntax.specs.declared.tree.Var.{Var}
use Rattle.ntx_syntax.specs.declared.tree.Var.TheVariants as var
use Rattle.ntx_syntax.specs.declared.tree.Prefix.{Prefix}
use Rattle.ntx_syntax.specs.declared.tree.Head.TheVariants as head
use Rattle.ntx_syntax.specs.declared.tree.Suffix.TheVariants as suffix
use Rattle.ntx_syntax.specs.declared.tree.Exp.{Exp}
use Rattle.ntx_parse.specs.declared.part.Part.{Part}
use Rattle.ntx_parse.specs.declared.part.Part.TheVariants as part
use Rattle.ntx_parse.specs.declared.place.Place.{Place}
use Rattle.ntx_parse.specs.declared.precedence.Precedence.TheVariants as precedence
use Rattle.ntx_syntax.specs.declared.terminal.Terminal.{Terminal}
use Rattle.ntx_syntax.specs.declared.terminal.Terminal.TheVariants as terminal
use Rattle.ntx_parse.specs.Words.{Word}
use Rattle.ntx_parse.specs.Grammar.{Placed, Is, within, with_suffix}
use Rattle.ntx_parse.specs.inner.Reading.{Answer, read, begins, readers, read_prefix, read_index, read_arguments, read_exps, joined, as_var}
use Rattle.ntx_parse.proofs.complete.Begins.{plain, AreAllowedBefore, is_this, Starts, starts_follows, begins_here, is_other, not_begins, starts_begin, comes_taken, comes_expected}
use Rattle.ntx_parse.proofs.complete.Comes.{Boundary, IsAllowedBefore, Comes, comes_as, comes_then, comes_now, comes_if, comes_else, comes_read, over_exps, over_vars, over_suffixes}
use Rattle.ntx_parse.proofs.complete.Follows.{begins_exp}
use Rattle.ntx_parse.proofs.complete.Forms.{Done, ExpDone, ExpsDone, PrefixDone, VarDone, VarsDone, one_more}
use Rattle.ntx_parse.proofs.complete.Names.{name_comes}

-- ---- lists of expressions

exps_end : {boundary : Boundary} {p : Place} {words : List Word} (before : List Exp) → begins terminal.Comma words ≡ false
    → Comes boundary words (λ n. (readers n).exps p before words) (read before words)
exps_end before h = over_exps (comes_else _ h (comes_read _))

pub one_exp_done : {boundary : Boundary} {p : Place} {e : Exp} {words : List Word} {rest : List Placed} → ExpDone boundary p precedence.Or e words rest
    → begins terminal.Comma (plain rest) ≡ false
    → ExpsDone boundary p (e ∷ []) words rest
one_exp_done {e = e} {rest = rest} d h = record {
  one = e;
  behind = plain rest;
  comes = d.comes;
  tail = λ before. exps_end (before ++ e ∷ []) h;
  allowed = d.allowed;
}

pub more_exps_done : {boundary : Boundary} {p : Place} {c : Placed} {e : Exp} {es : List Exp} {words : List Word} {rest : List Placed} (middle : List Placed)
    → ExpDone boundary p precedence.Or e words (c ∷ middle)
    → Is p terminal.Comma c → (AreAllowedBefore boundary middle → ExpsDone boundary p es (plain middle) rest) → ExpsDone boundary p (e ∷ es) words rest
more_exps_done {c = c} {e = e} {es = es} {rest = rest} middle d is_comma more =
    let others = more d.allowed.1 in
    record {
      one = e;
      behind = plain (c ∷ middle);
      comes = d.comes;
      tail = λ before. over_exps (comes_if _ (begins_here is_comma) (comes_taken _ is_comma refl d.allowed.0 (comes_then _ others.comes
          (comes_as (others.tail (before ++ e ∷ [])) (one_more before e es (plain rest))))));
      allowed = others.allowed;
    }

-- explist
pub exps_come : {boundary : Boundary} {p : Place} {es : List Exp} {words : List Word} {rest : List Placed} → ExpsDone boundary p es words rest
    → Done boundary words (λ n. read_exps (readers n) p words) es rest
exps_come d = record { comes = comes_then _ d.comes (d.tail []); allowed = d.allowed }

-- ---- parts in brackets

pub index_done : {boundary : Boundary} {p : Place} {o c : Placed} {key : Exp} {words : List Word} {rest : List Placed} → Is p terminal.LeftBracket o → IsAllowedBefore boundary o words
    → ExpDone boundary p precedence.Or key words (c ∷ rest) → Is p terminal.RightBracket c → Done boundary (o.word ∷ words) (λ n. read_index (readers n) p (o.word ∷ words)) key rest
index_done o allowed d c = record { comes = comes_expected _ o refl allowed (comes_then _ d.comes (comes_expected _ c refl d.allowed.0 (comes_read _))); allowed = d.allowed.1 }

pub no_arguments_done : {boundary : Boundary} {p : Place} {o c : Placed} {rest : List Placed} → Is p terminal.LeftParenthesis o → Is p terminal.RightParenthesis c
    → AreAllowedBefore boundary (o ∷ c ∷ rest) → Done boundary (plain (o ∷ c ∷ rest)) (λ n. read_arguments (readers n) p (plain (o ∷ c ∷ rest))) [] rest
no_arguments_done o c allowed = record { comes = comes_expected _ o refl allowed.0 (comes_if _ (begins_here c) (comes_taken _ c refl allowed.1.0 (comes_read _))); allowed = allowed.1.1 }

pub arguments_done : {boundary : Boundary} {p : Place} {o c : Placed} {es : List Exp} {rest : List Placed} (words : List Placed) → Is p terminal.LeftParenthesis o
    → IsAllowedBefore boundary o (plain words)
    → Starts begins_exp words → ExpsDone boundary p es (plain words) (c ∷ rest) → Is p terminal.RightParenthesis c
    → Done boundary (plain (o ∷ words)) (λ n. read_arguments (readers n) p (plain (o ∷ words))) es rest
arguments_done words o allowed start d c =
    let all = exps_come d in
    record {
      comes = comes_expected _ o refl allowed (comes_else _ (not_begins begins_exp terminal.RightParenthesis words refl (starts_follows begins_exp words start))
          (comes_then _ all.comes (comes_expected _ c refl all.allowed.0 (comes_read _))));
      allowed = all.allowed.1;
    }

-- ---- suffixes

-- The words go on with no suffix.
pub record NoSuffix (words : List Word) : Type 0 where
  pub bracket : begins terminal.LeftBracket words ≡ false
  pub dot : begins terminal.Dot words ≡ false
  pub parenthesis : begins terminal.LeftParenthesis words ≡ false

pub suffixes_end : {boundary : Boundary} {p : Place} {words : List Word} (found : Part) → NoSuffix words
    → Comes boundary words (λ n. (readers n).suffixes p found words) (read found words)
suffixes_end found h = over_suffixes (comes_else _ h.bracket (comes_else _ h.dot (comes_else _ h.parenthesis (comes_read _))))

pub no_suffix_here : {p : Place} {t : Terminal} {o : Placed} {words : List Word} → Is p t o → is_this terminal.LeftBracket t ≡ false
    → is_this terminal.Dot t ≡ false
    → is_this terminal.LeftParenthesis t ≡ false → NoSuffix (o.word ∷ words)
no_suffix_here o a b c = record {
  bracket = is_other terminal.LeftBracket o a;
  dot = is_other terminal.Dot o b;
  parenthesis = is_other terminal.LeftParenthesis o c;
}

index_goes_on : {boundary : Boundary} {p : Place} {before : Part} {key : Exp} {rest : List Placed} {x : Answer Part} (middle : List Placed)
    → Starts (is_this terminal.LeftBracket) middle
    → Done boundary (plain middle) (λ n. read_index (readers n) (within p) (plain middle)) key rest
    → Comes boundary (plain rest) (λ n. (readers n).suffixes p (part.Index (joined before) key) (plain rest)) x → Comes boundary (plain middle) (λ n. (readers n).suffixes p before (plain middle)) x
index_goes_on middle start d h = over_suffixes (comes_if _ (starts_begin terminal.LeftBracket middle start) (comes_then _ d.comes h))

field_goes_on : {boundary : Boundary} {p : Place} {before : Part} {d n : Placed} {x : Answer Part} (rest : List Placed) → Is p terminal.Dot d → Is p terminal.Name n
    → AreAllowedBefore boundary (d ∷ n ∷ rest) → Comes boundary (plain rest) (λ k. (readers k).suffixes p (part.Field (joined before) n.word.spelled) (plain rest)) x
    → Comes boundary (plain (d ∷ n ∷ rest)) (λ k. (readers k).suffixes p before (plain (d ∷ n ∷ rest))) x
field_goes_on rest d n allowed h = over_suffixes (comes_else _ (is_other terminal.LeftBracket d refl) (comes_if _ (begins_here d)
    (comes_taken _ d refl allowed.0 (comes_then _ (name_comes n allowed.1.0) h))))

pub call_goes_on : {boundary : Boundary} {p : Place} {before : Part} {es : List Exp} {rest : List Placed} {x : Answer Part} (middle : List Placed)
    → Starts (is_this terminal.LeftParenthesis) middle
    → Done boundary (plain middle) (λ n. read_arguments (readers n) (within p) (plain middle)) es rest
    → Comes boundary (plain rest) (λ n. (readers n).suffixes p (part.Call (joined before) es) (plain rest)) x → Comes boundary (plain middle) (λ n. (readers n).suffixes p before (plain middle)) x
call_goes_on middle start d h =
    let follow = starts_follows (is_this terminal.LeftParenthesis) middle start in
    over_suffixes (comes_else _ (not_begins (is_this terminal.LeftParenthesis) terminal.LeftBracket middle refl follow)
    (comes_else _ (not_begins (is_this terminal.LeftParenthesis) terminal.Dot middle refl follow)
    (comes_if _ (starts_begin terminal.LeftParenthesis middle start) (comes_then _ d.comes h))))

name_goes_on : {boundary : Boundary} {p : Place} {n : Placed} {x : Answer Part} (rest : List Placed) → Is p terminal.Name n → AreAllowedBefore boundary (n ∷ rest)
    → Comes boundary (plain rest) (λ k. (readers k).suffixes p (part.Name n.word.spelled) (plain rest)) x → Comes boundary (plain (n ∷ rest)) (λ k. read_prefix (readers k) p (plain (n ∷ rest))) x
name_goes_on rest n allowed h = comes_else _ (is_other terminal.LeftParenthesis n refl) (comes_then _ (name_comes n allowed.0) h)

-- ---- prefixes

pub name_prefix_done : {boundary : Boundary} {p : Place} {n : Placed} {rest : List Placed} → Is p terminal.Name n → AreAllowedBefore boundary (n ∷ rest)
    → PrefixDone boundary p (record { head = head.Name n.word.spelled; suffixes = [] }) (plain (n ∷ rest)) rest
name_prefix_done {n = n} {rest = rest} is_name allowed = record {
  part = part.Name n.word.spelled;
  joins = refl;
  goes_on = λ h. name_goes_on rest is_name allowed h;
  allowed = allowed.1;
}

pub index_prefix_done : {boundary : Boundary} {p : Place} {prefix : Prefix} {key : Exp} {words : List Word} {rest : List Placed} (middle : List Placed)
    → Starts (is_this terminal.LeftBracket) middle
    → PrefixDone boundary p prefix words middle → (AreAllowedBefore boundary middle → Done boundary (plain middle) (λ n. read_index (readers n) (within p) (plain middle)) key rest)
    → PrefixDone boundary p (with_suffix prefix (suffix.Index key)) words rest
index_prefix_done {key = key} middle start before inside =
    let found = inside before.allowed in
    record {
      part = part.Index (joined before.part) key;
      joins = ap (λ q. with_suffix q (suffix.Index key)) before.joins;
      goes_on = λ h. before.goes_on (index_goes_on middle start found h);
      allowed = found.allowed;
    }

pub field_prefix_done : {boundary : Boundary} {p : Place} {d n : Placed} {prefix : Prefix} {words : List Word} {rest : List Placed}
    → PrefixDone boundary p prefix words (d ∷ n ∷ rest)
    → Is p terminal.Dot d → Is p terminal.Name n → PrefixDone boundary p (with_suffix prefix (suffix.Field n.word.spelled)) words rest
field_prefix_done {n = n} {rest = rest} before is_dot is_name = record {
  part = part.Field (joined before.part) n.word.spelled;
  joins = ap (λ q. with_suffix q (suffix.Field n.word.spelled)) before.joins;
  goes_on = λ h. before.goes_on (field_goes_on rest is_dot is_name before.allowed h);
  allowed = before.allowed.1.1;
}

pub call_prefix_done : {boundary : Boundary} {p : Place} {prefix : Prefix} {es : List Exp} {words : List Word} {rest : List Placed} (middle : List Placed)
    → Starts (is_this terminal.LeftParenthesis) middle
    → PrefixDone boundary p prefix words middle → (AreAllowedBefore boundary middle → Done boundary (plain middle) (λ n. read_arguments (readers n) (within p) (plain middle)) es rest)
    → PrefixDone boundary p (with_suffix prefix (suffix.Call es)) words rest
call_prefix_done {es = es} middle start before inside =
    let found = inside before.allowed in
    record {
      part = part.Call (joined before.part) es;
      joins = ap (λ q. with_suffix q (suffix.Call es)) before.joins;
      goes_on = λ h. before.goes_on (call_goes_on middle start found h);
      allowed = found.allowed;
    }

pub parenthesized_done : {boundary : Boundary} {p : Place} {o c : Placed} {e : Exp} {words : List Word} {rest : List Placed} → Is (within p) terminal.LeftParenthesis o
    → IsAllowedBefore boundary o words
    → ExpDone boundary (within p) precedence.Or e words (c ∷ rest) → Is (within p) terminal.RightParenthesis c
    → PrefixDone boundary p (record { head = head.Parenthesized e; suffixes = [] }) (o.word ∷ words) rest
parenthesized_done {e = e} o allowed d c = record {
  part = part.Parenthesized e;
  joins = refl;
  goes_on = λ h. comes_if _ (begins_here o) (comes_then _ (comes_expected _ o refl allowed (comes_then _ d.comes (comes_expected _ c refl d.allowed.0 (comes_read _)))) h);
  allowed = d.allowed.1;
}

-- ---- what is assigned to

pub name_var_done : {boundary : Boundary} {p : Place} {n : Placed} {rest : List Placed} → Is p terminal.Name n → AreAllowedBefore boundary (n ∷ rest)
    → VarDone boundary p (var.Name n.word.spelled) (plain (n ∷ rest)) rest
name_var_done {n = n} {rest = rest} is_name allowed = record {
  part = part.Name n.word.spelled;
  is_var = refl;
  goes_on = λ h. name_goes_on rest is_name allowed h;
  allowed = allowed.1;
}

pub index_var_done : {boundary : Boundary} {p : Place} {prefix : Prefix} {key : Exp} {words : List Word} {rest : List Placed} (middle : List Placed)
    → Starts (is_this terminal.LeftBracket) middle
    → PrefixDone boundary p prefix words middle → (AreAllowedBefore boundary middle → Done boundary (plain middle) (λ n. read_index (readers n) (within p) (plain middle)) key rest)
    → VarDone boundary p (var.Index prefix key) words rest
index_var_done {key = key} middle start before inside =
    let found = inside before.allowed in
    record {
      part = part.Index (joined before.part) key;
      is_var = ap (λ q. Some (var.Index q key)) before.joins;
      goes_on = λ h. before.goes_on (index_goes_on middle start found h);
      allowed = found.allowed;
    }

pub field_var_done : {boundary : Boundary} {p : Place} {d n : Placed} {prefix : Prefix} {words : List Word} {rest : List Placed}
    → PrefixDone boundary p prefix words (d ∷ n ∷ rest)
    → Is p terminal.Dot d → Is p terminal.Name n → VarDone boundary p (var.Field prefix n.word.spelled) words rest
field_var_done {n = n} {rest = rest} before is_dot is_name = record {
  part = part.Field (joined before.part) n.word.spelled;
  is_var = ap (λ q. Some (var.Field q n.word.spelled)) before.joins;
  goes_on = λ h. before.goes_on (field_goes_on rest is_dot is_name before.allowed h);
  allowed = before.allowed.1.1;
}

vars_end : {boundary : Boundary} {p : Place} {words : List Word} (before : List Var) → begins terminal.Comma words ≡ false
    → Comes boundary words (λ n. (readers n).vars p before words) (read before words)
vars_end before h = over_vars (comes_else _ h (comes_read _))

pub one_var_done : {boundary : Boundary} {p : Place} {v : Var} {words : List Word} {rest : List Placed} → VarDone boundary p v words rest → NoSuffix (plain rest)
    → begins terminal.Comma (plain rest) ≡ false
    → VarsDone boundary p (v ∷ []) words rest
one_var_done {v = v} {rest = rest} d ends h = record {
  part = d.part;
  one = v;
  is_var = d.is_var;
  behind = plain rest;
  comes = d.goes_on (suffixes_end d.part ends);
  tail = λ before. vars_end (before ++ v ∷ []) h;
  allowed = d.allowed;
}

pub more_vars_done : {boundary : Boundary} {p : Place} {c : Placed} {v : Var} {vs : List Var} {words : List Word} {rest : List Placed} (middle : List Placed)
    → VarDone boundary p v words (c ∷ middle)
    → Is p terminal.Comma c → (AreAllowedBefore boundary middle → VarsDone boundary p vs (plain middle) rest) → VarsDone boundary p (v ∷ vs) words rest
more_vars_done {c = c} {v = v} {vs = vs} {rest = rest} middle d is_comma more =
    let others = more d.allowed.1 in
    record {
      part = d.part;
      one = v;
      is_var = d.is_var;
      behind = plain (c ∷ middle);
      comes = d.goes_on (suffixes_end d.part (no_suffix_here is_comma refl refl refl));
      tail = λ before. over_vars (comes_if _ (begins_here is_comma) (comes_taken _ is_comma refl d.allowed.0 (comes_then _ others.comes
          (comes_then _ (comes_now (ap (λ o. as_var o others.behind) others.is_var))
          (comes_as (others.tail (before ++ v ∷ [])) (one_more before v vs (plain rest)))))));
      allowed = others.allowed;
    }
