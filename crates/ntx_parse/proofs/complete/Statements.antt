-- Statements are read.
use Rattle.std.specs.Prelude.{◌≡◌, ℕ, false, List, [], ◌∷◌, ◌++◌, Option, None, Some}
use Rattle.std.proofs.Common.{refl, sym, ap, ◌∙◌}
use Rattle.ntx_syntax.specs.declared.fault.SyntaxWhy.{SyntaxWhy}
use Rattle.ntx_syntax.specs.declared.tree.Block.{Block}
use Rattle.ntx_syntax.specs.declared.tree.StatKind.TheVariants as stat
use Rattle.ntx_syntax.specs.declared.tree.IfArm.{IfArm, roll-IfArm}
use Rattle.ntx_syntax.specs.declared.tree.FunctionBody.{FunctionBody}
use Rattle.ntx_syntax.specs.declared.tree.LocalName.{LocalName}
use Rattle.ntx_syntax.specs.declared.tree.Exp.{Exp}
use Rattle.ntx_parse.specs.declared.place.Place.{Place}
use Rattle.ntx_parse.specs.declared.precedence.Precedence.TheVariants as precedence
use Rattle.ntx_syntax.specs.declared.terminal.Terminal.{Terminal}
use Rattle.ntx_syntax.specs.declared.terminal.Terminal.TheVariants as terminal
use Rattle.ntx_parse.specs.Words.{Word}
use Rattle.ntx_parse.specs.Grammar.{Placed, Is, IsAllowed, within, within_loop, local_name}
use Rattle.ntx_parse.specs.inner.Reading.{read, stopped, begins, readers, read_body, read_break, block_to_end, loop_body, read_arm, else_behind, step_behind}
use Rattle.ntx_parse.proofs.complete.Begins.{plain, AreAllowedBefore, is_this, Starts, starts_begin, enough, too_much, taken_here, begins_here, comes_taken, comes_expected}
use Rattle.ntx_parse.proofs.complete.Comes.{Boundary, IsBad, too_deep, no_loop, IsAllowedBefore, Comes, comes_first, comes_as, comes_then, comes_now, comes_if, comes_else, comes_read, over_arms}
use Rattle.ntx_parse.proofs.complete.Forms.{Done, ListDone, ExpDone, ExpsDone, NamesDone, BlockDone, all_before, one_more}
use Rattle.ntx_parse.proofs.complete.Names.{name_comes, local_name_comes, names_come}
use Rattle.ntx_parse.proofs.complete.Prefixes.{exps_come}
use Rattle.ntx_parse.proofs.complete.Kinds.{KindDone, kind_is, kind_of_first, ValuesDone}

pub empty_done : {boundary : Boundary} {p : Place} {o : Placed} {rest : List Placed} → Is p terminal.Semicolon o → AreAllowedBefore boundary (o ∷ rest)
    → KindDone boundary p stat.Empty (o ∷ rest) rest
empty_done {rest = rest} o allowed = record { comes = kind_is (plain rest) o (comes_taken _ o refl allowed.0 (comes_read _)); allowed = allowed.1 }

-- A `break` that is allowed is read, and at another the reading stops.
break_is : {p : Place} {o : Placed} (words : List Word) → Is p terminal.Break o → IsAllowed o → read_break p (o.word ∷ words) ≡ read stat.Break words
break_is words i allowed = rw (taken_here words i allowed, ap (λ q. q.in_loop) (sym i.place) ∙ allowed.in_loop i.is) refl

break_stops : {p : Place} {o : Placed} (words : List Word) (reason : SyntaxWhy) → Is p terminal.Break o → IsBad reason o
    → read_break p (o.word ∷ words) ≡ stopped reason (o.word ∷ words)
break_stops words _ i (too_deep h) = rw (too_much i h) refl
break_stops words _ i (no_loop h is out) = rw (enough i h, ap (λ q. q.in_loop) (sym i.place) ∙ out) refl

pub break_done : {boundary : Boundary} {p : Place} {o : Placed} {rest : List Placed} → Is p terminal.Break o → AreAllowedBefore boundary (o ∷ rest)
    → KindDone boundary p stat.Break (o ∷ rest) rest
break_done {p = p} {o = o} {rest = rest} i allowed = record {
  comes = kind_is (plain rest) i (comes_first (read_break p (plain (o ∷ rest))) stat.Break (break_is (plain rest) i) (λ reason. break_stops (plain rest) reason i) allowed.0);
  allowed = allowed.1;
}

-- ---- blocks and loops

to_end : {boundary : Boundary} {p inside : Place} {e : Placed} {b : Block} {words : List Word} {rest : List Placed} → BlockDone boundary inside b words (e ∷ rest)
    → Is p terminal.End e
    → Comes boundary words (λ n. block_to_end (readers n) p inside words) (read b (plain rest))
to_end d e = comes_then _ d.comes (comes_expected _ e refl d.allowed.0 (comes_read _))

loop_comes : {boundary : Boundary} {p : Place} {o e : Placed} {b : Block} {words : List Word} {rest : List Placed} → Is p terminal.Do o → IsAllowedBefore boundary o words
    → BlockDone boundary (within_loop p) b words (e ∷ rest)
    → Is p terminal.End e → Comes boundary (o.word ∷ words) (λ n. loop_body (readers n) p (o.word ∷ words)) (read b (plain rest))
loop_comes o allowed d e = comes_expected _ o refl allowed (to_end d e)

pub do_done : {boundary : Boundary} {p : Place} {o e : Placed} {b : Block} {rest : List Placed} (words : List Placed) → Is p terminal.Do o → IsAllowedBefore boundary o (plain words)
    → BlockDone boundary (within p) b (plain words) (e ∷ rest) → Is p terminal.End e → KindDone boundary p (stat.Do b) (o ∷ words) rest
do_done words o allowed d e = record {
  comes = kind_is (plain words) o (comes_taken _ o refl allowed (comes_then _ (to_end d e) (comes_read _)));
  allowed = d.allowed.1;
}

pub while_done : {boundary : Boundary} {p : Place} {o d e : Placed} {condition : Exp} {b : Block} {rest : List Placed} (words middle : List Placed)
    → Is p terminal.While o → IsAllowedBefore boundary o (plain words)
    → ExpDone boundary p precedence.Or condition (plain words) (d ∷ middle) → Is p terminal.Do d
    → (AreAllowedBefore boundary middle → BlockDone boundary (within_loop p) b (plain middle) (e ∷ rest)) → Is p terminal.End e
    → KindDone boundary p (stat.While condition b) (o ∷ words) rest
while_done words middle o allowed first d more e =
    let inside = more first.allowed.1 in
    record {
      comes = kind_is (plain words) o (comes_taken _ o refl allowed (comes_then _ first.comes (comes_then _ (loop_comes d first.allowed.0 inside e) (comes_read _))));
      allowed = inside.allowed.1;
    }

pub repeat_done : {boundary : Boundary} {p : Place} {o u : Placed} {condition : Exp} {b : Block} {rest : List Placed} (words middle : List Placed)
    → Is p terminal.Repeat o → IsAllowedBefore boundary o (plain words)
    → BlockDone boundary (within_loop p) b (plain words) (u ∷ middle) → Is p terminal.Until u
    → (AreAllowedBefore boundary middle → ExpDone boundary p precedence.Or condition (plain middle) rest) → KindDone boundary p (stat.Repeat b condition) (o ∷ words) rest
repeat_done words middle o allowed inside u more =
    let last = more inside.allowed.1 in
    record {
      comes = kind_is (plain words) o (comes_taken _ o refl allowed (comes_then _ inside.comes (comes_expected _ u refl inside.allowed.0 (comes_then _ last.comes (comes_read _)))));
      allowed = last.allowed;
    }

-- ---- if

abbrev pub ArmDone : Boundary → Place → IfArm → List Placed → List Placed → Type 0
ArmDone boundary p a words rest = Done boundary (plain words) (λ n. read_arm (readers n) p (plain words)) a rest

pub arm_done : {boundary : Boundary} {p : Place} {first : Terminal} {o t : Placed} {condition : Exp} {b : Block} {rest : List Placed} (words middle : List Placed)
    → Is p first o → is_this terminal.Break first ≡ false → IsAllowedBefore boundary o (plain words)
    → ExpDone boundary p precedence.Or condition (plain words) (t ∷ middle) → Is p terminal.Then t → (AreAllowedBefore boundary middle → BlockDone boundary (within p) b (plain middle) rest)
    → ArmDone boundary p (roll-IfArm (record { condition = condition; block = b })) (o ∷ words) rest
arm_done words middle o other allowed d t more =
    let inside = more d.allowed.1 in
    record {
      comes = comes_taken _ o other allowed (comes_then _ d.comes (comes_expected _ t refl d.allowed.0 (comes_then _ inside.comes (comes_read _))));
      allowed = inside.allowed;
    }

abbrev pub ArmsDone : Boundary → Place → List IfArm → List Placed → List Placed → Type 0
ArmsDone boundary p arms words rest = ListDone boundary (plain words) (λ n before. (readers n).arms p before (plain words)) arms rest

pub no_arms_done : {boundary : Boundary} {p : Place} (rest : List Placed) → begins terminal.Elseif (plain rest) ≡ false → AreAllowedBefore boundary rest
    → ArmsDone boundary p [] rest rest
no_arms_done rest h allowed = record { comes = λ before. over_arms (comes_else _ h (comes_now (all_before before (plain rest)))); allowed = allowed }

pub more_arms_done : {boundary : Boundary} {p : Place} {first : IfArm} {arms : List IfArm} {rest : List Placed} (words middle : List Placed)
    → Starts (is_this terminal.Elseif) words
    → ArmDone boundary p first words middle → (AreAllowedBefore boundary middle → ArmsDone boundary p arms middle rest) → ArmsDone boundary p (first ∷ arms) words rest
more_arms_done {first = first} {arms = arms} {rest = rest} words middle start d more =
    let others = more d.allowed in
    record {
      comes = λ before. over_arms (comes_if _ (starts_begin terminal.Elseif words start) (comes_then _ d.comes
          (comes_as (others.comes (before ++ first ∷ [])) (one_more before first arms (plain rest)))));
      allowed = others.allowed;
    }

abbrev pub ElseDone : Boundary → Place → Option Block → List Placed → List Placed → Type 0
ElseDone boundary p other words rest = Done boundary (plain words) (λ n. else_behind (readers n) p (plain words)) other rest

pub no_else_done : {boundary : Boundary} (p : Place) (rest : List Placed) → begins terminal.Else (plain rest) ≡ false → AreAllowedBefore boundary rest
    → ElseDone boundary p None rest rest
no_else_done p rest h allowed = record { comes = comes_else _ h (comes_read _); allowed = allowed }

pub else_done : {boundary : Boundary} {p : Place} {o : Placed} {b : Block} {rest : List Placed} (words : List Placed) → Is p terminal.Else o → IsAllowedBefore boundary o (plain words)
    → BlockDone boundary (within p) b (plain words) rest
    → ElseDone boundary p (Some b) (o ∷ words) rest
else_done words o allowed d = record { comes = comes_if _ (begins_here o) (comes_taken _ o refl allowed (comes_then _ d.comes (comes_read _))); allowed = d.allowed }

pub if_done : {boundary : Boundary} {p : Place} {e : Placed} {first : IfArm} {arms : List IfArm} {other : Option Block} {rest : List Placed} (words behind_first behind_arms : List Placed)
    → Starts (is_this terminal.If) words → ArmDone boundary p first words behind_first → (AreAllowedBefore boundary behind_first → ArmsDone boundary p arms behind_first behind_arms)
    → (AreAllowedBefore boundary behind_arms → ElseDone boundary p other behind_arms (e ∷ rest)) → Is p terminal.End e → KindDone boundary p (stat.If (first ∷ arms) other) words rest
if_done {p} {first = first} words behind_first behind_arms start d second third e =
    let others = second d.allowed in
    let last = third others.allowed in
    record {
      comes = kind_of_first p terminal.If words start (comes_then _ d.comes (comes_then _ (others.comes (first ∷ []))
          (comes_then _ last.comes (comes_expected _ e refl last.allowed.0 (comes_read _)))));
      allowed = last.allowed.1;
    }

-- ---- for

abbrev pub StepDone : Boundary → Place → Option Exp → List Placed → List Placed → Type 0
StepDone boundary p s words rest = Done boundary (plain words) (λ n. step_behind (readers n) p (plain words)) s rest

pub no_step_done : {boundary : Boundary} (p : Place) (rest : List Placed) → begins terminal.Comma (plain rest) ≡ false → AreAllowedBefore boundary rest
    → StepDone boundary p None rest rest
no_step_done p rest h allowed = record { comes = comes_else _ h (comes_read _); allowed = allowed }

pub step_done : {boundary : Boundary} {p : Place} {c : Placed} {value : Exp} {rest : List Placed} (words : List Placed) → Is p terminal.Comma c → IsAllowedBefore boundary c (plain words)
    → ExpDone boundary p precedence.Or value (plain words) rest
    → StepDone boundary p (Some value) (c ∷ words) rest
step_done words c allowed d = record { comes = comes_if _ (begins_here c) (comes_taken _ c refl allowed (comes_then _ d.comes (comes_read _))); allowed = d.allowed }

pub numeric_for_done : {boundary : Boundary} {p : Place} {f n a c d e : Placed} {first limit : Exp} {s : Option Exp} {b : Block} {rest : List Placed} (words behind_first behind_limit behind_step : List Placed)
    → Is p terminal.For f → Is p terminal.Name n → Is p terminal.Assign a → AreAllowedBefore boundary (f ∷ n ∷ a ∷ words)
    → ExpDone boundary p precedence.Or first (plain words) (c ∷ behind_first) → Is p terminal.Comma c
    → (AreAllowedBefore boundary behind_first → ExpDone boundary p precedence.Or limit (plain behind_first) behind_limit)
    → (AreAllowedBefore boundary behind_limit → StepDone boundary p s behind_limit (d ∷ behind_step)) → Is p terminal.Do d
    → (AreAllowedBefore boundary behind_step → BlockDone boundary (within_loop p) b (plain behind_step) (e ∷ rest)) → Is p terminal.End e
    → KindDone boundary p (stat.NumericFor (local_name n) first limit s b) (f ∷ n ∷ a ∷ words) rest
numeric_for_done {n = n} {a = a} words behind_first behind_limit behind_step f is_name is_assign allowed one c second third d inside e =
    let two = second one.allowed.1 in
    let three = third two.allowed in
    let four = inside three.allowed.1 in
    record {
      comes = kind_is (plain (n ∷ a ∷ words)) f (comes_taken _ f refl allowed.0 (comes_then _ (local_name_comes is_name allowed.1.0) (comes_if _ (begins_here is_assign)
          (comes_taken _ is_assign refl allowed.1.1.0 (comes_then _ one.comes (comes_expected _ c refl one.allowed.0 (comes_then _ two.comes (comes_then _ three.comes
          (comes_then _ (loop_comes d three.allowed.0 four e) (comes_read _))))))))));
      allowed = four.allowed.1;
    }

pub generic_for_done : {boundary : Boundary} {p : Place} {f i d e : Placed} {names : List LocalName} {es : List Exp} {b : Block} {rest : List Placed} (words behind_names behind_values : List Placed)
    → Is p terminal.For f → IsAllowedBefore boundary f (plain words) → (one : NamesDone boundary p names (plain words) (i ∷ behind_names)) → begins terminal.Assign one.behind ≡ false → Is p terminal.In i
    → (AreAllowedBefore boundary behind_names → ExpsDone boundary p es (plain behind_names) (d ∷ behind_values)) → Is p terminal.Do d
    → (AreAllowedBefore boundary behind_values → BlockDone boundary (within_loop p) b (plain behind_values) (e ∷ rest)) → Is p terminal.End e
    → KindDone boundary p (stat.GenericFor names es b) (f ∷ words) rest
generic_for_done words behind_names behind_values f allowed one no_assign i second d third e =
    let two = second one.allowed.1 in
    let three = third two.allowed.1 in
    record {
      comes = kind_is (plain words) f (comes_taken _ f refl allowed (comes_then _ one.comes (comes_else _ no_assign (comes_then _ (one.tail []) (comes_expected _ i refl one.allowed.0
          (comes_then _ (exps_come two).comes (comes_then _ (loop_comes d two.allowed.0 three e) (comes_read _))))))));
      allowed = three.allowed.1;
    }

-- ---- functions and locals

abbrev pub BodyDone : Boundary → Place → FunctionBody → List Placed → List Placed → Type 0
BodyDone boundary p b words rest = Done boundary (plain words) (λ n. read_body (readers n) p (plain words)) b rest

pub function_stat_done : {boundary : Boundary} {p : Place} {f n : Placed} {fields : List (List ℕ)} {b : FunctionBody} {rest : List Placed} (words middle : List Placed)
    → Is p terminal.Function f
    → Is p terminal.Name n → AreAllowedBefore boundary (f ∷ n ∷ words) → ListDone boundary (plain words) (λ k before. (readers k).path p before (plain words)) fields middle
    → (AreAllowedBefore boundary middle → BodyDone boundary (within p) b middle rest) → KindDone boundary p (stat.Function n.word.spelled fields b) (f ∷ n ∷ words) rest
function_stat_done {n = n} words middle f is_name allowed path more =
    let inside = more path.allowed in
    record {
      comes = kind_is (plain (n ∷ words)) f (comes_taken _ f refl allowed.0 (comes_then _ (name_comes is_name allowed.1.0) (comes_then _ (path.comes [])
          (comes_then _ inside.comes (comes_read _)))));
      allowed = inside.allowed;
    }

pub local_function_done : {boundary : Boundary} {p : Place} {l f n : Placed} {b : FunctionBody} {rest : List Placed} (words : List Placed) → Is p terminal.Local l
    → Is p terminal.Function f
    → Is p terminal.Name n → AreAllowedBefore boundary (l ∷ f ∷ n ∷ words) → BodyDone boundary (within p) b words rest
    → KindDone boundary p (stat.LocalFunction (local_name n) b) (l ∷ f ∷ n ∷ words) rest
local_function_done {f = f} {n = n} words l is_function is_name allowed inside = record {
  comes = kind_is (plain (f ∷ n ∷ words)) l (comes_taken _ l refl allowed.0 (comes_if _ (begins_here is_function) (comes_taken _ is_function refl allowed.1.0
      (comes_then _ (local_name_comes is_name allowed.1.1.0) (comes_then _ inside.comes (comes_read _))))));
  allowed = inside.allowed;
}

pub locals_done : {boundary : Boundary} {p : Place} {l : Placed} {names : List LocalName} {es : List Exp} {rest : List Placed} (words middle : List Placed)
    → Is p terminal.Local l → IsAllowedBefore boundary l (plain words)
    → begins terminal.Function (plain words) ≡ false → NamesDone boundary p names (plain words) middle → (AreAllowedBefore boundary middle → ValuesDone boundary p es middle rest)
    → KindDone boundary p (stat.Local names es) (l ∷ words) rest
locals_done words middle l allowed h d more =
    let last = more d.allowed in
    record {
      comes = kind_is (plain words) l (comes_taken _ l refl allowed (comes_else _ h (comes_then _ (names_come (plain words) d).comes (comes_then _ last.comes (comes_read _)))));
      allowed = last.allowed;
    }
