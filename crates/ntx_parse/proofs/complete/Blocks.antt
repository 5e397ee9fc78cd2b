-- Blocks are read.
use Rattle.std.specs.Prelude.{◌≡◌, Bool, true, false, not, List, [], ◌∷◌, ◌++◌, Option, None, Some}
use Rattle.std.proofs.Common.{refl}
use Rattle.std.proofs.lemmas.Bool.{not-true}
use Rattle.ntx_syntax.specs.declared.tree.Block.{roll-Block}
use Rattle.ntx_syntax.specs.declared.tree.Return.{Return}
use Rattle.ntx_syntax.specs.declared.tree.Stat.{Stat}
use Rattle.ntx_syntax.specs.declared.tree.StatKind.{StatKind}
use Rattle.ntx_syntax.specs.declared.tree.Exp.{Exp}
use Rattle.ntx_parse.specs.declared.place.Place.{Place}
use Rattle.ntx_syntax.specs.declared.terminal.Terminal.{Terminal}
use Rattle.ntx_syntax.specs.declared.terminal.Terminal.TheVariants as terminal
use Rattle.ntx_parse.specs.Grammar.{Placed, Is}
use Rattle.ntx_parse.specs.inner.Reading.{read, begins, readers, begins_statement, ends_return, ends_returned, returned_behind, semicolon_behind, last_behind}
use Rattle.ntx_parse.proofs.complete.Begins.{plain, AreAllowedBefore, implies, implied, Follows, Starts, begins_here, comes_taken}
use Rattle.ntx_parse.proofs.complete.Comes.{Boundary, IsAllowedBefore, Comes, comes_as, comes_then, comes_if, comes_else, comes_read, over_block, over_stats}
use Rattle.ntx_parse.proofs.complete.Follows.{ends_stats, begins_exp, exp_begins_returned}
use Rattle.ntx_parse.proofs.complete.Forms.{Done, ListDone, StatDone, BlockDone, ExpsDone, all_before, one_more}
use Rattle.ntx_parse.proofs.complete.Prefixes.{exps_come}
use Rattle.ntx_parse.proofs.complete.Kinds.{KindDone}

-- ---- statements

pub stat_done : {boundary : Boundary} {p : Place} {kind : StatKind} {rest : List Placed} (o : Placed) (words : List Placed) → begins_statement o.word.is ≡ true
    → KindDone boundary p kind (o ∷ words) rest
    → StatDone boundary p (record { line = o.word.line; kind = kind }) (plain (o ∷ words)) rest
stat_done o words h d = record { goes_on = λ before c. over_stats (comes_if _ h (comes_then _ d.comes c)); allowed = d.allowed }

abbrev pub StatsDone : Boundary → Place → List Stat → List Placed → List Placed → Type 0
StatsDone boundary p ss words rest = ListDone boundary (plain words) (λ n before. (readers n).stats p before (plain words)) ss rest

no_statement : (t : Terminal) → implies (ends_stats t) (not (begins_statement t)) ≡ true
no_statement terminal.Name = refl
no_statement _ = refl

stats_end : {boundary : Boundary} {p : Place} (before : List Stat) (rest : List Placed) → Follows ends_stats rest
    → Comes boundary (plain rest) (λ n. (readers n).stats p before (plain rest)) (read before (plain rest))
stats_end before [] h = over_stats (comes_read _)
stats_end before (o ∷ words) h = over_stats (comes_else _ (not-true (begins_statement o.word.is) (implied (no_statement o.word.is) h)) (comes_read _))

pub no_stats_done : {boundary : Boundary} {p : Place} (rest : List Placed) → Follows ends_stats rest → AreAllowedBefore boundary rest → StatsDone boundary p [] rest rest
no_stats_done rest h allowed = record { comes = λ before. comes_as (stats_end before rest h) (all_before before (plain rest)); allowed = allowed }

pub more_stats_done : {boundary : Boundary} {p : Place} {s : Stat} {ss : List Stat} {rest : List Placed} (words middle : List Placed)
    → StatDone boundary p s (plain words) middle
    → (AreAllowedBefore boundary middle → StatsDone boundary p ss middle rest) → StatsDone boundary p (s ∷ ss) words rest
more_stats_done {s = s} {ss = ss} {rest = rest} words middle d more =
    let others = more d.allowed in
    record { comes = λ before. d.goes_on before (comes_as (others.comes (before ++ s ∷ [])) (one_more before s ss (plain rest))); allowed = others.allowed }

-- ---- return

abbrev pub ReturnedDone : Boundary → Place → List Exp → List Placed → List Placed → Type 0
ReturnedDone boundary p es words rest = Done boundary (plain words) (λ n. returned_behind (readers n) p (plain words)) es rest

ends_here : (rest : List Placed) → Follows ends_return rest → ends_returned (plain rest) ≡ true
ends_here [] h = refl
ends_here (o ∷ words) h = h

pub returns_nothing_done : {boundary : Boundary} (p : Place) (rest : List Placed) → Follows ends_return rest → AreAllowedBefore boundary rest
    → ReturnedDone boundary p [] rest rest
returns_nothing_done p rest h allowed = record { comes = comes_if _ (ends_here rest h) (comes_read _); allowed = allowed }

goes_on_here : (words : List Placed) → Starts begins_exp words → ends_returned (plain words) ≡ false
goes_on_here [] h = elim h [ ]
goes_on_here (o ∷ words) h = not-true (ends_return o.word.is) (implied (exp_begins_returned o.word.is) h)

pub returns_done : {boundary : Boundary} {p : Place} {es : List Exp} {rest : List Placed} (words : List Placed) → Starts begins_exp words
    → ExpsDone boundary p es (plain words) rest → ReturnedDone boundary p es words rest
returns_done words start d = record { comes = comes_else _ (goes_on_here words start) (exps_come d).comes; allowed = d.allowed }

abbrev pub LastDone : Boundary → Place → Option Return → List Placed → List Placed → Type 0
LastDone boundary p last words rest = Done boundary (plain words) (λ n. last_behind (readers n) p (plain words)) last rest

pub no_return_done : {boundary : Boundary} (p : Place) (rest : List Placed) → begins terminal.Return (plain rest) ≡ false → AreAllowedBefore boundary rest
    → LastDone boundary p None rest rest
no_return_done p rest h allowed = record { comes = comes_else _ h (comes_read _); allowed = allowed }

pub last_return_done : {boundary : Boundary} {p : Place} {o : Placed} {es : List Exp} {rest : List Placed} (words middle : List Placed) → Is p terminal.Return o
    → IsAllowedBefore boundary o (plain words) → ReturnedDone boundary p es words middle
    → (AreAllowedBefore boundary middle → (there : Bool) × Done boundary (plain middle) (λ n. semicolon_behind p (plain middle)) there rest)
    → LastDone boundary p (Some (record { line = o.word.line; values = es })) (o ∷ words) rest
last_return_done words middle o allowed d more =
    let last = (more d.allowed).1 in
    record {
      comes = comes_if _ (begins_here o) (comes_taken _ o refl allowed (comes_then _ d.comes (comes_then _ last.comes (comes_read _))));
      allowed = last.allowed;
    }

-- ---- blocks

pub block_done : {boundary : Boundary} {p : Place} {ss : List Stat} {last : Option Return} {rest : List Placed} (words middle : List Placed)
    → StatsDone boundary p ss words middle
    → (AreAllowedBefore boundary middle → LastDone boundary p last middle rest) → BlockDone boundary p (roll-Block (record { stats = ss; last = last })) (plain words) rest
block_done words middle d more =
    let found = more d.allowed in
    record { comes = over_block (comes_then _ (d.comes []) (comes_then _ found.comes (comes_read _))); allowed = found.allowed }
