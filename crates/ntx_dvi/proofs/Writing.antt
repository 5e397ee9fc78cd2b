-- What is written of operations, one after another.
use Rattle.std.proofs.Common.{◌≡◌, List, [], ◌∷◌, ◌++◌, Result, Ok, Err, refl, ap, sym, ◌∙◌, append_assoc}
use Rattle.std.proofs.lemmas.List.Sums.{fold-append}
use Rattle.std.specs.List.{fold}
use Rattle.ntx_num.specs.Answer.{Steps}
use Rattle.ntx_num.specs.declared.answer.Fail.{Fail}
use Rattle.ntx_num.specs.declared.answer.Fail.TheVariants.{NoMemory, Is}
use Rattle.ntx_dvi.specs.declared.full.DviFull.{DviFull}
use Rattle.ntx_dvi.specs.Operation.{Operation}
use Rattle.ntx_dvi.specs.Writer.{Writer, step}
use Rattle.ntx_dvi.specs.Written.{after_step, then_write, written, WritesAs, Writes}

-- ---- the writer

-- More operations go on from where the first ones ended.
written-append : (old mid : Writer) (xs ys : List Operation) → written old xs ≡ Ok mid → written old (xs ++ ys) ≡ written mid ys
unfolding written
written-append old mid xs ys first =
    fold-append then_write (Ok old) xs ys ∙ ap (λ w. fold then_write w ys) first

pub full_stays : (w : Writer) (operations : List Operation) → fold then_write (Err w) operations ≡ Err w
full_stays w [] = refl
full_stays w (x ∷ xs) = full_stays w xs

-- If the first ones found no room, no more is written.
written-append_full : (old new : Writer) (xs ys : List Operation) → written old xs ≡ Err new → written old (xs ++ ys) ≡ Err new
unfolding written
written-append_full old new xs ys first =
    fold-append then_write (Ok old) xs ys ∙ ap (λ w. fold then_write w ys) first ∙ full_stays new ys

written-nil : (w : Writer) → written w [] ≡ Ok w
unfolding written
written-nil w = refl

written-one : (w : Writer) (operation : Operation) → written w (operation ∷ []) ≡ after_step w (step operation w)
unfolding written
written-one w operation = refl

-- ---- calls that write operations

-- Nothing is written for no operations.
pub writes_nothing : (a : Unit {0}) (w : Writer) → Writes (Ok a) w w []
writes_nothing a w = record { done = written-nil w }

-- Nothing is written if memory runs out first.
pub writes_none : (w : Writer) (operations : List Operation) → Writes (Err NoMemory) w w operations
writes_none w operations = record { done = record { prefix = []; rest = operations; parts = refl; writes = written-nil w } }

stepped_writes : (operation : Operation) (result : Result (Unit {0}) (Fail DviFull)) (old new : Writer) → Steps result old new (step operation old) → WritesAs result old new (operation ∷ [])
stepped_writes operation (Ok a) old new e = written-one old operation ∙ ap (after_step old) e
stepped_writes operation (Err (Is full)) old new e =
    written-one old operation ∙ ap (after_step old) e.0 ∙ ap Err (sym e.1)
stepped_writes operation (Err NoMemory) old new e =
    record { prefix = []; rest = operation ∷ []; parts = refl; writes = written-nil old ∙ ap Ok (sym e) }

-- A step writes its operation.
pub writes_step : (operation : Operation) (result : Result (Unit {0}) (Fail DviFull)) (old new : Writer) → Steps result old new (step operation old) → Writes result old new (operation ∷ [])
writes_step operation result old new e = record { done = stepped_writes operation result old new e }

appended_writes : (result : Result (Unit {0}) (Fail DviFull)) (old mid new : Writer) (xs ys : List Operation) → written old xs ≡ Ok mid → WritesAs result mid new ys → WritesAs result old new (xs ++ ys)
appended_writes (Ok b) old mid new xs ys first next = written-append old mid xs ys first ∙ next
appended_writes (Err (Is e)) old mid new xs ys first next = written-append old mid xs ys first ∙ next
appended_writes (Err NoMemory) old mid new xs ys first next = record {
  prefix = xs ++ next.prefix;
  rest = next.rest;
  parts = ap (λ o. xs ++ o) next.parts ∙ sym (append_assoc xs next.prefix next.rest);
  writes = written-append old mid xs next.prefix first ∙ next.writes;
}

-- Operations that follow others that were written.
pub writes_append : {a : Unit {0}} {result : Result (Unit {0}) (Fail DviFull)} {old mid new : Writer} {xs ys : List Operation} → Writes (Ok a) old mid xs → Writes result mid new ys → Writes result old new (xs ++ ys)
writes_append {result = result} {old = old} {mid = mid} {new = new} {xs = xs} {ys = ys} first next = record { done = appended_writes result old mid new xs ys first.done next.done }

stopped_writes : (e : Fail DviFull) (old new : Writer) (xs ys : List Operation) → WritesAs (Err e) old new xs → WritesAs (Err e) old new (xs ++ ys)
stopped_writes (Is full) old new xs ys first = written-append_full old new xs ys first
stopped_writes NoMemory old new xs ys first = record {
  prefix = first.prefix;
  rest = first.rest ++ ys;
  parts = ap (λ o. o ++ ys) first.parts ∙ append_assoc first.prefix first.rest ys;
  writes = first.writes;
}

-- Operations that were not all written are not all written with others after them.
pub writes_stop : {e : Fail DviFull} {old new : Writer} {xs : List Operation} (ys : List Operation) → Writes (Err e) old new xs → Writes (Err e) old new (xs ++ ys)
writes_stop {e = e} {old = old} {new = new} {xs = xs} ys first = record { done = stopped_writes e old new xs ys first.done }
