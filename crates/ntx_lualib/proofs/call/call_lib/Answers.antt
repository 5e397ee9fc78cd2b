use Rattle.std.proofs.Common.{Ok}
use Rattle.ntx_num.specs.Answer.{result_map}
use Rattle.ntx_lualib.specs.Arguments.{argument}
use Rattle.ntx_lualib.specs.Shown.{shown, type_name}
use Rattle.ntx_lualib.specs.Strings.{string_len, string_sub, string_byte, string_char, string_rep}
use Rattle.ntx_lualib.specs.Formats.{string_format}
use Rattle.ntx_lualib.specs.Lists.{table_insert, table_remove, table_concat}
use Rattle.ntx_lualib.specs.Numbers.{math_abs, math_max, math_min}
use Rattle.ntx_lualib.specs.Walks.{pairs, ipairs, ipairs_next, next}
use Rattle.ntx_lualib.specs.Library.{gives_text}
use Rattle.ntx_lualib.proofs.Calling.{by_store, by_answer, by_print}
use Rattle.ntx_lualib.proofs.call.call_lib.Goals as goal

pub returns-in-Print-clause-calls : goal.returns-in-Print-clause-calls
returns-in-Print-clause-calls c =
    rw c.in-Print.is
    (by_print (result_map (λ values. values.items) c.print.result) c.args.store.now c.args.out.now c.print.new.out c.args.args.now c.print.ensures.prints)

pub returns-in-ToString-clause-calls : goal.returns-in-ToString-clause-calls
returns-in-ToString-clause-calls c =
    rw c.in-ToString.is
    (by_store (result_map (λ values. values.items) c.give_shown.result) c.args.store.now c.give_shown.new.store c.args.out.now (gives_text (λ store. Ok (shown store (argument c.args.args.now 0))))
    c.give_shown.ensures.calls c.give_shown.ensures.grows)

pub returns-in-TypeOf-clause-calls : goal.returns-in-TypeOf-clause-calls
returns-in-TypeOf-clause-calls c =
    rw c.in-TypeOf.is
    (by_store (result_map (λ values. values.items) c.give_type.result) c.args.store.now c.give_type.new.store c.args.out.now (gives_text (λ _. Ok (type_name (argument c.args.args.now 0))))
    c.give_type.ensures.calls c.give_type.ensures.grows)

pub returns-in-Pairs-clause-calls : goal.returns-in-Pairs-clause-calls
returns-in-Pairs-clause-calls c =
    rw c.in-Pairs.is
    (by_answer (result_map (λ values. values.items) c.pairs.result) c.args.store.now c.args.out.now (λ _. pairs c.args.args.now) c.pairs.ensures.value)

pub returns-in-Ipairs-clause-calls : goal.returns-in-Ipairs-clause-calls
returns-in-Ipairs-clause-calls c =
    rw c.in-Ipairs.is
    (by_answer (result_map (λ values. values.items) c.ipairs.result) c.args.store.now c.args.out.now (λ _. ipairs c.args.args.now) c.ipairs.ensures.value)

pub returns-in-IpairsNext-clause-calls : goal.returns-in-IpairsNext-clause-calls
returns-in-IpairsNext-clause-calls c =
    rw c.in-IpairsNext.is
    (by_answer (result_map (λ values. values.items) c.ipairs_next.result) c.args.store.now c.args.out.now (ipairs_next c.args.args.now) c.ipairs_next.ensures.value)

pub returns-in-Next-clause-calls : goal.returns-in-Next-clause-calls
returns-in-Next-clause-calls c =
    rw c.in-Next.is
    (by_answer (result_map (λ values. values.items) c.next.result) c.args.store.now c.args.out.now (next c.args.args.now) c.next.ensures.value)

pub returns-in-StringLen-clause-calls : goal.returns-in-StringLen-clause-calls
returns-in-StringLen-clause-calls c =
    rw c.in-StringLen.is
    (by_answer (result_map (λ values. values.items) c.string_len.result) c.args.store.now c.args.out.now (string_len c.args.args.now) c.string_len.ensures.value)

pub returns-in-StringSub-clause-calls : goal.returns-in-StringSub-clause-calls
returns-in-StringSub-clause-calls c =
    rw c.in-StringSub.is
    (by_store (result_map (λ values. values.items) c.give_sub.result) c.args.store.now c.give_sub.new.store c.args.out.now (gives_text (string_sub c.args.args.now))
    c.give_sub.ensures.calls c.give_sub.ensures.grows)

pub returns-in-StringByte-clause-calls : goal.returns-in-StringByte-clause-calls
returns-in-StringByte-clause-calls c =
    rw c.in-StringByte.is
    (by_answer (result_map (λ values. values.items) c.string_byte.result) c.args.store.now c.args.out.now (string_byte c.args.args.now) c.string_byte.ensures.value)

pub returns-in-StringChar-clause-calls : goal.returns-in-StringChar-clause-calls
returns-in-StringChar-clause-calls c =
    rw c.in-StringChar.is
    (by_store (result_map (λ values. values.items) c.give_char.result) c.args.store.now c.give_char.new.store c.args.out.now (gives_text (λ _. string_char c.args.args.now))
    c.give_char.ensures.calls c.give_char.ensures.grows)

pub returns-in-StringRep-clause-calls : goal.returns-in-StringRep-clause-calls
returns-in-StringRep-clause-calls c =
    rw c.in-StringRep.is
    (by_store (result_map (λ values. values.items) c.give_rep.result) c.args.store.now c.give_rep.new.store c.args.out.now (gives_text (string_rep c.args.args.now))
    c.give_rep.ensures.calls c.give_rep.ensures.grows)

pub returns-in-StringFormat-clause-calls : goal.returns-in-StringFormat-clause-calls
returns-in-StringFormat-clause-calls c =
    rw c.in-StringFormat.is
    (by_store (result_map (λ values. values.items) c.give_format.result) c.args.store.now c.give_format.new.store c.args.out.now (gives_text (string_format c.args.args.now))
    c.give_format.ensures.calls c.give_format.ensures.grows)

pub returns-in-TableInsert-clause-calls : goal.returns-in-TableInsert-clause-calls
returns-in-TableInsert-clause-calls c =
    rw c.in-TableInsert.is
    (by_store (result_map (λ values. values.items) c.table_insert.result) c.args.store.now c.table_insert.new.store c.args.out.now (table_insert c.args.args.now)
    c.table_insert.ensures.calls c.table_insert.ensures.grows)

pub returns-in-TableRemove-clause-calls : goal.returns-in-TableRemove-clause-calls
returns-in-TableRemove-clause-calls c =
    rw c.in-TableRemove.is
    (by_store (result_map (λ values. values.items) c.table_remove.result) c.args.store.now c.table_remove.new.store c.args.out.now (table_remove c.args.args.now)
    c.table_remove.ensures.calls c.table_remove.ensures.grows)

pub returns-in-TableConcat-clause-calls : goal.returns-in-TableConcat-clause-calls
returns-in-TableConcat-clause-calls c =
    rw c.in-TableConcat.is
    (by_store (result_map (λ values. values.items) c.give_concat.result) c.args.store.now c.give_concat.new.store c.args.out.now (gives_text (table_concat c.args.args.now))
    c.give_concat.ensures.calls c.give_concat.ensures.grows)

pub returns-in-MathAbs-clause-calls : goal.returns-in-MathAbs-clause-calls
returns-in-MathAbs-clause-calls c =
    rw c.in-MathAbs.is
    (by_answer (result_map (λ values. values.items) c.math_abs.result) c.args.store.now c.args.out.now (λ _. math_abs c.args.args.now) c.math_abs.ensures.value)

pub returns-in-MathMax-clause-calls : goal.returns-in-MathMax-clause-calls
returns-in-MathMax-clause-calls c =
    rw c.in-MathMax.is
    (by_answer (result_map (λ values. values.items) c.math_max.result) c.args.store.now c.args.out.now (λ _. math_max c.args.args.now) c.math_max.ensures.value)

pub returns-in-MathMin-clause-calls : goal.returns-in-MathMin-clause-calls
returns-in-MathMin-clause-calls c =
    rw c.in-MathMin.is
    (by_answer (result_map (λ values. values.items) c.math_min.result) c.args.store.now c.args.out.now (λ _. math_min c.args.args.now) c.math_min.ensures.value)
