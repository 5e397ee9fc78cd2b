-- What a file without fault keeps.
use Rattle.std.proofs.Common.{◌≡◌, ℕ, ◌+◌, ◌-◌, ◌*◌, ◌<◌, ◌≤◌, Bool, true, false, ◌&&◌, not, cond, nat_lt, nat_eq, List, length, Option, Some, None, refl, arith}
use Rattle.std.proofs.lemmas.Bool.{and_parts, not-false}
use Rattle.ntx_tfm.specs.declared.fault.FontFault.{FontFault}
use Rattle.ntx_tfm.specs.declared.fault.FontFault.TheVariants.{Short, Range, Header, Size, Index, FirstNotZero, FixWord, LigProgram}
use Rattle.ntx_tfm.specs.declared.fault.FontFault.TheVariants as fault
use Rattle.ntx_tfm.specs.declared.layout.Lengths.{Lengths}
use Rattle.ntx_tfm.specs.declared.words.CharInfo.{CharInfo}
use Rattle.ntx_tfm.specs.Words.{info_at}
use Rattle.ntx_tfm.specs.Layout.{IsLaidOut, lengths_of, infos_at, code_count, word_count, are_short, are_usable}
use Rattle.ntx_tfm.specs.Faults.{has_entries, have_entries, begins_at_step, begin_at_steps, is_there, has_size, begin_with_zero, have_fix_words, are_good_steps, fault_of_tables, fault_of_lengths, first_fault, IsSound}
use Rattle.ntx_tfm.proofs.EachLemmas.{each_passes}

-- a character that is there has a code of the file
pub code_of : (bytes : List ℕ) (l : Lengths) (code : ℕ) → is_there bytes l code ≡ true → (l.bc ≤ code) × (code ≤ l.ec)
unfolding is_there
code_of bytes l code there = grind arith

-- and its word is that of its code
pub info_is : (bytes : List ℕ) (l : Lengths) (code from at : ℕ) (info : CharInfo) → from ≡ infos_at l → at ≡ code - l.bc → info ≡ info_at bytes (from + at) → info ≡ info_at bytes (infos_at l + (code - l.bc))
info_is bytes l code from at info from-is at-is info-is = rw (← from-is, ← at-is) info-is

pub entries_of : (bytes : List ℕ) (l : Lengths) (code : ℕ) (info : CharInfo) → have_entries bytes l ≡ true → is_there bytes l code ≡ true → info ≡ info_at bytes (infos_at l + (code - l.bc)) → has_entries l info ≡ true
unfolding have_entries
entries_of bytes l code info entries there info-is =
    let codes : (l.bc ≤ code) × (code ≤ l.ec) = code_of bytes l code there in
    let here : has_entries l (info_at bytes (infos_at l + (code - l.bc))) ≡ true = each_passes (λ k. has_entries l (info_at bytes (infos_at l + k))) (code_count l) (code - l.bc) (omega arith) entries in
    rw info-is here

pub begins_of : (bytes : List ℕ) (l : Lengths) (code : ℕ) (info : CharInfo) → begin_at_steps bytes l ≡ true → is_there bytes l code ≡ true → info ≡ info_at bytes (infos_at l + (code - l.bc)) → begins_at_step l info ≡ true
unfolding begin_at_steps
begins_of bytes l code info begins there info-is =
    let codes : (l.bc ≤ code) × (code ≤ l.ec) = code_of bytes l code there in
    let here : begins_at_step l (info_at bytes (infos_at l + (code - l.bc))) ≡ true = each_passes (λ k. begins_at_step l (info_at bytes (infos_at l + k))) (code_count l) (code - l.bc) (omega arith) begins in
    rw info-is here

passed : (b : Bool) (f : FontFault) (r : Option FontFault) → cond b (Some f) r ≡ None → (b ≡ false) × (r ≡ None)
passed true f r e = absurd cc
passed false f r e = (refl, e)

lf_small : (l : Lengths) → are_short l ≡ true → l.lf < 32768
unfolding are_short
lf_small l short = grind arith

long_enough : (n lf count : ℕ) → nat_eq lf count ≡ true → nat_lt n (4 * lf) ≡ false → (lf ≡ count) × (4 * count ≤ n)
long_enough n lf count sum long = let e : lf ≡ count = grind arith in let enough : 4 * lf ≤ n = grind arith in (e, omega arith)

laid_out_of : (bytes : List ℕ) (l : Lengths) → are_short l ≡ true → are_usable l ≡ true → nat_lt l.lh 2 ≡ false → nat_eq l.lf (word_count l) ≡ true → nat_lt (length bytes) (4 * l.lf) ≡ false → IsLaidOut bytes l
unfolding are_short are_usable
laid_out_of bytes l short usable header sum long = record {
  header = grind arith;
  codes = grind arith;
  last_code = grind arith;
  widths = grind arith;
  heights = grind arith;
  depths = grind arith;
  italics = grind arith;
  steps = grind arith;
  kerns = grind arith;
  parameters = grind arith;
  words = omega (arith, lf_small l short, (long_enough (length bytes) l.lf (word_count l) sum long).0);
  long = (long_enough (length bytes) l.lf (word_count l) sum long).1;
}

sound_tables : (bytes : List ℕ) (l : Lengths) → IsLaidOut bytes l → fault_of_tables bytes l ≡ None → IsSound bytes l
unfolding fault_of_tables
sound_tables bytes l laid none =
    let size = passed (not (has_size bytes)) Size _ none in
    let entries = passed (not (have_entries bytes l)) Index _ size.1 in
    let first = passed (not (begin_with_zero bytes l)) FirstNotZero _ entries.1 in
    let words = passed (not (have_fix_words bytes l)) FixWord _ first.1 in
    let programs = passed (not (begin_at_steps bytes l && are_good_steps bytes l)) LigProgram None words.1 in
    let steps = and_parts (begin_at_steps bytes l) (are_good_steps bytes l) (not-false _ programs.0) in
    record { laid_out = laid; size = not-false _ size.0; entries = not-false _ entries.0; begins = steps.0; steps = steps.1 }

-- a file without fault is sound
pub sound_of : (bytes : List ℕ) → first_fault bytes ≡ None → IsSound bytes (lengths_of bytes)
unfolding first_fault fault_of_lengths
sound_of bytes none =
    let l : Lengths = lengths_of bytes in
    let enough = passed (nat_lt (length bytes) 24) Short (fault_of_lengths bytes l) none in
    let range = passed (not (are_short l && are_usable l)) Range _ enough.1 in
    let usable = and_parts (are_short l) (are_usable l) (not-false _ range.0) in
    let header = passed (nat_lt l.lh 2) Header _ range.1 in
    let sum = passed (not (nat_eq l.lf (word_count l))) fault.Lengths _ header.1 in
    let long = passed (nat_lt (length bytes) (4 * l.lf)) Short _ sum.1 in
    sound_tables bytes l (laid_out_of bytes l usable.0 usable.1 header.0 (not-false _ sum.0) long.0) long.1
