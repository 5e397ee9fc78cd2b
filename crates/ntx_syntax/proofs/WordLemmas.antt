-- The longest word at the beginning.
use Rattle.std.proofs.Common.{◌≡◌, ℕ, ◌<◌, ◌≤◌, Bool, true, false, ◌||◌, List, [], ◌∷◌, length, take, refl, sym, ap, ◌∙◌, subst, arith}
use Rattle.std.specs.Prelude.{slice_index, ◌==◌}
use Rattle.std.specs.Int.{is_in_range}
use Rattle.std.specs.List.{prefix_len}
use Rattle.std.proofs.lemmas.Bool.{false≢true}
use Rattle.std.proofs.lemmas.List.Sums.{prefix_len-le-length}
use Rattle.ntx_syntax.specs.declared.token.Sort.{Sort}
use Rattle.ntx_syntax.specs.declared.piece.Piece.TheVariants.{Token}
use Rattle.ntx_syntax.specs.Bytes.{begins_name, continues_name}
use Rattle.ntx_syntax.specs.Pieces.{word_sort, word_piece, piece_if}
use Rattle.ntx_syntax.specs.inner.Front.{IsFrontOf}
use Rattle.ntx_syntax.proofs.RunLemmas.{list_all-take, list_all-take_past}

-- `||` of more tests
or_more : (d u l s : Bool) → ((u || l) || s) ≡ true → (((d || u) || l) || s) ≡ true
or_more true u l s h = refl
or_more false u l s h = h

some_run : (p : ℕ → Bool) (b : ℕ) (bytes : List ℕ) → p b ≡ true → 0 < prefix_len p (b ∷ bytes)
some_run p b bytes h = rw h (omega arith)

-- a byte that begins a name goes on with one
pub continues : (b : ℕ) → begins_name b ≡ true → continues_name b ≡ true
continues b h = or_more (is_in_range 48 57 b) (is_in_range 65 90 b) (is_in_range 97 122 b) (b == 95) h

word_run : (bytes : List ℕ) → begins_name (slice_index bytes 0) ≡ true → 0 < prefix_len continues_name bytes
word_run [] h = absurd (false≢true h)
word_run (b ∷ bytes) h = some_run continues_name b bytes (continues b h)

pub word_front : (bytes : List ℕ) (len : ℕ) (sort : Sort) → begins_name (slice_index bytes 0) ≡ true → len ≡ prefix_len continues_name bytes → sort ≡ word_sort (take len bytes) → IsFrontOf word_piece bytes len (Token sort)
word_front bytes len sort begins len_is sort_is = record {
  some = subst (λ n. 0 < n) (sym len_is) (word_run bytes begins);
  within = subst (λ n. n ≤ length bytes) (sym len_is) (prefix_len-le-length continues_name bytes);
  spells = ap (λ test. piece_if test (Token (word_sort (take len bytes)))) (list_all-take continues_name len bytes (omega (arith, len_is))) ∙ ap (λ s. piece_if true (Token s)) (sym sort_is);
  longest = λ n more within. ap (λ test. piece_if test (Token (word_sort (take n bytes)))) (list_all-take_past continues_name n bytes (omega (arith, len_is)) within);
}
