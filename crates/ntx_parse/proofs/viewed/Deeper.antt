-- What a reading tells, it tells too if the calls may lie deeper.
--     same_answer    each reading
--     more_script    whole scripts
use Rattle.std.proofs.Common.{◌≡◌, ◌≤◌, ℕ, List, [], ◌∷◌, inl, inr, None, Some, Result, Ok, Err, refl, sym, ap, ◌∙◌, subst}
use Rattle.ntx_syntax.specs.declared.tree.Block.{Block}
use Rattle.ntx_parse.specs.Words.{Word}
use Rattle.ntx_parse.specs.inner.Reading.{Answer, Stop, read, stopped, script_by}
use Rattle.ntx_parse.proofs.viewed.Views.{Begin, both_end, then_alike, View, alike, at_alike, stop_lost, same_stop, too_few, Tells, Goes}
use Rattle.ntx_parse.proofs.viewed.Scripts.{goes_script}

-- ---- all words, which are the same

begin_same : (words : List Word) → Begin (λ words. ⊥) (λ words others. words ≡ others) words words
begin_same [] = both_end
begin_same (o ∷ words) = then_alike refl

pub all_words : View
all_words = record {
  Lost = λ words. ⊥;
  CanBeShort = ⊥;
  Alike = λ words others. words ≡ others;
  shorter = λ h. h;
  short = λ same h. h;
  begin = λ {words} same. subst (λ others. Begin (λ words. ⊥) (λ words others. words ≡ others) words others) same (begin_same words);
}

told : {A : Type 0} (a b : Answer A) → Tells all_words alike a b → (x : Result (A × List Word) Stop) → a ≡ Some x → b ≡ Some x
unfolding all_words
told None b h x e = absurd cc
told (Some (Ok found)) b (inl h) x e = absurd h
told (Some (Ok found)) b (inr h) x e = h.2 ∙ ap (read found.0) (sym h.1) ∙ e
told (Some (Err stop)) b (stop_lost h) x e = absurd h
told (Some (Err stop)) b (same_stop same h) x e = h ∙ ap (stopped stop.why) (sym same) ∙ e
told (Some (Err stop)) b (too_few short h) x e = absurd short

pub same_answer : {A : Type 0} {a b : Answer A} → Goes all_words alike a b → (x : Result (A × List Word) Stop) → a ≡ Some x → b ≡ Some x
same_answer {a = a} {b = b} h x e = told a b h.tells x e

pub more_script : (n m : ℕ) → n ≤ m → (words : List Word) (x : Result (Block × List Word) Stop) → script_by n words ≡ Some x → script_by m words ≡ Some x
unfolding all_words
more_script n m deeper words x e = same_answer (goes_script {V = all_words} n m deeper (at_alike refl)) x e

pub told_once : {A : Type 0} {x y : A} → Some x ≡ Some y → x ≡ y
told_once e = cc
