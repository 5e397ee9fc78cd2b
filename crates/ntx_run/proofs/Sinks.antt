-- What is added to a sink, piece by piece.
use Rattle.std.proofs.Common.{◌≡◌, ℕ, List, [], ◌∷◌, ◌++◌, Option, Some, None, refl, ap, sym, ◌∙◌, subst, append_assoc}
use Rattle.std.specs.Prelude.{◌≢◌, IsSome}
use Rattle.std.proofs.lemmas.List.{append-nil, append_cancel_left}
use Rattle.ntx_io.specs.Outside.{Output, Adds, AddsPrefix, AddsProperPrefix}

-- ---- one piece

pub adds_nothing : (old : Option (List ℕ)) → Adds old old []
adds_nothing (Some taken) = ap Some (sym (append-nil taken))
adds_nothing None = refl

pub adds_none : (before after : Output) → after ≡ before → Adds before.taken after.taken []
adds_none before after same = subst (λ o. Adds before.taken o.taken []) (sym same) (adds_nothing before.taken)

pub adds_no_prefix : (before after : Output) (text : List ℕ) → after ≡ before → AddsPrefix before.taken after.taken text
adds_no_prefix before after text same = record { prefix = []; rest = text; parts = refl; adds = adds_none before after same }

pub adds_whole : (old new : Option (List ℕ)) (text : List ℕ) → Adds old new text → AddsPrefix old new text
adds_whole old new text adds =
    record { prefix = text; rest = []; parts = sym (append-nil text); adds = adds }

pub adds_proper : (old new : Option (List ℕ)) (text : List ℕ) → AddsProperPrefix old new text → AddsPrefix old new text
adds_proper old new text cut =
    record { prefix = cut.prefix; rest = cut.rest; parts = cut.parts; adds = cut.adds }

-- ---- one piece after another

pub adds_then : (old mid new : Option (List ℕ)) (first second : List ℕ) → Adds old mid first → Adds mid new second → Adds old new (first ++ second)
adds_then (Some taken) mid new first second one other =
    let rest : Adds (Some (taken ++ first)) new second = subst (λ o. Adds o new second) one other in
    rest ∙ ap Some (append_assoc taken first second)
adds_then None mid new first second one other = subst (λ o. Adds o new second) one other

pub adds_prefix_then : (old mid new : Option (List ℕ)) (first second : List ℕ) → Adds old mid first → AddsPrefix mid new second → AddsPrefix old new (first ++ second)
adds_prefix_then old mid new first second one other = record {
  prefix = first ++ other.prefix;
  rest = other.rest;
  parts = ap (λ t. first ++ t) other.parts ∙ sym (append_assoc first other.prefix other.rest);
  adds = adds_then old mid new first other.prefix one other.adds;
}

-- ---- what was not taken whole

pub nothing_first : (xs ys : List ℕ) → xs ++ ys ≡ [] → xs ≡ []
nothing_first [] ys e = refl
nothing_first (x ∷ xs) ys e = cc

-- A sink that took less than a text did not take the text.
pub takes_no_more : (old new : Option (List ℕ)) (prefix rest more : List ℕ) → IsSome old → Adds old new prefix → rest ≢ [] → Adds old new ((prefix ++ rest) ++ more) → ⊥
takes_no_more None new prefix rest more some adds cut all = cc
takes_no_more (Some taken) new prefix rest more some adds cut all =
    let same : Some (taken ++ prefix) ≡ Some (taken ++ ((prefix ++ rest) ++ more)) = sym adds ∙ all in
    let text : taken ++ prefix ≡ taken ++ ((prefix ++ rest) ++ more) = cc in
    let ends : prefix ++ [] ≡ prefix ++ (rest ++ more) = append-nil prefix ∙ append_cancel_left taken prefix ((prefix ++ rest) ++ more) text ∙ append_assoc prefix rest more in
    cut (nothing_first rest more (sym (append_cancel_left prefix [] (rest ++ more) ends)))
