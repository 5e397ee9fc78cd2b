-- The way back from a state to the start.
use Rattle.std.proofs.Common.{◌≡◌, ℕ, zero, suc, List, [], ◌∷◌, ◌++◌, true, false, cond, reverse, refl, ap, sym, ◌∙◌, append_assoc}
use Rattle.std.specs.Prelude.{nat_eq, slice_index_or}
use Rattle.std.proofs.lemmas.List.{reverse-append}
use Rattle.ntx_breaks.specs.declared.state.State.{State}
use Rattle.ntx_breaks.specs.States.{start_state}
use Rattle.ntx_breaks.specs.Chosen.{chain_back}

-- at the start nothing is left
pub chain_start : (states : List State) (steps : ℕ) (state : State) → nat_eq state.place 0 ≡ true → chain_back states steps state ≡ []
chain_start states zero state e = refl
chain_start states (suc steps) state e = ap (λ b. cond b [] (chain_back states steps (slice_index_or states state.before start_state) ++ state.place ∷ [])) e

pub chain_end : (states : List State) (steps : ℕ) (state : State) → steps ≡ 0 → chain_back states steps state ≡ []
chain_end states steps state e = ap (λ n. chain_back states n state) e

-- one step back
pub chain_step : (states : List State) (steps n : ℕ) (state : State) (places : List ℕ) → steps ≡ suc n → nat_eq state.place 0 ≡ false →
    chain_back states steps state ++ reverse places ≡ chain_back states n (slice_index_or states state.before start_state) ++ reverse (places ++ state.place ∷ [])
chain_step states steps n state places e f =
    ap (λ k. chain_back states k state ++ reverse places) e
    ∙ ap (λ b. cond b [] (chain_back states n (slice_index_or states state.before start_state) ++ state.place ∷ []) ++ reverse places) f
    ∙ append_assoc (chain_back states n (slice_index_or states state.before start_state)) (state.place ∷ []) (reverse places)
    ∙ ap (λ l. chain_back states n (slice_index_or states state.before start_state) ++ l) (sym (reverse-append places (state.place ∷ [])))
