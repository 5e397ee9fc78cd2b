-- Lengths that may be there, and tests of them.
use Rattle.std.proofs.Common.{◌≡◌, ℕ, zero, suc, ◌+◌, Bool, true, false, cond, Option, Some, None, refl, ap, arith}
use Rattle.std.specs.Prelude.{is_some, option_map, nat_eq}
use Rattle.std.proofs.lemmas.Bool.Decides.{nat_tests}
use Rattle.std.proofs.Math.Dec.{eqb-suc-suc, eqb-suc-zero}

-- whether this length is there
abbrev pub is_at : ℕ → Option ℕ → Bool
is_at n None = false
is_at n (Some m) = nat_eq m n

pub is_at-zero : (o : Option ℕ) → is_at zero (option_map suc o) ≡ false
is_at-zero None = refl
is_at-zero (Some m) = eqb-suc-zero m

pub is_at-suc : (n : ℕ) (o : Option ℕ) → is_at (suc n) (option_map suc o) ≡ is_at n o
is_at-suc n None = refl
is_at-suc n (Some m) = eqb-suc-suc m n

pub is_some-map : {X Y : Type 0} (f : X → Y) (o : Option X) → is_some (option_map f o) ≡ is_some o
is_some-map f None = refl
is_some-map f (Some x) = refl

pub map-zero : (o : Option ℕ) → option_map (λ n. 0 + n) o ≡ o
map-zero None = refl
map-zero (Some n) = let e : 0 + n ≡ n = omega arith in ap Some e

pub map-suc : (k : ℕ) (o : Option ℕ) → option_map suc (option_map (λ n. k + n) o) ≡ option_map (λ n. suc k + n) o
map-suc k None = refl
map-suc k (Some n) = let e : suc (k + n) ≡ suc k + n = omega arith in ap Some e

pub map-suc_more : (k : ℕ) (o : Option ℕ) → option_map (λ n. k + n) (option_map suc o) ≡ option_map (λ n. k + 1 + n) o
map-suc_more k None = refl
map-suc_more k (Some n) = let e : k + suc n ≡ k + 1 + n = omega arith in ap Some e

pub map-more : (k j : ℕ) (o : Option ℕ) → option_map (λ n. k + n) (option_map (λ n. j + n) o) ≡ option_map (λ n. k + j + n) o
map-more k j None = refl
map-more k j (Some n) = let e : k + (j + n) ≡ k + j + n = omega arith in ap Some e

-- two choices by one test
pub same_choice : {X : Type 0} (b : Bool) (x y : Option X) (n : ℕ) (u v : Option ℕ) → (b ≡ true → is_some x ≡ is_at n u) → (b ≡ false → is_some y ≡ is_at n v) → is_some (cond b x y) ≡ is_at n (cond b u v)
same_choice true x y n u v p q = p refl
same_choice false x y n u v p q = q refl

pub choice_some : {X : Type 0} (b : Bool) (x y : X) → cond b (Some x) None ≡ Some y → (b ≡ true) × (x ≡ y)
choice_some true x y h = (refl, cc)
choice_some false x y h = cc

pub eqb_comm : (m n : ℕ) → nat_eq m n ≡ nat_eq n m
eqb_comm m n = grind (arith, nat_tests)
