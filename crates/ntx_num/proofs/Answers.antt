-- What equal answers hold, and what an Ok came from.
use Rattle.std.proofs.Common.{◌≡◌, Bool, true, false, cond, Some, Ok, Err, refl}
use Rattle.std.specs.Prelude.{Result}
use Rattle.ntx_num.specs.Answer.{result_map, result_and_then}

pub same_Ok : {A E : Type 0} (a b : A) → ◌≡◌ {A = Result A E} (Ok a) (Ok b) → a ≡ b
same_Ok a b e = cc

pub same_Err : {A E : Type 0} (a b : E) → ◌≡◌ {A = Result A E} (Err a) (Err b) → a ≡ b
same_Err a b e = cc

pub same_Some : {A : Type 0} (a b : A) → Some a ≡ Some b → a ≡ b
same_Some a b e = cc

-- what gave an Ok
pub record Mapped {A B E : Type 0} (f : A → B) (r : Result A E) (b : B) : Type 0 where
  pub value : A
  pub is : r ≡ Ok value
  pub gives : f value ≡ b

pub mapped_Ok : {A B E : Type 0} (f : A → B) (r : Result A E) (b : B) → result_map f r ≡ Ok b → Mapped f r b
mapped_Ok f (Ok a) b e = record { value = a; is = refl; gives = cc }
mapped_Ok f (Err x) b e = cc

pub record Went {A B E : Type 0} (f : A → Result B E) (r : Result A E) (b : B) : Type 0 where
  pub value : A
  pub is : r ≡ Ok value
  pub gives : f value ≡ Ok b

pub went_Ok : {A B E : Type 0} (f : A → Result B E) (r : Result A E) (b : B) → result_and_then r f ≡ Ok b → Went f r b
went_Ok f (Ok a) b e = record { value = a; is = refl; gives = e }
went_Ok f (Err x) b e = cc

-- a branch that gave an Ok
pub not_taken : {A E : Type 0} (b : Bool) (x : E) (r : Result A E) (a : A) → cond b (Err x) r ≡ Ok a → (b ≡ false) × (r ≡ Ok a)
not_taken true x r a e = cc
not_taken false x r a e = (refl, e)

pub taken : {A E : Type 0} (b : Bool) (x : E) (r : Result A E) (a : A) → cond b r (Err x) ≡ Ok a → (b ≡ true) × (r ≡ Ok a)
taken true x r a e = (refl, e)
taken false x r a e = cc
