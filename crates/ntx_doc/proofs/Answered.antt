-- What the value of an answer keeps, test by test.
use Rattle.std.proofs.Common.{◌≡◌, Bool, true, false, refl, Some, None}
use Rattle.std.specs.Prelude.{Result, Ok, Err, Option, IfOk}
use Rattle.ntx_num.specs.Answer.{result_map, result_and_then}
use Rattle.ntx_doc.specs.declared.fault.DocWhy.{DocWhy}
use Rattle.ntx_doc.specs.Refusal.{refused_unless, refused_without}

pub if_ok_map : {A B E : Type 0} (Q : A → Type 0) (P : B → Type 0) (f : A → B) (r : Result A E) → IfOk r Q → ((a : A) → Q a → P (f a)) → IfOk (result_map f r) P
if_ok_map Q P f (Ok a) h k = k a h
if_ok_map Q P f (Err e) h k = tt

pub if_ok_then : {A B E : Type 0} (Q : A → Type 0) (P : B → Type 0) (r : Result A E) (f : A → Result B E) → IfOk r Q → ((a : A) → Q a → IfOk (f a) P) → IfOk (result_and_then r f) P
if_ok_then Q P (Ok a) f h k = k a h
if_ok_then Q P (Err e) f h k = tt

pub if_ok_unless : {A : Type 0} (P : A → Type 0) (reason : DocWhy) (test : Bool) (next : Result A DocWhy) → (test ≡ true → IfOk next P) → IfOk (refused_unless reason test next) P
if_ok_unless P reason true next k = k refl
if_ok_unless P reason false next k = tt

pub if_ok_without : {A B : Type 0} (P : B → Type 0) (reason : DocWhy) (found : Option A) (f : A → Result B DocWhy) → ((a : A) → IfOk (f a) P) → IfOk (refused_without reason found f) P
if_ok_without P reason None f k = tt
if_ok_without P reason (Some a) f k = k a
