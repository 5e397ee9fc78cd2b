-- Words put one after another, with space glue between them.
use Rattle.std.proofs.Common.{◌≡◌, ◌≢◌, ℕ, ◌<◌, Bool, true, false, List, [], ◌∷◌, ◌++◌, refl, sym, ap, ◌∙◌, Ok, Err, arith}
use Rattle.std.specs.Prelude.{Result, nat_lt}
use Rattle.std.proofs.lemmas.Bool.Decides.{nat_tests}
use Rattle.ntx_doc.specs.declared.command.Command.{Command}
use Rattle.ntx_doc.specs.declared.command.Command.TheVariants.{Space}
use Rattle.ntx_doc.specs.declared.fault.DocWhy.{DocWhy}
use Rattle.ntx_doc.specs.declared.form.Form.TheVariants as form
use Rattle.ntx_doc.specs.Words.{glyphs_of, spaced, text_commands}
use Rattle.ntx_doc.specs.Place.{Place, put, put_all, with_words}
use Rattle.ntx_doc.specs.Lines.{carry_out}

pub put_all_more : (commands others : List Command) (place : Place) → put_all (commands ++ others) place ≡ put_all others (put_all commands place)
put_all_more [] others place = refl
put_all_more (command ∷ commands) others place = put_all_more commands others (put command place)

-- Commands leave the current font as it is.
pub put_all_font : (commands : List Command) (place : Place) → (put_all commands place).font ≡ place.font
put_all_font [] place = refl
put_all_font (command ∷ commands) place = put_all_font commands (put command place)

abbrev value_or : Place → Result Place DocWhy → Place
value_or place (Ok other) = other
value_or place (Err e) = place

-- these two places as answers are one
abbrev pub IsSameOk : Place → Place → Type 0
IsSameOk place other = ◌≡◌ {A = Result Place DocWhy} (Ok place) (Ok other)

same_value : (place other : Place) → IsSameOk place other → place ≡ other
same_value place other e = ap (value_or place) e

pub record Went (font : ℕ) (others : List (List ℕ)) (place last : Place) : Type 0 where
  pub font_same : place.font ≡ font
  pub leads : put_all (spaced font others) place ≡ last

-- Space glue and the first of these words lead from p by way of q to r.
pub spaced_step : (font : ℕ) (word : List ℕ) (fields others : List (List ℕ)) (p q r last : Place) → fields ≡ word ∷ others → p.font ≡ font → IsSameOk (put (Space font) p) q
    → IsSameOk (put_all (glyphs_of q.font word) q) r → put_all (spaced font fields) p ≡ last → Went font others r last
spaced_step font word fields others p q r last are same there here leads =
    let at_q : put (Space font) p ≡ q = same_value (put (Space font) p) q there in
    let q_font : q.font ≡ font = sym (ap (λ x. x.font) at_q) ∙ same in
    let at_r : put_all (glyphs_of font word) q ≡ r = ap (λ f. put_all (glyphs_of f word) q) (sym q_font) ∙ same_value (put_all (glyphs_of q.font word) q) r here in
    record {
      font_same = sym (ap (λ x. x.font) at_r) ∙ put_all_font (glyphs_of font word) q ∙ q_font;
      leads =
          ap (put_all (spaced font others)) (sym at_r) ∙ sym (put_all_more (glyphs_of font word) (spaced font others) q)
          ∙ ap (put_all (glyphs_of font word ++ spaced font others)) (sym at_q) ∙ ap (λ l. put_all (spaced font l) p) (sym are) ∙ leads;
    }

abbrev after_text : Place → Result Place DocWhy
after_text place = Ok (record place { after_text = true })

-- a line of text, whose words lead from p to q
text_step : (fonts : ℕ) (fields : List (List ℕ)) (word : List ℕ) (others : List (List ℕ)) (p q : Place) → fields ≡ word ∷ others → fonts ≢ 0
    → put_all (text_commands p.after_text p.font (word ∷ others)) p ≡ q → carry_out fonts form.Text fields p ≡ Ok (record q { after_text = true })
text_step fonts fields word others p q are some leads =
    let have : nat_lt 0 fonts ≡ true = grind (arith, nat_tests) in
    rw (are, have) (ap after_text leads)

-- after another line of text
pub text_after : (fonts : ℕ) (fields : List (List ℕ)) (word : List ℕ) (others : List (List ℕ)) (p q : Place) → fields ≡ word ∷ others → fonts ≢ 0 → p.after_text ≡ true
    → IsSameOk (put_all (spaced p.font fields) p) q → carry_out fonts form.Text fields p ≡ Ok (record q { after_text = true })
text_after fonts fields word others p q are some after there =
    text_step fonts fields word others p q are some
    (ap (λ b. put_all (text_commands b p.font (word ∷ others)) p) after ∙ ap (λ l. put_all (spaced p.font l) p) (sym are) ∙ same_value (put_all (spaced p.font fields) p) q there)

-- after no other line of text; the first word leads from p to m
pub text_first : (fonts : ℕ) (fields : List (List ℕ)) (word : List ℕ) (others : List (List ℕ)) (p m q : Place) → fields ≡ word ∷ others → fonts ≢ 0 → p.after_text ≡ false
    → IsSameOk (put_all (glyphs_of p.font word) p) m → IsSameOk (put_all (spaced m.font others) m) q → carry_out fonts form.Text fields p ≡ Ok (record q { after_text = true })
text_first fonts fields word others p m q are some first here there =
    let at_m : put_all (glyphs_of p.font word) p ≡ m = same_value (put_all (glyphs_of p.font word) p) m here in
    let m_font : m.font ≡ p.font = sym (ap (λ x. x.font) at_m) ∙ put_all_font (glyphs_of p.font word) p in
    text_step fonts fields word others p q are some
    (ap (λ b. put_all (text_commands b p.font (word ∷ others)) p) first ∙ put_all_more (glyphs_of p.font word) (spaced p.font others) p
    ∙ ap (put_all (spaced p.font others)) at_m ∙ ap (λ f. put_all (spaced f others) m) (sym m_font) ∙ same_value (put_all (spaced m.font others) m) q there)
