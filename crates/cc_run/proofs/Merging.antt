-- The answers of a phase come together: one line more, with the answer that its caller's row gives.
use Rattle.std.specs.Prelude.{◌≡◌, ◌≢◌, ℕ, suc, ◌-◌, ◌≤◌, ◌==◌, Bool, true, false, List, [], ◌∷◌, ◌++◌, length, map, reverse, get_or, refl}
use Rattle.std.specs.List.{AllByRecursion}
use Rattle.std.proofs.Common.{sym, ap, ◌∙◌, arith, append_assoc, append-nil, set}
use Rattle.std.proofs.Math.ListN.{length-set}
use Rattle.std.proofs.lemmas.Bool.{eqb-true, eqb-false, ne_eqb, eq-eqb}
use Rattle.std.proofs.lemmas.List.{get_or-set_same, get_or-set_other, reverse-append}
use Rattle.cc_entry.specs.declared.answer.Answer.{Answer}
use Rattle.cc_entry.specs.declared.answer.LineReply.{LineReply}
use Rattle.cc_script.specs.declared.script.ActionLine.{ActionLine}
use Rattle.cc_pieces.specs.Phases.{is_of_phase}
use Rattle.cc_pieces.specs.Runs.{asked_of}
use Rattle.cc_run.specs.Callers.{AreAnswerRows, asked_own, count_of_caller, row_at}
use Rattle.cc_run.specs.Lines.{IsCaller}
use Rattle.cc_run.specs.Threads.{Merged}

-- a line of the caller, and one of another
pub own-more : (me : ℕ) (line : ActionLine) (lines : List ActionLine) (told : Answer) (answers : List Answer) → line.caller ≡ me → asked_own me (line ∷ lines) (told ∷ answers) ≡ (line.action, told) ∷ asked_own me lines answers
own-more me line lines told answers is = rw (eq-eqb line.caller me is) refl

pub own-none : (me : ℕ) (lines : List ActionLine) → asked_own me lines [] ≡ []
own-none me [] = refl
own-none me (line ∷ lines) = refl

pub own-other : (me : ℕ) (line : ActionLine) (lines : List ActionLine) (answers : List Answer) → line.caller ≢ me → asked_own me (line ∷ lines) answers ≡ asked_own me lines answers
own-other me line lines [] apart = sym (own-none me lines)
own-other me line lines (told ∷ answers) apart = rw (ne_eqb line.caller me apart) refl

pub count-more : (me : ℕ) (line : ActionLine) (lines : List ActionLine) → line.caller ≡ me → count_of_caller me (line ∷ lines) ≡ suc (count_of_caller me lines)
count-more me line lines is = rw (eq-eqb line.caller me is) refl

pub count-other : (me : ℕ) (line : ActionLine) (lines : List ActionLine) → line.caller ≢ me → count_of_caller me (line ∷ lines) ≡ count_of_caller me lines
count-other me line lines apart = rw (ne_eqb line.caller me apart) refl

module _ (line : ActionLine) (lines : List ActionLine) (rows : List (List Answer)) (row : List Answer) (told : Answer) (caller : IsCaller line.caller) (there : get_or rows (16 - line.caller) [] ≡ row ++ told ∷ []) where
  -- the rows after the answer was taken
  abbrev left : List (List Answer)
  left = set rows (16 - line.caller) row

  row-own : (me : ℕ) → line.caller ≡ me → length rows ≡ 16 → row_at left me ≡ reverse row
  row-own me is sixteen =
      rw (← is) (ap reverse (get_or-set_same rows (16 - line.caller) row [] (omega (arith, caller.first, sixteen))))

  row-before : (me : ℕ) → line.caller ≡ me → row_at rows me ≡ told ∷ reverse row
  row-before me is = rw (← is) (ap reverse there ∙ reverse-append row (told ∷ []))

  row-other : (me : ℕ) → line.caller ≢ me → 1 ≤ me → me ≤ 16 → row_at left me ≡ row_at rows me
  row-other me apart first last =
      ap reverse (get_or-set_other rows (16 - line.caller) (16 - me) row [] (λ e. apart (omega (arith, e, caller.first, caller.last, first, last))))

  pub rows-left : AreAnswerRows (line ∷ lines) rows → AreAnswerRows lines left
  rows-left are = (length-set rows (16 - line.caller) row ∙ are.0, λ me first last. by me first last (line.caller == me) refl)
    where
      by : (me : ℕ) → 1 ≤ me → me ≤ 16 → (b : Bool) → (line.caller == me) ≡ b → length (row_at left me) ≡ count_of_caller me lines
      by me first last true at =
          let is = eqb-true line.caller me at in
          ap length (row-own me is are.0) ∙ omega (arith, ap length (row-before me is), are.1 me first last, count-more me line lines is)
      by me first last false at =
          let apart = eqb-false line.caller me at in
          ap length (row-other me apart first last) ∙ (are.1 me first last ∙ count-other me line lines apart)

  pub merged-more : (before after : List LineReply) (reply : LineReply) → reply ≡ record { line = line.line; answer = told } → length rows ≡ 16 → Merged lines left (before ++ reply ∷ []) after → Merged (line ∷ lines) rows before after
  merged-more before after reply made sixteen rest = record {
    answers = reply ∷ rest.answers;
    grew = rest.grew ∙ append_assoc before (reply ∷ []) rest.answers;
    lines_are = ap (λ r. r.line ∷ map (λ one. one.line) rest.answers) made ∙ ap (λ ns. line.line ∷ ns) rest.lines_are;
    asked = λ phase me those first last. by phase me those first last (line.caller == me) refl;
  }
    where
      by : (phase me : ℕ) → AllByRecursion (λ l. l.phase ≡ phase) (line ∷ lines) → 1 ≤ me → me ≤ 16 → (b : Bool) → (line.caller == me) ≡ b → asked_of (is_of_phase phase me) (line ∷ lines) (reply ∷ rest.answers) ≡ asked_own me (line ∷ lines) (row_at rows me)
      by phase me those first last true at =
          let is = eqb-true line.caller me at in
          rw (at, eq-eqb line.phase phase those.0, row-before me is, at, made)
          (ap (λ more. (line.action, told) ∷ more) (rest.asked phase me those.1 first last ∙ ap (asked_own me lines) (row-own me is sixteen)))
      by phase me those first last false at =
          let apart = eqb-false line.caller me at in
          rw at (rest.asked phase me those.1 first last ∙ (ap (asked_own me lines) (row-other me apart first last) ∙ sym (own-other me line lines (row_at rows me) apart)))

-- no line is left
pub merged-none : (rows : List (List Answer)) (replies : List LineReply) → Merged [] rows replies replies
merged-none rows replies = record { answers = []; grew = sym (append-nil replies); lines_are = refl; asked = λ phase me those first last. refl }
