-- The index of the replies grows from the last reply on.
use Rattle.std.proofs.Common.{◌≡◌, ℕ, suc, ◌<◌, ◌==◌, length, get_or, drop, Bool, true, false, cond, List, Option, Some, refl, sym, ◌∙◌, ap, arith, find, drop-cons}
use Rattle.std.specs.Ordering.{nat_cmp}
use Rattle.std.specs.BTreeMap.{is_at}
use Rattle.std.proofs.lemmas.Bool.Decides.{nat_tests}
use Rattle.std.proofs.lemmas.Option.{slice_get-get_or}
use Rattle.cc_entry.specs.declared.answer.LineReply.{LineReply}
use Rattle.cc_print.specs.Replies.{reply_at}

-- the test of a look-up is the test of a line
same_test : (key line : ℕ) → is_at (nat_cmp key) line ≡ (key == line)
same_test key line = grind (arith, nat_tests)

-- the first reply of a line, from a place on
abbrev pub first_from : List LineReply → ℕ → ℕ → Option LineReply
first_from replies place line = find (λ reply. reply.line == line) (drop place replies)

-- the reply at a place that the test chooses
at_choice : (test : Bool) (replies : List LineReply) (place : ℕ) (d : LineReply) (old : Option ℕ) → place < length replies → reply_at replies (cond test (Some place) old) ≡ cond test (Some (get_or replies place d)) (reply_at replies old)
at_choice true replies place d old lt = slice_get-get_or replies place d lt
at_choice false replies place d old lt = refl

-- a look-up among one reply more
first_earlier : (replies : List LineReply) (place line : ℕ) (d : LineReply) → place < length replies → first_from replies place line ≡ cond ((get_or replies place d).line == line) (Some (get_or replies place d)) (first_from replies (suc place) line)
first_earlier replies place line d lt = ap (λ list. find (λ reply. reply.line == line) list) (drop-cons replies place d lt)

-- the places lead to the first replies from one place on, and so from the place before it, which its line takes
pub reply_at-earlier : (replies : List LineReply) (place next line : ℕ) (d : LineReply) (old new : Option ℕ) → place < length replies → next ≡ suc place → new ≡ cond (is_at (nat_cmp (get_or replies place d).line) line) (Some place) old → reply_at replies old ≡ first_from replies next line → reply_at replies new ≡ first_from replies place line
reply_at-earlier replies place next line d old new lt step chosen before =
    let test : Bool = (get_or replies place d).line == line in
    ap (λ o. reply_at replies o) (chosen ∙ ap (λ b. cond b (Some place) old) (same_test (get_or replies place d).line line))
    ∙ at_choice test replies place d old lt
    ∙ ap (λ found. cond test (Some (get_or replies place d)) found) (before ∙ ap (λ n. first_from replies n line) step)
    ∙ sym (first_earlier replies place line d lt)
