-- A beginning is shown by what came after it; what is none, by its length or by the entry in its place.
use Rattle.std.proofs.Common.{ap, sym, ◌∙◌, ◌≡◌, ◌+◌, [], ◌∷◌, length}
use Rattle.std.specs.Prelude.{drop, false, refl}
use native.Mathlib.Omega.{arith}
use Rattle.std.proofs.lemmas.List.{length-append}
use Rattle.std.proofs.Math.Seq.{drop-append_seam}
use Rattle.cc_worked.specs.Values.{dirty_is}
use Rattle.cc_worked.specs.Seen.{seen_after, whole_journal, one_left_out}
use Rattle.cc_worked.proofs.seen.beginning_is_seen.Goals as goal

pub returns-clause-beginning : goal.returns-clause-beginning
returns-clause-beginning c = record { later = dirty_is 2 2 false ∷ []; grew = refl }

pub returns-clause-no_more : goal.returns-clause-no_more
returns-clause-no_more c seen =
    let long : length seen_after ≡ length seen.later + length whole_journal =
    ap length seen.grew ∙ length-append seen.later whole_journal
    in
    let short : 4 ≡ length seen.later + 5 = long in
    omega arith

pub returns-clause-none_left_out : goal.returns-clause-none_left_out
returns-clause-none_left_out c seen =
    let long : 5 ≡ length seen.later + 3 = ap length seen.grew ∙ length-append seen.later one_left_out in
    let two : length seen.later ≡ 2 = omega arith in
    let rest : drop (length seen.later) whole_journal ≡ one_left_out =
    ap (drop (length seen.later)) seen.grew ∙ drop-append_seam seen.later one_left_out
    in
    let at_two : drop 2 whole_journal ≡ one_left_out = sym (ap (λ n. drop n whole_journal) two) ∙ rest in
    grind arith
