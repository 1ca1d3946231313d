-- The binding names the map, and without one nothing is placed.
use Rattle.std.specs.Prelude.{◌≡◌, refl}
use Rattle.std.specs.declared.option.Option.TheVariants.{Some}
use Rattle.std.proofs.Common.{sym}
use Rattle.std.proofs.lemmas.List.{append_cancel_right}
use Rattle.cc_entry.specs.declared.call.Call.TheVariants as call
use Rattle.cc_entry.specs.declared.reply.Reply.TheVariants as reply
use Rattle.cc_effects.specs.Moments.{Others}
use Rattle.cc_effects.proofs.Starts.{begins, ends_done}
use Rattle.cc_effects.proofs.Stretches.{idle-none}
use Rattle.cc_worked.specs.PiecesReads.{two_pages, page_alone}
use Rattle.cc_worked.specs.PiecesLines.{mapped}
use Rattle.cc_worked.proofs.PiecesOpened.{computed}
use Rattle.cc_worked.proofs.pieces_lines.words_decide_what_a_line_leaves.Goals as goal

pub returns-clause-no_hold : goal.returns-clause-no_hold
returns-clause-no_hold c = (refl, idle-none 1 two_pages)

pub returns-clause-nothing_left : goal.returns-clause-nothing_left
returns-clause-nothing_left c left =
    let during : page_alone ≡ left.1.during = append_cancel_right page_alone left.1.during two_pages left.1.grew in
    mine (rw (sym during) at left.1.others)
  where
    mine : Others 1 page_alone → ⊥
    mine others = absurd (cc others.0)

pub returns-clause-ended : goal.returns-clause-ended
unfolding computed
returns-clause-ended c = ends_done 1 2 (Some 0) (call.EndHold 1) reply.Unit mapped mapped (begins 1 (call.EndHold 1) mapped) refl (λ during. tt)

pub returns-clause-has_hold : goal.returns-clause-has_hold
returns-clause-has_hold c left = left
