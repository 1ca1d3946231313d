-- Behind the flush of turns that kept the disk the lengths may be told.
use Rattle.std.specs.Prelude.{◌≡◌, OnOk, None}
use Rattle.std.proofs.Common.{ap, refl, rules, sym, ◌∙◌, subst}
use Rattle.cc_calls.specs.Flushes.{FlushEnds}
use Rattle.cc_keep.specs.Keeps.{keeping_standing}
use Rattle.cc_model.specs.History.{history}
use Rattle.cc_model.specs.Touches.{valid_of}
use Rattle.cc_stored.specs.Settle.{TellsAfter}
use Rattle.cc_turns.specs.Standing.{TurnsHeld, Standing}
use Rattle.cc_writes.specs.Hands.{Went}
use Rattle.cc_stored.proofs.Kept.{kept-tells, keeping-new}
use Rattle.cc_stored.proofs.settling.flush_kept.Goals as goal

pub returns-clause-tells : goal.returns-clause-tells
returns-clause-tells g c =
    let s = c.args.file.stream in
    let w = g.T.Turns.standing c.args.turns.now in
    let k = c.new-keeping.result in
    let j = c.flush_held-flushed.new.turns in
    let y = g.T.Turns.standing j.turns.now in
    let new = keeping-new w (g.T.Turns.standing k.turns.now) (g.T.Turns.standing k.begun.value) k.turns.ghost_name s k.stream k.device_turns
    (ap g.T.Turns.standing c.new-keeping.ensures.now) (ap g.T.Turns.standing c.new-keeping.ensures.begun) (c.new-keeping.ensures.stream ∙ c.stream.ensures) c.new-keeping.ensures.turns in
    let last = keeping_standing y j.turns.ghost_name j.stream (g.T.Turns.standing j.begun.value) j.device_turns in
    let went = subst (λ (a : Standing). Went a last) new c.flush_held-flushed.ensures.went in
    let ends = subst (λ (a : Standing). FlushEnds a last c.args.file None c.flush_held-flushed.result) new c.flush_held-flushed.ensures.ends in
    let same : c.turns-1.given.0 ≡ j.turns.now = search rules in
    subst (λ (a : Standing). OnOk c.flush_held-flushed.result (TellsAfter a s (valid_of (history w.seen s)))) (sym (ap g.T.Turns.standing same))
    (kept-tells w y (g.T.Turns.standing j.begun.value) k.turns.ghost_name j.turns.ghost_name s j.stream j.device_turns went j.keeps c.args.file c.flush_held-flushed.result refl
    (ap (λ (h : TurnsHeld). h.device) c.flush_held-flushed.ensures.disk.held) ends)
