-- One line more, the caller's or another's.
use Rattle.std.proofs.Common.{◌≡◌, ℕ, suc, ◌+◌, ◌<◌, ◌++◌, ◌∷◌, [], List, length, take, drop, get_or, vec_capacity, refl, sym, ap, subst, ◌∙◌, arith}
use Rattle.std.proofs.lemmas.List.{take_all, take_more}
use Rattle.cc_turns.specs.Desk.{tells_of}
use Rattle.cc_script.specs.declared.script.ActionLine.{ActionLine}
use Rattle.cc_lines.specs.Line.{IsServable}
use Rattle.cc_run.proofs.CallersRan.{RanSoFar, ran-none, can-serve, ran-own, ran-other, caller-ran, count-before}
use Rattle.cc_run.proofs.Lists.{all-at, parted}
use Rattle.cc_run.proofs.PlacesWent.{own-went}
use Rattle.cc_run.proofs.callers.run_caller.Goals as goal
use Rattle.cc_run.proofs.callers.run_caller.Goals.{then-line-me, else-line-me}

pub push_reserved-requires : goal.push_reserved-requires
push_reserved-requires g c =
    let before : length c.loop-line.answers.items < vec_capacity c.loop-line.answers =
    omega (
      arith,
      c.loop-line.invariant.ran.whole,
      c.loop-line.invariant.room,
      c.requires.may.room.room,
      count-before c.args.caller.pass.knows.number c.args.lines.now c.loop-line.line-index c.line-item.result c.loop-line-test.true c.line-item.is (c.if-line-me.true ∙ c.loop-line.invariant.me_is),
    ) in
    omega arith

-- the lines are those before this one, it, and those behind it
parts-at : (lines : List ActionLine) (i : ℕ) (line : ActionLine) → i < length lines → line ≡ get_or lines i line → lines ≡ take i lines ++ line ∷ drop (suc i) lines
parts-at lines i line low is = parted lines i line low ∙ ap (λ one. take i lines ++ one ∷ drop (suc i) lines) (sym is)

pub loop-line-init : goal.loop-line-init
loop-line-init g c = record {
  ran = subst (λ xs. RanSoFar (tells_of g.D.Told.told g.D.Told.faults g.L.LogFile.told g.L.LogFile.faults g.Q.PostRoutine.posted) c.args.board.now c.args.lines.now c.args.caller [] xs c.new-seated.result c.args.caller.names) (sym c.requires.may.room.empty)
      (ran-none (tells_of g.D.Told.told g.D.Told.faults g.L.LogFile.told g.L.LogFile.faults g.Q.PostRoutine.posted) c.args.board.now c.args.lines.now c.args.caller c.requires.may c.new-seated.result c.args.caller.names
      c.new-seated.ensures.board c.new-seated.ensures.pass c.new-seated.ensures.free refl);
  me_is = c.me-me.ensures ∙ ap (λ p. p.knows.number) c.new-seated.ensures.pass;
  room = refl;
}

pub serve_at-answer-requires-clause-can : goal.serve_at-answer-requires-clause-can
serve_at-answer-requires-clause-can g c κs within =
    let i = c.loop-line.line-index in
    let lines = c.args.lines.now in
    let line = c.line-item.result in
    let servable : IsServable (length c.args.board.now.begun.disks) line.action =
    subst (λ (l : ActionLine). IsServable (length c.args.board.now.begun.disks) l.action) (sym c.line-item.is)
    (all-at (λ line. IsServable (length c.args.board.now.begun.disks) line.action) lines i line c.loop-line-test.true c.requires.may.servable) in
    can-serve (tells_of g.D.Told.told g.D.Told.faults g.L.LogFile.told g.L.LogFile.faults g.Q.PostRoutine.posted) c.args.board.now lines c.args.caller c.requires.may (take i lines) c.loop-line.answers.items c.loop-line.seated c.loop-line.names
    c.loop-line.invariant.ran line (drop (suc i) lines) (parts-at lines i line c.loop-line-test.true c.line-item.is) (c.if-line-me.true ∙ c.loop-line.invariant.me_is) servable

-- the places are at the queues still
pub serve_at-answer-requires-clause-own : goal.serve_at-answer-requires-clause-own
serve_at-answer-requires-clause-own g c κs within = own-went c.args.queues.now _ _ _ _ _ _ c.loop-line.invariant.ran.placed c.requires.own

pub loop-line-preserved : goal.loop-line-preserved
loop-line-preserved g c =
    let i = c.loop-line.line-index in
    let lines = c.args.lines.now in
    let before = c.loop-line.invariant in
    let tells = tells_of g.D.Told.told g.D.Told.faults g.L.LogFile.told g.L.LogFile.faults g.Q.PostRoutine.posted in
    let more : take (i + 1) lines ≡ take i lines ++ c.line-item.result ∷ [] =
    take_more lines i c.line-item.result c.loop-line-test.true ∙ ap (λ x. take i lines ++ x ∷ []) (sym c.line-item.is) in
    elim c.if-line-me.branch [
      | then-line-me w ↦ record {
        ran = rw (more, w.answers-is, w.seated-is, w.names-is, w.push_reserved.ensures.items)
            (ran-own tells c.args.board.now lines c.args.caller c.requires.may (take i lines) c.loop-line.answers.items c.loop-line.seated c.loop-line.names before.ran c.line-item.result (drop (suc i) lines)
            w.serve_at-answer.result w.serve_at-answer.new.turns w.serve_at-answer.new.names (parts-at lines i c.line-item.result c.loop-line-test.true c.line-item.is)
            (w.if-line-me.true ∙ before.me_is) w.serve_at-answer.ensures);
        me_is = before.me_is;
        room = ap vec_capacity w.answers-is ∙ (w.push_reserved.ensures.capacity ∙ before.room);
      }
      | else-line-me w ↦ record {
        ran = rw (more, w.answers-is, w.seated-is, w.names-is) (ran-other tells c.args.board.now lines c.args.caller c.requires.may (take i lines) c.loop-line.answers.items c.loop-line.seated c.loop-line.names before.ran c.line-item.result (λ e. w.if-line-me.false (e ∙ sym before.me_is)));
        me_is = before.me_is;
        room = ap vec_capacity w.answers-is ∙ before.room;
      }
    ]

pub returns : goal.returns
returns g c =
    let tells = tells_of g.D.Told.told g.D.Told.faults g.L.LogFile.told g.L.LogFile.faults g.Q.PostRoutine.posted in
    let lines = c.args.lines.now in
    record {
      ran = caller-ran tells c.args.board.now lines c.args.caller c.requires.may (take c.loop-line.line-index lines) c.loop-line.answers.items c.loop-line.seated c.loop-line.names c.loop-line.invariant.ran _
          (take_all c.loop-line.line-index lines c.loop-line-test.false) c.into_pass.ensures.pass refl refl;
    }
