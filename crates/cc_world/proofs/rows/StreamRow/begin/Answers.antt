-- By what is kept and the test: with a transfer open, or the test failed, the begin may not happen; else it may, and
-- needs two places.
use Rattle.std.specs.Prelude.{ℕ, List, refl}
use Rattle.std.proofs.Common.{ap, sym, ◌∙◌, subst}
use Rattle.cc_entry.specs.declared.entry.Entry.{Entry}
use Rattle.cc_journal.specs.Journal.{room_of}
use Rattle.cc_model.specs.History.{history}
use Rattle.cc_model.specs.Images.{open_of}
use Rattle.cc_turns.specs.Disk.{opening_of}
use Rattle.cc_effects.specs.Events.{MayHappen}
use Rattle.cc_effects.specs.declared.events.Event.TheVariants as event
use Rattle.cc_world.proofs.Standing.{is-busy, is-resting, reserved-under, left-from, roomy, unreserved}
use Rattle.cc_world.proofs.Tests.{begin-there, says-no, says-yes}
use Rattle.cc_world.proofs.rows.StreamRow.begin.Goals as goal

pub returns-then-is_some : goal.returns-then-is_some
returns-then-is_some g c u first stand = (
  λ may. is-busy g.D.Told.told g.D.Told.faults u first 0 c.args.self.now c.args.journal.now stand (sym c.is_some.ensures ∙ c.if-is_some.true)
      (ap (λ (s : ℕ). open_of (history c.args.journal.now.entries s)) (sym c.requires.stream) ∙ may.no_transfer),
  refl,
  refl,
)

pub returns-then-not-may_begin : goal.returns-then-not-may_begin
returns-then-not-may_begin g c u first stand =
    let rest = is-resting g.D.Told.told g.D.Told.faults u first 0 c.args.self.now c.args.journal.now stand (sym c.is_some.ensures ∙ c.if-is_some.false) in (
      says-no c.may_begin.result _ c.if-not-may_begin.true
          (begin-there c.args.self.now.book c.args.page c.may_begin.result u (opening_of first.told) c.args.journal.now.entries c.requires.stream c.may_begin.ensures stand.good stand.row_is.book rest.no_transfer),
      refl,
      refl,
    )

pub keep-requires-clause-standing : goal.keep-requires-clause-standing
keep-requires-clause-standing g c =
    let u = c.requires.standing.0 in
    let first = c.requires.standing.1 in
    let stand = c.requires.standing.2 in
    let j = c.args.journal.now in
    let rest = is-resting g.D.Told.told g.D.Told.faults u first 0 c.args.self.now j stand (sym c.is_some.ensures ∙ c.if-is_some.false) in
    let may : MayHappen {Q = g.row.Q.Denot} u j.entries (event.WriteBegin c.args.pass c.args.page) = says-yes c.may_begin.result _ c.if-not-may_begin.false
    (begin-there c.args.self.now.book c.args.page c.may_begin.result u (opening_of first.told) j.entries c.requires.stream c.may_begin.ensures stand.good stand.row_is.book rest.no_transfer) in (
      u,
      first,
      reserved-under 2 g.D.Told.told g.D.Told.faults u first c.args.self.now j c.reserve.new.self c.in-Ok.ensures.reserved stand,
      subst (λ (past : List Entry). MayHappen {Q = g.row.Q.Denot} u past (event.WriteBegin c.args.pass c.args.page)) (sym (ap (λ x. x.entries) c.in-Ok.ensures.reserved)) may,
    )

pub returns-in-Ok : goal.returns-in-Ok
returns-in-Ok g c u first stand =
    let j = c.args.journal.now in
    let rest = is-resting g.D.Told.told g.D.Told.faults u first 0 c.args.self.now j stand (sym c.is_some.ensures ∙ c.if-is_some.false) in
    left-from 2 g.D.Told.told g.D.Told.faults u first (event.WriteBegin c.args.pass c.args.page) c.keep.result c.args.self.now c.keep.new.self j c.reserve.new.self c.keep.new.journal
    (says-yes c.may_begin.result _ c.if-not-may_begin.false
    (begin-there c.args.self.now.book c.args.page c.may_begin.result u (opening_of first.told) j.entries c.requires.stream c.may_begin.ensures stand.good stand.row_is.book rest.no_transfer))
    (roomy (room_of j) 2 _ _ c.in-Ok.ensures.full.1) c.in-Ok.ensures.reserved
    (c.keep.ensures u first (reserved-under 2 g.D.Told.told g.D.Told.faults u first c.args.self.now j c.reserve.new.self c.in-Ok.ensures.reserved stand))

pub returns-in-Err : goal.returns-in-Err
returns-in-Err g c u first stand =
    let j = c.args.journal.now in
    let rest = is-resting g.D.Told.told g.D.Told.faults u first 0 c.args.self.now j stand (sym c.is_some.ensures ∙ c.if-is_some.false) in
    unreserved g.D.Told.told g.D.Told.faults u first (event.WriteBegin c.args.pass c.args.page) c.args.self.now j stand 2 c.in-Err.error c.reserve.new.self
    (says-yes c.may_begin.result _ c.if-not-may_begin.false
    (begin-there c.args.self.now.book c.args.page c.may_begin.result u (opening_of first.told) j.entries c.requires.stream c.may_begin.ensures stand.good stand.row_is.book rest.no_transfer))
    refl refl c.in-Err.ensures.full c.in-Err.ensures.causes c.in-Err.ensures.err

pub may_begin-requires-clause-logs : goal.may_begin-requires-clause-logs
may_begin-requires-clause-logs g c =
    let first = c.requires.standing.1 in
    let stand = c.requires.standing.2 in
    ((opening_of first.told, stand.row_is.book), c.requires.logs)
