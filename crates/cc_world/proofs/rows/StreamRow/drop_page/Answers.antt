-- By what is kept and the test: with a transfer open, or the test failed, the page may not go out; else it may, and its
-- entry has the reserved place.
use Rattle.std.specs.Prelude.{◌≡◌, ℕ, ◌+◌, ◌-◌, List, [], ◌∷◌, refl}
use Rattle.std.proofs.Common.{ap, sym, ◌∙◌, subst, arith}
use Rattle.cc_entry.specs.declared.entry.Entry.{Entry}
use Rattle.cc_entry.specs.declared.entry.Entry.TheVariants as entry
use Rattle.cc_book.specs.Book.{BookStands}
use Rattle.cc_journal.specs.Journal.{room_of}
use Rattle.cc_model.specs.Conditions.{MayGoOut}
use Rattle.cc_model.specs.History.{history}
use Rattle.cc_model.specs.Images.{open_of}
use Rattle.cc_turns.specs.Disk.{opening_of}
use Rattle.cc_world.proofs.Standing.{is-busy, is-resting, may-place, went-one, rests-on, gained, gained-so, roomy, unreserved}
use Rattle.cc_effects.specs.declared.events.Event.TheVariants as event
use Rattle.cc_world.proofs.Tests.{go-out-there, says-no, says-yes}
use Rattle.cc_world.proofs.rows.StreamRow.drop_page.Goals as goal

pub returns-then-is_some : goal.returns-then-is_some
returns-then-is_some g c u first stand = (
  λ may. is-busy g.D.Told.told g.D.Told.faults u first 0 c.args.self.now c.args.journal.now stand (sym c.is_some.ensures ∙ c.if-is_some.true)
      (ap (λ (s : ℕ). open_of (history c.args.journal.now.entries s)) (sym c.requires.stream) ∙ may.no_transfer),
  refl,
  refl,
)

pub returns-then-not-may_go_out : goal.returns-then-not-may_go_out
returns-then-not-may_go_out g c u first stand =
    let rest = is-resting g.D.Told.told g.D.Told.faults u first 0 c.args.self.now c.args.journal.now stand (sym c.is_some.ensures ∙ c.if-is_some.false) in (
      says-no c.may_go_out.result _ c.if-not-may_go_out.true
          (go-out-there c.args.self.now.book c.args.page c.may_go_out.result (opening_of first.told) c.args.journal.now.entries c.requires.stream c.may_go_out.ensures stand.row_is.book rest.no_transfer),
      refl,
      refl,
    )

pub take_out-requires-clause-reserved : goal.take_out-requires-clause-reserved
take_out-requires-clause-reserved g c = rw (ap (λ j. j.reserved) c.in-Ok.ensures.reserved) (omega arith)

pub take_out-requires-clause-may : goal.take_out-requires-clause-may
take_out-requires-clause-may g c =
    let u = c.requires.standing.0 in
    let first = c.requires.standing.1 in
    let stand = c.requires.standing.2 in
    let rest = is-resting g.D.Told.told g.D.Told.faults u first 0 c.args.self.now c.args.journal.now stand (sym c.is_some.ensures ∙ c.if-is_some.false) in
    may-place g.D.Told.told g.D.Told.faults u first 0 c.args.self.now c.args.journal.now stand c.reserve.new.self.entries (entry.PageOut 1 c.args.page) (ap (λ j. j.entries) c.in-Ok.ensures.reserved) refl
    (says-yes c.may_go_out.result _ c.if-not-may_go_out.false
    (go-out-there c.args.self.now.book c.args.page c.may_go_out.result (opening_of first.told) c.args.journal.now.entries c.requires.stream c.may_go_out.ensures stand.row_is.book rest.no_transfer))

pub returns-in-Ok : goal.returns-in-Ok
returns-in-Ok g c u first stand =
    let j = c.args.journal.now in
    let rest = is-resting g.D.Told.told g.D.Told.faults u first 0 c.args.self.now j stand (sym c.is_some.ensures ∙ c.if-is_some.false) in
    let may : MayGoOut (history j.entries c.args.page.stream) c.args.page.page = says-yes c.may_go_out.result _ c.if-not-may_go_out.false
    (go-out-there c.args.self.now.book c.args.page c.may_go_out.result (opening_of first.told) j.entries c.requires.stream c.may_go_out.ensures stand.row_is.book rest.no_transfer) in
    let e : Entry = entry.PageOut 1 c.args.page in
    let placed = gained-so (j.reserved + 1) e j c.reserve.new.self c.take_out.new.journal c.in-Ok.ensures.reserved c.take_out.ensures.placed in
    let same : c.reserve.new.self.entries ≡ j.entries = ap (λ x. x.entries) c.in-Ok.ensures.reserved in
    let grown : c.take_out.new.journal.entries ≡ e ∷ j.entries = ap (λ x. x.entries) placed in (
      may,
      roomy (room_of j) 1 _ _ c.in-Ok.ensures.full.1,
      (
        e ∷ [],
        refl,
        went-one g.D.Told.told g.D.Told.faults u first 0 c.args.self.now j stand 0 e (record c.args.self.now { book = c.take_out.new.self }) c.take_out.new.journal refl refl may placed
            (back _ _ _ (ap (λ x. x.reserved) (gained (j.reserved + 1) e j c.reserve.new.self c.take_out.new.journal c.in-Ok.ensures.reserved c.take_out.ensures.placed)) stand.reserved)
            c.take_out.ensures.stream
            (subst (λ (past : List Entry). BookStands (opening_of first.told) past c.take_out.new.self) grown
            (c.take_out.ensures.stands (opening_of first.told) (subst (λ (past : List Entry). BookStands (opening_of first.told) past c.args.self.now.book) (sym same) stand.row_is.book)))
            (rests-on g.D.Told.told g.D.Told.faults first e j.entries c.args.self.now.book.stream c.args.self.now.disk c.args.self.now.kept (sym c.is_some.ensures ∙ c.if-is_some.false) refl rest)
            (omega arith),
      ),
    )
  where
    back : (k n owed : ℕ) → k ≡ (n + 1) - 1 → n ≡ owed + 0 → k ≡ owed
    back k n owed is was = omega arith

pub returns-in-Err : goal.returns-in-Err
returns-in-Err g c u first stand =
    let j = c.args.journal.now in
    let rest = is-resting g.D.Told.told g.D.Told.faults u first 0 c.args.self.now j stand (sym c.is_some.ensures ∙ c.if-is_some.false) in
    unreserved g.D.Told.told g.D.Told.faults u first (event.Drop c.args.page) c.args.self.now j stand 1 c.in-Err.error c.reserve.new.self
    (says-yes c.may_go_out.result _ c.if-not-may_go_out.false
    (go-out-there c.args.self.now.book c.args.page c.may_go_out.result (opening_of first.told) j.entries c.requires.stream c.may_go_out.ensures stand.row_is.book rest.no_transfer))
    refl refl c.in-Err.ensures.full c.in-Err.ensures.causes c.in-Err.ensures.err
