-- One visit: the page lands on the journal that was taken, if the call waits for it still; the call stays under way.
use Rattle.std.specs.Prelude.{OnOk}
use Rattle.std.specs.Option.{option_copied}
use Rattle.std.proofs.Common.{sym, subst, arith}
use Rattle.cc_effects.specs.Calls.{IsUnderWay}
use Rattle.cc_step.proofs.Failing.{stepped-answered}
use Rattle.cc_turns.specs.Standing.{Standing}
use Rattle.cc_turns.specs.Takes.{without_journal}
use Rattle.cc_writes.specs.Hands.{HasBook, IsAtRest, SameDisk, WentWith}
use Rattle.cc_writes.specs.Visits.{VisitLandLeft}
use Rattle.cc_writes.proofs.Landing.{has-place, land-as, landed, visited-land, disk-land, left-land, became-land}
use Rattle.cc_writes.proofs.Resting.{filed-now, rest-went}
use Rattle.cc_writes.proofs.Visiting.{few-left, visiting}
use Rattle.cc_writes.proofs.visits.land_at.Goals as goal

pub land_page-landed-requires-clause-reserved : goal.land_page-landed-requires-clause-reserved
land_page-landed-requires-clause-reserved g c =
    let w = g.T.Turns.standing c.args.turns.now in
    let v = g.T.Turns.standing c.take_journal-journal.new.self in
    let posted = g.T.Post.PostRoutine.posted in
    let b = c.args.book.now in
    let j = c.take_journal-journal.result in
    let vis = visiting posted w v b.stream b j c.requires.book c.take_journal-journal.ensures.took c.take_journal-journal.ensures.stands in
    has-place posted w v b b j j c.requires.book vis c.requires.rest c.requires.reserved

pub land_page-landed-requires-clause-may : goal.land_page-landed-requires-clause-may
land_page-landed-requires-clause-may g c =
    let w = g.T.Turns.standing c.args.turns.now in
    let v = g.T.Turns.standing c.take_journal-journal.new.self in
    let posted = g.T.Post.PostRoutine.posted in
    let b = c.args.book.now in
    let j = c.take_journal-journal.result in
    let vis = visiting posted w v b.stream b j c.requires.book c.take_journal-journal.ensures.took c.take_journal-journal.ensures.stands in
    (w.setup, land-as posted w v c.args.call.now b b j j c.requires.book vis (stepped-answered c.args.call.now c.requires.stepped) (filed-now w b.stream c.args.call.now c.requires.filed) c.requires.rest c.requires.reserved c.args.page c.me-pass.result (option_copied c.args.raw) c.me-pass.ensures c.requires.read)

pub give_journal-requires-clause-adds : goal.give_journal-requires-clause-adds
give_journal-requires-clause-adds g c =
    let w = g.T.Turns.standing c.args.turns.now in
    let v = g.T.Turns.standing c.take_journal-journal.new.self in
    let posted = g.T.Post.PostRoutine.posted in
    let b = c.args.book.now in
    let j = c.take_journal-journal.result in
    let vis = visiting posted w v b.stream b j c.requires.book c.take_journal-journal.ensures.took c.take_journal-journal.ensures.stands in
    let n = c.land_page-landed.new.book in
    let k = c.land_page-landed.new.journal in
    let left = landed posted w v c.args.call.now b n j k c.requires.book vis (stepped-answered c.args.call.now c.requires.stepped) (filed-now w b.stream c.args.call.now c.requires.filed) c.requires.rest c.requires.reserved c.args.page c.me-pass.result (option_copied c.args.raw) c.land_page-landed.result c.me-pass.ensures c.requires.read c.land_page-landed.ensures in
    let given = visited-land posted w v c.args.call.now b n j k c.requires.book vis (stepped-answered c.args.call.now c.requires.stepped) (filed-now w b.stream c.args.call.now c.requires.filed) c.requires.rest c.requires.reserved c.args.page (option_copied c.args.raw) c.land_page-landed.result left in
    given.adds

pub give_journal-requires-clause-stands : goal.give_journal-requires-clause-stands
give_journal-requires-clause-stands g c =
    let w = g.T.Turns.standing c.args.turns.now in
    let v = g.T.Turns.standing c.take_journal-journal.new.self in
    let posted = g.T.Post.PostRoutine.posted in
    let b = c.args.book.now in
    let j = c.take_journal-journal.result in
    let vis = visiting posted w v b.stream b j c.requires.book c.take_journal-journal.ensures.took c.take_journal-journal.ensures.stands in
    let n = c.land_page-landed.new.book in
    let k = c.land_page-landed.new.journal in
    let left = landed posted w v c.args.call.now b n j k c.requires.book vis (stepped-answered c.args.call.now c.requires.stepped) (filed-now w b.stream c.args.call.now c.requires.filed) c.requires.rest c.requires.reserved c.args.page c.me-pass.result (option_copied c.args.raw) c.land_page-landed.result c.me-pass.ensures c.requires.read c.land_page-landed.ensures in
    let given = visited-land posted w v c.args.call.now b n j k c.requires.book vis (stepped-answered c.args.call.now c.requires.stepped) (filed-now w b.stream c.args.call.now c.requires.filed) c.requires.rest c.requires.reserved c.args.page (option_copied c.args.raw) c.land_page-landed.result left in
    given.journal

pub give_journal-requires-clause-few : goal.give_journal-requires-clause-few
give_journal-requires-clause-few g c =
    let w = g.T.Turns.standing c.args.turns.now in
    let v = g.T.Turns.standing c.take_journal-journal.new.self in
    let posted = g.T.Post.PostRoutine.posted in
    let b = c.args.book.now in
    let j = c.take_journal-journal.result in
    let vis = visiting posted w v b.stream b j c.requires.book c.take_journal-journal.ensures.took c.take_journal-journal.ensures.stands in
    let n = c.land_page-landed.new.book in
    let k = c.land_page-landed.new.journal in
    let left = landed posted w v c.args.call.now b n j k c.requires.book vis (stepped-answered c.args.call.now c.requires.stepped) (filed-now w b.stream c.args.call.now c.requires.filed) c.requires.rest c.requires.reserved c.args.page c.me-pass.result (option_copied c.args.raw) c.land_page-landed.result c.me-pass.ensures c.requires.read c.land_page-landed.ensures in
    let given = visited-land posted w v c.args.call.now b n j k c.requires.book vis (stepped-answered c.args.call.now c.requires.stepped) (filed-now w b.stream c.args.call.now c.requires.filed) c.requires.rest c.requires.reserved c.args.page (option_copied c.args.raw) c.land_page-landed.result left in
    few-left 0 given.went (omega arith)

pub returns-clause-book : goal.returns-clause-book
returns-clause-book g c =
    let w = g.T.Turns.standing c.args.turns.now in
    let v = g.T.Turns.standing c.take_journal-journal.new.self in
    let posted = g.T.Post.PostRoutine.posted in
    let b = c.args.book.now in
    let j = c.take_journal-journal.result in
    let vis = visiting posted w v b.stream b j c.requires.book c.take_journal-journal.ensures.took c.take_journal-journal.ensures.stands in
    let n = c.land_page-landed.new.book in
    let k = c.land_page-landed.new.journal in
    let left = landed posted w v c.args.call.now b n j k c.requires.book vis (stepped-answered c.args.call.now c.requires.stepped) (filed-now w b.stream c.args.call.now c.requires.filed) c.requires.rest c.requires.reserved c.args.page c.me-pass.result (option_copied c.args.raw) c.land_page-landed.result c.me-pass.ensures c.requires.read c.land_page-landed.ensures in
    let given = visited-land posted w v c.args.call.now b n j k c.requires.book vis (stepped-answered c.args.call.now c.requires.stepped) (filed-now w b.stream c.args.call.now c.requires.filed) c.requires.rest c.requires.reserved c.args.page (option_copied c.args.raw) c.land_page-landed.result left in
    subst (λ (x : Standing). HasBook x b.stream n) (sym c.give_journal.ensures) given.book

pub returns-clause-rest : goal.returns-clause-rest
returns-clause-rest g c =
    let w = g.T.Turns.standing c.args.turns.now in
    let v = g.T.Turns.standing c.take_journal-journal.new.self in
    let posted = g.T.Post.PostRoutine.posted in
    let b = c.args.book.now in
    let j = c.take_journal-journal.result in
    let vis = visiting posted w v b.stream b j c.requires.book c.take_journal-journal.ensures.took c.take_journal-journal.ensures.stands in
    let n = c.land_page-landed.new.book in
    let k = c.land_page-landed.new.journal in
    let left = landed posted w v c.args.call.now b n j k c.requires.book vis (stepped-answered c.args.call.now c.requires.stepped) (filed-now w b.stream c.args.call.now c.requires.filed) c.requires.rest c.requires.reserved c.args.page c.me-pass.result (option_copied c.args.raw) c.land_page-landed.result c.me-pass.ensures c.requires.read c.land_page-landed.ensures in
    let given = visited-land posted w v c.args.call.now b n j k c.requires.book vis (stepped-answered c.args.call.now c.requires.stepped) (filed-now w b.stream c.args.call.now c.requires.filed) c.requires.rest c.requires.reserved c.args.page (option_copied c.args.raw) c.land_page-landed.result left in
    let disk = disk-land posted w v c.args.call.now b n j k c.requires.book vis (stepped-answered c.args.call.now c.requires.stepped) (filed-now w b.stream c.args.call.now c.requires.filed) c.requires.rest c.requires.reserved c.args.page (option_copied c.args.raw) c.land_page-landed.result left in
    subst (λ (x : Standing). IsAtRest x b.stream) (sym c.give_journal.ensures) (rest-went 0 b.stream w (without_journal k v) c.requires.rest given.went disk)

pub returns-clause-went : goal.returns-clause-went
returns-clause-went g c =
    let w = g.T.Turns.standing c.args.turns.now in
    let v = g.T.Turns.standing c.take_journal-journal.new.self in
    let posted = g.T.Post.PostRoutine.posted in
    let b = c.args.book.now in
    let j = c.take_journal-journal.result in
    let vis = visiting posted w v b.stream b j c.requires.book c.take_journal-journal.ensures.took c.take_journal-journal.ensures.stands in
    let n = c.land_page-landed.new.book in
    let k = c.land_page-landed.new.journal in
    let left = landed posted w v c.args.call.now b n j k c.requires.book vis (stepped-answered c.args.call.now c.requires.stepped) (filed-now w b.stream c.args.call.now c.requires.filed) c.requires.rest c.requires.reserved c.args.page c.me-pass.result (option_copied c.args.raw) c.land_page-landed.result c.me-pass.ensures c.requires.read c.land_page-landed.ensures in
    let given = visited-land posted w v c.args.call.now b n j k c.requires.book vis (stepped-answered c.args.call.now c.requires.stepped) (filed-now w b.stream c.args.call.now c.requires.filed) c.requires.rest c.requires.reserved c.args.page (option_copied c.args.raw) c.land_page-landed.result left in
    subst (λ (x : Standing). WentWith 0 w x) (sym c.give_journal.ensures) given.went

pub returns-clause-disk : goal.returns-clause-disk
returns-clause-disk g c =
    let w = g.T.Turns.standing c.args.turns.now in
    let v = g.T.Turns.standing c.take_journal-journal.new.self in
    let posted = g.T.Post.PostRoutine.posted in
    let b = c.args.book.now in
    let j = c.take_journal-journal.result in
    let vis = visiting posted w v b.stream b j c.requires.book c.take_journal-journal.ensures.took c.take_journal-journal.ensures.stands in
    let n = c.land_page-landed.new.book in
    let k = c.land_page-landed.new.journal in
    let left = landed posted w v c.args.call.now b n j k c.requires.book vis (stepped-answered c.args.call.now c.requires.stepped) (filed-now w b.stream c.args.call.now c.requires.filed) c.requires.rest c.requires.reserved c.args.page c.me-pass.result (option_copied c.args.raw) c.land_page-landed.result c.me-pass.ensures c.requires.read c.land_page-landed.ensures in
    subst (λ (x : Standing). SameDisk w.seen x.seen b.stream) (sym c.give_journal.ensures) (disk-land posted w v c.args.call.now b n j k c.requires.book vis (stepped-answered c.args.call.now c.requires.stepped) (filed-now w b.stream c.args.call.now c.requires.filed) c.requires.rest c.requires.reserved c.args.page (option_copied c.args.raw) c.land_page-landed.result left)

pub returns-clause-left : goal.returns-clause-left
returns-clause-left g c begun way =
    let w = g.T.Turns.standing c.args.turns.now in
    let v = g.T.Turns.standing c.take_journal-journal.new.self in
    let posted = g.T.Post.PostRoutine.posted in
    let b = c.args.book.now in
    let j = c.take_journal-journal.result in
    let vis = visiting posted w v b.stream b j c.requires.book c.take_journal-journal.ensures.took c.take_journal-journal.ensures.stands in
    let n = c.land_page-landed.new.book in
    let k = c.land_page-landed.new.journal in
    let left = landed posted w v c.args.call.now b n j k c.requires.book vis (stepped-answered c.args.call.now c.requires.stepped) (filed-now w b.stream c.args.call.now c.requires.filed) c.requires.rest c.requires.reserved c.args.page c.me-pass.result (option_copied c.args.raw) c.land_page-landed.result c.me-pass.ensures c.requires.read c.land_page-landed.ensures in
    subst (λ (x : Standing). IsUnderWay w.number c.args.call.now begun x.seen) (sym c.give_journal.ensures)
    (left-land posted w v c.args.call.now b n j k c.requires.book vis (stepped-answered c.args.call.now c.requires.stepped) (filed-now w b.stream c.args.call.now c.requires.filed) c.requires.rest c.requires.reserved c.args.page c.requires.brings (option_copied c.args.raw) c.land_page-landed.result left begun way)

pub returns-clause-landed : goal.returns-clause-landed
returns-clause-landed g c =
    let w = g.T.Turns.standing c.args.turns.now in
    let v = g.T.Turns.standing c.take_journal-journal.new.self in
    let posted = g.T.Post.PostRoutine.posted in
    let b = c.args.book.now in
    let j = c.take_journal-journal.result in
    let vis = visiting posted w v b.stream b j c.requires.book c.take_journal-journal.ensures.took c.take_journal-journal.ensures.stands in
    let n = c.land_page-landed.new.book in
    let k = c.land_page-landed.new.journal in
    let left = landed posted w v c.args.call.now b n j k c.requires.book vis (stepped-answered c.args.call.now c.requires.stepped) (filed-now w b.stream c.args.call.now c.requires.filed) c.requires.rest c.requires.reserved c.args.page c.me-pass.result (option_copied c.args.raw) c.land_page-landed.result c.me-pass.ensures c.requires.read c.land_page-landed.ensures in
    subst (λ (x : Standing). OnOk c.land_page-landed.result (VisitLandLeft w b.stream c.args.call.now c.args.page (option_copied c.args.raw) x.seen)) (sym c.give_journal.ensures)
    (became-land posted w v c.args.call.now b n j k c.requires.book vis (stepped-answered c.args.call.now c.requires.stepped) (filed-now w b.stream c.args.call.now c.requires.filed) c.requires.rest c.requires.reserved c.args.page (option_copied c.args.raw) c.land_page-landed.result left)
