-- A page that was read lands; after a failed read the call is still the one that waited; want of memory ends it.
use Rattle.std.specs.Prelude.{ℕ, List, OnOk, Some}
use Rattle.std.proofs.Common.{ap, subst, sym}
use Rattle.cc_entry.specs.declared.entry.Entry.{Entry}
use Rattle.cc_effects.specs.Calls.{IsUnderWay}
use Rattle.cc_writes.specs.Ways.{WasWanted}
use Rattle.cc_writes.specs.Calls.{PageStepLeft}
use Rattle.cc_writes.proofs.Disks.{still_of}
use Rattle.cc_writes.specs.Rounds.{CallWantedPage}
use Rattle.cc_writes.proofs.ReadFailures.{told_of}
use Rattle.cc_writes.proofs.Reading.{where_failed}
use Rattle.cc_writes.specs.Visits.{IsElsewhere, VisitLandLeft}
use Rattle.cc_turns.specs.Standing.{Standing}
use Rattle.cc_writes.proofs.Kept.{is-alone, lands, some-none}
use Rattle.cc_writes.proofs.Bringing.{is_wanted, left_since, left_wanted}
use Rattle.cc_writes.proofs.Brought.{brought, brought-not, on-err, on-ok-weaker}
use Rattle.cc_writes.proofs.pages.bring_read.Goals as goal

pub unread-requires-clause-wanted : goal.unread-requires-clause-wanted
unread-requires-clause-wanted g c =
    let w = g.T.Turns.standing c.args.turns.now in
    let v = g.T.Turns.standing c.read_page-book.new.turns in
    subst (λ (n : ℕ). CallWantedPage v n c.args.call c.args.page) (sym c.read_page-book.ensures.both.book.stream)
    (is_wanted w.in_flight w v c.args.book.stream c.args.page c.args.call c.read_page-book.ensures.went c.read_page-book.ensures.idle
    c.requires.stepped c.requires.brings c.requires.filed c.requires.waited)

pub returns-in-Ok-clause-both : goal.returns-in-Ok-clause-both
returns-in-Ok-clause-both g c =
    let v = g.T.Turns.standing c.read_page-book.new.turns in
    let both = c.read_page-book.ensures.both in
    still_of g.T.Disk.Told.told g.T.Disk.Told.faults 0 v (g.T.Turns.standing c.land_for_call.new.turns) c.args.book.stream c.read_page-book.result.0.stream
    c.read_page-book.result.0 c.land_for_call.result.0 c.read_page-book.new.disk both.book.stream both c.land_for_call.ensures.book c.land_for_call.ensures.rest c.land_for_call.ensures.went c.land_for_call.ensures.disk

pub returns-in-Ok-clause-left : goal.returns-in-Ok-clause-left
returns-in-Ok-clause-left g c =
    let w = g.T.Turns.standing c.args.turns.now in
    let v = g.T.Turns.standing c.read_page-book.new.turns in
    left_since w.in_flight w v c.args.book.stream c.args.page c.args.call c.read_page-book.ensures.went c.read_page-book.ensures.idle
    c.land_for_call.result.1 (g.T.Turns.standing c.land_for_call.new.turns).seen c.land_for_call.ensures.left

pub returns-in-Err-Failed-clause-both : goal.returns-in-Err-Failed-clause-both
returns-in-Err-Failed-clause-both g c =
    let v = g.T.Turns.standing c.read_page-book.new.turns in
    let both = c.read_page-book.ensures.both in
    told_of g.T.Disk.Told.told g.T.Disk.Told.faults 0 v (g.T.Turns.standing c.unread.new.turns) c.args.book.stream c.read_page-book.result.0.stream
    c.read_page-book.result.0 c.unread.result.0 c.read_page-book.new.disk both.book.stream both c.unread.ensures.book c.unread.ensures.rest c.unread.ensures.went
    c.args.page (where_failed c.read_page-book.result.1 c.in-Err-Failed.field-0 c.in-Err-Failed.is (rw c.in-Err-Failed.is at c.in-Err-Failed.field-0-is) c.read_page-book.ensures.failed) c.unread.ensures.told

pub returns-in-Err-Failed-clause-left : goal.returns-in-Err-Failed-clause-left
returns-in-Err-Failed-clause-left g c =
    let w = g.T.Turns.standing c.args.turns.now in
    let v = g.T.Turns.standing c.read_page-book.new.turns in
    let new = (g.T.Turns.standing c.unread.new.turns).seen in
    left_wanted w.in_flight w v c.args.book.stream c.args.page c.args.call c.read_page-book.ensures.went c.read_page-book.ensures.idle
    c.requires.stepped c.requires.brings c.requires.filed c.requires.waited c.unread.result.1 new
    (subst (λ (n : ℕ). (begun : List Entry) → IsUnderWay v.number c.args.call begun v.seen → WasWanted v.setup c.args.call (record { stream = n; page = c.args.page }) begun v.seen → PageStepLeft v.setup v.number c.args.call c.unread.result.1 begun new)
    c.read_page-book.ensures.both.book.stream c.unread.ensures.left)

pub returns-in-Err-NoMemory-clause-both : goal.returns-in-Err-NoMemory-clause-both
returns-in-Err-NoMemory-clause-both g c =
    let v = g.T.Turns.standing c.read_page-book.new.turns in
    let both = c.read_page-book.ensures.both in
    still_of g.T.Disk.Told.told g.T.Disk.Told.faults 0 v (g.T.Turns.standing c.release.new.turns) c.args.book.stream c.read_page-book.result.0.stream
    c.read_page-book.result.0 c.release.result.0 c.read_page-book.new.disk both.book.stream both c.release.ensures.book c.release.ensures.rest c.release.ensures.went c.release.ensures.disk

pub returns-in-Err-NoMemory-clause-left : goal.returns-in-Err-NoMemory-clause-left
returns-in-Err-NoMemory-clause-left g c =
    let w = g.T.Turns.standing c.args.turns.now in
    let v = g.T.Turns.standing c.read_page-book.new.turns in
    left_since w.in_flight w v c.args.book.stream c.args.page c.args.call c.read_page-book.ensures.went c.read_page-book.ensures.idle
    c.release.result.1 (g.T.Turns.standing c.release.new.turns).seen c.release.ensures.left

pub returns-in-Ok-clause-brought : goal.returns-in-Ok-clause-brought
returns-in-Ok-clause-brought g c =
    let w = g.T.Turns.standing c.args.turns.now in
    let v = g.T.Turns.standing c.read_page-book.new.turns in
    let seen = (g.T.Turns.standing c.land_for_call.new.turns).seen in
    on-ok-weaker c.land_for_call.result.1 (brought w.in_flight w v c.args.book.stream c.args.page c.args.call c.read_page-book.ensures.went c.read_page-book.new.raw seen)
    (subst (λ (n : ℕ). OnOk c.land_for_call.result.1 (VisitLandLeft v n c.args.call c.args.page (Some c.read_page-book.new.raw) seen)) c.read_page-book.ensures.both.book.stream c.land_for_call.ensures.landed)

pub returns-in-Err-Failed-clause-brought : goal.returns-in-Err-Failed-clause-brought
returns-in-Err-Failed-clause-brought g c =
    let w = g.T.Turns.standing c.args.turns.now in
    let v = g.T.Turns.standing c.read_page-book.new.turns in
    let seen = (g.T.Turns.standing c.unread.new.turns).seen in
    brought-not w.in_flight w v c.args.book.stream c.args.page c.args.call c.read_page-book.ensures.went
    c.unread.result.1 c.read_page-book.result.0.stream seen c.read_page-book.ensures.both.book.stream c.unread.ensures.passed_over

pub returns-in-Err-NoMemory-clause-brought : goal.returns-in-Err-NoMemory-clause-brought
returns-in-Err-NoMemory-clause-brought g c = on-err _ c.release.result.1 c.release.ensures.failed

pub returns-in-Ok-clause-kept : goal.returns-in-Ok-clause-kept
returns-in-Ok-clause-kept g c keeps room =
    let w = g.T.Turns.standing c.args.turns.now in
    let s = c.args.book.stream in
    let seen = (g.T.Turns.standing c.land_for_call.new.turns).seen in
    let raw = c.read_page-book.new.raw in
    on-ok-weaker c.land_for_call.result.1
    (lands w s c.args.page c.args.call seen (ap (λ h. h.book) c.requires.both.book.held) c.requires.both.rest.device c.requires.brings c.requires.waited (Some raw) room (some-none raw))
    (subst (λ (n : ℕ). OnOk c.land_for_call.result.1 (VisitLandLeft w n c.args.call c.args.page (Some raw) seen)) c.read_page-book.ensures.both.book.stream
    (subst (λ (x : Standing). OnOk c.land_for_call.result.1 (VisitLandLeft x c.read_page-book.result.0.stream c.args.call c.args.page (Some raw) seen)) (c.read_page-book.ensures.kept keeps) c.land_for_call.ensures.landed))

pub returns-in-Err-Failed-clause-kept : goal.returns-in-Err-Failed-clause-kept
returns-in-Err-Failed-clause-kept g c keeps room =
    let w = g.T.Turns.standing c.args.turns.now in
    let s = c.args.book.stream in
    let seen = (g.T.Turns.standing c.unread.new.turns).seen in
    on-ok-weaker c.unread.result.1
    (is-alone w s c.args.page c.args.call seen (ap (λ h. h.book) c.requires.both.book.held) c.requires.both.rest.device c.requires.brings c.requires.waited c.requires.alone)
    (subst (λ (n : ℕ). OnOk c.unread.result.1 (IsElsewhere w n c.args.page seen)) c.read_page-book.ensures.both.book.stream
    (subst (λ (x : Standing). OnOk c.unread.result.1 (IsElsewhere x c.read_page-book.result.0.stream c.args.page seen)) (c.read_page-book.ensures.kept keeps) c.unread.ensures.passed_over))

pub returns-in-Err-NoMemory-clause-kept : goal.returns-in-Err-NoMemory-clause-kept
returns-in-Err-NoMemory-clause-kept g c keeps room = on-err _ c.release.result.1 c.release.ensures.failed
