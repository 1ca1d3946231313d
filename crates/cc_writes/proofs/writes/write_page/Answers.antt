-- A log that was flushed leaves the page dirty and logged, so it may be put; a log that failed stops it.
use Rattle.std.proofs.Common.{◌≡◌, ap, sym, ◌∙◌, subst, Ok, Err, true}
use Rattle.cc_entry.specs.Place.{Page}
use Rattle.cc_effects.specs.Asked.{may_write}
use Rattle.cc_writes.specs.Writes.{HasBoth, IsToWrite, WorkWriteLeft, WriteShown}
use Rattle.cc_writes.specs.declared.log.LogFlush.{LogFlush}
use Rattle.cc_writes.specs.declared.writes.PageTransfer.TheVariants as write
use Rattle.cc_writes.proofs.Numbered.{numbered, same-place}
use Rattle.cc_writes.proofs.Explained.{both-flushed, dirty-flushed, written-left, unlogged-left, unflushed-left}
use Rattle.cc_writes.proofs.Shown.{written-shown, unlogged-shown, unflushed-shown}
use Rattle.cc_writes.proofs.writes.write_page.Goals as goal

pub unwrap-page-requires : goal.unwrap-page-requires
unwrap-page-requires g c =
    c.new.ensures.in_range.1 (numbered (g.T.Turns.standing c.args.turns.now).setup (g.T.Turns.standing c.args.turns.now).seen c.args.book.stream c.args.page c.requires.both.book.good c.requires.to_write.dirty)

pub put-requires-clause-both : goal.put-requires-clause-both
put-requires-clause-both g c =
    let w = g.T.Turns.standing c.args.turns.now in
    let x = g.T.Turns.standing c.flush_log.new.turns in
    let page = c.unwrap-page.result in
    let same : page ≡ record { stream = c.args.book.stream; page = c.args.page } = same-place c.new.result page c.stream.result c.args.book.stream c.args.page c.unwrap-page.ensures c.new.ensures.stream c.new.ensures.page c.stream.ensures in
    let both : HasBoth g.T.Disk.Told.told g.T.Disk.Told.faults w page.stream c.args.book c.args.disk.now =
    subst (λ (q : Page). HasBoth g.T.Disk.Told.told g.T.Disk.Told.faults w q.stream c.args.book c.args.disk.now) (sym same) c.requires.both in
    let write_it : IsToWrite page w.seen = subst (λ (q : Page). IsToWrite q w.seen) (sym same) c.requires.to_write in
    both-flushed g.T.Disk.Told.told g.T.Disk.Told.faults w.in_flight w x page c.args.book c.args.disk.now both c.flush_log.ensures.went c.flush_log.ensures.book c.flush_log.result c.flush_log.ensures.left

pub put-requires-clause-dirty : goal.put-requires-clause-dirty
put-requires-clause-dirty g c =
    let w = g.T.Turns.standing c.args.turns.now in
    let x = g.T.Turns.standing c.flush_log.new.turns in
    let page = c.unwrap-page.result in
    let same : page ≡ record { stream = c.args.book.stream; page = c.args.page } = same-place c.new.result page c.stream.result c.args.book.stream c.args.page c.unwrap-page.ensures c.new.ensures.stream c.new.ensures.page c.stream.ensures in
    let both : HasBoth g.T.Disk.Told.told g.T.Disk.Told.faults w page.stream c.args.book c.args.disk.now =
    subst (λ (q : Page). HasBoth g.T.Disk.Told.told g.T.Disk.Told.faults w q.stream c.args.book c.args.disk.now) (sym same) c.requires.both in
    let write_it : IsToWrite page w.seen = subst (λ (q : Page). IsToWrite q w.seen) (sym same) c.requires.to_write in
    dirty-flushed g.T.Disk.Told.told g.T.Disk.Told.faults w.in_flight w x page c.args.book c.args.disk.now both c.flush_log.ensures.went c.flush_log.ensures.book c.flush_log.result c.flush_log.ensures.left write_it

pub returns-in-Ok-Reached-clause-left : goal.returns-in-Ok-Reached-clause-left
returns-in-Ok-Reached-clause-left g c work begun may is =
    let w = g.T.Turns.standing c.args.turns.now in
    let x = g.T.Turns.standing c.flush_log.new.turns in
    let page = c.unwrap-page.result in
    let same : page ≡ record { stream = c.args.book.stream; page = c.args.page } = same-place c.new.result page c.stream.result c.args.book.stream c.args.page c.unwrap-page.ensures c.new.ensures.stream c.new.ensures.page c.stream.ensures in
    let both : HasBoth g.T.Disk.Told.told g.T.Disk.Told.faults w page.stream c.args.book c.args.disk.now =
    subst (λ (q : Page). HasBoth g.T.Disk.Told.told g.T.Disk.Told.faults w q.stream c.args.book c.args.disk.now) (sym same) c.requires.both in
    let write_it : IsToWrite page w.seen = subst (λ (q : Page). IsToWrite q w.seen) (sym same) c.requires.to_write in
    subst (λ (q : Page). WorkWriteLeft w.number work q c.put.result.1 begun (g.T.Turns.standing c.put.new.turns).seen) same
    (written-left g.T.Disk.Told.told g.T.Disk.Told.faults w.in_flight w x page c.args.book c.args.disk.now both c.flush_log.ensures.went c.flush_log.ensures.book c.flush_log.result c.flush_log.ensures.left write_it
    work begun (subst (λ (q : Page). may_write work q w.seen ≡ true) (sym same) may) is c.args.keeps c.put.result.1 (g.T.Turns.standing c.put.new.turns).seen
    (c.in-Ok-Reached.is ∙ ap (λ (f : LogFlush). Ok f) c.in-Ok-Reached.field-0-is) c.put.ensures.left)

pub returns-in-Ok-Failed-clause-both : goal.returns-in-Ok-Failed-clause-both
returns-in-Ok-Failed-clause-both g c =
    let w = g.T.Turns.standing c.args.turns.now in
    let x = g.T.Turns.standing c.flush_log.new.turns in
    let page = c.unwrap-page.result in
    let same : page ≡ record { stream = c.args.book.stream; page = c.args.page } = same-place c.new.result page c.stream.result c.args.book.stream c.args.page c.unwrap-page.ensures c.new.ensures.stream c.new.ensures.page c.stream.ensures in
    let both : HasBoth g.T.Disk.Told.told g.T.Disk.Told.faults w page.stream c.args.book c.args.disk.now =
    subst (λ (q : Page). HasBoth g.T.Disk.Told.told g.T.Disk.Told.faults w q.stream c.args.book c.args.disk.now) (sym same) c.requires.both in
    let write_it : IsToWrite page w.seen = subst (λ (q : Page). IsToWrite q w.seen) (sym same) c.requires.to_write in
    subst (λ (q : Page). HasBoth g.T.Disk.Told.told g.T.Disk.Told.faults x q.stream c.args.book c.args.disk.now) same
    (both-flushed g.T.Disk.Told.told g.T.Disk.Told.faults w.in_flight w x page c.args.book c.args.disk.now both c.flush_log.ensures.went c.flush_log.ensures.book c.flush_log.result c.flush_log.ensures.left)

pub returns-in-Ok-Failed-clause-left : goal.returns-in-Ok-Failed-clause-left
returns-in-Ok-Failed-clause-left g c work begun may is =
    let w = g.T.Turns.standing c.args.turns.now in
    let x = g.T.Turns.standing c.flush_log.new.turns in
    let page = c.unwrap-page.result in
    let same : page ≡ record { stream = c.args.book.stream; page = c.args.page } = same-place c.new.result page c.stream.result c.args.book.stream c.args.page c.unwrap-page.ensures c.new.ensures.stream c.new.ensures.page c.stream.ensures in
    let both : HasBoth g.T.Disk.Told.told g.T.Disk.Told.faults w page.stream c.args.book c.args.disk.now =
    subst (λ (q : Page). HasBoth g.T.Disk.Told.told g.T.Disk.Told.faults w q.stream c.args.book c.args.disk.now) (sym same) c.requires.both in
    let write_it : IsToWrite page w.seen = subst (λ (q : Page). IsToWrite q w.seen) (sym same) c.requires.to_write in
    unlogged-left g.T.Disk.Told.told g.T.Disk.Told.faults w.in_flight w x page c.args.book c.args.disk.now both c.flush_log.ensures.went c.flush_log.ensures.book c.flush_log.result c.flush_log.ensures.left write_it
    work begun (subst (λ (q : Page). may_write work q w.seen ≡ true) (sym same) may) is c.in-Ok-Failed.handle
    (c.in-Ok-Failed.is ∙ ap (λ (f : LogFlush). Ok f) c.in-Ok-Failed.field-0-is)

pub returns-in-Err-clause-both : goal.returns-in-Err-clause-both
returns-in-Err-clause-both g c =
    let w = g.T.Turns.standing c.args.turns.now in
    let x = g.T.Turns.standing c.flush_log.new.turns in
    let page = c.unwrap-page.result in
    let same : page ≡ record { stream = c.args.book.stream; page = c.args.page } = same-place c.new.result page c.stream.result c.args.book.stream c.args.page c.unwrap-page.ensures c.new.ensures.stream c.new.ensures.page c.stream.ensures in
    let both : HasBoth g.T.Disk.Told.told g.T.Disk.Told.faults w page.stream c.args.book c.args.disk.now =
    subst (λ (q : Page). HasBoth g.T.Disk.Told.told g.T.Disk.Told.faults w q.stream c.args.book c.args.disk.now) (sym same) c.requires.both in
    let write_it : IsToWrite page w.seen = subst (λ (q : Page). IsToWrite q w.seen) (sym same) c.requires.to_write in
    subst (λ (q : Page). HasBoth g.T.Disk.Told.told g.T.Disk.Told.faults x q.stream c.args.book c.args.disk.now) same
    (both-flushed g.T.Disk.Told.told g.T.Disk.Told.faults w.in_flight w x page c.args.book c.args.disk.now both c.flush_log.ensures.went c.flush_log.ensures.book c.flush_log.result c.flush_log.ensures.left)

pub returns-in-Err-clause-left : goal.returns-in-Err-clause-left
returns-in-Err-clause-left g c work begun may is =
    let w = g.T.Turns.standing c.args.turns.now in
    let x = g.T.Turns.standing c.flush_log.new.turns in
    let page = c.unwrap-page.result in
    let same : page ≡ record { stream = c.args.book.stream; page = c.args.page } = same-place c.new.result page c.stream.result c.args.book.stream c.args.page c.unwrap-page.ensures c.new.ensures.stream c.new.ensures.page c.stream.ensures in
    let both : HasBoth g.T.Disk.Told.told g.T.Disk.Told.faults w page.stream c.args.book c.args.disk.now =
    subst (λ (q : Page). HasBoth g.T.Disk.Told.told g.T.Disk.Told.faults w q.stream c.args.book c.args.disk.now) (sym same) c.requires.both in
    let write_it : IsToWrite page w.seen = subst (λ (q : Page). IsToWrite q w.seen) (sym same) c.requires.to_write in
    subst (λ (q : Page). WorkWriteLeft w.number work q (Err c.in-Err.error) begun x.seen) same
    (unflushed-left g.T.Disk.Told.told g.T.Disk.Told.faults w.in_flight w x page c.args.book c.args.disk.now both c.flush_log.ensures.went c.flush_log.ensures.book c.flush_log.result c.flush_log.ensures.left write_it
    work begun (subst (λ (q : Page). may_write work q w.seen ≡ true) (sym same) may) is c.in-Err.error c.in-Err.is)

pub returns-in-Ok-Reached-clause-shown : goal.returns-in-Ok-Reached-clause-shown
returns-in-Ok-Reached-clause-shown g c =
    let w = g.T.Turns.standing c.args.turns.now in
    let x = g.T.Turns.standing c.flush_log.new.turns in
    let page = c.unwrap-page.result in
    let same : page ≡ record { stream = c.args.book.stream; page = c.args.page } = same-place c.new.result page c.stream.result c.args.book.stream c.args.page c.unwrap-page.ensures c.new.ensures.stream c.new.ensures.page c.stream.ensures in
    subst (λ (q : Page). WriteShown w q c.args.keeps c.put.result.1 (g.T.Turns.standing c.put.new.turns).seen) same
    (written-shown w.in_flight w x page c.args.keeps c.flush_log.ensures.went c.flush_log.result c.flush_log.ensures.left
    c.put.result.1 (g.T.Turns.standing c.put.new.turns).seen (c.in-Ok-Reached.is ∙ ap (λ (f : LogFlush). Ok f) c.in-Ok-Reached.field-0-is) c.put.ensures.left)

pub returns-in-Ok-Failed-clause-shown : goal.returns-in-Ok-Failed-clause-shown
returns-in-Ok-Failed-clause-shown g c =
    let w = g.T.Turns.standing c.args.turns.now in
    let x = g.T.Turns.standing c.flush_log.new.turns in
    let page = c.unwrap-page.result in
    let same : page ≡ record { stream = c.args.book.stream; page = c.args.page } = same-place c.new.result page c.stream.result c.args.book.stream c.args.page c.unwrap-page.ensures c.new.ensures.stream c.new.ensures.page c.stream.ensures in
    subst (λ (q : Page). WriteShown w q c.args.keeps (Ok (write.NotLogged c.in-Ok-Failed.handle)) x.seen) same
    (unlogged-shown w.in_flight w x page c.args.keeps c.flush_log.ensures.went c.flush_log.result c.flush_log.ensures.left
    c.in-Ok-Failed.handle (c.in-Ok-Failed.is ∙ ap (λ (f : LogFlush). Ok f) c.in-Ok-Failed.field-0-is))

pub returns-in-Err-clause-shown : goal.returns-in-Err-clause-shown
returns-in-Err-clause-shown g c =
    let w = g.T.Turns.standing c.args.turns.now in
    let x = g.T.Turns.standing c.flush_log.new.turns in
    let page = c.unwrap-page.result in
    let same : page ≡ record { stream = c.args.book.stream; page = c.args.page } = same-place c.new.result page c.stream.result c.args.book.stream c.args.page c.unwrap-page.ensures c.new.ensures.stream c.new.ensures.page c.stream.ensures in
    subst (λ (q : Page). WriteShown w q c.args.keeps (Err c.in-Err.error) x.seen) same
    (unflushed-shown w.in_flight w x page c.args.keeps c.flush_log.ensures.went c.flush_log.result c.flush_log.ensures.left
    c.in-Err.error c.in-Err.is)
