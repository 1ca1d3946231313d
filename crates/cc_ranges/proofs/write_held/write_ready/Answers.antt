-- A log that was flushed leaves the page ready and logged, so it may be put; a log that failed halts the write; want of
-- room or memory turns it away.
use Rattle.std.specs.Prelude.{◌≡◌, ℕ, false, Result, Ok, OnOk, List}
use Rattle.std.proofs.Common.{ap, sym, ◌∙◌, subst, inl}
use Rattle.cc_entry.specs.Place.{Page}
use Rattle.cc_entry.specs.declared.call.Call.TheVariants as call
use Rattle.cc_entry.specs.declared.entry.Entry.{Entry}
use Rattle.cc_entry.specs.declared.error.CcError.{CcError}
use Rattle.cc_entry.specs.declared.error.CcError.TheVariants as error
use Rattle.cc_effects.specs.Asked.{Calls}
use Rattle.cc_effects.proofs.Starts.{begins}
use Rattle.cc_model.specs.History.{history}
use Rattle.cc_model.specs.Stamps.{is_unstamped}
use Rattle.cc_writes.specs.Hands.{HasBook}
use Rattle.cc_writes.specs.Ways.{IsAtWork, IsFull, IsHalted}
use Rattle.cc_writes.proofs.Resting.{rest-went}
use Rattle.cc_writes.specs.Logs.{FlushLeft}
use Rattle.cc_writes.specs.Writes.{HasBoth}
use Rattle.cc_writes.specs.declared.log.LogFlush.{LogFlush}
use Rattle.cc_writes.specs.declared.log.LogFlush.TheVariants as flush
use Rattle.cc_writes.proofs.Disks.{both_still}
use Rattle.cc_writes.proofs.Numbered.{same-place}
use Rattle.cc_ranges.specs.Ends.{IsTidyEnd}
use Rattle.cc_ranges.specs.Pages.{ReadyWriteLeft}
use Rattle.cc_ranges.specs.Stores.{IsFullStoring, IsReadyToStore}
use Rattle.cc_ranges.proofs.WriteReady.{both-after, failed-left, halted-after, put-left-since, ready-after, ready-numbered, stamped-page, turned-after}
use Rattle.cc_ranges.proofs.TidyEnds.{flushed-behind, tidy-went}
use Rattle.cc_ranges.proofs.write_held.write_ready.Goals as goal
use Rattle.cc_ranges.specs.ReadVisits.{file_page}

pub unwrap-stored-requires : goal.unwrap-stored-requires
unwrap-stored-requires g c =
    let w = g.T.Turns.standing c.args.turns.now in
    c.new.ensures.in_range.1 (ready-numbered w.setup w.seen c.args.file.stream c.args.file c.args.page c.requires.both.book.good c.requires.ready.admitted)

pub flush_log-requires-clause-stamped : goal.flush_log-requires-clause-stamped
flush_log-requires-clause-stamped g c =
    let w = g.T.Turns.standing c.args.turns.now in
    let page = c.unwrap-stored.result in
    let same : page ≡ file_page c.args.file c.args.page = same-place c.new.result page c.stream.result c.args.file.stream c.args.page c.unwrap-stored.ensures c.new.ensures.stream c.new.ensures.page c.stream.ensures in
    subst (λ (q : Page). is_unstamped (history w.seen q.stream) q.page ≡ false) (sym same)
    (stamped-page w.setup w.seen (history w.seen c.args.file.stream) c.args.file c.args.page c.requires.ready.admitted)

pub put_page-requires-clause-both : goal.put_page-requires-clause-both
put_page-requires-clause-both g c =
    let w = g.T.Turns.standing c.args.turns.now in
    let x = g.T.Turns.standing c.flush_log.new.turns in
    let file = c.args.file in
    let b = c.args.book in
    let disk = c.args.disk.now in
    let page = c.unwrap-stored.result in
    let same : page ≡ file_page file c.args.page = same-place c.new.result page c.stream.result file.stream c.args.page c.unwrap-stored.ensures c.new.ensures.stream c.new.ensures.page c.stream.ensures in
    let both : HasBoth g.T.Disk.Told.told g.T.Disk.Told.faults w file.stream b disk = subst (λ (n : ℕ). HasBoth g.T.Disk.Told.told g.T.Disk.Told.faults w n b disk) c.requires.stream c.requires.both in
    let has : HasBook x file.stream b = subst (λ (q : Page). HasBook x q.stream b) same c.flush_log.ensures.book in
    let left : FlushLeft w (file_page file c.args.page) c.flush_log.result x.seen = subst (λ (q : Page). FlushLeft w q c.flush_log.result x.seen) same c.flush_log.ensures.left in
    subst (λ (q : Page). HasBoth g.T.Disk.Told.told g.T.Disk.Told.faults x q.stream b disk) (sym same)
    (both-after g.T.Disk.Told.told g.T.Disk.Told.faults w.in_flight w x file c.args.page b disk both c.requires.ready c.flush_log.ensures.went has c.flush_log.result left)

pub put_page-requires-clause-ready : goal.put_page-requires-clause-ready
put_page-requires-clause-ready g c =
    let w = g.T.Turns.standing c.args.turns.now in
    let x = g.T.Turns.standing c.flush_log.new.turns in
    let file = c.args.file in
    let b = c.args.book in
    let disk = c.args.disk.now in
    let page = c.unwrap-stored.result in
    let same : page ≡ file_page file c.args.page = same-place c.new.result page c.stream.result file.stream c.args.page c.unwrap-stored.ensures c.new.ensures.stream c.new.ensures.page c.stream.ensures in
    let both : HasBoth g.T.Disk.Told.told g.T.Disk.Told.faults w file.stream b disk = subst (λ (n : ℕ). HasBoth g.T.Disk.Told.told g.T.Disk.Told.faults w n b disk) c.requires.stream c.requires.both in
    let has : HasBook x file.stream b = subst (λ (q : Page). HasBook x q.stream b) same c.flush_log.ensures.book in
    let left : FlushLeft w (file_page file c.args.page) c.flush_log.result x.seen = subst (λ (q : Page). FlushLeft w q c.flush_log.result x.seen) same c.flush_log.ensures.left in
    subst (λ (q : Page). IsReadyToStore x.setup x.seen file q) (sym same)
    (ready-after g.T.Disk.Told.told g.T.Disk.Told.faults w.in_flight w x file c.args.page b disk both c.requires.ready c.flush_log.ensures.went has c.flush_log.result left)

pub fail_at-error-requires-clause-halted : goal.fail_at-error-requires-clause-halted
fail_at-error-requires-clause-halted g c =
    let w = g.T.Turns.standing c.args.turns.now in
    let x = g.T.Turns.standing c.flush_log.new.turns in
    let file = c.args.file in
    let b = c.args.book in
    let disk = c.args.disk.now in
    let page = c.unwrap-stored.result in
    let same : page ≡ file_page file c.args.page = same-place c.new.result page c.stream.result file.stream c.args.page c.unwrap-stored.ensures c.new.ensures.stream c.new.ensures.page c.stream.ensures in
    let both : HasBoth g.T.Disk.Told.told g.T.Disk.Told.faults w file.stream b disk = subst (λ (n : ℕ). HasBoth g.T.Disk.Told.told g.T.Disk.Told.faults w n b disk) c.requires.stream c.requires.both in
    let has : HasBook x file.stream b = subst (λ (q : Page). HasBook x q.stream b) same c.flush_log.ensures.book in
    let left : FlushLeft w (file_page file c.args.page) c.flush_log.result x.seen = subst (λ (q : Page). FlushLeft w q c.flush_log.result x.seen) same c.flush_log.ensures.left in
    let it = call.NcWrite file c.args.page in
    subst (λ (n : ℕ). (begun : List Entry) × IsHalted x.setup x.number n it (error.LogFault c.from-handle.result) begun x.seen) (sym c.requires.stream) (
      w.seen,
      halted-after g.T.Disk.Told.told g.T.Disk.Told.faults w.in_flight w x file c.args.page b disk both c.requires.ready c.flush_log.ensures.went has c.flush_log.result left
          c.in-Ok-Failed.handle c.from-handle.result c.from-handle.ensures (c.in-Ok-Failed.is ∙ ap (λ (f : LogFlush). Ok f) c.in-Ok-Failed.field-0-is) w.seen (begins w.number it w.seen),
    )

pub returns-in-Ok-Reached-clause-left : goal.returns-in-Ok-Reached-clause-left
returns-in-Ok-Reached-clause-left g c begun is =
    let w = g.T.Turns.standing c.args.turns.now in
    let x = g.T.Turns.standing c.flush_log.new.turns in
    let file = c.args.file in
    let b = c.args.book in
    let disk = c.args.disk.now in
    let page = c.unwrap-stored.result in
    let same : page ≡ file_page file c.args.page = same-place c.new.result page c.stream.result file.stream c.args.page c.unwrap-stored.ensures c.new.ensures.stream c.new.ensures.page c.stream.ensures in
    let both : HasBoth g.T.Disk.Told.told g.T.Disk.Told.faults w file.stream b disk = subst (λ (n : ℕ). HasBoth g.T.Disk.Told.told g.T.Disk.Told.faults w n b disk) c.requires.stream c.requires.both in
    let has : HasBook x file.stream b = subst (λ (q : Page). HasBook x q.stream b) same c.flush_log.ensures.book in
    let left : FlushLeft w (file_page file c.args.page) c.flush_log.result x.seen = subst (λ (q : Page). FlushLeft w q c.flush_log.result x.seen) same c.flush_log.ensures.left in
    let y = g.T.Turns.standing c.put_page.new.turns in
    let reached : FlushLeft w (file_page file c.args.page) (Ok flush.Reached) x.seen =
    subst (λ (r : Result LogFlush CcError). FlushLeft w (file_page file c.args.page) r x.seen) (c.in-Ok-Reached.is ∙ ap (λ (f : LogFlush). Ok f) c.in-Ok-Reached.field-0-is) left in
    put-left-since g.T.Disk.Told.told g.T.Disk.Told.faults w.in_flight w x file c.args.page b disk both c.requires.ready c.flush_log.ensures.went has c.flush_log.result left
    c.args.bytes.now c.put_page.result.1 begun y.seen is reached.0
    (subst (λ (q : Page). (begun : List Entry) → IsAtWork x.number (Calls (call.NcStore file q.page c.args.bytes.now)) begun x.seen → ReadyWriteLeft x file q.page c.args.bytes.now c.put_page.result.1 begun y.seen) same c.put_page.ensures.left)

pub returns-in-Ok-Failed-clause-both : goal.returns-in-Ok-Failed-clause-both
returns-in-Ok-Failed-clause-both g c =
    let w = g.T.Turns.standing c.args.turns.now in
    let x = g.T.Turns.standing c.flush_log.new.turns in
    let file = c.args.file in
    let b = c.args.book in
    let disk = c.args.disk.now in
    let page = c.unwrap-stored.result in
    let same : page ≡ file_page file c.args.page = same-place c.new.result page c.stream.result file.stream c.args.page c.unwrap-stored.ensures c.new.ensures.stream c.new.ensures.page c.stream.ensures in
    let both : HasBoth g.T.Disk.Told.told g.T.Disk.Told.faults w file.stream b disk = subst (λ (n : ℕ). HasBoth g.T.Disk.Told.told g.T.Disk.Told.faults w n b disk) c.requires.stream c.requires.both in
    let has : HasBook x file.stream b = subst (λ (q : Page). HasBook x q.stream b) same c.flush_log.ensures.book in
    let left : FlushLeft w (file_page file c.args.page) c.flush_log.result x.seen = subst (λ (q : Page). FlushLeft w q c.flush_log.result x.seen) same c.flush_log.ensures.left in
    let y = g.T.Turns.standing c.fail_at-error.new.turns in
    let here : HasBoth g.T.Disk.Told.told g.T.Disk.Told.faults x b.stream b disk =
    subst (λ (n : ℕ). HasBoth g.T.Disk.Told.told g.T.Disk.Told.faults x n b disk) (sym c.requires.stream)
    (both-after g.T.Disk.Told.told g.T.Disk.Told.faults w.in_flight w x file c.args.page b disk both c.requires.ready c.flush_log.ensures.went has c.flush_log.result left) in
    let still = c.fail_at-error.ensures.disk here.rest.device in
    both_still g.T.Disk.Told.told g.T.Disk.Told.faults x.in_flight x y b.stream b c.fail_at-error.new.book disk here c.fail_at-error.ensures.book
    (rest-went x.in_flight b.stream x y here.rest c.fail_at-error.ensures.went still) c.fail_at-error.ensures.went still

pub returns-in-Ok-Failed-clause-left : goal.returns-in-Ok-Failed-clause-left
returns-in-Ok-Failed-clause-left g c begun is =
    let w = g.T.Turns.standing c.args.turns.now in
    let x = g.T.Turns.standing c.flush_log.new.turns in
    let file = c.args.file in
    let b = c.args.book in
    let disk = c.args.disk.now in
    let page = c.unwrap-stored.result in
    let same : page ≡ file_page file c.args.page = same-place c.new.result page c.stream.result file.stream c.args.page c.unwrap-stored.ensures c.new.ensures.stream c.new.ensures.page c.stream.ensures in
    let both : HasBoth g.T.Disk.Told.told g.T.Disk.Told.faults w file.stream b disk = subst (λ (n : ℕ). HasBoth g.T.Disk.Told.told g.T.Disk.Told.faults w n b disk) c.requires.stream c.requires.both in
    let has : HasBook x file.stream b = subst (λ (q : Page). HasBook x q.stream b) same c.flush_log.ensures.book in
    let left : FlushLeft w (file_page file c.args.page) c.flush_log.result x.seen = subst (λ (q : Page). FlushLeft w q c.flush_log.result x.seen) same c.flush_log.ensures.left in
    let y = g.T.Turns.standing c.fail_at-error.new.turns in
    let it = call.NcWrite file c.args.page in
    failed-left g.T.Disk.Told.told g.T.Disk.Told.faults w.in_flight w x file c.args.page b disk both c.requires.ready c.flush_log.ensures.went has c.flush_log.result left
    c.args.bytes.now c.in-Ok-Failed.handle c.from-handle.result c.from-handle.ensures (c.in-Ok-Failed.is ∙ ap (λ (f : LogFlush). Ok f) c.in-Ok-Failed.field-0-is)
    b.stream c.requires.stream c.fail_at-error.result y.seen begun is c.fail_at-error.ensures.left c.fail_at-error.ensures.reason

pub returns-in-Err-clause-both : goal.returns-in-Err-clause-both
returns-in-Err-clause-both g c =
    let w = g.T.Turns.standing c.args.turns.now in
    let x = g.T.Turns.standing c.flush_log.new.turns in
    let file = c.args.file in
    let b = c.args.book in
    let disk = c.args.disk.now in
    let page = c.unwrap-stored.result in
    let same : page ≡ file_page file c.args.page = same-place c.new.result page c.stream.result file.stream c.args.page c.unwrap-stored.ensures c.new.ensures.stream c.new.ensures.page c.stream.ensures in
    let both : HasBoth g.T.Disk.Told.told g.T.Disk.Told.faults w file.stream b disk = subst (λ (n : ℕ). HasBoth g.T.Disk.Told.told g.T.Disk.Told.faults w n b disk) c.requires.stream c.requires.both in
    let has : HasBook x file.stream b = subst (λ (q : Page). HasBook x q.stream b) same c.flush_log.ensures.book in
    let left : FlushLeft w (file_page file c.args.page) c.flush_log.result x.seen = subst (λ (q : Page). FlushLeft w q c.flush_log.result x.seen) same c.flush_log.ensures.left in
    subst (λ (n : ℕ). HasBoth g.T.Disk.Told.told g.T.Disk.Told.faults x n b disk) (sym c.requires.stream)
    (both-after g.T.Disk.Told.told g.T.Disk.Told.faults w.in_flight w x file c.args.page b disk both c.requires.ready c.flush_log.ensures.went has c.flush_log.result left)

pub returns-in-Err-clause-left : goal.returns-in-Err-clause-left
returns-in-Err-clause-left g c begun is =
    let w = g.T.Turns.standing c.args.turns.now in
    let x = g.T.Turns.standing c.flush_log.new.turns in
    let file = c.args.file in
    let b = c.args.book in
    let disk = c.args.disk.now in
    let page = c.unwrap-stored.result in
    let same : page ≡ file_page file c.args.page = same-place c.new.result page c.stream.result file.stream c.args.page c.unwrap-stored.ensures c.new.ensures.stream c.new.ensures.page c.stream.ensures in
    let both : HasBoth g.T.Disk.Told.told g.T.Disk.Told.faults w file.stream b disk = subst (λ (n : ℕ). HasBoth g.T.Disk.Told.told g.T.Disk.Told.faults w n b disk) c.requires.stream c.requires.both in
    let has : HasBook x file.stream b = subst (λ (q : Page). HasBook x q.stream b) same c.flush_log.ensures.book in
    let left : FlushLeft w (file_page file c.args.page) c.flush_log.result x.seen = subst (λ (q : Page). FlushLeft w q c.flush_log.result x.seen) same c.flush_log.ensures.left in
    turned-after g.T.Disk.Told.told g.T.Disk.Told.faults w.in_flight w x file c.args.page b disk both c.requires.ready c.flush_log.ensures.went has c.flush_log.result left
    c.args.bytes.now begun is c.in-Err.error c.in-Err.is

pub returns-in-Ok-Reached-clause-tidy : goal.returns-in-Ok-Reached-clause-tidy
returns-in-Ok-Reached-clause-tidy g c =
    let w = g.T.Turns.standing c.args.turns.now in
    let x = g.T.Turns.standing c.flush_log.new.turns in
    let file = c.args.file in
    let page = c.unwrap-stored.result in
    let same : page ≡ file_page file c.args.page = same-place c.new.result page c.stream.result file.stream c.args.page c.unwrap-stored.ensures c.new.ensures.stream c.new.ensures.page c.stream.ensures in
    let reached : FlushLeft w page (Ok flush.Reached) x.seen =
    subst (λ (r : Result LogFlush CcError). FlushLeft w page r x.seen) (c.in-Ok-Reached.is ∙ ap (λ (f : LogFlush). Ok f) c.in-Ok-Reached.field-0-is) c.flush_log.ensures.left in
    let y = g.T.Turns.standing c.put_page.new.turns in
    tidy-went w.in_flight w x file (file_page file c.args.page) c.put_page.result.1 y.seen c.flush_log.ensures.went (flushed-behind w page x.seen reached.0)
    (subst (λ (q : Page). OnOk c.put_page.result.1 (IsTidyEnd x.setup x.most_others x.number file q x.seen y.seen)) same c.put_page.ensures.tidy)

pub returns-in-Ok-Reached-clause-full : goal.returns-in-Ok-Reached-clause-full
returns-in-Ok-Reached-clause-full g c =
    let page = c.unwrap-stored.result in
    let same : page ≡ file_page c.args.file c.args.page = same-place c.new.result page c.stream.result c.args.file.stream c.args.page c.unwrap-stored.ensures c.new.ensures.stream c.new.ensures.page c.stream.ensures in
    subst (λ (q : Page). IsFullStoring c.args.file q (g.T.Turns.standing c.put_page.new.turns) c.put_page.result.1) same c.put_page.ensures.full

pub returns-in-Ok-Failed-clause-full : goal.returns-in-Ok-Failed-clause-full
returns-in-Ok-Failed-clause-full g c = inl (inl c.fail_at-error.ensures.full)

pub returns-in-Err-clause-full : goal.returns-in-Err-clause-full
returns-in-Err-clause-full g c =
    inl (inl (subst (λ (r : Result LogFlush CcError). IsFull 1 (g.T.Turns.standing c.flush_log.new.turns) r) c.in-Err.is c.flush_log.ensures.full))
