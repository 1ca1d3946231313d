-- Behind the store, the transfer that it began is of the bytes as they are cut at the size, so the page may be
-- finished; without room or memory for the store, nothing was placed.
use Rattle.std.specs.Prelude.{◌≡◌, ℕ, ◌-◌, ◌*◌, ◌<◌, min, Bool, Result, List, length}
use Rattle.std.proofs.Common.{ap, arith, inl, inr, subst, sym, ◌∙◌}
use Rattle.cc_entry.specs.declared.call.Call.TheVariants as call
use Rattle.cc_content.specs.Filling.{IsClearedFrom}
use Rattle.cc_effects.specs.Asked.{Calls}
use Rattle.cc_model.specs.History.{history}
use Rattle.cc_model.specs.Touches.{size_of}
use Rattle.cc_writes.specs.Ways.{IsAtWork, IsFull}
use Rattle.cc_writes.proofs.OneVisit.{grows-none}
use Rattle.cc_writes.proofs.Writing.{both-grown}
use Rattle.cc_writes.specs.Hands.{WentWith}
use Rattle.cc_writes.proofs.OneVisit.{went-number, went-then}
use Rattle.cc_entry.specs.declared.error.CcError.{CcError}
use Rattle.cc_ranges.specs.Ends.{HasEndedTidy, IsTidyEnd}
use Rattle.cc_ranges.specs.Pages.{FinishedLeft, ReadyWriteLeft}
use Rattle.cc_ranges.specs.Stores.{IsTightUnkept, kept_in, places_kept}
use Rattle.cc_ranges.proofs.TidyEnds.{put-tidy}
use Rattle.cc_ranges.proofs.WriteFull.{full-finished, still-to-store}
use Rattle.cc_ranges.proofs.Explained.{put-left}
use Rattle.cc_ranges.proofs.Goods.{below-size}
use Rattle.cc_ranges.proofs.PageWriting.{as-cut, begun-there, size-there, stored-there}
use Rattle.cc_ranges.proofs.pages.put_page.Goals as goal

pub finish_page-requires-clause-stored : goal.finish_page-requires-clause-stored
finish_page-requires-clause-stored g c =
    let w = g.T.Turns.standing c.args.turns.now in
    let x = g.T.Turns.standing c.store_at.new.turns in
    let page = c.args.page in
    let both = c.requires.both in
    stored-there g.T.Disk.Told.told g.T.Disk.Told.faults (kept_in c.store_at.result) w x c.args.file page c.in-Ok.stored c.args.book c.store_at.new.book c.args.disk.now
    both c.store_at.ensures.went c.store_at.ensures.book c.requires.ready c.requires.logged (ap length c.in-Ok.ensures ∙ c.told-bytes) c.in-Ok-store_at.ensures.left

pub finish_page-requires-clause-begun : goal.finish_page-requires-clause-begun
finish_page-requires-clause-begun g c =
    let w = g.T.Turns.standing c.args.turns.now in
    let x = g.T.Turns.standing c.store_at.new.turns in
    let page = c.args.page in
    let both = c.requires.both in
    let sized : c.size.result ≡ size_of (history w.seen page.stream) =
    c.size.ensures (w.setup.opening page.stream) w.seen both.book.stands ∙ ap (λ (s : ℕ). size_of (history w.seen s)) both.book.stream in
    begun-there g.T.Disk.Told.told g.T.Disk.Told.faults (kept_in c.store_at.result) w x c.args.file page c.in-Ok.stored c.args.book c.store_at.new.book c.args.disk.now
    both c.store_at.ensures.went c.store_at.ensures.book c.requires.ready c.requires.logged (ap length c.in-Ok.ensures ∙ c.told-bytes) c.in-Ok-store_at.ensures.left
    c.cleared-whole.result c.note_whole.ensures
    (as-cut (size_of (history w.seen page.stream)) page.page (c.size.result - 4096 * c.page.result) c.in-Ok.stored c.cleared-whole.result
    (ap (λ (n : ℕ). n - 4096 * c.page.result) sized ∙ ap (λ (n : ℕ). size_of (history w.seen page.stream) - 4096 * n) c.page.ensures.same)
    (subst (λ (l : List ℕ). IsClearedFrom (c.size.result - 4096 * c.page.result) l c.cleared-whole.result) (sym c.in-Ok.ensures) c.cleared-whole.ensures))

pub overflow_sub-end : goal.overflow_sub-end
overflow_sub-end g c =
    let w = g.T.Turns.standing c.args.turns.now in
    let page = c.args.page in
    let both = c.requires.both in
    let sized : c.size.result ≡ size_of (history w.seen page.stream) =
    c.size.ensures (w.setup.opening page.stream) w.seen both.book.stands ∙ ap (λ (s : ℕ). size_of (history w.seen s)) both.book.stream in
    let below = below-size w.setup w.seen (history w.seen page.stream) c.args.file page.page c.requires.ready.admitted in
    omega (arith, below, sized, c.page.ensures.same)

pub returns-in-Ok-store_at-clause-left : goal.returns-in-Ok-store_at-clause-left
returns-in-Ok-store_at-clause-left g c begun work =
    let w = g.T.Turns.standing c.args.turns.now in
    let x = g.T.Turns.standing c.store_at.new.turns in
    let page = c.args.page in
    let both = c.requires.both in
    let sized : c.size.result ≡ size_of (history w.seen page.stream) =
    c.size.ensures (w.setup.opening page.stream) w.seen both.book.stands ∙ ap (λ (s : ℕ). size_of (history w.seen s)) both.book.stream in
    let y = g.T.Turns.standing c.finish_page.new.turns in
    let below = below-size w.setup w.seen (history w.seen page.stream) c.args.file page.page c.requires.ready.admitted in
    let within : 4096 * page.page < c.size.result = subst (λ (n : ℕ). 4096 * page.page < n) (sym sized) below in
    let left : FinishedLeft x c.args.file page (min (c.size.result - 4096 * page.page) 4096) c.finish_page.result.1 y.seen =
    subst (λ (n : ℕ). FinishedLeft x c.args.file page n c.finish_page.result.1 y.seen) (c.min.ensures ∙ ap (λ (n : ℕ). min (c.size.result - 4096 * n) 4096) c.page.ensures.same) c.finish_page.ensures.left in
    subst (λ (l : List ℕ). ReadyWriteLeft w c.args.file page.page l c.finish_page.result.1 begun y.seen) c.in-Ok.ensures
    (put-left (kept_in c.store_at.result) w x c.args.file page c.in-Ok.stored begun c.requires.ready.here c.store_at.ensures.went c.in-Ok-store_at.ensures.left
    (subst (λ (l : List ℕ). IsAtWork w.number (Calls (call.NcStore c.args.file page.page l)) begun w.seen) (sym c.in-Ok.ensures) work)
    c.size.result
    (stored-there g.T.Disk.Told.told g.T.Disk.Told.faults (kept_in c.store_at.result) w x c.args.file page c.in-Ok.stored c.args.book c.store_at.new.book c.args.disk.now
    both c.store_at.ensures.went c.store_at.ensures.book c.requires.ready c.requires.logged (ap length c.in-Ok.ensures ∙ c.told-bytes) c.in-Ok-store_at.ensures.left)
    (sized ∙ size-there g.T.Disk.Told.told g.T.Disk.Told.faults (kept_in c.store_at.result) w x c.args.file page c.in-Ok.stored c.args.book c.store_at.new.book c.args.disk.now
    both c.store_at.ensures.went c.store_at.ensures.book c.requires.ready c.requires.logged (ap length c.in-Ok.ensures ∙ c.told-bytes) c.in-Ok-store_at.ensures.left)
    within c.finish_page.result.1 y.seen left)

pub returns-in-Err-clause-left : goal.returns-in-Err-clause-left
returns-in-Err-clause-left g c begun work = inl (grows-none (g.T.Turns.standing c.args.turns.now), tt)

pub returns-in-Err-store_at-clause-both : goal.returns-in-Err-store_at-clause-both
returns-in-Err-store_at-clause-both g c =
    let w = g.T.Turns.standing c.args.turns.now in
    let x = g.T.Turns.standing c.store_at.new.turns in
    both-grown g.T.Disk.Told.told g.T.Disk.Told.faults (kept_in c.store_at.result) w x c.args.page c.args.book c.store_at.new.book c.args.disk.now
    c.requires.both c.store_at.ensures.went c.store_at.ensures.book c.in-Err-store_at.ensures.left.0

pub finish_page-requires-clause-kept : goal.finish_page-requires-clause-kept
finish_page-requires-clause-kept g c =
    ap (λ y. y.in_flight) c.store_at.ensures.went.same ∙ ap kept_in c.in-Ok-store_at.is

pub returns-in-Ok-store_at-clause-went : goal.returns-in-Ok-store_at-clause-went
returns-in-Ok-store_at-clause-went g c =
    let w = g.T.Turns.standing c.args.turns.now in
    let y = g.T.Turns.standing c.finish_page.new.turns in
    subst (λ (n : ℕ). WentWith n w y) (sym c.requires.none)
    (went-then (kept_in c.store_at.result) 0 w (g.T.Turns.standing c.store_at.new.turns) y c.store_at.ensures.went c.finish_page.ensures.went)

pub returns-in-Err-store_at-clause-went : goal.returns-in-Err-store_at-clause-went
returns-in-Err-store_at-clause-went g c =
    let w = g.T.Turns.standing c.args.turns.now in
    let x = g.T.Turns.standing c.store_at.new.turns in
    subst (λ (n : ℕ). WentWith n w x) (ap kept_in c.in-Err-store_at.is ∙ sym c.requires.none) c.store_at.ensures.went

pub returns-in-Ok-store_at-clause-tidy : goal.returns-in-Ok-store_at-clause-tidy
returns-in-Ok-store_at-clause-tidy g c =
    let w = g.T.Turns.standing c.args.turns.now in
    let x = g.T.Turns.standing c.store_at.new.turns in
    let y = g.T.Turns.standing c.finish_page.new.turns in
    put-tidy (kept_in c.store_at.result) w x c.args.file c.args.page c.in-Ok.stored c.in-Ok-store_at.kept y.seen c.store_at.ensures.went c.in-Ok-store_at.ensures.left
    (subst (λ (r : Result Bool CcError). IsTightUnkept w x.most_others c.args.file c.args.page r x.seen) c.in-Ok-store_at.is c.store_at.ensures.tight) c.finish_page.result.1 c.finish_page.ensures.tidy

pub returns-in-Ok-store_at-clause-full : goal.returns-in-Ok-store_at-clause-full
returns-in-Ok-store_at-clause-full g c =
    let y = g.T.Turns.standing c.finish_page.new.turns in
    full-finished (g.T.Turns.standing c.store_at.new.turns) y c.args.file c.args.page _ c.finish_page.result.1 y.seen c.finish_page.ensures.left

pub returns-in-Err-store_at-clause-full : goal.returns-in-Err-store_at-clause-full
returns-in-Err-store_at-clause-full g c =
    let w = g.T.Turns.standing c.args.turns.now in
    let x = g.T.Turns.standing c.store_at.new.turns in
    inr (
      still-to-store (kept_in c.store_at.result) w x c.args.file c.args.page c.args.book c.requires.both.book c.requires.both.rest.device c.store_at.ensures.went
          c.requires.ready c.requires.logged c.in-Err-store_at.ensures.left.0,
      subst (λ (r : Result Bool CcError). IsFull 4 x r) c.in-Err-store_at.is c.store_at.ensures.full,
    )

pub returns-in-Err-clause-full : goal.returns-in-Err-clause-full
returns-in-Err-clause-full g c = inl (inl tt)
