-- One visit: the page may be stored on the journal that was taken, and the store is given with it, and the begin of its
-- transfer.
use Rattle.std.proofs.Common.{◌≡◌, ◌<◌, ℕ, ap, sym, ◌∙◌, subst, arith}
use Rattle.cc_turns.specs.Standing.{Standing}
use Rattle.cc_writes.specs.Hands.{HasBook, WentWith}
use Rattle.cc_writes.specs.Ways.{IsFull}
use Rattle.cc_writes.proofs.Visiting.{few-left}
use Rattle.cc_writes.proofs.OneVisit.{visiting}
use Rattle.cc_ranges.specs.Stores.{IsTightUnkept, StoreLeft, kept_in, places_kept}
use Rattle.cc_ranges.proofs.Storing.{kept-few, may-visit, stores}
use Rattle.cc_ranges.proofs.stores.store_at.Goals as goal

pub store-stored-requires-clause-may : goal.store-stored-requires-clause-may
store-stored-requires-clause-may g c =
    let w = g.T.Turns.standing c.args.turns.now in
    let v = g.T.Turns.standing c.take_journal-journal.new.self in
    let posted = g.T.Post.PostRoutine.posted in
    let j = c.take_journal-journal.result in
    let vis = visiting posted w v j c.take_journal-journal.ensures.took c.take_journal-journal.ensures.stands in
    let me : c.me-pass.result ≡ w.number = c.me-pass.ensures ∙ ap (λ (y : Standing). y.number) c.take_journal-journal.ensures.took.same in
    (w.setup, may-visit posted w v c.args.file c.args.page c.args.bytes c.args.book.now j c.requires.book c.requires.rest c.requires.whole c.requires.ready c.requires.logged vis c.me-pass.result me)

pub store-stored-requires-clause-stream : goal.store-stored-requires-clause-stream
store-stored-requires-clause-stream g c =
    let w = g.T.Turns.standing c.args.turns.now in
    let v = g.T.Turns.standing c.take_journal-journal.new.self in
    let posted = g.T.Post.PostRoutine.posted in
    let j = c.take_journal-journal.result in
    let vis = visiting posted w v j c.take_journal-journal.ensures.took c.take_journal-journal.ensures.stands in
    let me : c.me-pass.result ≡ w.number = c.me-pass.ensures ∙ ap (λ (y : Standing). y.number) c.take_journal-journal.ensures.took.same in
    sym c.requires.book.stream

pub give_journal-requires-clause-adds : goal.give_journal-requires-clause-adds
give_journal-requires-clause-adds g c =
    let w = g.T.Turns.standing c.args.turns.now in
    let v = g.T.Turns.standing c.take_journal-journal.new.self in
    let posted = g.T.Post.PostRoutine.posted in
    let j = c.take_journal-journal.result in
    let vis = visiting posted w v j c.take_journal-journal.ensures.took c.take_journal-journal.ensures.stands in
    let me : c.me-pass.result ≡ w.number = c.me-pass.ensures ∙ ap (λ (y : Standing). y.number) c.take_journal-journal.ensures.took.same in
    let known : c.args.page.stream < 16 = subst (λ (n : ℕ). n < 16) (c.number-stream.ensures.same ∙ c.stream.ensures) c.number-stream.ensures.in_range in
    let s = stores posted w v c.args.file c.args.page c.args.bytes c.args.book.now j c.requires.book c.requires.rest c.requires.whole c.requires.ready c.requires.logged vis c.me-pass.result me known c.requires.none c.take_journal-journal.ensures.few
    c.store-stored.new.book c.store-stored.new.journal c.store-stored.ensures.stream c.store-stored.result
    (c.store-stored.ensures.stored w.setup (may-visit posted w v c.args.file c.args.page c.args.bytes c.args.book.now j c.requires.book c.requires.rest c.requires.whole c.requires.ready c.requires.logged vis c.me-pass.result me)) in
    s.adds

pub give_journal-requires-clause-stands : goal.give_journal-requires-clause-stands
give_journal-requires-clause-stands g c =
    let w = g.T.Turns.standing c.args.turns.now in
    let v = g.T.Turns.standing c.take_journal-journal.new.self in
    let posted = g.T.Post.PostRoutine.posted in
    let j = c.take_journal-journal.result in
    let vis = visiting posted w v j c.take_journal-journal.ensures.took c.take_journal-journal.ensures.stands in
    let me : c.me-pass.result ≡ w.number = c.me-pass.ensures ∙ ap (λ (y : Standing). y.number) c.take_journal-journal.ensures.took.same in
    let known : c.args.page.stream < 16 = subst (λ (n : ℕ). n < 16) (c.number-stream.ensures.same ∙ c.stream.ensures) c.number-stream.ensures.in_range in
    let s = stores posted w v c.args.file c.args.page c.args.bytes c.args.book.now j c.requires.book c.requires.rest c.requires.whole c.requires.ready c.requires.logged vis c.me-pass.result me known c.requires.none c.take_journal-journal.ensures.few
    c.store-stored.new.book c.store-stored.new.journal c.store-stored.ensures.stream c.store-stored.result
    (c.store-stored.ensures.stored w.setup (may-visit posted w v c.args.file c.args.page c.args.bytes c.args.book.now j c.requires.book c.requires.rest c.requires.whole c.requires.ready c.requires.logged vis c.me-pass.result me)) in
    s.journal

pub give_journal-requires-clause-few : goal.give_journal-requires-clause-few
give_journal-requires-clause-few g c =
    let w = g.T.Turns.standing c.args.turns.now in
    let v = g.T.Turns.standing c.take_journal-journal.new.self in
    let posted = g.T.Post.PostRoutine.posted in
    let j = c.take_journal-journal.result in
    let vis = visiting posted w v j c.take_journal-journal.ensures.took c.take_journal-journal.ensures.stands in
    let me : c.me-pass.result ≡ w.number = c.me-pass.ensures ∙ ap (λ (y : Standing). y.number) c.take_journal-journal.ensures.took.same in
    let known : c.args.page.stream < 16 = subst (λ (n : ℕ). n < 16) (c.number-stream.ensures.same ∙ c.stream.ensures) c.number-stream.ensures.in_range in
    let s = stores posted w v c.args.file c.args.page c.args.bytes c.args.book.now j c.requires.book c.requires.rest c.requires.whole c.requires.ready c.requires.logged vis c.me-pass.result me known c.requires.none c.take_journal-journal.ensures.few
    c.store-stored.new.book c.store-stored.new.journal c.store-stored.ensures.stream c.store-stored.result
    (c.store-stored.ensures.stored w.setup (may-visit posted w v c.args.file c.args.page c.args.bytes c.args.book.now j c.requires.book c.requires.rest c.requires.whole c.requires.ready c.requires.logged vis c.me-pass.result me)) in
    few-left (kept_in c.store-stored.result) s.went (kept-few c.store-stored.result)

pub returns-clause-book : goal.returns-clause-book
returns-clause-book g c =
    let w = g.T.Turns.standing c.args.turns.now in
    let v = g.T.Turns.standing c.take_journal-journal.new.self in
    let posted = g.T.Post.PostRoutine.posted in
    let j = c.take_journal-journal.result in
    let vis = visiting posted w v j c.take_journal-journal.ensures.took c.take_journal-journal.ensures.stands in
    let me : c.me-pass.result ≡ w.number = c.me-pass.ensures ∙ ap (λ (y : Standing). y.number) c.take_journal-journal.ensures.took.same in
    let known : c.args.page.stream < 16 = subst (λ (n : ℕ). n < 16) (c.number-stream.ensures.same ∙ c.stream.ensures) c.number-stream.ensures.in_range in
    let s = stores posted w v c.args.file c.args.page c.args.bytes c.args.book.now j c.requires.book c.requires.rest c.requires.whole c.requires.ready c.requires.logged vis c.me-pass.result me known c.requires.none c.take_journal-journal.ensures.few
    c.store-stored.new.book c.store-stored.new.journal c.store-stored.ensures.stream c.store-stored.result
    (c.store-stored.ensures.stored w.setup (may-visit posted w v c.args.file c.args.page c.args.bytes c.args.book.now j c.requires.book c.requires.rest c.requires.whole c.requires.ready c.requires.logged vis c.me-pass.result me)) in
    subst (λ (x : Standing). HasBook x c.args.page.stream c.store-stored.new.book) (sym c.give_journal.ensures) s.book

pub returns-clause-went : goal.returns-clause-went
returns-clause-went g c =
    let w = g.T.Turns.standing c.args.turns.now in
    let v = g.T.Turns.standing c.take_journal-journal.new.self in
    let posted = g.T.Post.PostRoutine.posted in
    let j = c.take_journal-journal.result in
    let vis = visiting posted w v j c.take_journal-journal.ensures.took c.take_journal-journal.ensures.stands in
    let me : c.me-pass.result ≡ w.number = c.me-pass.ensures ∙ ap (λ (y : Standing). y.number) c.take_journal-journal.ensures.took.same in
    let known : c.args.page.stream < 16 = subst (λ (n : ℕ). n < 16) (c.number-stream.ensures.same ∙ c.stream.ensures) c.number-stream.ensures.in_range in
    let s = stores posted w v c.args.file c.args.page c.args.bytes c.args.book.now j c.requires.book c.requires.rest c.requires.whole c.requires.ready c.requires.logged vis c.me-pass.result me known c.requires.none c.take_journal-journal.ensures.few
    c.store-stored.new.book c.store-stored.new.journal c.store-stored.ensures.stream c.store-stored.result
    (c.store-stored.ensures.stored w.setup (may-visit posted w v c.args.file c.args.page c.args.bytes c.args.book.now j c.requires.book c.requires.rest c.requires.whole c.requires.ready c.requires.logged vis c.me-pass.result me)) in
    subst (λ (x : Standing). WentWith (kept_in c.store-stored.result) w x) (sym c.give_journal.ensures) s.went

pub returns-clause-left : goal.returns-clause-left
returns-clause-left g c =
    let w = g.T.Turns.standing c.args.turns.now in
    let v = g.T.Turns.standing c.take_journal-journal.new.self in
    let posted = g.T.Post.PostRoutine.posted in
    let j = c.take_journal-journal.result in
    let vis = visiting posted w v j c.take_journal-journal.ensures.took c.take_journal-journal.ensures.stands in
    let me : c.me-pass.result ≡ w.number = c.me-pass.ensures ∙ ap (λ (y : Standing). y.number) c.take_journal-journal.ensures.took.same in
    let known : c.args.page.stream < 16 = subst (λ (n : ℕ). n < 16) (c.number-stream.ensures.same ∙ c.stream.ensures) c.number-stream.ensures.in_range in
    let s = stores posted w v c.args.file c.args.page c.args.bytes c.args.book.now j c.requires.book c.requires.rest c.requires.whole c.requires.ready c.requires.logged vis c.me-pass.result me known c.requires.none c.take_journal-journal.ensures.few
    c.store-stored.new.book c.store-stored.new.journal c.store-stored.ensures.stream c.store-stored.result
    (c.store-stored.ensures.stored w.setup (may-visit posted w v c.args.file c.args.page c.args.bytes c.args.book.now j c.requires.book c.requires.rest c.requires.whole c.requires.ready c.requires.logged vis c.me-pass.result me)) in
    subst (λ (x : Standing). StoreLeft w c.args.file c.args.page c.args.bytes c.store-stored.result x.seen) (sym c.give_journal.ensures) s.left

pub returns-clause-full : goal.returns-clause-full
returns-clause-full g c =
    let w = g.T.Turns.standing c.args.turns.now in
    let v = g.T.Turns.standing c.take_journal-journal.new.self in
    let posted = g.T.Post.PostRoutine.posted in
    let j = c.take_journal-journal.result in
    let vis = visiting posted w v j c.take_journal-journal.ensures.took c.take_journal-journal.ensures.stands in
    let me : c.me-pass.result ≡ w.number = c.me-pass.ensures ∙ ap (λ (y : Standing). y.number) c.take_journal-journal.ensures.took.same in
    let known : c.args.page.stream < 16 = subst (λ (n : ℕ). n < 16) (c.number-stream.ensures.same ∙ c.stream.ensures) c.number-stream.ensures.in_range in
    let s = stores posted w v c.args.file c.args.page c.args.bytes c.args.book.now j c.requires.book c.requires.rest c.requires.whole c.requires.ready c.requires.logged vis c.me-pass.result me known c.requires.none c.take_journal-journal.ensures.few
    c.store-stored.new.book c.store-stored.new.journal c.store-stored.ensures.stream c.store-stored.result
    (c.store-stored.ensures.stored w.setup (may-visit posted w v c.args.file c.args.page c.args.bytes c.args.book.now j c.requires.book c.requires.rest c.requires.whole c.requires.ready c.requires.logged vis c.me-pass.result me)) in
    subst (λ (x : Standing). IsFull 4 x c.store-stored.result) (sym c.give_journal.ensures) s.full

pub returns-clause-tight : goal.returns-clause-tight
returns-clause-tight g c =
    let w = g.T.Turns.standing c.args.turns.now in
    let v = g.T.Turns.standing c.take_journal-journal.new.self in
    let posted = g.T.Post.PostRoutine.posted in
    let j = c.take_journal-journal.result in
    let vis = visiting posted w v j c.take_journal-journal.ensures.took c.take_journal-journal.ensures.stands in
    let me : c.me-pass.result ≡ w.number = c.me-pass.ensures ∙ ap (λ (y : Standing). y.number) c.take_journal-journal.ensures.took.same in
    let known : c.args.page.stream < 16 = subst (λ (n : ℕ). n < 16) (c.number-stream.ensures.same ∙ c.stream.ensures) c.number-stream.ensures.in_range in
    let s = stores posted w v c.args.file c.args.page c.args.bytes c.args.book.now j c.requires.book c.requires.rest c.requires.whole c.requires.ready c.requires.logged vis c.me-pass.result me known c.requires.none c.take_journal-journal.ensures.few
    c.store-stored.new.book c.store-stored.new.journal c.store-stored.ensures.stream c.store-stored.result
    (c.store-stored.ensures.stored w.setup (may-visit posted w v c.args.file c.args.page c.args.bytes c.args.book.now j c.requires.book c.requires.rest c.requires.whole c.requires.ready c.requires.logged vis c.me-pass.result me)) in
    subst (λ (x : Standing). IsTightUnkept w x.most_others c.args.file c.args.page c.store-stored.result x.seen) (sym c.give_journal.ensures) s.tight
