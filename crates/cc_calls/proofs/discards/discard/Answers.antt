-- Disk and book of a stream at rest are taken and given around the visit, which leaves the disk as it was.
use Rattle.std.specs.Prelude.{◌≡◌, ℕ, None}
use Rattle.std.proofs.Common.{ap, sym, ◌∙◌, subst}
use Rattle.cc_model.specs.History.{history}
use Rattle.cc_model.specs.Images.{open_of}
use Rattle.cc_turns.specs.Disk.{DiskStands}
use Rattle.cc_turns.specs.Takes.{without_book, without_device}
use Rattle.cc_writes.specs.Fetch.{CanCall}
use Rattle.cc_writes.specs.Hands.{IsAtRest, SameDisk}
use Rattle.cc_writes.proofs.Resting.{rest-same}
use Rattle.cc_writes.proofs.TakingBoth.{both_begun}
use Rattle.cc_writes.proofs.VisitDisks.{disk_still}
use Rattle.cc_calls.proofs.DiscardCalls.{discard-ends, disk-back}
use Rattle.cc_calls.proofs.discards.discard.Goals as goal

pub discard_at-answer-requires-clause-rest : goal.discard_at-answer-requires-clause-rest
discard_at-answer-requires-clause-rest g c =
    let w = g.T.Turns.standing c.args.turns.now in
    let x = g.T.Turns.standing c.take_book-book.new.self in
    let s = c.stream-stream.result in
    let both = both_begun w (g.T.Turns.standing c.take_device-disk.new.self) x s (subst (λ (n : ℕ). CanCall w n) (sym c.stream-stream.ensures) c.requires.can)
    c.take_device-disk.ensures.took c.take_book-book.ensures.took g.T.Disk.Told.told g.T.Disk.Told.faults c.take_book-book.result c.take_device-disk.result
    c.take_device-disk.ensures.opening c.take_device-disk.ensures.stands c.take_device-disk.ensures.at_rest c.take_book-book.ensures.stream c.take_book-book.ensures.stands in
    subst (λ (n : ℕ). IsAtRest x n) (c.take_book-book.ensures.stream ∙ c.stream-stream.ensures) both.rest

pub give_device-requires-clause-stands : goal.give_device-requires-clause-stands
give_device-requires-clause-stands g c =
    let w = g.T.Turns.standing c.args.turns.now in
    let x = g.T.Turns.standing c.take_book-book.new.self in
    let y = g.T.Turns.standing c.discard_at-answer.new.turns in
    let s = c.stream-stream.result in
    let both = both_begun w (g.T.Turns.standing c.take_device-disk.new.self) x s (subst (λ (n : ℕ). CanCall w n) (sym c.stream-stream.ensures) c.requires.can)
    c.take_device-disk.ensures.took c.take_book-book.ensures.took g.T.Disk.Told.told g.T.Disk.Told.faults c.take_book-book.result c.take_device-disk.result
    c.take_device-disk.ensures.opening c.take_device-disk.ensures.stands c.take_device-disk.ensures.at_rest c.take_book-book.ensures.stream c.take_book-book.ensures.stands in
    let same = subst (λ (n : ℕ). SameDisk x.seen y.seen n) (sym c.stream-stream.ensures) c.discard_at-answer.ensures.disk in
    disk-back (λ first past. DiskStands g.T.Disk.Told.told g.T.Disk.Told.faults first past s c.take_device-disk.result) x y (g.T.Turns.standing c.give_book.new.self) s
    c.discard_at-answer.ensures.went c.give_book.ensures
    (disk_still g.T.Disk.Told.told g.T.Disk.Told.faults (x.disks s) x.seen y.seen s c.take_device-disk.result same
    (subst (λ (n : ℕ). DiskStands g.T.Disk.Told.told g.T.Disk.Told.faults (x.disks n) x.seen n c.take_device-disk.result) c.take_book-book.ensures.stream both.disk))

pub give_device-requires-clause-at_rest : goal.give_device-requires-clause-at_rest
give_device-requires-clause-at_rest g c =
    let w = g.T.Turns.standing c.args.turns.now in
    let x = g.T.Turns.standing c.take_book-book.new.self in
    let y = g.T.Turns.standing c.discard_at-answer.new.turns in
    let s = c.stream-stream.result in
    let both = both_begun w (g.T.Turns.standing c.take_device-disk.new.self) x s (subst (λ (n : ℕ). CanCall w n) (sym c.stream-stream.ensures) c.requires.can)
    c.take_device-disk.ensures.took c.take_book-book.ensures.took g.T.Disk.Told.told g.T.Disk.Told.faults c.take_book-book.result c.take_device-disk.result
    c.take_device-disk.ensures.opening c.take_device-disk.ensures.stands c.take_device-disk.ensures.at_rest c.take_book-book.ensures.stream c.take_book-book.ensures.stands in
    let same = subst (λ (n : ℕ). SameDisk x.seen y.seen n) (sym c.stream-stream.ensures) c.discard_at-answer.ensures.disk in
    disk-back (λ first past. open_of (history past s) ≡ None) x y (g.T.Turns.standing c.give_book.new.self) s c.discard_at-answer.ensures.went c.give_book.ensures
    (rest-same x.seen y.seen s same (subst (λ (n : ℕ). open_of (history x.seen n) ≡ None) c.take_book-book.ensures.stream both.rest.no_transfer))

pub returns : goal.returns
returns g c =
    let w = g.T.Turns.standing c.args.turns.now in
    let y = g.T.Turns.standing c.discard_at-answer.new.turns in
    let z = g.T.Turns.standing c.give_device.new.self in
    let back : z ≡ without_device (without_book y) = c.give_device.ensures ∙ ap without_device c.give_book.ensures in
    record {
      ends =
          discard-ends w (g.T.Turns.standing c.take_device-disk.new.self) (g.T.Turns.standing c.take_book-book.new.self) y z
          c.stream-stream.result c.args.file c.args.span c.discard_at-answer.result (subst (λ (n : ℕ). CanCall w n) (sym c.stream-stream.ensures) c.requires.can)
          c.take_device-disk.ensures.took c.take_book-book.ensures.took c.discard_at-answer.ensures.went back
          c.discard_at-answer.ensures.left c.discard_at-answer.ensures.did c.discard_at-answer.ensures.full c.discard_at-answer.ensures.book.good;
    }
