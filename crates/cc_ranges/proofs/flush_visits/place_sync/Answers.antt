-- One visit: the entry of the sync uses the reserved place and keeps the journal good, which is given with it.
use Rattle.std.proofs.Common.{ap, sym, ◌∙◌, subst, arith}
use Rattle.cc_entry.specs.declared.entry.Entry.TheVariants as entry
use Rattle.cc_model.specs.Good.{IsGood}
use Rattle.cc_turns.specs.Standing.{Standing}
use Rattle.cc_writes.specs.Hands.{WentWith}
use Rattle.cc_writes.specs.Visits.{HasPlaced}
use Rattle.cc_writes.proofs.Visiting.{few-left}
use Rattle.cc_writes.proofs.OneVisit.{visiting}
use Rattle.cc_ranges.proofs.Placing.{sync-pushed, sync-reserved, sync-placed, sync-given}
use Rattle.cc_ranges.proofs.flush_visits.place_sync.Goals as goal

pub push-requires-clause-reserved : goal.push-requires-clause-reserved
push-requires-clause-reserved g c =
    let w = g.T.Turns.standing c.args.turns.now in
    let v = g.T.Turns.standing c.take_journal-journal.new.self in
    let posted = g.T.Post.PostRoutine.posted in
    let j = c.take_journal-journal.result in
    let vis = visiting posted w v j c.take_journal-journal.ensures.took c.take_journal-journal.ensures.stands in
    let me = c.me-pass.ensures ∙ ap (λ (y : Standing). y.number) c.take_journal-journal.ensures.took.same in
    sync-reserved posted w v c.args.stream c.args.how j c.requires.device c.requires.rest c.requires.reserved vis c.me-pass.result me

pub push-requires-clause-may : goal.push-requires-clause-may
push-requires-clause-may g c =
    let w = g.T.Turns.standing c.args.turns.now in
    let v = g.T.Turns.standing c.take_journal-journal.new.self in
    let posted = g.T.Post.PostRoutine.posted in
    let j = c.take_journal-journal.result in
    let vis = visiting posted w v j c.take_journal-journal.ensures.took c.take_journal-journal.ensures.stands in
    let me = c.me-pass.ensures ∙ ap (λ (y : Standing). y.number) c.take_journal-journal.ensures.took.same in
    sync-pushed posted w v c.args.stream c.args.how j c.requires.device c.requires.rest c.requires.reserved vis c.me-pass.result me

pub give_journal-requires-clause-adds : goal.give_journal-requires-clause-adds
give_journal-requires-clause-adds g c =
    let w = g.T.Turns.standing c.args.turns.now in
    let v = g.T.Turns.standing c.take_journal-journal.new.self in
    let posted = g.T.Post.PostRoutine.posted in
    let j = c.take_journal-journal.result in
    let vis = visiting posted w v j c.take_journal-journal.ensures.took c.take_journal-journal.ensures.stands in
    let me = c.me-pass.ensures ∙ ap (λ (y : Standing). y.number) c.take_journal-journal.ensures.took.same in
    let given = sync-given posted w v c.args.stream c.args.how j c.requires.device c.requires.rest c.requires.reserved vis c.me-pass.result me c.push.new.self c.push.ensures.placed in
    given.adds

pub give_journal-requires-clause-stands : goal.give_journal-requires-clause-stands
give_journal-requires-clause-stands g c =
    let w = g.T.Turns.standing c.args.turns.now in
    let v = g.T.Turns.standing c.take_journal-journal.new.self in
    let posted = g.T.Post.PostRoutine.posted in
    let j = c.take_journal-journal.result in
    let vis = visiting posted w v j c.take_journal-journal.ensures.took c.take_journal-journal.ensures.stands in
    let me = c.me-pass.ensures ∙ ap (λ (y : Standing). y.number) c.take_journal-journal.ensures.took.same in
    let given = sync-given posted w v c.args.stream c.args.how j c.requires.device c.requires.rest c.requires.reserved vis c.me-pass.result me c.push.new.self c.push.ensures.placed in
    given.journal

pub give_journal-requires-clause-few : goal.give_journal-requires-clause-few
give_journal-requires-clause-few g c =
    let w = g.T.Turns.standing c.args.turns.now in
    let v = g.T.Turns.standing c.take_journal-journal.new.self in
    let posted = g.T.Post.PostRoutine.posted in
    let j = c.take_journal-journal.result in
    let vis = visiting posted w v j c.take_journal-journal.ensures.took c.take_journal-journal.ensures.stands in
    let me = c.me-pass.ensures ∙ ap (λ (y : Standing). y.number) c.take_journal-journal.ensures.took.same in
    let given = sync-given posted w v c.args.stream c.args.how j c.requires.device c.requires.rest c.requires.reserved vis c.me-pass.result me c.push.new.self c.push.ensures.placed in
    few-left 0 given.went (omega arith)

pub returns-clause-good : goal.returns-clause-good
returns-clause-good g c =
    let w = g.T.Turns.standing c.args.turns.now in
    let v = g.T.Turns.standing c.take_journal-journal.new.self in
    let posted = g.T.Post.PostRoutine.posted in
    let j = c.take_journal-journal.result in
    let vis = visiting posted w v j c.take_journal-journal.ensures.took c.take_journal-journal.ensures.stands in
    let me = c.me-pass.ensures ∙ ap (λ (y : Standing). y.number) c.take_journal-journal.ensures.took.same in
    let given = sync-given posted w v c.args.stream c.args.how j c.requires.device c.requires.rest c.requires.reserved vis c.me-pass.result me c.push.new.self c.push.ensures.placed in
    subst (λ (x : Standing). IsGood x.setup x.seen) (sym c.give_journal.ensures) given.good

pub returns-clause-went : goal.returns-clause-went
returns-clause-went g c =
    let w = g.T.Turns.standing c.args.turns.now in
    let v = g.T.Turns.standing c.take_journal-journal.new.self in
    let posted = g.T.Post.PostRoutine.posted in
    let j = c.take_journal-journal.result in
    let vis = visiting posted w v j c.take_journal-journal.ensures.took c.take_journal-journal.ensures.stands in
    let me = c.me-pass.ensures ∙ ap (λ (y : Standing). y.number) c.take_journal-journal.ensures.took.same in
    let given = sync-given posted w v c.args.stream c.args.how j c.requires.device c.requires.rest c.requires.reserved vis c.me-pass.result me c.push.new.self c.push.ensures.placed in
    subst (λ (x : Standing). WentWith 0 w x) (sym c.give_journal.ensures) given.went

pub returns-clause-placed : goal.returns-clause-placed
returns-clause-placed g c =
    let w = g.T.Turns.standing c.args.turns.now in
    let v = g.T.Turns.standing c.take_journal-journal.new.self in
    let posted = g.T.Post.PostRoutine.posted in
    let j = c.take_journal-journal.result in
    let vis = visiting posted w v j c.take_journal-journal.ensures.took c.take_journal-journal.ensures.stands in
    let me = c.me-pass.ensures ∙ ap (λ (y : Standing). y.number) c.take_journal-journal.ensures.took.same in
    subst (λ (x : Standing). HasPlaced w (entry.Sync w.number c.args.stream c.args.how) x.seen) (sym c.give_journal.ensures)
    (sync-placed posted w v c.args.stream c.args.how j c.requires.device c.requires.rest c.requires.reserved vis c.me-pass.result me c.push.new.self c.push.ensures.placed)
