-- The action may make its call, and what that left, in the journal and at the queues, ends the line.
use Rattle.std.proofs.Common.{◌∙◌, ap, subst}
use Rattle.cc_pieces.specs.AsyncQueue.{CompletionPlaced, ReadPlaced}
use Rattle.cc_pieces.specs.Queue.{AskPlaced}
use Rattle.cc_lines.specs.Holds.{NamesState}
use Rattle.cc_lines.specs.Line.{StepAt}
use Rattle.cc_lines.specs.Queues.{copies_of, hand_of}
use Rattle.cc_lines.specs.declared.queues.Queues.{Queues}
use Rattle.cc_lines.proofs.AheadLines.{any-as, ask-line, not-async, not-queue, other-line, step-line}
use Rattle.cc_lines.proofs.AsyncLines.{complete-line, start-line}
use Rattle.cc_lines.proofs.ServeLines.{can-as, may-free, may-on}
use Rattle.cc_lines.proofs.line.serve_any.Goals as goal

pub ask_ahead-requires-clause-can : goal.ask_ahead-requires-clause-can
ask_ahead-requires-clause-can g c = may-on (g.T.Turns.standing c.args.turns.now) _ c.args.names.now c.in-AskAhead.file.stream c.requires.can (can-as (g.T.Turns.standing c.args.turns.now) _ _ c.args.names.now c.in-AskAhead.is c.requires.can).servable

pub ask_ahead-requires-clause-own : goal.ask_ahead-requires-clause-own
ask_ahead-requires-clause-own g c = ap (λ (n : NamesState). n.places.ahead.queue) c.names.view_is ∙ ap (λ (q : Queues). q.ahead) c.requires.own

pub returns-in-AskAhead : goal.returns-in-AskAhead
returns-in-AskAhead g c =
    let view = c.names.view_is in
    let left = c.ask_ahead.new.place in
    any-as _ _ _ _ _ _ _ c.in-AskAhead.is
    (ask-line _ _ _ c.args.names.now _ c.ask_ahead.ensures.full c.ask_ahead.ensures.goes_on (c.ask_ahead.ensures.good c.requires.can.good)
    (ap (λ (n : NamesState). record n { places = record n.places { ahead = left } }) view) c.in-AskAhead.file c.in-AskAhead.at c.in-AskAhead.len c.ask_ahead.ensures.answered
    (subst (λ (n : NamesState). AskPlaced c.ask_ahead.result (hand_of n.places.ahead) (hand_of left)) view c.ask_ahead.ensures.asked)
    (c.ask_ahead.ensures.queue ∙ ap (λ (n : NamesState). n.places.ahead.queue) view))

pub serve_step-requires-clause-free : goal.serve_step-requires-clause-free
serve_step-requires-clause-free g c = may-free (g.T.Turns.standing c.args.turns.now) _ c.args.names.now c.requires.can

pub serve_step-requires-clause-own : goal.serve_step-requires-clause-own
serve_step-requires-clause-own g c = ap (λ (n : NamesState). n.places.ahead.queue) c.names-in-AheadStep.view_is ∙ ap (λ (q : Queues). q.ahead) c.requires.own

pub returns-in-AheadStep : goal.returns-in-AheadStep
returns-in-AheadStep g c =
    let view = c.names-in-AheadStep.view_is in
    let left = c.serve_step.new.place in
    let at = g.T.Turns.standing in
    any-as _ _ _ _ _ _ _ c.in-AheadStep.is
    (step-line _ _ _ c.args.names.now _ c.serve_step.ensures.full c.serve_step.ensures.goes_on (c.serve_step.ensures.good c.requires.can.good)
    (ap (λ (n : NamesState). record n { places = record n.places { ahead = left } }) view)
    (subst (λ (n : NamesState). StepAt (at c.args.turns.now) (at c.serve_step.new.turns) c.serve_step.result n.places.ahead left) view c.serve_step.ensures.stepped))

pub start_read-requires-clause-can : goal.start_read-requires-clause-can
start_read-requires-clause-can g c = may-on (g.T.Turns.standing c.args.turns.now) _ c.args.names.now c.in-AsyncRead.file.stream c.requires.can (can-as (g.T.Turns.standing c.args.turns.now) _ _ c.args.names.now c.in-AsyncRead.is c.requires.can).servable

pub start_read-requires-clause-own : goal.start_read-requires-clause-own
start_read-requires-clause-own g c = ap (λ (n : NamesState). n.places.copies.queue) c.names-in-AsyncRead.view_is ∙ ap (λ (q : Queues). q.copies) c.requires.own

pub returns-in-AsyncRead : goal.returns-in-AsyncRead
returns-in-AsyncRead g c =
    let view = c.names-in-AsyncRead.view_is in
    let left = c.start_read.new.place in
    let me = (g.T.Turns.standing c.args.turns.now).number in
    any-as _ _ _ _ _ _ _ c.in-AsyncRead.is
    (start-line _ _ _ c.args.names.now _ c.start_read.ensures.full c.start_read.ensures.goes_on (c.start_read.ensures.good c.requires.can.good)
    (ap (λ (n : NamesState). record n { places = record n.places { copies = left } }) view) c.in-AsyncRead.file c.in-AsyncRead.at c.in-AsyncRead.len c.start_read.ensures.answered
    (subst (λ (n : NamesState). ReadPlaced me c.in-AsyncRead.file c.in-AsyncRead.at c.in-AsyncRead.len c.start_read.result (copies_of n.places.copies) (copies_of left)) view c.start_read.ensures.started)
    (c.start_read.ensures.queue ∙ ap (λ (n : NamesState). n.places.copies.queue) view))

pub complete_read-requires-clause-free : goal.complete_read-requires-clause-free
complete_read-requires-clause-free g c = may-free (g.T.Turns.standing c.args.turns.now) _ c.args.names.now c.requires.can

pub complete_read-requires-clause-own : goal.complete_read-requires-clause-own
complete_read-requires-clause-own g c = ap (λ (n : NamesState). n.places.copies.queue) c.names-in-Complete.view_is ∙ ap (λ (q : Queues). q.copies) c.requires.own

pub returns-in-Complete : goal.returns-in-Complete
returns-in-Complete g c =
    let view = c.names-in-Complete.view_is in
    let left = c.complete_read.new.place in
    any-as _ _ _ _ _ _ _ c.in-Complete.is
    (complete-line _ _ _ c.args.names.now _ c.complete_read.ensures.full c.complete_read.ensures.goes_on (c.complete_read.ensures.good c.requires.can.good)
    (ap (λ (n : NamesState). record n { places = record n.places { copies = left } }) view) c.complete_read.ensures.answered
    (subst (λ (n : NamesState). CompletionPlaced c.complete_read.result (copies_of n.places.copies) (copies_of left)) view c.complete_read.ensures.completed)
    (c.complete_read.ensures.queue ∙ ap (λ (n : NamesState). n.places.copies.queue) view))

pub serve-requires-clause-plain : goal.serve-requires-clause-plain
serve-requires-clause-plain g c = not-queue _ c.in_default.not-AskAhead c.in_default.not-AheadStep

pub serve-requires-clause-apart : goal.serve-requires-clause-apart
serve-requires-clause-apart g c = not-async _ c.in_default.not-AsyncRead c.in_default.not-Complete

pub returns-in_default : goal.returns-in_default
returns-in_default g c =
    other-line _ _ _ _ _ _ c.requires.can (not-queue _ c.in_default.not-AskAhead c.in_default.not-AheadStep) (not-async _ c.in_default.not-AsyncRead c.in_default.not-Complete)
    c.serve.ensures
