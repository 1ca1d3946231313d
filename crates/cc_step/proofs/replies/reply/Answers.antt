-- By kinds of call: the bytes are there, since a ready call has its pages resident, and so has an open hold.
use Rattle.std.proofs.Common.{ap, inl, inr}
use Rattle.cc_entry.specs.Kinds.{is_map, is_pin, is_read_chain}
use Rattle.cc_entry.specs.declared.reply.Reply.TheVariants as reply
use Rattle.cc_own.proofs.HeldPages.{served-resident}
use Rattle.cc_step.proofs.Placed.{so-far}
use Rattle.cc_step.proofs.replies.reply.Goals as goal

-- a read from the file has its range filled; one through a hold has it resident, since the hold is open
pub returns-in_ok-read-in-CopyRead : goal.returns-in_ok-read-in-CopyRead
returns-in_ok-read-in-CopyRead g c u pass stand filed ready =
    let s = c.args.book.now.stream in
    let past = c.args.journal.now.entries in
    let at = c.in-CopyRead.at in
    let len = c.in-CopyRead.len in
    let good = so-far u past stand.good in
    let reads = c.in_ok-read-in-CopyRead.ensures (u.opening s) past stand.stands in
    elim c.in-CopyRead.is [
      | inl file ↦ rw file.2 (reads (rw file.2 at ready.filled))
      | inr (inl map) ↦ rw map.1 (reads (served-resident u pass s map.0 is_map at len past good (rw map.1 at filed)))
      | inr (inr (inl pin)) ↦ rw pin.1 (reads (served-resident u pass s pin.0 is_pin at len past good (rw pin.1 at filed)))
      | inr (inr (inr chain)) ↦ rw chain.1 (reads (served-resident u pass s chain.0 is_read_chain at len past good (rw chain.1 at filed)))
    ]

pub returns-in-Query : goal.returns-in-Query
returns-in-Query g c u pass stand filed ready =
    rw c.in-Query.is (c.reply_to.ensures u pass stand (rw c.in-Query.is at filed) (rw c.in-Query.is at ready))

pub returns-in-AskAhead : goal.returns-in-AskAhead
returns-in-AskAhead g c u pass stand filed ready =
    rw c.in-AskAhead.is (ap reply.Ahead (c.ahead_of.ensures (u.opening c.args.book.now.stream) c.args.journal.now.entries stand.stands))

pub returns-in_ok-is_whole-in-AheadStep : goal.returns-in_ok-is_whole-in-AheadStep
returns-in_ok-is_whole-in-AheadStep g c u pass stand filed ready =
    rw c.in-AheadStep.is (ap reply.Whole (c.in_ok-is_whole-in-AheadStep.ensures (u.opening c.args.book.now.stream) c.args.journal.now.entries stand.stands))
