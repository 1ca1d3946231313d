-- A purge may be done where no page of its span is resident; a call of none of the other kinds is stepped.
use Rattle.std.proofs.Common.{ℕ, ap, sym, subst, ◌∙◌}
use Rattle.std.specs.Prelude.{Option}
use Rattle.cc_entry.specs.declared.call.Call.{Call}
use Rattle.cc_entry.specs.declared.call.Call.TheVariants as call
use Rattle.cc_entry.specs.declared.reply.Reply.{Reply}
use Rattle.cc_world.specs.Calls.{IsCallAnswer}
use Rattle.cc_model.specs.Conditions.{MayFinish}
use Rattle.cc_model.specs.Flushed.{is_flushed}
use Rattle.cc_world.proofs.CallReplies.{finish-answer, flush-answer, purge-answer, stepped-else}
use Rattle.cc_world.specs.Pages.{Says}
use Rattle.cc_world.proofs.replies.reply_now.Goals as goal

pub reply_stepped-requires : goal.reply_stepped-requires
reply_stepped-requires g c = record {
  stepped = stepped-else c.args.call.now c.requires.on_book c.in_default.not-NcWrite c.in_default.not-Flush c.in_default.not-Purge c.in_default.not-Discard;
}

pub returns-in-Purge : goal.returns-in-Purge
returns-in-Purge g c u un =
    let past = c.args.journal.now.entries in
    let s = c.args.book.now.stream in
    subst (λ (it : Call). IsCallAnswer u past c.args.pass s it c.unit_if-in-Purge.result) (sym c.in-Purge.is)
    (subst (λ (o : Option Reply). IsCallAnswer u past c.args.pass s (call.Purge c.in-Purge.file c.in-Purge.span) o) (sym c.unit_if-in-Purge.ensures)
    (purge-answer u past c.args.pass s c.in-Purge.file c.in-Purge.span c.has_resident.result
    (c.has_resident.ensures (u.opening s) past un.made.stands.stand.stands c.requires.notes.blocks)))

-- A flush may be done as the syncs of its pass tell it.
pub returns-in-Flush : goal.returns-in-Flush
returns-in-Flush g c u un =
    let past = c.args.journal.now.entries in
    let s = c.args.book.now.stream in
    subst (λ (it : Call). IsCallAnswer u past c.args.pass s it c.unit_if.result) (sym c.in-Flush.is)
    (subst (λ (o : Option Reply). IsCallAnswer u past c.args.pass s (call.Flush c.in-Flush.file c.in-Flush.span) o) (sym c.unit_if.ensures)
    (flush-answer u past c.args.pass s c.in-Flush.file c.in-Flush.span c.is_flushed-flushed.result
    (c.is_flushed-flushed.ensures past c.requires.notes.syncs ∙ ap (λ (n : ℕ). is_flushed past c.args.pass n c.in-Flush.span) c.stream.ensures)))

-- The end of a noncached write may be done as the pass's row tells it.
pub returns-in-NcWrite : goal.returns-in-NcWrite
returns-in-NcWrite g c u un =
    let past = c.args.journal.now.entries in
    let s = c.args.book.now.stream in
    subst (λ (it : Call). IsCallAnswer u past c.args.pass s it c.unit_if-in-NcWrite.result) (sym c.in-NcWrite.is)
    (subst (λ (o : Option Reply). IsCallAnswer u past c.args.pass s (call.NcWrite c.in-NcWrite.file c.in-NcWrite.page) o) (sym c.unit_if-in-NcWrite.ensures)
    (finish-answer u past c.args.pass s c.in-NcWrite.file c.in-NcWrite.page c.may_finish.result
    (subst (λ (n : ℕ). Says c.may_finish.result (MayFinish past c.args.pass n c.in-NcWrite.page)) c.stream-in-NcWrite.ensures (c.may_finish.ensures past c.requires.notes.passes))))
