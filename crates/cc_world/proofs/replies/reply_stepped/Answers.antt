-- With an absent page the call waits; without one its range is filled, so it is ready.
use Rattle.std.proofs.Common.{sym, ◌∙◌}
use Rattle.cc_world.proofs.CallReplies.{is-ready, its-admitted, replies, waits}
use Rattle.cc_world.proofs.replies.reply_stepped.Goals as goal

pub returns-in-Some : goal.returns-in-Some
returns-in-Some g c u pass un =
    let b = c.args.book.now in
    let j = c.args.journal.now in
    let it = c.args.call.now in
    waits u pass it b j c.requires.stepped un c.in-Some.field-0
    (sym (c.in_ok-absent.ensures u (u.opening b.stream) j.entries un.made.stands.stand.stands (its-admitted u pass it b j c.requires.stepped un)) ∙ c.in-Some.is)

pub returns-in_ok-reply-in-None : goal.returns-in_ok-reply-in-None
returns-in_ok-reply-in-None g c u pass un =
    let b = c.args.book.now in
    let j = c.args.journal.now in
    let it = c.args.call.now in
    let ready = is-ready u pass it b j c.requires.stepped un
    (sym (c.in_ok-absent.ensures u (u.opening b.stream) j.entries un.made.stands.stand.stands (its-admitted u pass it b j c.requires.stepped un)) ∙ c.in-None.is) in
    replies u pass it b j c.requires.stepped un c.in_ok-reply-in-None.field-0 ready
    (c.in_ok-reply-in-None.ensures u pass un.made.stands.stand un.filed ready)
