-- What may be done may still be done over owned pages; the images may follow last, and all that is kept stands after.
use Rattle.std.proofs.Common.{◌∷◌, ap, subst, ◌∙◌, refl}
use Rattle.cc_journal.proofs.GoodEntries.{MayBePushed-good}
use Rattle.cc_model.specs.History.{Did, history}
use Rattle.cc_book.specs.Book.{StandsFor}
use Rattle.cc_book.proofs.DoneSteps.{stands-called}
use Rattle.cc_book.proofs.ImageSteps.{images-may}
use Rattle.cc_book.proofs.OwnedSteps.{may-still}
use Rattle.cc_book.proofs.book.Book.done.Goals as goal

pub own-requires : goal.own-requires
own-requires g c =
    record { may = (c.args.reply, (_, record { u = c.requires.may.0; past = c.args.journal.now.entries; pass = c.args.pass; may = c.requires.may.1; mapped_is = refl })) }

pub follow-requires-clause-may : goal.follow-requires-clause-may
follow-requires-clause-may g c =
    let u = c.requires.may.0 in
    let may = may-still c.args.self.now c.own.new.self c.own.ensures.stands u c.args.journal.now.entries c.args.pass c.args.call c.args.reply c.requires.may.1 in
    record { u = u; past = c.args.journal.now.entries; pass = c.args.pass; may = may; mapped_is = c.is_mapped_after-mapped.ensures u c.args.pass c.args.reply may }

pub follow_images-requires : goal.follow_images-requires
follow_images-requires g c =
    let u = c.requires.may.0 in
    let past = c.args.journal.now.entries in
    let may = may-still c.args.self.now c.own.new.self c.own.ensures.stands u past c.args.pass c.args.call c.args.reply c.requires.may.1 in
    let stands = c.in_ok-follow.ensures.stands u past may (c.is_mapped_after-mapped.ensures u c.args.pass c.args.reply may) in
    record {
      may = record {
        u = u;
        past = past;
        pass = c.args.pass;
        call = c.args.call;
        reply = c.args.reply;
        may = images-may u past c.args.pass c.args.call c.args.reply _ c.valid-was.result c.own.new.self c.follow.new.self may c.in_ok-follow.ensures.stream c.in_ok-follow.ensures.images stands
            (c.in_ok-room.ensures.room _ _ may.stands.contents_are) (c.valid-was.ensures _ past may.stands);
      };
    }

pub push-requires-clause-may : goal.push-requires-clause-may
push-requires-clause-may g c =
    let stream = ap (λ b. b.stream) c.self.view_is ∙ ap (λ b. b.stream) c.follow_images.ensures.same ∙ c.in_ok-follow.ensures.stream ∙ c.own.ensures.stands.stream in
    rw (c.next_call.ensures, stream) (MayBePushed-good c.requires.may.0 c.args.journal.now.entries _ c.requires.may.1.good)

pub returns-clause-stands : goal.returns-clause-stands
returns-clause-stands g c u given =
    let past = c.args.journal.now.entries in
    let stream = ap (λ b. b.stream) c.self.view_is ∙ ap (λ b. b.stream) c.follow_images.ensures.same ∙ c.in_ok-follow.ensures.stream ∙ c.own.ensures.stands.stream in
    let grown = ap (λ j. j.entries) c.push.ensures.placed in
    let may = may-still c.args.self.now c.own.new.self c.own.ensures.stands u past c.args.pass c.args.call c.args.reply given in
    let stands = c.in_ok-follow.ensures.stands u past may (c.is_mapped_after-mapped.ensures u c.args.pass c.args.reply may) in
    let images = c.follow_images.ensures.stands u past c.args.pass c.args.call c.args.reply
    (images-may u past c.args.pass c.args.call c.args.reply _ c.valid-was.result c.own.new.self c.follow.new.self may c.in_ok-follow.ensures.stream c.in_ok-follow.ensures.images stands
    (c.in_ok-room.ensures.room _ _ may.stands.contents_are) (c.valid-was.ensures _ past may.stands)) in
    rw (grown, c.next_call.ensures, stream)
    (stands-called (u.opening c.args.self.now.stream) past c.args.pass c.args.self.now.stream c.args.call c.args.reply c.follow.new.self c.follow_images.new.self c.follow_images.ensures.same (c.in_ok-follow.ensures.stream ∙ c.own.ensures.stands.stream)
    (subst (λ s. StandsFor (u.opening s) (Did c.args.pass c.args.call c.args.reply ∷ history past s) c.follow.new.self) c.own.ensures.stands.stream stands) images)
