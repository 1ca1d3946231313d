-- The loop's invariant goes over one part of a page; at the end the parts are the bytes that the read answers.
use Rattle.std.specs.Prelude.{◌≡◌, ◌+◌, length, min}
use Rattle.std.proofs.Common.{ap, sym, ◌∙◌, subst, arith}
use Rattle.std.proofs.lemmas.List.{length-append}
use Rattle.std.proofs.lemmas.Result.{IfOk-weaker}
use Rattle.cc_entry.specs.declared.reply.Reply.TheVariants as reply
use Rattle.cc_model.specs.Bytes.{answer_length}
use Rattle.cc_model.specs.History.{history}
use Rattle.cc_model.specs.Ranges.{cut_range}
use Rattle.cc_model.specs.Replies.{Reads}
use Rattle.cc_model.specs.Touches.{size_of}
use Rattle.cc_book.specs.Read.{IsPartOf}
use Rattle.cc_book.proofs.ReadSteps.{end-of_read, resident-at, part-more, reads-part}
use Rattle.cc_book.proofs.book.Book.read.Goals as goal

pub loop-next-preserved : goal.loop-next-preserved
loop-next-preserved c =
    let front = c.loop-next.bytes.items in
    let part = c.part-part.result.now in
    let joined = c.in_ok-extend_from_slice.ensures.items in
    let long = ap length joined ∙ length-append front part in
    record {
      so_far = omega (arith, long, c.loop-next.invariant.so_far);
      within = omega (arith, long, c.loop-next.invariant.so_far, c.loop-next.invariant.within, c.part-part.ensures.long, c.loop-next-test.true);
      bytes = λ opening past stands resident.
          let h = history past c.args.self.now.stream in
          let end : c.min-end.result ≡ min (c.args.at + c.args.len) (size_of h) = end-of_read c.args.at c.args.len c.saturating_add.result c.size.result c.min-end.result (size_of h) c.saturating_add.ensures (omega arith) c.min-end.ensures (c.size.ensures opening past stands) in
          subst (IsPartOf opening h c.args.at) (sym joined)
          (part-more opening h c.args.at c.loop-next.next front part c.loop-next.invariant.so_far (c.loop-next.invariant.bytes opening past stands resident)
          (c.part-part.ensures.bytes opening past stands
          (resident-at h (cut_range (size_of h) c.args.at c.args.len) c.loop-next.next resident (omega (arith, c.loop-next.invariant.so_far)) (omega (arith, end, c.loop-next-test.true)))));
    }

pub returns : goal.returns
returns c =
    IfOk-weaker c.of.result _ _
    (λ bytes same opening past stands resident.
    let h = history past c.args.self.now.stream in
    let end : c.min-end.result ≡ min (c.args.at + c.args.len) (size_of h) = end-of_read c.args.at c.args.len c.saturating_add.result c.size.result c.min-end.result (size_of h) c.saturating_add.ensures (omega arith) c.min-end.ensures (c.size.ensures opening past stands) in
    let long : length c.loop-next.bytes.items ≡ answer_length h c.args.at c.args.len = omega (arith, end, c.loop-next.invariant.so_far, c.loop-next.invariant.within, c.loop-next-test.false) in
    subst (λ bs. Reads opening h c.args.at c.args.len (reply.Read bs)) (sym (same ∙ c.deref.ensures.value))
    (reads-part opening h c.args.at c.args.len c.loop-next.bytes.items long (c.loop-next.invariant.bytes opening past stands resident)))
    c.of.ensures
