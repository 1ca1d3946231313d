-- Without a map the object is not open, so the read is refused; its entry may be pushed, and the owed place comes back.
use Rattle.std.specs.Prelude.{ℕ, ◌-◌, ◌<◌, ◌≤◌, ◌≡◌, false, List}
use Rattle.std.proofs.Common.{ap, sym, ◌∙◌, subst, arith}
use Rattle.cc_entry.specs.declared.entry.Entry.{Entry}
use Rattle.cc_model.specs.Good.{IsGood}
use Rattle.cc_model.specs.History.{history}
use Rattle.cc_model.specs.Reasons.{is_open}
use Rattle.cc_calls.proofs.AheadSteps.{unopened}
use Rattle.cc_calls.proofs.Streamless.{owed-there}
use Rattle.cc_async.proofs.Refused.{adds-refused, pushed-refused}
use Rattle.cc_async.proofs.copies.refuse_in.Goals as goal

pub push-requires-clause-may : goal.push-requires-clause-may
push-requires-clause-may g c =
    let u = c.requires.good.0 in
    let past = c.reserve.new.self.entries in
    let good = subst (λ (past : List Entry). IsGood u past) (sym (ap (λ x. x.entries) c.in-Ok.ensures.reserved)) c.requires.good.1 in
    let closed = unopened (history past c.args.read.file.stream) c.args.read.file (rw c.stream-stream.ensures at (sym c.is_mapped.ensures ∙ c.if-is_mapped.false)) in
    rw (c.next_call-nth.ensures, c.stream-stream.ensures) (pushed-refused u past c.args.pass c.args.read closed good)

pub release-requires-2 : goal.release-requires-2
release-requires-2 g c =
    within _ _ _ _ (owed-there c.args.pass c.args.journal.now c.reserve.new.self c.in-Ok.ensures.reserved c.requires.owed) c.owed_end-owed.ensures (ap (λ j. j.reserved) c.push.ensures.placed)
  where
    within : (end reserved owed now : ℕ) → end < reserved → owed ≡ end → now ≡ reserved - 1 → owed ≤ now
    within end reserved owed now below is less = omega (arith, below, is, less)

pub returns : goal.returns
returns g c =
    let past = c.reserve.new.self.entries in
    let closed = unopened (history past c.args.read.file.stream) c.args.read.file (rw c.stream-stream.ensures at (sym c.is_mapped.ensures ∙ c.if-is_mapped.false)) in (
      subst (λ (past : List Entry). is_open (history past c.args.read.file.stream) c.args.read.file ≡ false) (ap (λ x. x.entries) c.in-Ok.ensures.reserved) closed,
      adds-refused c.args.pass c.next_call-nth.result c.owed_end-owed.result c.args.read c.args.journal.now c.reserve.new.self c.push.new.self c.release-2.new.self c.requires.owed
          c.in-Ok.ensures.reserved c.next_call-nth.ensures c.owed_end-owed.ensures (rw c.stream-stream.ensures at c.push.ensures.placed) c.release-2.ensures,
    )
