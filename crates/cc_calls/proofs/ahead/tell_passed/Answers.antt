-- Without a map the object is not open, so the step brings nothing in; its entry may be pushed, and the owed place comes back.
use Rattle.std.specs.Prelude.{ℕ, ◌-◌, ◌<◌, ◌≤◌, ◌≡◌, false, List, refl}
use Rattle.std.proofs.Common.{ap, sym, ◌∙◌, subst, arith}
use Rattle.cc_entry.specs.declared.entry.Entry.{Entry}
use Rattle.cc_model.specs.Good.{IsGood}
use Rattle.cc_model.specs.History.{history}
use Rattle.cc_model.specs.Reasons.{is_open}
use Rattle.cc_calls.proofs.AheadSteps.{adds-passed, pushed-passed, unopened}
use Rattle.cc_calls.proofs.Streamless.{owed-there}
use Rattle.cc_calls.proofs.ahead.tell_passed.Goals as goal

pub push-requires-clause-may : goal.push-requires-clause-may
push-requires-clause-may g c =
    let u = c.requires.good.0 in
    let past = c.reserve.new.self.entries in
    let good = subst (λ (past : List Entry). IsGood u past) (sym (ap (λ x. x.entries) c.in_ok-reserve.ensures.reserved)) c.requires.good.1 in
    let closed = unopened (history past c.args.request.file.stream) c.args.request.file (rw c.stream-stream.ensures at (sym c.is_mapped.ensures ∙ c.if-is_mapped.false)) in
    rw (c.next_call-nth.ensures, c.stream-stream.ensures) (pushed-passed u past c.args.pass c.args.request closed good)

pub release-requires-2 : goal.release-requires-2
release-requires-2 g c =
    within _ _ _ _ (owed-there c.args.pass c.args.journal.now c.reserve.new.self c.in_ok-reserve.ensures.reserved c.requires.owed) c.owed_end-owed.ensures (ap (λ j. j.reserved) c.push.ensures.placed)
  where
    within : (end reserved owed now : ℕ) → end < reserved → owed ≡ end → now ≡ reserved - 1 → owed ≤ now
    within end reserved owed now below is less = omega (arith, below, is, less)

pub returns : goal.returns
returns g c =
    let u = c.requires.good.0 in
    let past = c.reserve.new.self.entries in
    let closed = unopened (history past c.args.request.file.stream) c.args.request.file (rw c.stream-stream.ensures at (sym c.is_mapped.ensures ∙ c.if-is_mapped.false)) in
    let below = subst (λ (n : ℕ). n < 16) (c.number-number.ensures.same ∙ c.stream-stream.ensures) c.number-number.ensures.in_range in (
      refl,
      subst (λ (past : List Entry). is_open (history past c.args.request.file.stream) c.args.request.file ≡ false) (ap (λ x. x.entries) c.in_ok-reserve.ensures.reserved) closed,
      adds-passed u c.args.pass c.next_call-nth.result c.owed_end-owed.result c.args.request c.args.journal.now c.reserve.new.self c.push.new.self c.release-2.new.self below c.requires.good.1 c.requires.owed
          c.in_ok-reserve.ensures.reserved c.next_call-nth.ensures c.owed_end-owed.ensures (rw c.stream-stream.ensures at c.push.ensures.placed) c.release-2.ensures,
    )
