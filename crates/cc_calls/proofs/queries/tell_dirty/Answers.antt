-- There are rows exactly where a page is dirty, since they follow the past; so the reply is right and may be pushed.
use Rattle.std.specs.Prelude.{◌≡◌, ℕ, ◌-◌, ◌<◌, ◌≤◌, not, List, refl}
use Rattle.std.proofs.Common.{ap, sym, ◌∙◌, subst, arith}
use Rattle.cc_dirty.specs.declared.row.Row.{Row}
use Rattle.cc_entry.specs.declared.call.Call.TheVariants as call
use Rattle.cc_entry.specs.declared.query.Query.TheVariants as query
use Rattle.cc_entry.specs.declared.entry.Entry.{Entry}
use Rattle.cc_entry.specs.declared.reply.Outcome.TheVariants as outcome
use Rattle.cc_entry.specs.declared.reply.Reply.TheVariants as reply
use Rattle.cc_entry.specs.declared.query.Value.TheVariants as value
use Rattle.cc_journal.specs.Rows.{Follows}
use Rattle.cc_model.specs.Good.{IsGood}
use Rattle.cc_calls.proofs.Dirty.{dirty-rows, dirty-outcome}
use Rattle.cc_calls.proofs.Streamless.{ended-streamless, owed-there, pushed-streamless}
use Rattle.cc_calls.proofs.queries.tell_dirty.Goals as goal

pub push-requires-clause-may : goal.push-requires-clause-may
push-requires-clause-may g c =
    let u = c.requires.good.0 in
    let past = c.reserve.new.self.entries in
    let follows = subst (λ (rows : List Row). Follows past rows) (sym c.rows.ensures.rows) c.dirty.ensures.follows in
    let is = ap not c.is_empty-flag.ensures ∙ dirty-rows past c.rows.result.now follows c.rows.ensures.sound in
    let good = subst (λ (past : List Entry). IsGood u past) (sym (ap (λ x. x.entries) c.in_ok-reserve.ensures.reserved)) c.requires.good.1 in
    rw c.next_call-nth.ensures
    (pushed-streamless u past c.args.pass (call.Query query.IsDirtyData) (outcome.Done (reply.Value (value.Flag (not c.is_empty-flag.result)))) refl
    (dirty-outcome u past c.args.pass (not c.is_empty-flag.result) is) good)

pub release-requires : goal.release-requires
release-requires g c =
    within _ _ _ _ (owed-there c.args.pass c.args.journal.now c.reserve.new.self c.in_ok-reserve.ensures.reserved c.requires.owed) c.owed_end-owed.ensures (ap (λ j. j.reserved) c.push.ensures.placed)
  where
    within : (end reserved owed now : ℕ) → end < reserved → owed ≡ end → now ≡ reserved - 1 → owed ≤ now
    within end reserved owed now below is less = omega (arith, below, is, less)

pub returns : goal.returns
returns g c =
    let past = c.reserve.new.self.entries in
    let follows = subst (λ (rows : List Row). Follows past rows) (sym c.rows.ensures.rows) c.dirty.ensures.follows in
    let is = ap not c.is_empty-flag.ensures ∙ dirty-rows past c.rows.result.now follows c.rows.ensures.sound in
    ended-streamless c.args.pass c.next_call-nth.result c.owed_end-owed.result (call.Query query.IsDirtyData) (outcome.Done (reply.Value (value.Flag (not c.is_empty-flag.result))))
    c.args.journal.now c.reserve.new.self c.push.new.self c.release.new.self refl c.requires.owed c.in_ok-reserve.ensures.reserved c.next_call-nth.ensures
    c.owed_end-owed.ensures c.push.ensures.placed c.release.ensures
    (λ u logs. dirty-outcome u past c.args.pass (not c.is_empty-flag.result) is)
