-- There are places for the entry and for the owed end; the entry may be pushed, and the owed place comes back.
use Rattle.std.specs.Prelude.{ℕ, ◌-◌, ◌<◌, ◌≤◌, ◌≡◌}
use Rattle.std.proofs.Common.{ap, arith}
use Rattle.cc_entry.specs.declared.call.Call.TheVariants as call
use Rattle.cc_entry.specs.declared.query.Query.TheVariants as query
use Rattle.cc_calls.proofs.Streamless.{placed-streamless}
use Rattle.cc_calls.proofs.Tables.{pushed-table}
use Rattle.cc_calls.proofs.queries.place.Goals as goal

pub next_call-nth-requires : goal.next_call-nth-requires
next_call-nth-requires g c = some _ _ c.requires.reserved
  where
    some : (owed reserved : ℕ) → owed < reserved → 0 < reserved
    some owed reserved below = omega (arith, below)

pub push-requires-clause-reserved : goal.push-requires-clause-reserved
push-requires-clause-reserved g c = some _ _ c.requires.reserved
  where
    some : (owed reserved : ℕ) → owed < reserved → 0 < reserved
    some owed reserved below = omega (arith, below)

pub push-requires-clause-may : goal.push-requires-clause-may
push-requires-clause-may g c =
    rw c.next_call-nth.ensures
    (pushed-table c.requires.good.0 c.args.journal.now.entries c.args.pass c.args.handle c.args.outcome c.requires.good.1)

pub release-requires : goal.release-requires
release-requires g c = within _ _ _ _ c.requires.reserved c.owed_end-owed.ensures (ap (λ j. j.reserved) c.push.ensures.placed)
  where
    within : (end reserved owed now : ℕ) → end < reserved → owed ≡ end → now ≡ reserved - 1 → owed ≤ now
    within end reserved owed now below is less = omega (arith, below, is, less)

pub returns : goal.returns
returns g c =
    placed-streamless c.args.pass c.next_call-nth.result c.owed_end-owed.result (call.Query (query.DirtyPages c.args.handle)) c.args.outcome c.args.journal.now c.push.new.self c.release.new.self
    c.next_call-nth.ensures c.owed_end-owed.ensures c.push.ensures.placed c.release.ensures
