-- The place serves the entry; what is given back is what the entry no longer owes.
use Rattle.std.specs.Prelude.{◌≡◌, ℕ, ◌≤◌, Option, List, ◌∷◌}
use Rattle.std.proofs.Common.{ap, subst, arith}
use Rattle.cc_entry.specs.declared.entry.Entry.{Entry}
use Rattle.cc_entry.specs.declared.entry.Entry.TheVariants as entry
use Rattle.cc_journal.specs.Journal.{MayBePushed}
use Rattle.cc_journal.proofs.GoodEntries.{MayBePushed-good}
use Rattle.cc_step.proofs.Reserved.{owed-least}
use Rattle.cc_effects.specs.Events.{call_entry}
use Rattle.cc_world.proofs.JournalEvents.{went-unfiled}
use Rattle.cc_world.proofs.Placing.{so-far}
use Rattle.cc_world.proofs.Unfiled.{unfiled-under}
use Rattle.cc_world.proofs.journal.place.Goals as goal

pub push-requires-clause-may : goal.push-requires-clause-may
push-requires-clause-may g c =
    let past : List Entry = c.args.journal.now.entries in
    let u = c.requires.good.0 in
    let may : MayBePushed past (call_entry past c.args.pass c.args.call c.args.outcome) =
    MayBePushed-good u past (call_entry past c.args.pass c.args.call c.args.outcome) (so-far u (call_entry past c.args.pass c.args.call c.args.outcome ∷ past) c.requires.good.1) in
    subst (λ (s : Option ℕ). MayBePushed past (entry.Call c.args.pass c.next_call-nth.result s c.args.call c.args.outcome)) (unfiled-under past c.args.call c.requires.unfiled)
    (rw c.next_call-nth.ensures may)

pub release-requires : goal.release-requires
release-requires g c =
    within _ _ _ _ _ c.owed_end-owed.ensures (owed-least c.args.journal.now.entries c.args.pass) c.requires.reserved.standing.1.reserved (ap (λ j. j.reserved) c.push.ensures.placed)
  where
    within : (owed end before less now : ℕ) → owed ≡ end → end ≤ before → less ≡ before → now ≡ less → owed ≤ now
    within owed end before less now is least was same = omega (arith, is, least, was, same)

pub returns-clause-went : goal.returns-clause-went
returns-clause-went g c u stand good =
    went-unfiled g.Q.PostRoutine.posted u c.args.pass c.next_call-nth.result c.owed_end-owed.result c.args.call c.args.outcome c.args.journal.now c.push.new.self c.release.new.self
    c.requires.unfiled c.next_call-nth.ensures c.owed_end-owed.ensures c.push.ensures.placed c.release.ensures stand good
