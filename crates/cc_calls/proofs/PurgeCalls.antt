-- What a purge that was done leaves of its span, and what it leaves with the disk and the book given back.
use Rattle.std.specs.Prelude.{◌≡◌, ℕ, ◌==◌, Bool, true, false, List, ◌∷◌, ◌++◌, Result, Ok, Err, IfErr, OnOk, refl}
use Rattle.std.specs.declared.option.Option.{Option}
use Rattle.std.specs.List.{list_any}
use Rattle.std.proofs.Common.{ap, ◌∙◌, subst}
use Rattle.cc_entry.specs.Place.{File, Range}
use Rattle.cc_entry.specs.declared.call.Call.TheVariants as call
use Rattle.cc_entry.specs.declared.entry.Entry.{Entry}
use Rattle.cc_entry.specs.declared.entry.Entry.TheVariants as entry
use Rattle.cc_entry.specs.declared.error.CcError.{CcError}
use Rattle.cc_entry.specs.declared.reply.Outcome.TheVariants as outcome
use Rattle.cc_entry.specs.declared.reply.Reply.TheVariants as reply
use Rattle.cc_effects.specs.Calls.{CallLeft}
use Rattle.cc_laws.proofs.Lists1.{among-any}
use Rattle.cc_model.specs.Conditions.{IsReadyIn}
use Rattle.cc_model.specs.Good.{IsGood}
use Rattle.cc_model.specs.History.{history}
use Rattle.cc_model.specs.Ranges.{span_has}
use Rattle.cc_model.specs.Residency.{residents}
use Rattle.cc_model.specs.Setup.{Setup}
use Rattle.cc_ranges.specs.Purge.{PurgeCameSoFar, WasEmptiedAlone}
use Rattle.cc_turns.specs.Standing.{Standing}
use Rattle.cc_writes.specs.Calls.{IsFullWriting}
use Rattle.cc_writes.specs.Fetch.{WentOn}
use Rattle.cc_calls.specs.Answers.{outcome_of}
use Rattle.cc_calls.specs.Purges.{IsPurged, PurgeEnds}
use Rattle.cc_calls.proofs.Fronts.{may-stand}

-- a page of the span is not among those that are resident
none-of : (test : ℕ → Bool) (ns : List ℕ) → list_any test ns ≡ false → (p : ℕ) → test p ≡ true → list_any (λ n. n == p) ns ≡ false
none-of test ns none p passes = go (list_any (λ n. n == p) ns) refl
  where
    go : (b : Bool) → list_any (λ n. n == p) ns ≡ b → list_any (λ n. n == p) ns ≡ false
    go true among = absurd (cc (among-any test p ns among passes, none))
    go false away = away

module _ (u : Setup) (me : ℕ) (file : File) (span : Option Range) (old new : List Entry) (good : IsGood u new) (left : CallLeft u me (call.Purge file span) (outcome.Done reply.Unit) old new) where
  -- No page of its span was resident where it was done.
  pub purged : IsPurged me file span old new
  purged = record {
    nth = left.placed.nth;
    earlier = left.earlier;
    later = left.placed.later;
    grew = left.placed.grew ∙ ap (λ (stream : Option ℕ). left.placed.later ++ (entry.Call me left.placed.nth stream (call.Purge file span) (outcome.Done reply.Unit) ∷ (left.earlier ++ old))) left.placed.filed;
    quiet = left.placed.quiet;
    none = none-of (span_has span) (residents (history (left.earlier ++ old) file.stream)) ready;
  }
    where
      ready : list_any (span_has span) (residents (history (left.earlier ++ old) file.stream)) ≡ false
      ready =
          subst (λ (stream : Option ℕ). IsReadyIn (left.earlier ++ old) me stream (call.Purge file span)) left.placed.filed
          (may-stand u me left.placed.nth left.placed.stream (call.Purge file span) (outcome.Done reply.Unit) left.placed.later (left.earlier ++ old) new left.placed.grew good).may_end.1

-- what a purge leaves, where the rest is known of it
pub purge-ends : (w z : Standing) (file : File) (span : Option Range) (answer : Result (Unit {0}) CcError) → CallLeft w.setup w.number (call.Purge file span) (outcome_of answer) w.seen z.seen → IsFullWriting (call.Purge file span) z answer → WentOn w z → IsGood w.setup z.seen → OnOk answer (WasEmptiedAlone w.number file.stream w.seen z.seen) → IfErr answer (λ e. PurgeCameSoFar w.number file.stream w.seen z.seen) → PurgeEnds w z file span answer
purge-ends w z file span (Ok _) left full on good emptied failed = record {
  left = left;
  full = full;
  goes_on = on;
  good = good;
  purged = purged w.setup w.number file span w.seen z.seen good left;
  emptied = emptied;
  failed = tt;
}
purge-ends w z file span (Err e) left full on good emptied failed = record {
  left = left;
  full = full;
  goes_on = on;
  good = good;
  purged = tt;
  emptied = tt;
  failed = failed;
}
