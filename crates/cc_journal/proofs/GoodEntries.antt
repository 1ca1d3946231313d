-- An entry after which the journal is good so far may be pushed.
use Rattle.std.specs.Prelude.{◌≡◌, ℕ, ◌*◌, ◌^◌, ◌<◌, Bool, true, false, ◌==◌, List, ◌∷◌, if◌then◌else◌, refl}
use Rattle.std.specs.declared.option.Option.{Option}
use Rattle.std.specs.declared.option.Option.TheVariants.{Some, None}
use Rattle.std.proofs.Common.{arith, subst}
use Rattle.std.proofs.lemmas.Bool.{eqb-true, eq-eqb}
use Rattle.cc_entry.specs.declared.reply.Outcome.TheVariants as outcome
use Rattle.cc_entry.specs.declared.entry.Entry.{Entry}
use Rattle.cc_entry.specs.declared.entry.Entry.TheVariants as entry
use Rattle.cc_events.specs.Events.{event_of, event_of_act}
use Rattle.cc_model.specs.Setup.{Setup}
use Rattle.cc_model.specs.History.{Effect, Did, CameIn, WentOut, Began, Ended, Synced, history}
use Rattle.cc_model.specs.Acts.{Act, act_of, Opens, Closes, Resizes, Writes, Zeroes, Stores, Stamps, Discards, Looks}
use Rattle.cc_model.specs.Touches.{size_of, is_dirty}
use Rattle.cc_model.specs.Images.{Transfer, open_of}
use Rattle.cc_model.specs.Allowed.{MayStand, IsAllowedSoFar}
use Rattle.cc_model.specs.Good.{IsGoodSoFar}
use Rattle.cc_laws.proofs.DirtyPages.{IsWithinLimits-good}
use Rattle.cc_laws.proofs.SafeJournals.{good-safe}
use Rattle.cc_laws.proofs.SoundFacts.{size_of-good}
use Rattle.cc_journal.specs.Rows.{is_under_way, KeepsTransfers}
use Rattle.cc_journal.specs.Streams.{KeepsTransfersIn}
use Rattle.cc_journal.specs.Journal.{MayBePushed}
use Rattle.cc_journal.proofs.DirtyBelow.{dirty-below}

-- an effect on one stream keeps its transfers, where it does so there
keeps-if : (stream s : ℕ) (past : List Entry) (e : Effect)
    → KeepsTransfers (event_of (Some e)) (history past stream)
    → KeepsTransfers (event_of (if stream == s then Some e else None)) (history past s)
keeps-if stream s past e keeps = go (stream == s) refl
  where
    go : (t : Bool) → (stream == s) ≡ t
        → KeepsTransfers (event_of (if t then Some e else None)) (history past s)
    go true same =
        subst (λ n. KeepsTransfers (event_of (Some e)) (history past n)) (eqb-true stream s same) keeps
    go false other = tt

-- a done call begins and ends no transfer
keeps-act : (a : Act) (h : List Effect) → KeepsTransfers (event_of_act a) h
keeps-act (Opens file sizes quota temporary) h = tt
keeps-act (Closes file truncate) h = tt
keeps-act (Resizes allocation size) h = tt
keeps-act (Writes at bytes) h = tt
keeps-act (Zeroes from to) h = tt
keeps-act (Stores page bytes) h = tt
keeps-act (Stamps hold lsn) h = tt
keeps-act (Discards span) h = tt
keeps-act Looks h = tt

-- the page of the open transfer is under way
under_way-open : (o : Option Transfer) (pass p : ℕ)
    → o ≡ Some (record { pass = pass; page = p }) → is_under_way o p ≡ true
under_way-open None pass p is = absurd (cc)
under_way-open (Some transfer) pass p is =
    eq-eqb transfer.page p (same transfer (record { pass = pass; page = p }) is)
  where
    same : (t u : Transfer) → Some t ≡ Some u → t.page ≡ u.page
    same t u e = let whole : t ≡ u = cc in rw whole refl

-- an entry that may stand keeps one transfer of each stream at a time
keeps-stands : (u : Setup) (past : List Entry) (e : Entry) → MayStand u past e → KeepsTransfersIn past e
keeps-stands u past (entry.Call pass nth (Some stream) call (outcome.Done reply)) stands s =
    keeps-if stream s past (Did pass call reply) (keeps-act (act_of call) (history past stream))
keeps-stands u past (entry.Call pass nth (Some stream) call (outcome.Failed error)) stands s = tt
keeps-stands u past (entry.Call pass nth None call ended) stands s = tt
keeps-stands u past (entry.PageIn pass page from_disk) stands s =
    keeps-if page.stream s past (CameIn pass page.page from_disk) tt
keeps-stands u past (entry.PageOut pass page) stands s =
    keeps-if page.stream s past (WentOut pass page.page) tt
keeps-stands u past (entry.FillFailed pass page) stands s = tt
keeps-stands u past (entry.WriteBegin pass page) stands s =
    keeps-if page.stream s past (Began pass page.page) stands.no_transfer
keeps-stands u past (entry.WriteEnd pass page how) stands s =
    let open_before = under_way-open (open_of (history past page.stream)) pass page.page stands in
    keeps-if page.stream s past (Ended pass page.page how) open_before
keeps-stands u past (entry.Sync pass stream how) stands s = keeps-if stream s past (Synced pass how) tt
keeps-stands u past (entry.Append pass handle lsn bytes) stands s = tt
keeps-stands u past (entry.Flushed pass handle to) stands s = tt
keeps-stands u past (entry.LogFailed pass handle) stands s = tt
keeps-stands u past (entry.Defer pass id file pages retrying) stands s = tt
keeps-stands u past (entry.Posted id) stands s = tt
keeps-stands u past (entry.Scan pass picked) stands s = tt
keeps-stands u past (entry.Record pass stream size valid how) stands s = tt
keeps-stands u past (entry.RecordFailed pass stream) stands s = tt
keeps-stands u past (entry.Locked pass file span exclusive granted id) stands s = tt
keeps-stands u past (entry.Unlocked pass file id gone) stands s = tt
keeps-stands u past (entry.Tested pass file span write conflict) stands s = tt

keeps-allowed : (u : Setup) (past : List Entry) (e : Entry)
    → IsAllowedSoFar u (e ∷ past) → KeepsTransfersIn past e
unfolding IsAllowedSoFar
keeps-allowed u past e allowed = keeps-stands u past e allowed.1

-- each dirty page of a good journal has a number
numbered-good : (u : Setup) (past : List Entry) (s p : ℕ)
    → IsGoodSoFar u past → is_dirty (history past s) p ≡ true → p < 2 ^ 51
numbered-good u past s p good dirty =
    let below = dirty-below (history past s) p (good-safe u past s good) dirty in
    number (size_of (history past s)) below (size_of-good u past s good)
  where
    number : (size : ℕ) → 4096 * p < size → size < 2 ^ 63 → p < 2 ^ 51
    number size below most = omega arith

pub MayBePushed-good : (u : Setup) (past : List Entry) (e : Entry)
    → IsGoodSoFar u (e ∷ past) → MayBePushed past e
MayBePushed-good u past e good = record {
  transfers = keeps-allowed u past e good.allowed;
  numbered = λ s p dirty. numbered-good u (e ∷ past) s p good dirty;
  few = (IsWithinLimits-good u (e ∷ past) good).dirty;
}
