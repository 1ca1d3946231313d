-- The restarts of a script over what was handed in.
use Rattle.std.specs.Prelude.{◌≡◌, ℕ, ◌^◌, ◌<◌, ◌≤◌, ◌⊎◌, List, [], ◌∷◌, ◌++◌, Contains, slice_get, Result, Ok, Err, refl}
use Rattle.std.specs.List.{AllByRecursion}
use Rattle.std.specs.declared.option.Option.{Option}
use Rattle.std.specs.declared.option.Option.TheVariants.{Some}
use Rattle.std.proofs.Common.{ap, append-nil, sym, subst, ◌∙◌, arith, inl, inr}
use Rattle.std.proofs.lemmas.List.Elements.{Contains-push}
use Rattle.std.proofs.lemmas.Option.{same_Some}
use Rattle.cc_entry.specs.declared.error.CcError.{CcError}
use Rattle.cc_format.specs.Spelling.{IsReadAs}
use Rattle.cc_format.specs.declared.record.StreamRecord.{StreamRecord}
use Rattle.cc_redo.specs.Disks.{IsBetween, DiskIsMade, record_number}
use Rattle.cc_redo.specs.Ends.{made_by_log}
use Rattle.cc_redo.specs.Heard.{last_lsn_of, readings}
use Rattle.cc_restart_laws.proofs.Logs.{among-all, among-right}
use Rattle.cc_restart_laws.proofs.Redoing.{IsAmong}
use Rattle.cc_restart_laws.specs.Stops.{LogKeeps}
use Rattle.cc_restarts.proofs.Kept.{one-tells}
use Rattle.cc_restarts.specs.Given.{AreRestartSizes}
use Rattle.cc_restarts.specs.Restarting.{LogsRestarted, lsn_of}
use Rattle.cc_restarts.specs.declared.ended.LogRestart.{LogRestart}
use Rattle.cc_restarts.specs.declared.ended.Numbers.{Numbers}
use Rattle.cc_script.specs.declared.script.RestartLine.{RestartLine}
use Rattle.cc_script.specs.declared.script.StreamLine.{StreamLine}
use Rattle.cc_traits.specs.Disk.{Disk, may_of, page_of}
use Rattle.cc_traits.specs.Log.{Log, LogEntry}
use Rattle.cc_update_laws.proofs.Devices.{last-least, log-front}
use Rattle.cc_update_laws.specs.Logs.{IsLogOf}
use Rattle.cc_stop_laws.proofs.Given.{SameSaid, names-same, same-redo, same-sizes}
use Rattle.cc_stop_laws.proofs.Made.{between-made, file-made, redoable-again, redoable-handed, redoable-made}
use Rattle.cc_stop_laws.proofs.Outcome.{IsMadeOf, done-last, done-made, refused-left, restarted-from}
use Rattle.cc_stop_laws.proofs.Position.{IsAt, at-restart}
use Rattle.cc_stop_laws.specs.Redoable.{HoldsPossible, IsFileMade, IsHandedIn, IsHandedOn, IsRedoable, NamesAgain, RestartsOnce, RestartsStream, TellsAt, TellsGreatest}
use Rattle.cc_stop_laws.specs.Runs.{IsRedoneFrom, as_read}

-- a log that keeps each entry up to the last that was read keeps all that were read
all-kept : (s size : ℕ) (entries kept : List LogEntry) → IsLogOf s size entries → LogKeeps (last_lsn_of (readings entries)) entries kept → entries ≡ kept
all-kept s size entries kept are keeps = go keeps.rest keeps.splits keeps.beyond
  where
    go : (rest : List LogEntry) → entries ≡ kept ++ rest → AllByRecursion (λ entry. last_lsn_of (readings entries) < entry.lsn) rest → entries ≡ kept
    go [] splits beyond = splits ∙ append-nil kept
    go (x ∷ rest) splits beyond =
        let among = subst (λ (l : List LogEntry). IsAmong l x) (sym splits) (among-right kept (x ∷ rest) x (inl refl)) in
        let low = last-least 0 entries x among (among-all (λ (e : LogEntry). e.lsn ≤ 2 ^ 62) entries x are.in_range among) in
        let above = beyond.0 in
        absurd (omega (arith, low, above))

-- so what makes the file of all that were read makes it again
redone-read : (s size first : ℕ) (stream : StreamLine) (pages : ℕ → List ℕ) (now : Disk) (kept : Log) → IsLogOf s size kept.entries → IsRedoable s stream size kept.entries pages first now → IsRedoneFrom s stream size pages first now (as_read kept)
redone-read s size first stream pages now kept are redoable = record {
  entries = are;
  redoable = λ fewer keeps. subst (λ (l : List LogEntry). IsRedoable s stream size l pages first now) (all-kept s size kept.entries fewer are keeps) redoable;
}

-- each page that is handed on is all that a crash can leave of it
pub possible-handed : (left handed : Disk) → IsHandedOn left handed → HoldsPossible handed
possible-handed left handed handed_on = λ p.
    subst (λ (l : List (List ℕ)). Contains l (page_of handed p)) (sym (handed_on.whole.alone p)) (Contains-push [] (page_of handed p))

-- so is each that a restart leaves
possible-between : (left handed now : Disk) (made : ℕ → List ℕ) → IsHandedOn left handed → IsBetween made handed now → HoldsPossible now
possible-between left handed now made handed_on between = λ p. between.pages.holds p (possible-handed left handed handed_on p)

-- of what was handed in too
pub redone-handed : (s size first : ℕ) (stream : StreamLine) (pages : ℕ → List ℕ) (left handed : Disk) (after kept : Log) → IsRedoneFrom s stream size pages first left after → IsHandedOn left handed → LogKeeps after.durable after.entries kept.entries →
    IsRedoneFrom s stream size pages first handed (as_read kept)
redone-handed s size first stream pages left handed after kept redone handed_on keeps =
    redone-read s size first stream pages handed kept (log-front s size after.durable after.entries kept.entries redone.entries keeps)
    (redoable-handed s size first stream kept.entries pages left handed (redone.redoable kept.entries keeps) handed_on)

module _ {D L : Type 0} (told : D → Option Disk) (faults : D → ℕ) (log_told : L → Option Log) (log_count : L → ℕ) (streams : List StreamLine) (restarts : List RestartLine) (ended : List LogRestart) (disks disks_begun : List D) (logs logs_begun : List L)
    (restarted : LogsRestarted told faults log_told log_count streams restarts ended disks disks_begun logs logs_begun) (s log n : ℕ) (line : StreamLine) (one : LogRestart) (kept : Log) (is : RestartsStream s log line streams restarts n)
    (once : RestartsOnce log restarts n) (ended_at : slice_get ended n ≡ Some one) (log_at : TellsAt log_told logs log kept) where
  place : IsAt told faults log_told log_count s log streams one disks disks_begun logs logs_begun
  place = at-restart told faults log_told log_count streams s log line is.named is.logged restarts ended disks disks_begun logs logs_begun restarted n is.restart one is.at is.of_log ended_at once

  log_is : log_told place.was ≡ Some kept
  log_is = ap log_told (same_Some place.was log_at.device (sym place.log_before ∙ log_at.at)) ∙ log_at.tells

  -- it tells the greatest LSN, where it was done
  pub tells-last : (numbers : Numbers) → one.ended ≡ Ok numbers → numbers.last ≡ lsn_of (last_lsn_of (readings kept.entries))
  tells-last numbers ok = done-last told faults log_told log_count log streams kept one.ended place.old place.new place.was place.now log_is place.restarted numbers ok

  -- the log tells what it told
  log-tells : TellsAt log_told logs_begun log kept
  log-tells = record {
    device = place.now;
    at = place.log_after;
    tells = one-tells told faults log_told log_count log streams one.ended place.old place.new place.was place.now place.restarted ∙ log_is;
  }

  module _ (size first : ℕ) (stream : StreamLine) (pages : ℕ → List ℕ) (left handed : Disk) (after : Log) (redone : IsRedoneFrom s stream size pages first left after)
      (handed_in : IsHandedIn told log_told disks logs s log left after handed kept) (again : NamesAgain handed stream line) where
    redoable : IsRedoable s stream size kept.entries pages first left
    redoable = redone.redoable kept.entries handed_in.keeps

    are-kept : IsLogOf s size kept.entries
    are-kept = log-front s size after.durable after.entries kept.entries redone.entries handed_in.keeps

    before : slice_get place.old s ≡ Some handed_in.disk_at.device
    before = place.before ∙ handed_in.disk_at.at

    said : (read : Option StreamRecord) → IsReadAs (page_of handed record_number) read → SameSaid stream line read
    said read reads = names-same handed stream line read again reads

    stream-sizes : (read : Option StreamRecord) → IsReadAs (page_of handed record_number) read → AreRestartSizes stream read
    stream-sizes read reads = (redoable.sizes (page_of handed record_number) read (handed_in.handed_on.among record_number) reads).0

    sizes : (read : Option StreamRecord) → IsReadAs (page_of handed record_number) read → AreRestartSizes line read
    sizes read reads = same-sizes stream line read (said read reads) (stream-sizes read reads)

    abbrev MadeOf : (P : (ℕ → List ℕ) → Disk → Disk → Type 0) → Type 0
    MadeOf P =
        IsMadeOf told faults log_told log_count s log streams line is.named (restarted-from log line is.stored is.logged) kept handed handed_in.disk_at.device place.was log_is handed_in.disk_at.tells sizes place.new P

    done : (numbers : Numbers) → one.ended ≡ Ok numbers → MadeOf (λ made old now. DiskIsMade made now)
    done numbers ok =
        done-made told faults log_told log_count s log streams line is.named (restarted-from log line is.stored is.logged) kept handed handed_in.disk_at.device place.was log_is handed_in.disk_at.tells sizes one.ended place.old place.new place.now before place.restarted numbers ok

    pub made-file : (numbers : Numbers) → one.ended ≡ Ok numbers → (made : Disk) × TellsAt told disks_begun s made × TellsAt log_told logs_begun log kept × (file : IsFileMade s size kept.entries pages first made)
        × IsLogOf s size kept.entries × TellsGreatest line handed kept.entries file.has.redo file.valid
    made-file numbers ok =
        let m : MadeOf (λ made old now. DiskIsMade made now) = done numbers ok in
        let file =
        file-made s size first stream kept.entries pages left handed redoable handed_in.handed_on m.given m.read m.redo m.spelled
        (same-redo s stream line m.read m.redo (said m.read m.spelled) (stream-sizes m.read m.spelled) m.of_it) m.contains line m.of_it.valid_is m.made m.is in
        (m.made, record { device = m.after; at = place.after ∙ m.at; tells = m.tells_made }, log-tells, file.0, are-kept, file.1)

    -- however it ended, a restart of the same entries makes the file of what it left
    abbrev pub Again : Type 0
    Again = (now : Disk) × TellsAt told disks_begun s now × TellsAt log_told logs_begun log kept × IsRedoneFrom s stream size pages first now (as_read kept) × HoldsPossible now

    redone-again : (now : Disk) → TellsAt told disks_begun s now → IsRedoable s stream size kept.entries pages first now → HoldsPossible now → Again
    redone-again now at redoable possible = (
      now,
      at,
      log-tells,
      redone-read s size first stream pages now kept are-kept redoable,
      possible,
    )

    pub made-again : Again
    made-again = ends one.ended refl
      where
        go : ((after : D) × (slice_get place.new s ≡ Some after) × (told after ≡ Some handed)) ⊎ MadeOf IsBetween → Again
        go (inl stays) =
            redone-again handed (record { device = stays.0; at = place.after ∙ stays.1; tells = stays.2 })
            (redoable-handed s size first stream kept.entries pages left handed redoable handed_in.handed_on) (possible-handed left handed handed_in.handed_on)
        go (inr m) =
            redone-again m.made (record { device = m.after; at = place.after ∙ m.at; tells = m.tells_made })
            (redoable-again s size first stream kept.entries pages left handed redoable handed_in.handed_on m.given m.read m.redo m.spelled
            (same-redo s stream line m.read m.redo (said m.read m.spelled) (stream-sizes m.read m.spelled) m.of_it) m.contains m.made m.is)
            (possible-between left handed m.made (made_by_log m.given (readings kept.entries) m.redo handed) handed_in.handed_on m.is)

        ends : (answered : Result Numbers CcError) → one.ended ≡ answered → Again
        ends (Ok numbers) ok =
            let m : MadeOf (λ made old now. DiskIsMade made now) = done numbers ok in
            redone-again m.made (record { device = m.after; at = place.after ∙ m.at; tells = m.tells_made })
            (redoable-made s size first stream kept.entries pages left handed redoable handed_in.handed_on m.given m.read m.redo m.spelled
            (same-redo s stream line m.read m.redo (said m.read m.spelled) (stream-sizes m.read m.spelled) m.of_it) m.contains m.made m.is)
            (possible-between left handed m.made (made_by_log m.given (readings kept.entries) m.redo handed) handed_in.handed_on (between-made (made_by_log m.given (readings kept.entries) m.redo handed) handed m.made m.is))
        ends (Err e) err =
            go
            (refused-left told faults log_told log_count s log streams line is.named (restarted-from log line is.stored is.logged) kept handed handed_in.disk_at.device place.was log_is handed_in.disk_at.tells sizes one.ended place.old place.new place.now before
            place.restarted e err)
