-- What a restart of a log leaves of the disk of one of its streams.
use Rattle.std.specs.Prelude.{◌≡◌, ℕ, ◌+◌, ◌<◌, ◌⊎◌, ◌&&◌, true, List, length, slice_get, Contains, Result, Ok, Err, refl}
use Rattle.std.specs.declared.option.Option.{Option}
use Rattle.std.specs.declared.option.Option.TheVariants.{Some, None}
use Rattle.std.proofs.Common.{ap, sym, subst, ◌∙◌, arith, get_or, inl, inr}
use Rattle.std.proofs.lemmas.Bool.{eq-eqb}
use Rattle.std.proofs.lemmas.List.Elements.{Contains-get_or}
use Rattle.std.proofs.lemmas.Option.{same_Some, slice_get-get_or, slice_get_within}
use Rattle.cc_entry.specs.declared.error.CcError.{CcError}
use Rattle.cc_entry.specs.declared.error.CcError.TheVariants as error
use Rattle.cc_format.specs.Spelling.{IsReadAs}
use Rattle.cc_format.specs.declared.record.StreamRecord.{StreamRecord}
use Rattle.cc_redo.specs.Disks.{IsBetween, DiskIsMade, record_number}
use Rattle.cc_redo.specs.Ends.{IsRestartAnswer, LeavesDisk, LeavesBy, made_by_log}
use Rattle.cc_redo.specs.Heard.{last_lsn_of, readings}
use Rattle.cc_redo.specs.declared.redo.Redo.{Redo}
use Rattle.cc_redo.specs.declared.streams.Restarted.{Restarted}
use Rattle.cc_restarts.proofs.Counts.{held}
use Rattle.cc_restarts.specs.Given.{AreRestartSizes, IsRedoOf, is_restarted}
use Rattle.cc_restarts.specs.Restarting.{LogRestarted, ReadingLeft, RecordsRead, WasRestarted, lsn_of, no_rise, numbers_of, one_rise}
use Rattle.cc_restarts.specs.declared.ended.Numbers.{Numbers}
use Rattle.cc_script.specs.declared.script.StreamLine.{StreamLine}
use Rattle.cc_traits.specs.Disk.{Disk, page_of}
use Rattle.cc_traits.specs.Log.{Log}
use Rattle.cc_traits.specs.Told.{Both, IfTold}
use Rattle.cc_stop_laws.proofs.Given.{IsAmongGiven, given-at}
use Rattle.cc_model.specs.Stamps.{is_log}

pub contains-at : {A : Type 0} (xs : List A) (i : ℕ) (x : A) → slice_get xs i ≡ Some x → Contains xs x
contains-at xs i x is =
    let within = slice_get_within xs i x is in
    subst (λ y. Contains xs y) (same_Some (get_or xs i x) x (sym (slice_get-get_or xs i x within) ∙ is)) (Contains-get_or xs i x within)

-- who told before tells
both-some : {A : Type 0} (P : A → A → Type 0) (was : A) (o : Option A) → Both (Some was) o P → (now : A) × (o ≡ Some now) × P was now
both-some P was None both = absurd both
both-some P was (Some now) both = (now, refl, both)

-- a stored stream that has the log is restarted from it
pub restarted-from : (log : ℕ) (stream : StreamLine) → stream.stored ≡ true → stream.log ≡ Some log → is_restarted log stream ≡ true
restarted-from log stream stored logged =
    let its : is_log log stream.log ≡ true = ap (is_log log) logged ∙ eq-eqb log log refl in
    ap (λ b. b && is_log log stream.log) stored ∙ its

-- the last LSN that a restart told
abbrev last_in : Result Numbers CcError → Option ℕ
last_in (Ok numbers) = numbers.last
last_in (Err e) = None

module _ {D L : Type 0} (told : D → Option Disk) (faults : D → ℕ) (log_told : L → Option Log) (log_count : L → ℕ) where
  -- the stream was given to the restart, with what its record said, and its disk stands as the restart left it
  pub record IsStreamOf (s log : ℕ) (stream : StreamLine) (kept : Log) (handed : Disk) (new : List D) (answered : Result Restarted CcError) : Type 0 where
    pub given : List Redo
    pub read : Option StreamRecord
    pub redo : Redo
    pub spelled : IsReadAs (page_of handed record_number) read
    pub of_it : IsRedoOf s stream read redo
    pub contains : Contains given redo
    pub after : D
    pub at : slice_get new s ≡ Some after
    pub leaves : LeavesBy given (readings kept.entries) answered redo (Some handed) (told after)

  module _ (s log : ℕ) (streams : List StreamLine) (stream : StreamLine) (named : slice_get streams s ≡ Some stream) (restarted : is_restarted log stream ≡ true) (kept : Log) (handed : Disk) (device : D) (was : L) (log_is : log_told was ≡ Some kept)
      (tells : told device ≡ Some handed) (sizes : (read : Option StreamRecord) → IsReadAs (page_of handed record_number) read → AreRestartSizes stream read) where
    stream-of : (ended : Result Numbers CcError) (old new : List D) (now : L) → slice_get old s ≡ Some device → (w : WasRestarted told faults log_told log_count log streams ended old new was now) →
        IsStreamOf s log stream kept handed new w.answered
    stream-of ended old new now before w = record {
      given = w.given;
      read = its.read;
      redo = found.1;
      spelled = its.spelled;
      of_it = found.3;
      contains = contains-at w.given found.0 found.1 found.2;
      after = after.0;
      at = after.1;
      leaves = subst (λ (o : Option Disk). LeavesBy w.given (readings kept.entries) w.answered found.1 o (told after.0)) tells_between by_log;
    }
      where
        number : 0 + s ≡ s
        number = omega arith

        its : IsAmongGiven handed s stream w.given
        its =
            subst (λ (k : ℕ). IsAmongGiven handed k stream w.given) number
            (given-at told old log 0 streams w.given w.given_are s stream named restarted device (ap (λ (k : ℕ). slice_get old k) number ∙ before) handed tells)

        found : (i : ℕ) × (redo : Redo) × (slice_get w.given i ≡ Some redo) × IsRedoOf s stream its.read redo
        found = its.found (sizes its.read its.spelled)

        inside : s < length old
        inside = slice_get_within old s device before

        between : (d : D) × (slice_get w.between s ≡ Some d)
        between = held w.between s (let count = w.read.count in omega (arith, inside, count))

        after : (d : D) × (slice_get new s ≡ Some d)
        after = held new s (let count = w.read.count in let more = w.leaves.count in omega (arith, inside, count, more))

        tells_between : told between.0 ≡ Some handed
        tells_between = w.read.tells s device between.0 before between.1 ∙ tells

        its_disk : found.1.disk ≡ s
        its_disk = found.3.disk_is

        left : LeavesDisk w.given (log_told was) w.answered found.1 (told between.0) (told after.0)
        left =
            w.leaves.given found.0 found.1 between.0 after.0 found.2 (ap (λ (k : ℕ). slice_get w.between k) its_disk ∙ between.1) (ap (λ (k : ℕ). slice_get new k) its_disk ∙ after.1)

        by_log : LeavesBy w.given (readings kept.entries) w.answered found.1 (told between.0) (told after.0)
        by_log = subst (λ (o : Option Log). IfTold o (λ t. LeavesBy w.given (readings t.entries) w.answered found.1 (told between.0) (told after.0))) log_is left

    -- how the disk stands, by how the restart ended
    pub record IsMadeOf (new : List D) (P : (ℕ → List ℕ) → Disk → Disk → Type 0) : Type 0 where
      pub given : List Redo
      pub read : Option StreamRecord
      pub redo : Redo
      pub spelled : IsReadAs (page_of handed record_number) read
      pub of_it : IsRedoOf s stream read redo
      pub contains : Contains given redo
      pub after : D
      pub at : slice_get new s ≡ Some after
      pub made : Disk
      pub tells_made : told after ≡ Some made
      pub is : P (made_by_log given (readings kept.entries) redo handed) handed made

    of-both : (new : List D) (answered : Result Restarted CcError) (P : (ℕ → List ℕ) → Disk → Disk → Type 0) (k : IsStreamOf s log stream kept handed new answered) →
        Both (Some handed) (told k.after) (λ old now. P (made_by_log k.given (readings kept.entries) k.redo old) old now) → IsMadeOf new P
    of-both new answered P k both =
        let one = both-some (λ old now. P (made_by_log k.given (readings kept.entries) k.redo old) old now) handed (told k.after) both in
        record {
          given = k.given;
          read = k.read;
          redo = k.redo;
          spelled = k.spelled;
          of_it = k.of_it;
          contains = k.contains;
          after = k.after;
          at = k.at;
          made = one.0;
          tells_made = one.1;
          is = one.2;
        }

    pub done-made : (ended : Result Numbers CcError) (old new : List D) (now : L) → slice_get old s ≡ Some device → LogRestarted told faults log_told log_count log streams ended old new was now → (numbers : Numbers) →
        ended ≡ Ok numbers → IsMadeOf new (λ made old now. DiskIsMade made now)
    done-made ended old new now before (inl unread) numbers is = absurd (let other = unread.ended_is in cc (is, other))
    done-made ended old new now before (inr w) numbers is = go w.answered w.ended_is (stream-of ended old new now before w)
      where
        go : (answered : Result Restarted CcError) → ended ≡ numbers_of log answered → IsStreamOf s log stream kept handed new answered → IsMadeOf new (λ made old now. DiskIsMade made now)
        go (Ok done) same k = of-both new (Ok done) (λ made old now. DiskIsMade made now) k k.leaves
        go (Err e) same k = absurd (cc (is, same))

    -- one that was refused left the disk as it was, or so that a restart can begin again
    pub refused-left : (ended : Result Numbers CcError) (old new : List D) (now : L) → slice_get old s ≡ Some device → LogRestarted told faults log_told log_count log streams ended old new was now → (e : CcError) →
        ended ≡ Err e → ((after : D) × (slice_get new s ≡ Some after) × (told after ≡ Some handed)) ⊎ IsMadeOf new IsBetween
    refused-left ended old new now before (inl unread) e is = inl (unread-tells unread.why unread.left)
      where
        from : (rise : ℕ → ℕ) → RecordsRead told faults log streams rise old new → (after : D) × (slice_get new s ≡ Some after) × (told after ≡ Some handed)
        from rise read =
            let inside = slice_get_within old s device before in
            let after = held new s (let count = read.count in omega (arith, inside, count)) in
            (after.0, after.1, read.tells s device after.0 before after.1 ∙ tells)

        unread-tells : (why : CcError) → ReadingLeft told faults log streams old new why → (after : D) × (slice_get new s ≡ Some after) × (told after ≡ Some handed)
        unread-tells (error.ReadFault page) left = from (one_rise left.1.s) left.1.read
        unread-tells error.NoMemory left = from no_rise left
        unread-tells other left = absurd left
    refused-left ended old new now before (inr w) e is = go w.answered w.ended_is (stream-of ended old new now before w)
      where
        go : (answered : Result Restarted CcError) → ended ≡ numbers_of log answered → IsStreamOf s log stream kept handed new answered →
            ((after : D) × (slice_get new s ≡ Some after) × (told after ≡ Some handed)) ⊎ IsMadeOf new IsBetween
        go (Ok done) same k = absurd (cc (is, same))
        go (Err why) same k = inr (of-both new (Err why) IsBetween k k.leaves)

  -- a restart that was done tells the greatest LSN of the log
  pub done-last : (log : ℕ) (streams : List StreamLine) (kept : Log) (ended : Result Numbers CcError) (old new : List D) (was now : L) → log_told was ≡ Some kept → LogRestarted told faults log_told log_count log streams ended old new was now →
      (numbers : Numbers) → ended ≡ Ok numbers → numbers.last ≡ lsn_of (last_lsn_of (readings kept.entries))
  done-last log streams kept ended old new was now log_is (inl unread) numbers is = absurd (let other = unread.ended_is in cc (is, other))
  done-last log streams kept ended old new was now log_is (inr w) numbers is = go w.answered refl w.ended_is
    where
      go : (answered : Result Restarted CcError) → w.answered ≡ answered → ended ≡ numbers_of log answered → numbers.last ≡ lsn_of (last_lsn_of (readings kept.entries))
      go (Ok done) answers same =
          let its : IsRestartAnswer w.given kept done = subst (λ (o : Option Log). IfTold o (λ t. IsRestartAnswer w.given t done)) log_is (w.answer done answers) in
          ap last_in (sym is ∙ same) ∙ ap lsn_of its.numbers.last
      go (Err e) answers same = absurd (cc (is, same))
