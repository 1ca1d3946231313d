-- Whatever an event did to the row of one stream, all else of the World goes on standing.
use Rattle.std.specs.Prelude.{◌≡◌, ◌≢◌, ℕ, zero, suc, ◌+◌, ◌<◌, ◌≤◌, ◌==◌, Bool, true, false, List, [], ◌∷◌, ◌++◌, length, slice_get, slice_index_or, slice_set, refl}
use Rattle.std.specs.declared.option.Option.{Option}
use Rattle.std.specs.declared.option.Option.TheVariants.{Some, None}
use Rattle.std.proofs.Common.{sym, subst, ap, ◌∙◌, arith, append_assoc}
use Rattle.std.proofs.Math.ListN.{length-set}
use Rattle.std.proofs.lemmas.Bool.{eqb-true, eqb-false, ne_eqb}
use Rattle.std.proofs.lemmas.Option.{slice_get_within, slice_get-get_or}
use Rattle.cc_entry.specs.declared.entry.Entry.{Entry}
use Rattle.cc_entry.specs.declared.entry.Entry.TheVariants as entry
use Rattle.cc_entry.specs.declared.error.CcError.TheVariants as error
use Rattle.cc_traits.specs.Disk.{Disk}
use Rattle.cc_journal.specs.Journal.{JournalState}
use Rattle.cc_journal.specs.Queue.{AllUnposted}
use Rattle.cc_laws.proofs.LogSteps.{flushed_to-quiet}
use Rattle.cc_laws.proofs.QuietSteps.{history-quiet}
use Rattle.cc_log.specs.Turn.{LogTurnState}
use Rattle.cc_model.specs.History.{history}
use Rattle.cc_model.specs.Logs.{flushed_to}
use Rattle.cc_model.specs.Turns.{Device, is_quiet}
use Rattle.cc_turns.proofs.Handles.{handle-below}
use Rattle.cc_turns.proofs.OpenTransfers.{IsUnderWay-grown}
use Rattle.cc_turns.specs.Desk.{Tells, LogIsHome, disk_at_first, log_at_first, openings}
use Rattle.cc_turns.specs.Log.{LogStands}
use Rattle.cc_turns.specs.Standing.{DiskAtFirst}
use Rattle.cc_turns.proofs.BookGrows.{book_grows}
use Rattle.cc_turns.proofs.DiskGrows.{disk_grows, open_of-quiet}
use Rattle.cc_turns.proofs.LogGrows.{log_grows}
use Rattle.cc_world.specs.Journals.{JournalHasPlaced}
use Rattle.cc_world.specs.Pages.{AreFlushed}
use Rattle.cc_world.specs.Rows.{DiskIsUsed, RowFaulted, RowLeft, RowStands, RowWent, StandsUnder}
use Rattle.cc_effects.specs.Events.{Where, OnStream, faulted_by, place_of_event}
use Rattle.cc_world.specs.World.{AreAt, Faulted, RowIsHome, WorldEventLeft, WentAt, WorldStands, WorldState, WorldWent}
use Rattle.cc_effects.specs.declared.events.Event.{Event}
use Rattle.cc_effects.specs.declared.events.StepReply.{StepReply}
use Rattle.cc_effects.specs.declared.events.StepReply.TheVariants as step
use Rattle.cc_world.specs.declared.rows.BegunTransfer.{BegunTransfer}
use Rattle.cc_world.specs.declared.rows.StreamRow.{StreamRow}
use Rattle.cc_world.proofs.Belonging.{answers-within, fault-within, never-kept, queue-left, stream-leaves, wanting-within}
use Rattle.cc_world.proofs.Quiet.{AreWithin, IsOn, within-one}
use Rattle.cc_turns.proofs.Capacity.{journal_within}
use Rattle.cc_turns.specs.Slots.{setup_in}

pub one : {A : Type 0} (a b : A) → Some a ≡ Some b → a ≡ b
one a b is = cc

-- what was read at a place is there
pub read-there : {A : Type 0} (xs : List A) (at : ℕ) (now : A) → at < length xs → now ≡ slice_index_or xs at now → slice_get xs at ≡ Some now
read-there {A} xs at now within is = slice_get-get_or xs at now within ∙ ap (λ (a : A). Some a) (sym is)

-- there is something at each place
pub is-there : {A : Type 0} (xs : List A) (n : ℕ) → n < length xs → (a : A) × (slice_get xs n ≡ Some a)
is-there [] n within = absurd (omega arith)
is-there (x ∷ xs) zero within = (x, refl)
is-there (x ∷ xs) (suc n) within = is-there xs n (omega arith)

-- what is put at a place is there, and the other places are as they were
pub put-here : {A : Type 0} (xs : List A) (n : ℕ) (a : A) → n < length xs → slice_get (slice_set xs n a) n ≡ Some a
put-here [] n a within = absurd (omega arith)
put-here (x ∷ xs) zero a within = refl
put-here (x ∷ xs) (suc n) a within = put-here xs n a (omega arith)

put-away : {A : Type 0} (xs : List A) (n m : ℕ) (a : A) → m ≢ n → slice_get (slice_set xs n a) m ≡ slice_get xs m
put-away [] n m a apart = refl
put-away (x ∷ xs) zero zero a apart = absurd (apart refl)
put-away (x ∷ xs) zero (suc m) a apart = refl
put-away (x ∷ xs) (suc n) zero a apart = refl
put-away (x ∷ xs) (suc n) (suc m) a apart = put-away xs n m a (λ same. apart (ap suc same))

-- what is there already changes nothing
pub put-same : {A : Type 0} (xs : List A) (n : ℕ) (a : A) → slice_get xs n ≡ Some a → slice_set xs n a ≡ xs
put-same [] n a is = refl
put-same (x ∷ xs) zero a is = ap (λ y. y ∷ xs) (one a x (sym is))
put-same (x ∷ xs) (suc n) a is = ap (λ ys. x ∷ ys) (put-same xs n a is)

pub at-put : {A : Type 0} {IsAt Later : ℕ → A → Type 0} (count n : ℕ) (things : List A) (a : A) → n < length things → ((m : ℕ) (b : A) → (m == n) ≡ false → IsAt m b → Later m b) → Later n a → AreAt count IsAt things → AreAt count Later (slice_set things n a)
at-put {A} {IsAt} {Later} count n things a within others here are = record {
  counted = length-set things n a ∙ are.counted;
  each = λ m b is. go m b is (m == n) refl;
}
  where
    go : (m : ℕ) (b : A) → slice_get (slice_set things n a) m ≡ Some b → (t : Bool) → (m == n) ≡ t → Later m b
    go m b is true same =
        let at : m ≡ n = eqb-true m n same in
        let that : a ≡ b = one a b (sym (put-here things n a within) ∙ subst (λ (k : ℕ). slice_get (slice_set things n a) k ≡ Some b) at is) in
        subst (λ (k : ℕ). Later k b) (sym at) (subst (λ (x : A). Later n x) that here)
    go m b is false apart = others m b apart (are.each m b (sym (put-away things n m a (eqb-false m n apart)) ∙ is))

-- A disk goes on standing, at rest or with a transfer open, with entries that do not need it.
pub used-grows : {D : Type 0} (told : D → Option Disk) (faults : D → ℕ) (first : DiskAtFirst) (added past : List Entry) (s : ℕ) (disk : D) (kept : Option BegunTransfer) → is_quiet (Device s) added ≡ true → DiskIsUsed told faults first past s disk kept → DiskIsUsed told faults first (added ++ past) s disk kept
used-grows told faults first added past s disk None quiet rest = record {
  stands = disk_grows told faults first added past s disk quiet rest.stands;
  no_transfer = open_of-quiet added past s quiet ∙ rest.no_transfer;
}
used-grows told faults first added past s disk (Some kept) quiet carrying = record {
  stream = carrying.stream;
  way = IsUnderWay-grown told faults first added past kept.pass s kept.page.page kept.bytes disk quiet carrying.way;
}

-- the entries were placed, and the queue is as it was
pub has-placed : {Q : Type 0} (added : List Entry) (j k : JournalState Q) → k ≡ record j { entries = added ++ j.entries; reserved = k.reserved; rows = k.rows } → JournalHasPlaced added j k
has-placed {Q} added j k placed =
    placed ∙ ap (λ queue. record j { entries = added ++ j.entries; reserved = k.reserved; rows = k.rows; queue = queue }) (sym (ap (λ (x : JournalState Q). x.queue) placed))

module _ {D L Q : Type 0} (tells : Tells D L Q) (w : WorldState D L Q) (stands : WorldStands tells w) (s : ℕ) (row : StreamRow D) (there : slice_get w.rows s ≡ Some row) where
  first : DiskAtFirst
  first = disk_at_first tells.disk tells.disk_faults (slice_get w.begun.disks s)

  home : RowIsHome tells w.begun.disks w.journal.entries s row
  home = stands.rows.each s row there

  pub row-stream : row.book.stream ≡ s
  row-stream = home.stream

  -- the row stands under the setup
  pub row-stands : StandsUnder tells.disk tells.disk_faults (setup_in tells w.begun) (disk_at_first tells.disk tells.disk_faults (slice_get w.begun.disks s)) 0 row w.journal
  row-stands = record {
    good = stands.journal.good;
    opening = ap (openings tells.disk tells.disk_faults w.begun.disks) home.stream;
    known = small row.book.stream s (length w.rows) (length w.begun.disks) home.stream (slice_get_within w.rows s row there) stands.rows.counted stands.few.0;
    limits = (sym stands.journal.limits.2, sym stands.journal.limits.1);
    row_is = home.stands;
    reserved = nothing-more _ _ stands.journal.reserved;
  }
    where
      small : (m n many disks : ℕ) → m ≡ n → n < many → many ≡ disks → disks ≤ 16 → m < 16
      small m n many disks same less is few = omega arith

      nothing-more : (a b : ℕ) → a ≡ b → a ≡ b + 0
      nothing-more a b same = omega arith

  -- the log of the row's stream is among those of the World, and is flushed to what the journal says
  pub row-flushed : AreFlushed row.book.stream w.journal.entries w.logs
  row-flushed handle is =
      let found = is-there w.logs handle (subst (λ (n : ℕ). handle < n) (sym stands.logs.counted)
      (handle-below (setup_in tells w.begun) w.journal.entries row.book.stream handle stands.journal.good.legal is)) in
      let log_home = stands.logs.each handle found.0 found.1 in
      (found.0, found.1, log_home.stands.stands.flushed_is ∙ ap (λ (n : ℕ). flushed_to w.journal.entries n) log_home.handle_is)

  module _ (n : ℕ) (added : List Entry) (now : StreamRow D) (k : JournalState Q) (within : AreWithin s added) (gone : RowWent tells.disk tells.disk_faults (setup_in tells w.begun) (disk_at_first tells.disk tells.disk_faults (slice_get w.begun.disks s)) n added row now w.journal k) where
    grown : k.entries ≡ added ++ w.journal.entries
    grown = ap (λ x. x.entries) gone.placed

    other-row : (t : ℕ) (r : StreamRow D) → (t == s) ≡ false → RowIsHome tells w.begun.disks w.journal.entries t r → RowIsHome tells w.begun.disks k.entries t r
    other-row t r apart there = record {
      stream = there.stream;
      stands = subst (λ (past : List Entry). RowStands tells.disk tells.disk_faults (openings tells.disk tells.disk_faults w.begun.disks t) (disk_at_first tells.disk tells.disk_faults (slice_get w.begun.disks t)) past r) (sym grown) (record {
        book = book_grows added w.journal.entries t (openings tells.disk tells.disk_faults w.begun.disks t) r.book (within.book t apart) there.stream there.stands.book;
        disk = used-grows tells.disk tells.disk_faults (disk_at_first tells.disk tells.disk_faults (slice_get w.begun.disks t)) added w.journal.entries r.book.stream r.disk r.kept
            (subst (λ (m : ℕ). is_quiet (Device m) added ≡ true) (sym there.stream) (within.device t apart)) there.stands.disk;
      });
    }

    each-log : (handle : ℕ) (log : LogTurnState L) → LogIsHome tells.log tells.log_faults w.begun.logs w.journal.entries handle log → LogIsHome tells.log tells.log_faults w.begun.logs k.entries handle log
    each-log handle log there = record {
      handle_is = there.handle_is;
      stands = subst (λ (past : List Entry). LogStands tells.log tells.log_faults (log_at_first tells.log tells.log_faults (slice_get w.begun.logs handle)) past log) (sym grown)
          (log_grows tells.log tells.log_faults (log_at_first tells.log tells.log_faults (slice_get w.begun.logs handle)) added w.journal.entries log (within.log log.handle) there.stands);
    }

    pub world-stands : length k.entries + k.reserved ≤ k.capacity → WorldStands tells (record w { rows = slice_set w.rows s now; journal = k })
    world-stands fits = record {
      rows = at-put (length w.begun.disks) s w.rows now (slice_get_within w.rows s row there) other-row (record { stream = gone.stream ∙ home.stream; stands = gone.stands.row_is }) stands.rows;
      logs = record { counted = stands.logs.counted; each = λ handle log is. each-log handle log (stands.logs.each handle log is) };
      journal = record {
        good = gone.stands.good;
        limits = (
          ap (λ x. x.capacity) gone.placed ∙ stands.journal.limits.0,
          ap (λ x. x.threshold) gone.placed ∙ stands.journal.limits.1,
          ap (λ x. x.logs) gone.placed ∙ stands.journal.limits.2,
        );
        reserved = nothing-less _ _ gone.stands.reserved;
        unposted = subst (λ q. AllUnposted tells.posted q) (sym (ap (λ x. x.queue) gone.placed)) stands.journal.unposted;
        strange = λ handle beyond. ap (λ (p : List Entry). flushed_to p handle) grown
            ∙ (flushed_to-quiet added w.journal.entries handle (within.log handle) ∙ stands.journal.strange handle beyond);
        no_stream = λ t beyond. ap (λ (p : List Entry). history p t) grown
            ∙ (history-quiet added w.journal.entries t (within.book t (apart t beyond)) (within.device t (apart t beyond)) ∙ stands.journal.no_stream t beyond);
        within = journal_within k w.begun.capacity added w.journal.entries grown within.event (ap (λ x. x.capacity) gone.placed ∙ stands.journal.limits.0) (owed _ _ gone.stands.reserved) fits stands.journal.within;
      };
      few = stands.few;
    }
      where
        nothing-less : (a b : ℕ) → a ≡ b + 0 → a ≡ b
        nothing-less a b same = omega arith

        owed : (a b : ℕ) → a ≡ b + 0 → b ≤ a
        owed a b same = omega arith

        known : s < length w.begun.disks
        known = subst (λ (n : ℕ). s < n) stands.rows.counted (slice_get_within w.rows s row there)

        apart : (t : ℕ) → length w.begun.disks ≤ t → (t == s) ≡ false
        apart t beyond = ne_eqb t s (λ same. absurd (omega (arith, same, beyond, known)))

    pub world-went : WorldWent tells s n added w (record w { rows = slice_set w.rows s now; journal = k })
    world-went = record { row = row; now = now; was = there; same = refl; placed = has-placed added w.journal k gone.placed; counted = gone.counted }

  -- What an event leaves of the row it leaves of the World.
  abbrev pub Both : Event Q → StepReply Q → StreamRow D → JournalState Q → Type 0
  Both it answer now k = WorldStands tells (record w { rows = slice_set w.rows s now; journal = k }) × WorldEventLeft tells it answer w (record w { rows = slice_set w.rows s now; journal = k })

  unchanged : (now : StreamRow D) (k : JournalState Q) → now ≡ row → k ≡ w.journal → record w { rows = slice_set w.rows s now; journal = k } ≡ w
  unchanged now k same_row same_journal =
      ap (λ (r : StreamRow D). record w { rows = slice_set w.rows s r; journal = k }) same_row
      ∙ (ap (λ (j : JournalState Q). record w { rows = slice_set w.rows s row; journal = j }) same_journal
      ∙ ap (λ (rows : List (StreamRow D)). record w { rows = rows }) (put-same w.rows s row there))

  still : (v : WorldState D L Q) → v ≡ w → WorldStands tells v
  still v same = subst (λ (x : WorldState D L Q). WorldStands tells x) (sym same) stands

  same-queue : (n : ℕ) (added : List Entry) (now : StreamRow D) (k : JournalState Q) → RowWent tells.disk tells.disk_faults (setup_in tells w.begun) (disk_at_first tells.disk tells.disk_faults (slice_get w.begun.disks s)) n added row now w.journal k → k.queue ≡ w.journal.queue
  same-queue n added now k gone = ap (λ (x : JournalState Q). x.queue) gone.placed

  faulted : (o : Option Entry) (now : StreamRow D) (k : JournalState Q) → length k.entries + k.reserved ≤ k.capacity → ((e : Entry) → o ≡ Some e → IsOn s e) → RowFaulted tells.disk tells.disk_faults (setup_in tells w.begun) (disk_at_first tells.disk tells.disk_faults (slice_get w.begun.disks s)) o row now w.journal k → WorldStands tells (record w { rows = slice_set w.rows s now; journal = k }) × Faulted tells (OnStream s) o w (record w { rows = slice_set w.rows s now; journal = k }) × (k.queue ≡ w.journal.queue)
  faulted None now k fits on gone = absurd gone
  faulted (Some e) now k fits on gone =
      let within = within-one s e (on e refl) in
      (world-stands 1 (e ∷ []) now k within gone fits, world-went 1 (e ∷ []) now k within gone, same-queue 1 (e ∷ []) now k gone)

  pub stepped : (it : Event Q) (answer : StepReply Q) (now : StreamRow D) (k : JournalState Q) → length k.entries + k.reserved ≤ k.capacity → place_of_event (setup_in tells w.begun) w.journal.entries it ≡ OnStream s → RowLeft tells.disk tells.disk_faults (setup_in tells w.begun) (disk_at_first tells.disk tells.disk_faults (slice_get w.begun.disks s)) it answer row now w.journal k → Both it answer now k
  stepped it step.NotNow now k fits at left =
      let same = unchanged now k left.1 left.2 in
      let leaves = stream-leaves (setup_in tells w.begun) w.journal.entries it s at in
      (still _ same, ((left.0, same), queue-left tells.posted it step.NotNow w.journal.queue k.queue leaves refl (ap (λ (x : JournalState Q). x.queue) left.2)))
  stepped it (step.Refused (error.JournalFull entries)) now k fits at left =
      let same = unchanged now k left.3 left.4 in
      let leaves = stream-leaves (setup_in tells w.begun) w.journal.entries it s at in (
        still _ same,
        (
          (left.0, left.1, left.2, same),
          queue-left tells.posted it (step.Refused (error.JournalFull entries)) w.journal.queue k.queue leaves refl (ap (λ (x : JournalState Q). x.queue) left.4),
        ),
      )
  stepped it step.Faulted now k fits at left =
      let u = setup_in tells w.begun in
      let past = w.journal.entries in
      let o = faulted_by past it in
      let all = faulted o now k fits (λ e is. fault-within u past it e s at is) left.2.1 in (
        all.0,
        (
          (left.0, left.1, (left.2.0, subst (λ (p : Where). Faulted tells p o w (record w { rows = slice_set w.rows s now; journal = k })) (sym at) all.1)),
          queue-left tells.posted it step.Faulted w.journal.queue k.queue (stream-leaves u past it s at) refl all.2,
        ),
      )
  stepped it (step.Refused error.NoMemory) now k fits at left =
      let u = setup_in tells w.begun in
      let past = w.journal.entries in
      let added : List Entry = left.0 in
      let within = wanting-within u past it added s at left.1 in (
        world-stands 0 added now k within left.2 fits,
        (
          (added, left.1, subst (λ (p : Where). WentAt tells p 0 added w (record w { rows = slice_set w.rows s now; journal = k })) (sym at) (world-went 0 added now k within left.2)),
          queue-left tells.posted it (step.Refused error.NoMemory) w.journal.queue k.queue (stream-leaves u past it s at) refl (same-queue 0 added now k left.2),
        ),
      )
  stepped it (step.Kept routine e) now k fits at left =
      absurd (never-kept (setup_in tells w.begun) w.journal.entries it routine e left.2.0 left.2.1)
  stepped it other now k fits at left =
      let u = setup_in tells w.begun in
      let past = w.journal.entries in
      let added : List Entry = left.2.0 in
      let within = answers-within u past it other added s at left.2.1 in (
        world-stands 0 added now k within left.2.2 fits,
        (
          (left.0, left.1, (added, left.2.1, subst (λ (p : Where). WentAt tells p 0 added w (record w { rows = slice_set w.rows s now; journal = k })) (sym at) (world-went 0 added now k within left.2.2))),
          queue-left tells.posted it other w.journal.queue k.queue (stream-leaves u past it s at) refl (same-queue 0 added now k left.2.2),
        ),
      )
