-- How the turns of one thread go on, by what is taken and given.
use Rattle.std.specs.Prelude.{◌≡◌, ℕ, ◌+◌, ◌-◌, ◌<◌, ◌≤◌, Bool, true, false, List, [], ◌∷◌, ◌++◌, length, slice_get, slice_set, slice_index_or, if◌then◌else◌}
use Rattle.std.specs.declared.option.Option.{Option}
use Rattle.std.specs.declared.option.Option.TheVariants.{Some, None}
use Rattle.std.specs.List.{AllByRecursion}
use Rattle.std.proofs.Common.{refl, sym, subst, ap, ◌∙◌, arith, append_assoc}
use Rattle.cc_entry.specs.declared.entry.Entry.{Entry}
use Rattle.std.proofs.lemmas.Option.{slice_get_read, slice_get_within}
use Rattle.cc_traits.specs.Disk.{Disk}
use Rattle.cc_traits.specs.Log.{Log}
use Rattle.cc_book.specs.Book.{BookState}
use Rattle.cc_journal.specs.Capacity.{IsWithinCapacity}
use Rattle.cc_journal.specs.Journal.{JournalState}
use Rattle.cc_log.specs.Turn.{LogTurnState}
use Rattle.cc_model.specs.Good.{IsGood}
use Rattle.cc_model.specs.Room.{reserved_in}
use Rattle.cc_model.specs.Turns.{Device, Book, Log as log_turn}
use Rattle.cc_laws.proofs.TurnSteps.{is_quiet-none}
use Rattle.cc_turns.specs.Standing.{Standing}
use Rattle.cc_turns.specs.Journal.{JournalStands}
use Rattle.cc_turns.specs.Takes.{Takes, AddsEvent, HasActed, may_be_of, without_journal}
use Rattle.cc_turns.specs.Places.{AreHome}
use Rattle.cc_turns.specs.Desk.{DeskState, DeskStands, Tells, DiskIsHome, BookIsHome, LogIsHome, openings, disk_at_first, log_at_first, standing_of}
use Rattle.cc_turns.proofs.Capacity.{journal_within}
use Rattle.cc_turns.proofs.BookGrows.{book_grows}
use Rattle.cc_turns.proofs.DiskGrows.{disk_grows, open_of-quiet}
use Rattle.cc_turns.proofs.LogGrows.{log_grows}
use Rattle.cc_turns.proofs.Homes.{taken, given, grow}

-- a turn is taken while nobody else goes on
pub takes_alone : (now : Standing → Standing) (old new : Standing) → new ≡ now old → (now old).seen ≡ old.seen → IsGood (now old).setup (now old).seen → Takes now old new
takes_alone now old new is same good = subst (λ w. Takes now old w) (sym is) (record {
  grows = record { later = []; grew = same; quiet = λ t holds. is_quiet-none t; others = tt };
  good = good;
  same = refl;
})

-- a desk's pass has seen a good journal
pub seen_good : {D L Q : Type 0} (tells : Tells D L Q) (d old : DeskState D L Q) (disks : List (Option D)) (books : List (Option BookState)) (logs : List (Option (LogTurnState L))) (journal : Option (JournalState Q)) → d ≡ old → DeskStands tells d disks books logs journal → IsGood (standing_of tells.disk tells.disk_faults tells.log tells.log_faults old).setup (standing_of tells.disk tells.disk_faults tells.log tells.log_faults old).seen
seen_good tells d old disks books logs journal is stands =
    subst (λ x. IsGood (standing_of tells.disk tells.disk_faults tells.log tells.log_faults x).setup x.last.entries) is stands.journal_was.good

-- which was always within the capacity
pub seen_within : {D L Q : Type 0} (tells : Tells D L Q) (d old : DeskState D L Q) (disks : List (Option D)) (books : List (Option BookState)) (logs : List (Option (LogTurnState L))) (journal : Option (JournalState Q)) → d ≡ old → DeskStands tells d disks books logs journal → IsWithinCapacity old.begun.capacity old.last.entries
seen_within tells d old disks books logs journal is stands = subst (λ x. IsWithinCapacity x.begun.capacity x.last.entries) is stands.within

-- the journal stands for all that knows as much of it
pub journal_as : {Q : Type 0} (posted : Q → Bool) (w v : Standing) (j : JournalState Q) → v.setup ≡ w.setup → v.seen ≡ w.seen → v.in_flight ≡ w.in_flight → v.others ≡ w.others → JournalStands posted w j → JournalStands posted v j
journal_as posted w v j setup seen in_flight others stands = record {
  entries_are = rw seen stands.entries_are;
  good = rw (seen, setup) stands.good;
  capacity_is = rw setup stands.capacity_is;
  threshold_is = rw setup stands.threshold_is;
  logs_are = rw setup stands.logs_are;
  reserved_is = rw (seen, in_flight, others) stands.reserved_is;
  unposted = stands.unposted;
}

-- what is at a place, where a number and a read of it tell of the place
at_place : {P : Type 0} (places : List P) (at s : ℕ) (now : P) → at ≡ s → s < length places → now ≡ slice_index_or places at now → slice_get places s ≡ Some now
at_place places at s now same within read =
    subst (λ n. slice_get places n ≡ Some now) same (slice_get_read places (length places) at now refl (rw same within) read)

-- what was at its place was at home
pub found : {A : Type 0} {IsHome : ℕ → A → Type 0} (count : ℕ) (held : Option ℕ) (places : List (Option A)) (at s : ℕ) (now took : Option A) (a : A) → AreHome count held IsHome places → at ≡ s → s < count → now ≡ slice_index_or places at now → took ≡ now → took ≡ Some a → IsHome s a
found count held places at s now took a are same within read took_is is =
    are.home s a (at_place places at s now same (rw are.counted within) read ∙ ap Some (sym took_is ∙ is))

-- the place of what is held is there, and nothing is at it
pub held_within : {A : Type 0} {IsHome : ℕ → A → Type 0} (count : ℕ) (held : Option ℕ) (places : List (Option A)) (s : ℕ) → AreHome count held IsHome places → held ≡ Some s → s < length places
held_within count held places s are is = slice_get_within places s None ((are.out s).1 is)

pub held_is_out : {A : Type 0} {IsHome : ℕ → A → Type 0} (count : ℕ) (held : Option ℕ) (places : List (Option A)) (at s : ℕ) (now : Option A) → AreHome count held IsHome places → at ≡ s → held ≡ Some s → now ≡ slice_index_or places at now → now ≡ None
held_is_out count held places at s now are same is read =
    same_place now None (sym (at_place places at s now same (held_within count held places s are is) read) ∙ (are.out s).1 is)
  where
    same_place : {P : Type 0} (a b : P) → Some a ≡ Some b → a ≡ b
    same_place a b is = cc

-- nothing comes home where something is
pub no_thing : {A : Type 0} (was now : Option A) (a : A) → was ≡ now → was ≡ Some a → now ≡ None → ⊥
no_thing was now a is some none = absurd (cc)

-- what goes out, and what comes home, by a write at the place
pub taken_at : {A : Type 0} {IsHome : ℕ → A → Type 0} (count : ℕ) (held : Option ℕ) (places : List (Option A)) (at s : ℕ) (now : Option A) → at ≡ s → now ≡ None → s < count → held ≡ None → AreHome count held IsHome places → AreHome count (Some s) IsHome (slice_set places at now)
taken_at {A} {IsHome} count held places at s now same none within free are =
    rw (same, none) (taken count s places within (subst (λ h. AreHome count h IsHome places) free are))

pub given_at : {A : Type 0} {IsHome : ℕ → A → Type 0} (count : ℕ) (held : Option ℕ) (places : List (Option A)) (at s : ℕ) (now : Option A) (a : A) → at ≡ s → now ≡ Some a → held ≡ Some s → IsHome s a → AreHome count held IsHome places → AreHome count None IsHome (slice_set places at now)
given_at {A} {IsHome} count held places at s now a same put is is_home are =
    rw (same, put) (given count s places a is_home (subst (λ h. AreHome count h IsHome places) is are))

-- what a pass acted, and more of its own
own-both : (me : ℕ) (later earlier : List Entry) → AllByRecursion (λ e. may_be_of me e ≡ true) later → AllByRecursion (λ e. may_be_of me e ≡ true) earlier → AllByRecursion (λ e. may_be_of me e ≡ true) (later ++ earlier)
own-both me [] earlier all more = more
own-both me (e ∷ later) earlier all more = (all.0, own-both me later earlier all.1 more)

acted-more : (me : ℕ) (since seen now added : List Entry) → now ≡ added ++ seen → AllByRecursion (λ e. may_be_of me e ≡ true) added → HasActed me since seen → HasActed me since now
acted-more me since seen now added grew own acted = record {
  added = added ++ acted.added;
  grew = grew ∙ (ap (λ past. added ++ past) acted.grew ∙ sym (append_assoc added acted.added since));
  own = own-both me added acted.added own acted.own;
}

module _ {D L Q : Type 0} (tells : Tells D L Q) (d : DeskState D L Q) (disks : List (Option D)) (books : List (Option BookState)) (logs : List (Option (LogTurnState L))) (journal : Option (JournalState Q)) where
  -- the desk acts as another pass
  pub acts_as : (pass : ℕ) (since : List Entry) → since ≡ d.last.entries → DeskStands tells d disks books logs journal → DeskStands tells (record d { pass = pass; since = since }) disks books logs journal
  acts_as pass since is stands = record {
    disks_are = stands.disks_are;
    books_are = stands.books_are;
    logs_are = stands.logs_are;
    few = stands.few;
    journal_was = journal_as tells.posted _ _ d.last refl refl refl refl stands.journal_was;
    journal_is = stands.journal_is;
    within = stands.within;
    acted = record { added = []; grew = sym is; own = tt };
  }

  -- a disk is held
  pub device_taken : (at s turns : ℕ) (now : Option D) (left : List D) → at ≡ s → now ≡ None → s < length d.begun.disks → d.held.device ≡ None → DeskStands tells d disks books logs journal → DeskStands tells (record d { disks = left; held = record d.held { device = Some s }; device_turns = turns }) (slice_set disks at now) books logs journal
  device_taken at s turns now left same none within free stands = record {
    disks_are = taken_at (length d.begun.disks) d.held.device disks at s now same none within free stands.disks_are;
    books_are = stands.books_are;
    logs_are = stands.logs_are;
    few = stands.few;
    journal_was = journal_as tells.posted _ _ d.last refl refl refl refl stands.journal_was;
    journal_is = stands.journal_is;
    within = stands.within;
    acted = stands.acted;
  }

  pub device_given : (at s : ℕ) (now : Option D) (disk : D) (left : List D) → at ≡ s → now ≡ Some disk → d.held.device ≡ Some s → DiskIsHome tells.disk tells.disk_faults d.begun.disks d.last.entries s disk → DeskStands tells d disks books logs journal → DeskStands tells (record d { disks = left; held = record d.held { device = None } }) (slice_set disks at now) books logs journal
  device_given at s now disk left same put is is_home stands = record {
    disks_are = given_at (length d.begun.disks) d.held.device disks at s now disk same put is is_home stands.disks_are;
    books_are = stands.books_are;
    logs_are = stands.logs_are;
    few = stands.few;
    journal_was = journal_as tells.posted _ _ d.last refl refl refl refl stands.journal_was;
    journal_is = stands.journal_is;
    within = stands.within;
    acted = stands.acted;
  }

  -- a book is held
  pub book_taken : (at s : ℕ) (now : Option BookState) → at ≡ s → now ≡ None → s < length d.begun.disks → d.held.book ≡ None → DeskStands tells d disks books logs journal → DeskStands tells (record d { held = record d.held { book = Some s } }) disks (slice_set books at now) logs journal
  book_taken at s now same none within free stands = record {
    disks_are = stands.disks_are;
    books_are = taken_at (length d.begun.disks) d.held.book books at s now same none within free stands.books_are;
    logs_are = stands.logs_are;
    few = stands.few;
    journal_was = journal_as tells.posted _ _ d.last refl refl refl refl stands.journal_was;
    journal_is = stands.journal_is;
    within = stands.within;
    acted = stands.acted;
  }

  pub book_given : (at s : ℕ) (now : Option BookState) (book : BookState) → at ≡ s → now ≡ Some book → d.held.book ≡ Some s → BookIsHome (openings tells.disk tells.disk_faults d.begun.disks) d.last.entries s book → DeskStands tells d disks books logs journal → DeskStands tells (record d { held = record d.held { book = None } }) disks (slice_set books at now) logs journal
  book_given at s now book same put is is_home stands = record {
    disks_are = stands.disks_are;
    books_are = given_at (length d.begun.disks) d.held.book books at s now book same put is is_home stands.books_are;
    logs_are = stands.logs_are;
    few = stands.few;
    journal_was = journal_as tells.posted _ _ d.last refl refl refl refl stands.journal_was;
    journal_is = stands.journal_is;
    within = stands.within;
    acted = stands.acted;
  }

  -- a log is held
  pub log_taken : (at s : ℕ) (now : Option (LogTurnState L)) (left : List L) → at ≡ s → now ≡ None → s < length d.begun.logs → d.held.log ≡ None → DeskStands tells d disks books logs journal → DeskStands tells (record d { logs = left; held = record d.held { log = Some s } }) disks books (slice_set logs at now) journal
  log_taken at s now left same none within free stands = record {
    disks_are = stands.disks_are;
    books_are = stands.books_are;
    logs_are = taken_at (length d.begun.logs) d.held.log logs at s now same none within free stands.logs_are;
    few = stands.few;
    journal_was = journal_as tells.posted _ _ d.last refl refl refl refl stands.journal_was;
    journal_is = stands.journal_is;
    within = stands.within;
    acted = stands.acted;
  }

  pub log_given : (at s : ℕ) (now : Option (LogTurnState L)) (log : LogTurnState L) (left : List L) → at ≡ s → now ≡ Some log → d.held.log ≡ Some s → LogIsHome tells.log tells.log_faults d.begun.logs d.last.entries s log → DeskStands tells d disks books logs journal → DeskStands tells (record d { logs = left; held = record d.held { log = None } }) disks books (slice_set logs at now) journal
  log_given at s now log left same put is is_home stands = record {
    disks_are = stands.disks_are;
    books_are = stands.books_are;
    logs_are = given_at (length d.begun.logs) d.held.log logs at s now log same put is is_home stands.logs_are;
    few = stands.few;
    journal_was = journal_as tells.posted _ _ d.last refl refl refl refl stands.journal_was;
    journal_is = stands.journal_is;
    within = stands.within;
    acted = stands.acted;
  }

  -- the journal is held
  pub journal_taken : (now : Option (JournalState Q)) → now ≡ None → DeskStands tells d disks books logs journal → DeskStands tells (record d { held = record d.held { journal = true } }) disks books logs now
  journal_taken now none stands = record {
    disks_are = stands.disks_are;
    books_are = stands.books_are;
    logs_are = stands.logs_are;
    few = stands.few;
    journal_was = journal_as tells.posted _ _ d.last refl refl refl refl stands.journal_was;
    journal_is = none;
    within = stands.within;
    acted = stands.acted;
  }

  -- it is the one that was last at home
  pub journal_found : (took : Option (JournalState Q)) (j : JournalState Q) → d.held.journal ≡ false → took ≡ journal → took ≡ Some j → DeskStands tells d disks books logs journal → JournalStands tells.posted (standing_of tells.disk tells.disk_faults tells.log tells.log_faults (record d { held = record d.held { journal = true } })) j
  journal_found took j free took_is is stands =
      rw (same_journal j d.last (sym is ∙ took_is ∙ stands.journal_is ∙ at_home d.held.journal free))
      (journal_as tells.posted _ _ d.last refl refl refl refl stands.journal_was)
    where
      same_journal : (a b : JournalState Q) → Some a ≡ Some b → a ≡ b
      same_journal a b is = cc

      at_home : (t : Bool) → t ≡ false → (if t then None else Some d.last) ≡ Some d.last
      at_home t is = rw is refl

  -- The journal comes home with what the pass placed: all that is not held goes on standing.
  pub journal_given : (j last : JournalState Q) → last ≡ j → length j.entries + j.reserved ≤ j.capacity → AddsEvent (standing_of tells.disk tells.disk_faults tells.log tells.log_faults d) j.entries → JournalStands tells.posted (without_journal j (standing_of tells.disk tells.disk_faults tells.log tells.log_faults d)) j → DeskStands tells d disks books logs journal → DeskStands tells (record d { last = last; held = record d.held { journal = false } }) disks books logs (Some j)
  journal_given j last same fits adds stood stands = subst (λ l. DeskStands tells (record d { last = l; held = record d.held { journal = false } }) disks books logs (Some j)) (sym same) (record {
    disks_are = grow (length d.begun.disks) d.held.device disks (λ s disk there free home. rw adds.grew (record {
      stands = disk_grows tells.disk tells.disk_faults (disk_at_first tells.disk tells.disk_faults (slice_get d.begun.disks s)) adds.added d.last.entries s disk (adds.held (Device s) there free) home.stands;
      at_rest = open_of-quiet adds.added d.last.entries s (adds.held (Device s) there free) ∙ home.at_rest;
    })) stands.disks_are;
    books_are = grow (length d.begun.disks) d.held.book books (λ s book there free home. rw adds.grew (record {
      stream_is = home.stream_is;
      stands = book_grows adds.added d.last.entries s (openings tells.disk tells.disk_faults d.begun.disks s) book (adds.held (Book s) there free) home.stream_is home.stands;
    })) stands.books_are;
    logs_are = grow (length d.begun.logs) d.held.log logs (λ handle log there free home. rw adds.grew (record {
      handle_is = home.handle_is;
      stands = log_grows tells.log tells.log_faults (log_at_first tells.log tells.log_faults (slice_get d.begun.logs handle)) adds.added d.last.entries log (rw home.handle_is (adds.held (log_turn handle) tt free)) home.stands;
    })) stands.logs_are;
    few = stands.few;
    journal_was = journal_as tells.posted _ _ j refl refl (same_rest j.reserved (reserved_in j.entries)) refl stood;
    journal_is = refl;
    within = journal_within j d.begun.capacity adds.added d.last.entries adds.grew adds.event stood.capacity_is (omega (arith, stood.reserved_is)) fits stands.within;
    acted = acted-more d.pass d.since d.last.entries j.entries adds.added adds.grew adds.own stands.acted;
  })
    where
      same_rest : (reserved owed : ℕ) → reserved - owed ≡ reserved - (owed + 0)
      same_rest reserved owed = omega arith

-- what the pass knows then
pub journal_back : {D L Q : Type 0} (told : D → Option Disk) (faults : D → ℕ) (log_told : L → Option Log) (log_faults : L → ℕ) (d old : DeskState D L Q) (j last : JournalState Q) → d ≡ old → last ≡ j → standing_of told faults log_told log_faults (record d { last = last; held = record d.held { journal = false } }) ≡ without_journal j (standing_of told faults log_told log_faults old)
journal_back told faults log_told log_faults d old j last is same =
    ap (λ l. standing_of told faults log_told log_faults (record d { last = l; held = record d.held { journal = false } })) same
    ∙ ap (λ n. record (without_journal j (standing_of told faults log_told log_faults d)) { in_flight = n }) (same_rest j.reserved (reserved_in j.entries))
    ∙ ap (λ d. without_journal j (standing_of told faults log_told log_faults d)) is
  where
    same_rest : (reserved owed : ℕ) → reserved - owed ≡ reserved - (owed + 0)
    same_rest reserved owed = omega arith
