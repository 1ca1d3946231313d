-- What a visit may place: nothing, or one entry that needs no turn but the book's, or the disk's where it is held.
use Rattle.std.specs.Prelude.{◌≡◌, ℕ, suc, ◌+◌, ◌-◌, Bool, true, false, ◌||◌, [], ◌∷◌, Some, refl}
use Rattle.std.proofs.Common.{ap, sym, ◌∙◌, arith}
use Rattle.std.proofs.lemmas.Bool.{eq-eqb}
use Rattle.cc_entry.specs.declared.call.Call.{Call}
use Rattle.cc_entry.specs.declared.call.Call.TheVariants as call
use Rattle.cc_entry.specs.declared.entry.Entry.{Entry}
use Rattle.cc_entry.specs.declared.entry.Entry.TheVariants as entry
use Rattle.cc_entry.specs.declared.error.CcError.{CcError}
use Rattle.cc_entry.specs.declared.reply.Outcome.{Outcome}
use Rattle.cc_entry.specs.declared.reply.Outcome.TheVariants as outcome
use Rattle.cc_entry.specs.declared.reply.Reply.{Reply}
use Rattle.cc_book.specs.Book.{BookState, done, failed}
use Rattle.cc_journal.specs.Journal.{JournalState}
use Rattle.cc_laws.proofs.QuietSteps.{eqb-swapped}
use Rattle.cc_laws.proofs.TurnSteps.{is_quiet-none, is_quiet-unneeded}
use Rattle.cc_model.specs.Passes.{calls_of}
use Rattle.cc_model.specs.Room.{reserved_in}
use Rattle.cc_model.specs.Turns.{Turn, Device, Book, Log as log_turn, Journal, is_book, is_device, is_journal, call_needs, needs}
use Rattle.cc_step.specs.Step.{StandUnder, Adds, AddsOwing, AttemptDone, is_stepped}
use Rattle.cc_turns.specs.Standing.{Standing, TurnsHeld, holds}
use Rattle.cc_turns.specs.Takes.{may_be_of}
use Rattle.cc_writes.specs.Hands.{HasBook}
use Rattle.cc_writes.proofs.Visiting.{Visiting, Stepping}

-- whether a call that was done needs its disk's turn too
abbrev pub needs_disk : Call → Bool
needs_disk (call.NcStore file page bytes) = true
needs_disk (call.NcRead file page) = true
needs_disk (call.Discard file span) = true
needs_disk other = false

-- beside the journal's turn the entry of another call needs the book's alone, and so does that of each that failed
abbrev pub IsBookAlone : Call → Outcome → Type 0
IsBookAlone it (outcome.Done reply) = needs_disk it ≡ false
IsBookAlone it (outcome.Failed e) = Unit {0}

pub diskless : (it : Call) → is_stepped it ≡ true → needs_disk it ≡ false
diskless (call.NcStore file page bytes) stepped = absurd (cc)
diskless (call.NcRead file page) stepped = absurd (cc)
diskless (call.Discard file span) stepped = absurd (cc)
diskless other stepped = refl

needs-book : (s : ℕ) (it : Call) (ended : Outcome) (t : Turn) → IsBookAlone it ended → call_needs (Some s) it ended t ≡ is_book s t
needs-book s (call.NcStore file page bytes) (outcome.Done reply) t alone = absurd (cc)
needs-book s (call.NcRead file page) (outcome.Done reply) t alone = absurd (cc)
needs-book s (call.Discard file span) (outcome.Done reply) t alone = absurd (cc)
needs-book s other (outcome.Done reply) t alone = refl
needs-book s (call.NcStore file page bytes) (outcome.Failed e) t alone = refl
needs-book s (call.NcRead file page) (outcome.Failed e) t alone = refl
needs-book s (call.Discard file span) (outcome.Failed e) t alone = refl
needs-book s other (outcome.Failed e) t alone = refl

-- a turn that is not held is none of a book's that is
away-book : (held : TurnsHeld) (s : ℕ) (t : Turn) → held.book ≡ Some s → holds (record held { journal = true }) t ≡ false → (is_journal t || is_book s t) ≡ false
away-book held s (Device n) book away = refl
away-book held s (Book n) book away = eqb-swapped s n (rw book at away)
away-book held s (log_turn n) book away = refl
away-book held s Journal book away = absurd (cc)

away-device : (held : TurnsHeld) (s : ℕ) (t : Turn) → held.device ≡ Some s → holds (record held { journal = true }) t ≡ false → is_device s t ≡ false
away-device held s (Device n) device away = eqb-swapped s n (rw device at away)
away-device held s (Book n) device away = refl
away-device held s (log_turn n) device away = refl
away-device held s Journal device away = refl

either : (a b c : Bool) → (a || b) ≡ false → c ≡ false → (a || (b || c)) ≡ false
either false false c none other = other
either false true c none other = absurd (cc)
either true b c none other = absurd (cc)

last-two : (a b c : Bool) → (a || b) ≡ false → c ≡ false → (a || c) ≡ false
last-two false b c none other = other
last-two true b c none other = absurd (cc)

-- what is not held is needed by no call on the stream, and by no page that comes in or goes out
pub unneeded-call : (held : TurnsHeld) (me nth s : ℕ) (it : Call) (ended : Outcome) → IsBookAlone it ended → held.book ≡ Some s → (t : Turn) → holds (record held { journal = true }) t ≡ false → needs (entry.Call me nth (Some s) it ended) t ≡ false
unneeded-call held me nth s it ended is book t away = ap (λ b. is_journal t || b) (needs-book s it ended t is) ∙ away-book held s t book away

pub unneeded-page : (held : TurnsHeld) (s : ℕ) → held.book ≡ Some s → held.device ≡ Some s → (t : Turn) → holds (record held { journal = true }) t ≡ false → (is_journal t || (is_book s t || is_device s t)) ≡ false
unneeded-page held s book device t away = either (is_journal t) (is_book s t) (is_device s t) (away-book held s t book away) (away-device held s t device away)

pub unneeded-device : (held : TurnsHeld) (s : ℕ) → held.book ≡ Some s → held.device ≡ Some s → (t : Turn) → holds (record held { journal = true }) t ≡ false → (is_journal t || is_device s t) ≡ false
unneeded-device held s book device t away = last-two (is_journal t) (is_book s t) (is_device s t) (away-book held s t book away) (away-device held s t device away)

module _ {Q : Type 0} (posted : Q → Bool) (w v : Standing) (b c : BookState) (j k : JournalState Q)
    (has : HasBook w b.stream b) (vis : Visiting posted w v b.stream b j) where
  -- the book's turn is held
  pub has-book : w.held.book ≡ Some b.stream
  has-book = ap (λ (h : TurnsHeld). h.book) has.held

  -- it placed nothing, and so many places are under way now
  pub stepping-none : (flight : ℕ) → k ≡ record j { reserved = k.reserved } → StandUnder w.setup c k → c.stream ≡ b.stream → k.reserved + w.in_flight ≡ j.reserved + flight → Stepping w v b.stream flight [] c j k
  stepping-none flight same stand stream reserved = record {
    kept = same ∙ ap (λ (x : JournalState Q). record j { reserved = k.reserved; rows = x.rows }) (sym same);
    stand = stand;
    stream = stream;
    event = tt;
    own = tt;
    held = λ t away. is_quiet-none t;
    reserved =
        let grown = ap (λ (x : JournalState Q). reserved_in x.entries) same in
        let was = vis.reserved_is in
        count k.reserved j.reserved (reserved_in k.entries) (reserved_in j.entries) w.in_flight v.others flight grown was reserved;
  }
    where
      count : (now was owed before flight others next : ℕ) → owed ≡ before → was ≡ before + flight + others → now + flight ≡ was + next → now ≡ owed + next + others
      count now was owed before flight others next a e f = omega (arith, a, e, f)

  -- it placed an entry of its own that needs no turn that it does not hold, and leaves what is reserved
  pub stepping-one : (flight : ℕ) (e : Entry) → k ≡ record j { entries = e ∷ j.entries; reserved = k.reserved; rows = k.rows } → StandUnder w.setup c k → c.stream ≡ b.stream → may_be_of w.number e ≡ true → ((t : Turn) → holds (record w.held { journal = true }) t ≡ false → needs e t ≡ false) → reserved_in (e ∷ j.entries) ≡ reserved_in j.entries → k.reserved + w.in_flight ≡ j.reserved + flight → Stepping w v b.stream flight (e ∷ []) c j k
  stepping-one flight e placed stand stream own unneeded owed reserved = record {
    kept = placed;
    stand = stand;
    stream = stream;
    event = tt;
    own = (own, tt);
    held = λ t away. is_quiet-unneeded t e [] (unneeded t away) ∙ is_quiet-none t;
    reserved =
        let grown = ap (λ (x : JournalState Q). reserved_in x.entries) placed ∙ owed in
        count k.reserved j.reserved (reserved_in k.entries) (reserved_in j.entries) w.in_flight v.others flight grown vis.reserved_is reserved;
  }
    where
      count : (now was owed before flight others next : ℕ) → owed ≡ before → was ≡ before + flight + others → now + flight ≡ was + next → now ≡ owed + next + others
      count now was owed before flight others next a e f = omega (arith, a, e, f)

  -- the journal that gained one entry has the places that it had
  adds-kept : (e : Entry) → Adds e j k → k ≡ record j { entries = e ∷ j.entries; reserved = k.reserved; rows = k.rows }
  adds-kept e adds = adds ∙ ap (λ (x : JournalState Q). record j { entries = e ∷ j.entries; reserved = x.reserved; rows = k.rows }) (sym adds)

  pub adds-reserved : (e : Entry) → Adds e j k → k.reserved + w.in_flight ≡ j.reserved + w.in_flight
  adds-reserved e adds = ap (λ (x : JournalState Q). x.reserved + w.in_flight) adds

  pub stepping-adds : (e : Entry) → Adds e j k → StandUnder w.setup c k → c.stream ≡ b.stream → may_be_of w.number e ≡ true → ((t : Turn) → holds (record w.held { journal = true }) t ≡ false → needs e t ≡ false) → reserved_in (e ∷ j.entries) ≡ reserved_in j.entries → Stepping w v b.stream w.in_flight (e ∷ []) c j k
  stepping-adds e adds stand stream own unneeded owed =
      stepping-one w.in_flight e (adds-kept e adds) stand stream own unneeded owed (adds-reserved e adds)

  -- the entry of a call of the pass: what it owes is reserved, and beyond that as much as before
  stepping-call : (it : Call) (ended : Outcome) → IsBookAlone it ended → AddsOwing (entry.Call w.number (suc (calls_of j.entries w.number)) (Some b.stream) it ended) j k → StandUnder w.setup c k → c.stream ≡ b.stream → Stepping w v b.stream w.in_flight (entry.Call w.number (suc (calls_of j.entries w.number)) (Some b.stream) it ended ∷ []) c j k
  stepping-call it ended alone owing stand stream = record {
    kept = kept;
    stand = stand;
    stream = stream;
    event = tt;
    own = (eq-eqb w.number w.number refl, tt);
    held = λ t away. is_quiet-unneeded t placed [] (unneeded t away) ∙ is_quiet-none t;
    reserved =
        let owed = ap (λ (x : JournalState Q). reserved_in x.entries) owing in
        let is = ap (λ (x : JournalState Q). x.reserved) owing in
        count k.reserved j.reserved (reserved_in k.entries) (reserved_in (placed ∷ j.entries)) (reserved_in j.entries) w.in_flight v.others owed is vis.reserved_is;
  }
    where
      placed : Entry
      placed = entry.Call w.number (suc (calls_of j.entries w.number)) (Some b.stream) it ended

      kept : k ≡ record j { entries = placed ∷ j.entries; reserved = k.reserved; rows = k.rows }
      kept = owing ∙ ap (λ (n : ℕ). record j { entries = placed ∷ j.entries; reserved = n; rows = k.rows }) (sym (ap (λ (x : JournalState Q). x.reserved) owing))

      unneeded : (t : Turn) → holds (record w.held { journal = true }) t ≡ false → needs placed t ≡ false
      unneeded = unneeded-call w.held w.number (suc (calls_of j.entries w.number)) b.stream it ended alone has-book

      count : (now was owed after before flight others : ℕ) → owed ≡ after → now ≡ after + (was - before) → was ≡ before + flight + others → now ≡ owed + flight + others
      count now was owed after before flight others a n w = omega (arith, a, n, w)

  -- the call was done
  pub stepping-done : (it : Call) (r : Reply) → needs_disk it ≡ false → AttemptDone w.setup w.number it r b c j k → Stepping w v b.stream w.in_flight (done w.number j.entries b.stream it r ∷ []) c j k
  stepping-done it r alone left = stepping-call it (outcome.Done r) alone left.placed left.stand left.stream

  -- or failed
  pub stepping-failed : (it : Call) (e : CcError) → AddsOwing (failed w.number j.entries b.stream it e) j k → StandUnder w.setup c k → c.stream ≡ b.stream → Stepping w v b.stream w.in_flight (failed w.number j.entries b.stream it e ∷ []) c j k
  stepping-failed it e placed stand stream = stepping-call it (outcome.Failed e) tt placed stand stream

  -- nothing changed but the book's own pages
  pub stepping-same : k ≡ j → StandUnder w.setup c k → c.stream ≡ b.stream → Stepping w v b.stream w.in_flight [] c j k
  stepping-same same stand stream =
      stepping-none w.in_flight (same ∙ ap (λ (x : JournalState Q). record j { reserved = x.reserved }) (sym same)) stand stream (ap (λ (x : JournalState Q). x.reserved + w.in_flight) same)
