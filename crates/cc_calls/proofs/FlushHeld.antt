-- A flush with the turn of the disk in hand: the turn of the book taken and given round it, and those of the disk round both.
use Rattle.std.specs.Prelude.{◌≡◌, ℕ, ◌^◌, ◌<◌, Bool, true, false, List, [], ◌∷◌, ◌++◌, OnOk, Result, Ok, Err, refl}
use Rattle.std.specs.declared.option.Option.{Option}
use Rattle.std.specs.declared.option.Option.TheVariants.{Some, None}
use Rattle.std.proofs.Common.{ap, sym, ◌∙◌, subst, append_assoc, inl, inr, arith}
use Rattle.cc_entry.specs.Place.{File, Range}
use Rattle.cc_entry.specs.declared.call.Call.{Call}
use Rattle.cc_entry.specs.declared.call.Call.TheVariants as call
use Rattle.cc_entry.specs.declared.entry.Entry.{Entry}
use Rattle.cc_entry.specs.declared.entry.Entry.TheVariants as entry
use Rattle.cc_entry.specs.declared.error.CcError.{CcError}
use Rattle.cc_entry.specs.declared.error.CcError.TheVariants as error
use Rattle.cc_entry.specs.declared.reply.Outcome.{Outcome}
use Rattle.cc_entry.specs.declared.reply.Outcome.TheVariants as outcome
use Rattle.cc_entry.specs.declared.reply.Reply.TheVariants as reply
use Rattle.cc_book.specs.Book.{BookState, BookStands}
use Rattle.cc_effects.proofs.Begun.{ascend-none, ascend-then, none-idle}
use Rattle.cc_effects.proofs.CallSteps.{left-before}
use Rattle.cc_effects.proofs.WorkSteps.{unstopped-after}
use Rattle.cc_effects.specs.Begins.{BeginsAscending}
use Rattle.cc_effects.specs.Calls.{CallLeft}
use Rattle.cc_effects.specs.Moments.{IsIdle}
use Rattle.cc_effects.specs.Stops.{stops, IsUnstopped}
use Rattle.cc_model.specs.Good.{IsGood}
use Rattle.cc_model.specs.History.{history}
use Rattle.cc_model.specs.Images.{open_of}
use Rattle.cc_model.specs.Passes.{is_mine}
use Rattle.cc_model.specs.Setup.{Setup}
use Rattle.cc_traits.specs.Disk.{Disk}
use Rattle.cc_turns.proofs.Taking.{disk_kept, transfer_kept}
use Rattle.cc_turns.specs.Disk.{DiskStands, opening_of}
use Rattle.cc_turns.specs.Standing.{Standing, TurnsHeld, nothing}
use Rattle.cc_turns.specs.Takes.{Grows, Takes, with_device, with_book, without_device, without_book}
use Rattle.cc_writes.specs.Calls.{IsFullWriting}
use Rattle.cc_writes.specs.Fetch.{CanCall, WentOn}
use Rattle.cc_writes.specs.Hands.{Went}
use Rattle.cc_writes.specs.Ways.{IsFull}
use Rattle.cc_writes.specs.Writes.{HasBoth}
use Rattle.cc_calls.specs.Answers.{outcome_of}
use Rattle.cc_calls.specs.Flushes.{EndedWell, FlushEnds, HasDisk}
use Rattle.cc_calls.proofs.FlushCalls.{flush-ends}

-- what others placed while a pass took a turn
taken-idle : (w v : Standing) → Grows w v.seen → IsIdle w.number w.seen v.seen
taken-idle w v grows = record { during = grows.later; grew = grows.grew; others = grows.others }

begun-since : (w : Standing) (mid new : List Entry) → IsIdle w.number w.seen mid → BeginsAscending w.number 0 (2 ^ 51) mid new → BeginsAscending w.number 0 (2 ^ 51) w.seen new
begun-since w mid new idle more =
    ascend-then w.number 0 0 (2 ^ 51) w.seen mid new (ascend-none w.number 0 0 w.seen mid (omega arith) (none-idle w.number w.seen mid idle)) more

-- a journal that is full is full with turns given back
book-full : (asked : ℕ) (y : Standing) (answer : Result (Unit {0}) CcError) → IsFull asked y answer → IsFull asked (without_book y) answer
book-full asked y (Ok told) full = tt
book-full asked y (Err (error.JournalFull entries)) full = full
book-full asked y (Err other) full = tt

device-full : (asked : ℕ) (y : Standing) (answer : Result (Unit {0}) CcError) → IsFull asked y answer → IsFull asked (without_device y) answer
device-full asked y (Ok told) full = tt
device-full asked y (Err (error.JournalFull entries)) full = full
device-full asked y (Err other) full = tt

book-writing : (it : Call) (y : Standing) (answer : Result (Unit {0}) CcError) → IsFullWriting it y answer → IsFullWriting it (without_book y) answer
book-writing it y answer (inl full) = inl (book-full 1 y answer full)
book-writing it y answer (inr full) = inr (full.0, book-full 2 y answer full.1)

device-writing : (it : Call) (y : Standing) (answer : Result (Unit {0}) CcError) → IsFullWriting it y answer → IsFullWriting it (without_device y) answer
device-writing it y answer (inl full) = inl (device-full 1 y answer full)
device-writing it y answer (inr full) = inr (full.0, device-full 2 y answer full.1)

-- ---- the book taken and given with the disk in hand

module _ {D : Type 0} (told : D → Option Disk) (faults : D → ℕ) (w x : Standing) (s : ℕ) (disk : D) (has : HasDisk told faults w s disk) (took : Takes (with_book s) w x) where
  both_held : x.held ≡ record nothing { device = Some s; book = Some s }
  both_held = ap (λ (y : Standing). y.held) took.same ∙ ap (λ (h : TurnsHeld). record h { book = Some s }) has.held

  device : w.held.device ≡ Some s
  device = ap (λ (h : TurnsHeld). h.device) has.held

  pub number_taken : x.number ≡ w.number
  number_taken = ap (λ (y : Standing). y.number) took.same

  pub setup_taken : x.setup ≡ w.setup
  setup_taken = ap (λ (y : Standing). y.setup) took.same

  pub none_taken : w.in_flight ≡ 0 → x.in_flight ≡ 0
  none_taken none = ap (λ (y : Standing). y.in_flight) took.same ∙ none

  pub known_taken : s < x.streams
  known_taken = subst (λ (n : ℕ). s < n) (sym (ap (λ (y : Standing). y.streams) took.same)) has.known

  pub both_taken : (b : BookState) → b.stream ≡ s → BookStands (x.setup.opening s) x.seen b → HasBoth told faults x s b disk
  both_taken b is stands = record {
    book = record {
      held = both_held ∙ ap (λ (o : Option ℕ). record nothing { device = o; book = Some s }) (sym (ap (λ (h : TurnsHeld). h.device) both_held));
      stream = is;
      stands = stands;
      good = took.good;
    };
    rest = record {
      device = ap (λ (h : TurnsHeld). h.device) both_held;
      no_transfer = transfer_kept (with_book s) w x s took device ∙ has.rest;
    };
    disk = disk_kept told faults (with_book s) w x s disk took refl device has.stands;
    opening = ap (λ (y : Standing). y.setup.opening s) took.same ∙ (has.opening ∙ ap (λ (y : Standing). opening_of (y.disks s).told) (sym took.same));
  }

  module _ (y z : Standing) (went : Went x y) (given : z ≡ without_book y) where
    pub went_given : Went w z
    went_given = record {
      same =
          given
          ∙ (ap without_book went.same
          ∙ (ap (λ (a : Standing). without_book (record a { seen = y.seen; others = y.others; in_flight = a.in_flight })) took.same
          ∙ (ap (λ (h : TurnsHeld). record w { held = record h { book = None }; seen = y.seen; others = y.others }) has.held
          ∙ (ap (λ (h : TurnsHeld). record w { held = h; seen = y.seen; others = y.others }) (sym has.held)
          ∙ again))));
    }
      where
        again : record w { seen = y.seen; others = y.others } ≡ record w { seen = z.seen; others = z.others; in_flight = w.in_flight }
        again =
            ap (λ (l : List Entry). record w { seen = l; others = y.others }) (sym (ap (λ (a : Standing). a.seen) given))
            ∙ ap (λ (n : ℕ). record w { seen = z.seen; others = n }) (sym (ap (λ (a : Standing). a.others) given))

    pub disk_given : (b : BookState) (now : D) → HasBoth told faults y s b now → HasDisk told faults z s now
    disk_given b now both = subst (λ (a : Standing). HasDisk told faults a s now) (sym given) (record {
      known = subst (λ (n : ℕ). s < n) (sym (ap (λ (a : Standing). a.streams) went.same)) known_taken;
      held =
          ap (λ (h : TurnsHeld). record h { book = None }) both.book.held
          ∙ ap (λ (o : Option ℕ). record nothing { device = o }) both.rest.device;
      rest = both.rest.no_transfer;
      stands = both.disk;
      opening = both.opening;
    })

    pub left_given : (it : Call) (answered : Outcome) → CallLeft x.setup x.number it answered x.seen y.seen → CallLeft w.setup w.number it answered w.seen z.seen
    left_given it answered left =
        left-before w.setup w.number it answered w.seen x.seen z.seen (taken-idle w x took.grows)
        (subst (λ (past : List Entry). CallLeft w.setup w.number it answered x.seen past) (sym (ap (λ (a : Standing). a.seen) given))
        (subst (λ (n : ℕ). CallLeft w.setup n it answered x.seen y.seen) number_taken
        (subst (λ (u : Setup). CallLeft u x.number it answered x.seen y.seen) setup_taken left)))

    pub begun_given : BeginsAscending x.number 0 (2 ^ 51) x.seen y.seen → BeginsAscending w.number 0 (2 ^ 51) w.seen z.seen
    begun_given begun =
        begun-since w x.seen z.seen (taken-idle w x took.grows)
        (subst (λ (past : List Entry). BeginsAscending w.number 0 (2 ^ 51) x.seen past) (sym (ap (λ (a : Standing). a.seen) given))
        (subst (λ (n : ℕ). BeginsAscending n 0 (2 ^ 51) x.seen y.seen) number_taken begun))

    pub good_given : IsGood y.setup y.seen → IsGood w.setup z.seen
    good_given good =
        subst (λ (past : List Entry). IsGood w.setup past) (sym (ap (λ (a : Standing). a.seen) given))
        (subst (λ (u : Setup). IsGood u y.seen) (ap (λ (a : Standing). a.setup) went.same ∙ setup_taken) good)

    on_given : WentOn w z
    on_given =
        let on = went_given in
        record { same = on.same ∙ ap (λ (n : ℕ). record w { seen = z.seen; others = z.others; device_turns = n }) (sym (ap (λ (a : Standing). a.device_turns) on.same)) }

    pub ends_given : (file : File) (span : Option Range) (answer : Result (Unit {0}) CcError) → CallLeft x.setup x.number (call.Flush file span) (outcome_of answer) x.seen y.seen → IsFullWriting (call.Flush file span) y answer → IsGood y.setup y.seen → BeginsAscending x.number 0 (2 ^ 51) x.seen y.seen → FlushEnds w z file span answer
    ends_given file span answer left full good begun =
        flush-ends w z file span answer
        (left_given (call.Flush file span) (outcome_of answer) left)
        (subst (λ (a : Standing). IsFullWriting (call.Flush file span) a answer) (sym given) (book-writing (call.Flush file span) y answer full))
        on_given (good_given good) (begun_given begun)

-- where a flush is done, nothing stopped it
own-stops : (me : ℕ) (e : Entry) (during : List Entry) → stops e ≡ false → IsUnstopped me during → IsUnstopped me (e ∷ during)
own-stops me e during none unstopped = go (is_mine me e) refl
  where
    go : (b : Bool) → is_mine me e ≡ b → IsUnstopped me (e ∷ during)
    go true mine = rw (mine, none) unstopped
    go false other = rw other unstopped

pub ended-well : (u : Setup) (me : ℕ) (file : File) (span : Option Range) (answer : Result (Unit {0}) CcError) (old new : List Entry) → CallLeft u me (call.Flush file span) (outcome_of answer) old new → OnOk answer (EndedWell me old new)
ended-well u me file span (Ok _) old new left = record {
  during = left.placed.later ++ done ∷ left.earlier;
  grew = left.placed.grew ∙ sym (append_assoc left.placed.later (done ∷ left.earlier) old);
  unstopped = unstopped-after me left.placed.later (done ∷ left.earlier) left.placed.quiet (own-stops me done left.earlier refl left.unstopped);
}
  where
    done : Entry
    done = entry.Call me left.placed.nth left.placed.stream (call.Flush file span) (outcome.Done reply.Unit)
ended-well u me file span (Err e) old new left = tt

-- ---- the disk taken and given

module _ {D : Type 0} (told : D → Option Disk) (faults : D → ℕ) (w v : Standing) (s : ℕ) (can : CanCall w s) (took : Takes (with_device s) w v) where
  pub device_taken : (disk : D) → v.setup.opening s ≡ opening_of (v.disks s).told → DiskStands told faults (v.disks s) v.seen s disk → open_of (history v.seen s) ≡ None → HasDisk told faults v s disk
  device_taken disk opening stands at_rest = record {
    known = subst (λ (n : ℕ). s < n) (sym (ap (λ (y : Standing). y.streams) took.same)) can.known;
    held = ap (λ (y : Standing). y.held) took.same ∙ ap (λ (h : TurnsHeld). record h { device = Some s }) can.free;
    rest = at_rest;
    stands = stands;
    opening = opening;
  }

  pub none_first : v.in_flight ≡ 0
  none_first = ap (λ (y : Standing). y.in_flight) took.same ∙ can.none

  module _ (y z : Standing) (went : Went v y) (given : z ≡ without_device y) where
    pub device_given : WentOn w z
    device_given = record {
      same = is ∙ sym (ap (λ (a : Standing). record w { seen = a.seen; others = a.others; device_turns = a.device_turns }) is);
    }
      where
        turns : ℕ
        turns = (with_device s w).device_turns

        is : z ≡ record w { seen = y.seen; others = y.others; device_turns = turns }
        is =
            given
            ∙ (ap without_device went.same
            ∙ (ap (λ (a : Standing). without_device (record a { seen = y.seen; others = y.others; in_flight = a.in_flight })) took.same
            ∙ (ap (λ (h : TurnsHeld). record w { held = record h { device = None }; seen = y.seen; others = y.others; device_turns = turns }) can.free
            ∙ ap (λ (h : TurnsHeld). record w { held = h; seen = y.seen; others = y.others; device_turns = turns }) (sym can.free))))

    pub flush_given : (file : File) (span : Option Range) (answer : Result (Unit {0}) CcError) → FlushEnds v y file span answer → FlushEnds w z file span answer
    flush_given file span answer ends =
        flush-ends w z file span answer
        (left-before w.setup w.number (call.Flush file span) (outcome_of answer) w.seen v.seen z.seen (taken-idle w v took.grows)
        (subst (λ (past : List Entry). CallLeft w.setup w.number (call.Flush file span) (outcome_of answer) v.seen past) same_seen
        (subst (λ (n : ℕ). CallLeft w.setup n (call.Flush file span) (outcome_of answer) v.seen y.seen) same_number
        (subst (λ (u : Setup). CallLeft u v.number (call.Flush file span) (outcome_of answer) v.seen y.seen) same_setup ends.left))))
        (subst (λ (a : Standing). IsFullWriting (call.Flush file span) a answer) (sym given) (device-writing (call.Flush file span) y answer ends.full))
        device_given
        (subst (λ (past : List Entry). IsGood w.setup past) same_seen (subst (λ (u : Setup). IsGood u y.seen) same_setup ends.good))
        (begun-since w v.seen z.seen (taken-idle w v took.grows)
        (subst (λ (past : List Entry). BeginsAscending w.number 0 (2 ^ 51) v.seen past) same_seen
        (subst (λ (n : ℕ). BeginsAscending n 0 (2 ^ 51) v.seen y.seen) same_number ends.ascending)))
      where
        same_seen : y.seen ≡ z.seen
        same_seen = sym (ap (λ (a : Standing). a.seen) given)

        same_number : v.number ≡ w.number
        same_number = ap (λ (a : Standing). a.number) took.same

        same_setup : v.setup ≡ w.setup
        same_setup = ap (λ (a : Standing). a.setup) took.same
