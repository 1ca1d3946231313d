-- How a pass takes turns, and gives them.
use Rattle.std.specs.Prelude.{◌≡◌, ℕ, suc, ◌+◌, ◌-◌, ◌^◌, ◌<◌, Bool, true, false, min, List, [], ◌∷◌, ◌++◌}
use Rattle.std.specs.declared.option.Option.TheVariants.{Some, None}
use Rattle.std.specs.List.{AllByRecursion}
use Rattle.cc_entry.specs.declared.entry.Entry.{Entry}
use Rattle.cc_entry.specs.declared.entry.Entry.TheVariants as entry
use Rattle.cc_journal.specs.Journal.{JournalState}
use Rattle.cc_model.specs.Allowed.{owed_begin}
use Rattle.cc_model.specs.Good.{IsGood}
use Rattle.cc_model.specs.Passes.{is_mine}
use Rattle.cc_model.specs.Room.{reserved_in}
use Rattle.cc_model.specs.Turns.{Turn, Device, Book, Log, Journal, is_quiet}
use Rattle.cc_effects.specs.Moments.{Others}
use Rattle.cc_turns.specs.Standing.{holds, Standing}

-- The others went on meanwhile, but nowhere that the pass holds a turn, and the pass placed nothing.
pub record Grows (w : Standing) (seen : List Entry) : Type 0 where
  pub later : List Entry
  pub grew : seen ≡ later ++ w.seen
  pub quiet : (t : Turn) → holds w.held t ≡ true → is_quiet t later ≡ true
  pub others : Others w.number later

-- A turn was taken: the pass holds it too, has seen what the others did meanwhile, which is good, and knows what they
-- have reserved.
pub record Takes (now : Standing → Standing) (old new : Standing) : Type 0 where
  pub grows : Grows old new.seen
  pub good : IsGood new.setup new.seen
  pub same : new ≡ record (now old) { seen = new.seen; others = new.others }

-- the same pass with one turn more; of a disk it counts how often, up to the last number
abbrev pub with_device : ℕ → Standing → Standing
with_device s w = record w { held = record w.held { device = Some s }; device_turns = min (suc w.device_turns) (2 ^ 64 - 1) }

abbrev pub with_book : ℕ → Standing → Standing
with_book s w = record w { held = record w.held { book = Some s } }

abbrev pub with_log : ℕ → Standing → Standing
with_log handle w = record w { held = record w.held { log = Some handle } }

abbrev pub with_journal : Standing → Standing
with_journal w = record w { held = record w.held { journal = true } }

-- the same pass with one turn less
abbrev pub without_device : Standing → Standing
without_device w = record w { held = record w.held { device = None } }

abbrev pub without_book : Standing → Standing
without_book w = record w { held = record w.held { book = None } }

abbrev pub without_log : Standing → Standing
without_log w = record w { held = record w.held { log = None } }

-- With the journal the pass gives what it placed, which it has seen then; what is reserved beyond what is owed and
-- what others have under way, it has.
abbrev pub without_journal : {Q : Type 0} → JournalState Q → Standing → Standing
without_journal j w = record w {
  seen = j.entries;
  held = record w.held { journal = false };
  in_flight = j.reserved - (reserved_in j.entries + w.others);
}

-- whether a pass may have placed an entry: its own, or a post, which has no pass
abbrev pub may_be_of : ℕ → Entry → Bool
may_be_of me (entry.Posted id) = true
may_be_of me other = is_mine me other

-- Entries that are one event, newest first: none, one, or a noncached store with the begin that has to follow it at once.
abbrev pub IsOneEvent : List Entry → Type 0
IsOneEvent [] = Unit {0}
IsOneEvent (e ∷ []) = Unit {0}
IsOneEvent (begin ∷ (store ∷ [])) = owed_begin (store ∷ []) ≡ Some begin
IsOneEvent (e ∷ (other ∷ (third ∷ more))) = ⊥

-- whether there is a turn where so many streams have a disk: a stream without one has none
abbrev pub IsThere : ℕ → Turn → Type 0
IsThere streams (Device stream) = stream < streams
IsThere streams (Book stream) = stream < streams
IsThere streams (Log handle) = Unit {0}
IsThere streams Journal = Unit {0}

-- The pass placed one event, of entries of its own, none of which needs a turn that there is and that it does not hold.
pub record AddsEvent (w : Standing) (seen : List Entry) : Type 0 where
  pub added : List Entry
  pub grew : seen ≡ added ++ w.seen
  pub event : IsOneEvent added
  pub held : (t : Turn) → IsThere w.streams t → holds w.held t ≡ false → is_quiet t added ≡ true
  pub own : AllByRecursion (λ e. may_be_of w.number e ≡ true) added

-- What was placed since a moment is the pass's own: nobody else went on.
pub record HasActed (me : ℕ) (since seen : List Entry) : Type 0 where
  pub added : List Entry
  pub grew : seen ≡ added ++ since
  pub own : AllByRecursion (λ e. may_be_of me e ≡ true) added
