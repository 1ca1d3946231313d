-- The step that gives the journal back: it places what the pass added, and keeps the rule.
use Rattle.std.specs.Prelude.{◌≡◌, ◌≢◌, ℕ, suc, ◌+◌, ◌-◌, ◌<◌, ◌≤◌, ◌==◌, Bool, true, false, List, [], ◌∷◌, ◌++◌, length, slice_index, slice_set, refl}
use Rattle.std.specs.declared.option.Option.{Option}
use Rattle.std.specs.declared.option.Option.TheVariants.{Some}
use Rattle.std.specs.List.{AllByRecursion}
use Rattle.std.proofs.Common.{sym, ap, ◌∙◌, subst, ⊎_elim, arith, length-set}
use Rattle.std.proofs.lemmas.Bool.{eqb-true, ne_eqb}
use mathlib.Core.Option.{some, some-injective, none, Option as Maybe}
use lib.ListN.{get_elem?}
use Rattle.atomic_table.specs.Seated.{TableId}
use Rattle.atomic_table.specs.Table.{State, Allows, gives, step}
use Rattle.atomic_table.proofs.Lists.{at_set, set_here, set_else}
use Rattle.cc_entry.specs.declared.entry.Entry.{Entry}
use Rattle.cc_entry.specs.declared.entry.Entry.TheVariants as entry
use Rattle.cc_effects.specs.Moments.{Others, IsIdle}
use Rattle.cc_effects.proofs.Stretches.{idle-none, idle-then}
use Rattle.cc_journal.specs.Journal.{JournalState}
use Rattle.cc_laws.proofs.TurnSteps.{is_quiet-none}
use Rattle.cc_model.specs.Good.{IsGood}
use Rattle.cc_model.specs.Passes.{is_mine}
use Rattle.cc_model.specs.Room.{reserved_in}
use Rattle.cc_model.specs.Turns.{Turn, Device, Book, Log, Journal, is_journal, is_quiet}
use Rattle.cc_turns.specs.Standing.{holds}
use Rattle.cc_turns.specs.Desk.{Begun, Tells}
use Rattle.cc_turns.specs.Journal.{JournalStands}
use Rattle.cc_turns.specs.Slots.{slot_of, slots_of, HasTurn, setup_in, Fits}
use Rattle.cc_turns.specs.Takes.{AddsEvent, IsThere, may_be_of, without_journal}
use Rattle.cc_turns.specs.declared.slots.Place.{Place}
use Rattle.cc_turns.specs.declared.slots.Place.TheVariants as place
use Rattle.cc_turns.proofs.Capacity.{journal_within}
use Rattle.cc_board.specs.declared.rule.View.{View}
use Rattle.cc_board.specs.View.{run_of, turns_held, view_standing, without_turn, standing_at}
use Rattle.cc_board.specs.Plays.{GivesTurn, journal_at}
use Rattle.cc_board.specs.Rule.{under_way, turn_word, IsAtHome, IsTaken, IsHeld, IsView, PassesAreNumbered, IsBoard}
use Rattle.cc_board.proofs.Views.{total-set}
use Rattle.cc_board.proofs.Standing.{fits_grows, fits_any, none_later, grows_more, slot-apart, slot-within}
use Rattle.cc_board.proofs.Parts.{word-here, word-else, word-first, held-kept, apart-set, numbers-set}

-- ---- what a pass placed, and the others

-- an entry of one pass is no other's
not-of-other : (pass me other : ℕ) → other ≢ me → (pass == me) ≡ true → (pass == other) ≡ false
not-of-other pass me other apart is = ne_eqb pass other (λ same. apart (sym same ∙ eqb-true pass me is))

-- what a pass may have placed, another did not
not-mine : (me other : ℕ) (e : Entry) → other ≢ me → may_be_of me e ≡ true → is_mine other e ≡ false
not-mine me other (entry.Call pass nth stream call ended) apart is = not-of-other pass me other apart is
not-mine me other (entry.PageIn pass page from_disk) apart is = not-of-other pass me other apart is
not-mine me other (entry.PageOut pass page) apart is = not-of-other pass me other apart is
not-mine me other (entry.FillFailed pass page) apart is = not-of-other pass me other apart is
not-mine me other (entry.WriteBegin pass page) apart is = not-of-other pass me other apart is
not-mine me other (entry.WriteEnd pass page how) apart is = not-of-other pass me other apart is
not-mine me other (entry.Sync pass stream how) apart is = not-of-other pass me other apart is
not-mine me other (entry.Append pass handle lsn bytes) apart is = not-of-other pass me other apart is
not-mine me other (entry.Flushed pass handle to) apart is = not-of-other pass me other apart is
not-mine me other (entry.LogFailed pass handle) apart is = not-of-other pass me other apart is
not-mine me other (entry.Defer pass id file pages retrying) apart is = not-of-other pass me other apart is
not-mine me other (entry.Posted id) apart is = refl
not-mine me other (entry.Scan pass picked) apart is = not-of-other pass me other apart is
not-mine me other (entry.Record pass stream size valid how) apart is = not-of-other pass me other apart is
not-mine me other (entry.RecordFailed pass stream) apart is = not-of-other pass me other apart is
not-mine me other (entry.Locked pass file span exclusive granted id) apart is = not-of-other pass me other apart is
not-mine me other (entry.Unlocked pass file id gone) apart is = not-of-other pass me other apart is
not-mine me other (entry.Tested pass file span write conflict) apart is = not-of-other pass me other apart is

-- so all that a pass placed is others' to each other pass
others-added : (me other : ℕ) (added : List Entry) → other ≢ me → AllByRecursion (λ e. may_be_of me e ≡ true) added → Others other added
others-added me other [] apart own = tt
others-added me other (e ∷ added) apart own = (not-mine me other e apart own.0, others-added me other added apart own.1)

-- what is not true is false
not-true : (b : Bool) → (b ≡ true → ⊥) → b ≡ false
not-true true never = absurd (never refl)
not-true false never = refl

-- ---- the step

-- another turn than the journal's has another slot
slot-else : {D L : Type 0} (begun : Begun D L) (t : Turn) → HasTurn begun t → is_journal t ≡ false → slot_of begun t ≢ slot_of begun Journal
slot-else begun t known other same = let is = ap is_journal (slot-apart begun t Journal known tt same) in absurd (cc)

-- A pass of the board, not the first, holds the journal, and gives it with what it added; it has one entry under way at
-- most then.
module _ {D L Q : Type 0} (tells : Tells D L Q) (begun : Begun D L) (s : State (Option (Place D L Q)) (View D L)) (id : ℕ) (v : View D L) (turns : ℕ) (j : JournalState Q) (rule : IsBoard tells begun s) (at : get_elem? s.views id ≡ some v) (live : v.live ≡ true) (journal : v.journal ≡ true) (other : v.number ≢ 0) (few : j.reserved - (reserved_in j.entries + v.others) ≤ 1) (room : length j.entries + j.reserved ≤ j.capacity) (adds : AddsEvent (view_standing tells v turns) j.entries) where
  -- what the pass knows then, and the words, the slots and the views
  abbrev after : View D L
  after = without_turn Journal (place.Journal j) v

  abbrev words : List ℕ
  words = slice_set s.words (turn_word begun Journal) 0

  abbrev homes : List (Maybe (Option (Place D L Q)))
  homes = slice_set s.homes (slot_of begun Journal) (some (Some (place.Journal j)))

  abbrev views : List (View D L)
  views = slice_set s.views id after

  -- nothing was placed since the pass looked
  past-seen : rule.past ≡ v.seen
  past-seen =
      let is = (rule.views id v at).grows live in
      is.grew ∙ ap (λ l. l ++ v.seen) (none_later is.later (is.quiet Journal journal))

  -- the new past is what the pass added, after the old one
  now-is : j.entries ≡ adds.added ++ rule.past
  now-is = adds.grew ∙ ap (λ l. adds.added ++ l) (sym past-seen)

  -- a turn of the run is there for the pass
  is-there : (t : Turn) → HasTurn begun t → IsThere (length v.disks) t
  is-there (Device stream) known = subst (λ (b : Begun D L). stream < length b.disks) (sym ((rule.views id v at).of_run live)) known
  is-there (Book stream) known = subst (λ (b : Begun D L). stream < length b.disks) (sym ((rule.views id v at).of_run live)) known
  is-there (Log handle) known = tt
  is-there Journal known = tt

  -- what another pass holds, this one does not
  apart-held : (a : ℕ) (x : View D L) (t : Turn) → a ≢ id → get_elem? s.views a ≡ some x → holds (turns_held x) t ≡ true → holds (turns_held v) t ≡ false
  apart-held a x t apart there held =
      not-true (holds (turns_held v) t) (λ mine. apart (rule.apart a id x v t there at held mine))

  -- so it added nothing that needs it
  quiet-held : (a : ℕ) (x : View D L) (t : Turn) → a ≢ id → get_elem? s.views a ≡ some x → holds (turns_held x) t ≡ true → is_quiet t adds.added ≡ true
  quiet-held a x t apart there held = adds.held t (is-there t ((rule.views a x there).taken t held).known) (apart-held a x t apart there held)

  -- nor anything that needs a free turn
  quiet-free : (t : Turn) → HasTurn begun t → slice_index s.words (turn_word begun t) ≡ 0 → is_quiet t adds.added ≡ true
  quiet-free t known free =
      adds.held t (is-there t known) (not-true (holds (turns_held v) t) (λ mine. ((rule.views id v at).taken t mine).word free))

  -- to a pass of another number all that it added is others'
  others-of : (number : ℕ) → number ≢ v.number → Others number adds.added
  others-of number apart = others-added v.number number adds.added apart adds.own

  -- a pass of another number was idle as long
  idle-on : (number : ℕ) (seen : List Entry) → number ≢ v.number → IsIdle number seen rule.past → IsIdle number seen j.entries
  idle-on number seen apart idle =
      idle-then number seen rule.past j.entries idle (record { during = adds.added; grew = now-is; others = others-of number apart })

  -- what all passes have reserved then
  under_way-after : under_way views ≡ after.in_flight + v.others
  under_way-after =
      let sum = total-set (λ (x : View D L). x.in_flight) s.views id v after at in
      let was = rule.reserved id v at journal in
      omega (arith, sum, was)

  -- the word of another turn stays
  word-other : (t : Turn) → HasTurn begun t → is_journal t ≡ false → slice_index words (turn_word begun t) ≡ slice_index s.words (turn_word begun t)
  word-other t known other = word-else begun s.words Journal t 0 (slot-else begun t known other)

  -- the journal's is 0
  word-journal : slice_index words (turn_word begun Journal) ≡ 0
  word-journal = word-here begun s.words Journal 0 rule.sized.0 tt

  -- ---- what is at home

  -- the journal comes home, with all that is reserved
  journal-home : run_of v ≡ begun → JournalStands tells.posted (without_journal j (view_standing tells v turns)) j → IsAtHome tells begun j.entries (under_way views) homes Journal
  journal-home run stands = record {
    place = place.Journal j;
    there = let within = slot-within begun Journal tt in set_here s.homes (slot_of begun Journal) (some (Some (place.Journal j))) (omega (arith, within, rule.sized.1));
    fits = record {
      entries_are = refl;
      capacity_is = stands.capacity_is ∙ ap (λ (b : Begun D L). b.capacity) run;
      threshold_is = stands.threshold_is ∙ ap (λ (b : Begun D L). b.threshold) run;
      logs_are = stands.logs_are ∙ ap (λ (b : Begun D L). length b.logs) run;
      reserved_is = let sum = under_way-after in let is = stands.reserved_is in omega (arith, sum, is);
      unposted = stands.unposted;
    };
  }

  -- what another free turn is of stays at home
  other-home : (t : Turn) → is_journal t ≡ false → HasTurn begun t → slice_index words (turn_word begun t) ≡ 0 → IsAtHome tells begun j.entries (under_way views) homes t
  other-home t other known free =
      let was = sym (word-other t known other) ∙ free in
      let home = rule.home t known was in
      record {
        place = home.place;
        there = set_else s.homes (slot_of begun Journal) (slot_of begun t) (some (Some (place.Journal j))) (slot-else begun t known other) ∙ home.there;
        fits = subst (λ (past : List Entry). Fits tells begun past (under_way views) t home.place) (sym now-is) (fits_any tells begun (adds.added ++ rule.past) (under_way s.views) (under_way views) t home.place other
            (fits_grows tells begun adds.added rule.past (under_way s.views) t home.place (quiet-free t known was) home.fits));
      }

  home-after : run_of v ≡ begun → JournalStands tells.posted (without_journal j (view_standing tells v turns)) j → (t : Turn) → HasTurn begun t → slice_index words (turn_word begun t) ≡ 0 → IsAtHome tells begun j.entries (under_way views) homes t
  home-after run stands (Device stream) known free = other-home (Device stream) refl known free
  home-after run stands (Book stream) known free = other-home (Book stream) refl known free
  home-after run stands (Log handle) known free = other-home (Log handle) refl known free
  home-after run stands Journal known free = journal-home run stands

  -- ---- what is out

  -- the pass holds its other turns on
  kept-other : (t : Turn) → is_journal t ≡ false → holds (turns_held v) t ≡ true → holds (turns_held after) t ≡ true
  kept-other (Device stream) other held = held
  kept-other (Book stream) other held = held
  kept-other (Log handle) other held = held
  kept-other Journal other held = absurd (cc)

  -- another turn that is out is held on
  other-out : (t : Turn) → is_journal t ≡ false → HasTurn begun t → slice_index words (turn_word begun t) ≢ 0 → IsHeld views t
  other-out t other known out =
      held-kept s.views id v after t at (kept-other t other) (rule.out t known (λ free. out (word-other t known other ∙ free)))

  out-after : (t : Turn) → HasTurn begun t → slice_index words (turn_word begun t) ≢ 0 → IsHeld views t
  out-after (Device stream) known out = other-out (Device stream) refl known out
  out-after (Book stream) known out = other-out (Book stream) refl known out
  out-after (Log handle) known out = other-out (Log handle) refl known out
  out-after Journal known out = absurd (out word-journal)

  -- ---- each view

  -- another turn is taken on
  other-taken : (t : Turn) → is_journal t ≡ false → IsTaken begun s.words t → IsTaken begun words t
  other-taken t other taken = record { known = taken.known; word = λ free. taken.word (sym (word-other t taken.known other) ∙ free) }

  -- a turn that the pass holds on was held, and is not the journal
  held-before : (t : Turn) → holds (turns_held after) t ≡ true → (holds (turns_held v) t ≡ true) × (is_journal t ≡ false)
  held-before (Device stream) held = (held, refl)
  held-before (Book stream) held = (held, refl)
  held-before (Log handle) held = (held, refl)
  held-before Journal held = absurd (cc)

  -- nobody else holds the journal
  no-journal : (a : ℕ) (x : View D L) (t : Turn) → a ≢ id → get_elem? s.views a ≡ some x → holds (turns_held x) t ≡ true → is_journal t ≡ false
  no-journal a x (Device stream) apart there held = refl
  no-journal a x (Book stream) apart there held = refl
  no-journal a x (Log handle) apart there held = refl
  no-journal a x Journal apart there held = absurd (apart (rule.apart a id x v Journal there at held journal))

  -- the pass has seen all that it placed
  own-view : run_of v ≡ begun → IsView tells begun j.entries words after
  own-view run = record {
    of_run = λ is. run;
    grows = λ is. record { later = []; grew = refl; quiet = λ t held. is_quiet-none t; others = tt };
    spent = λ is. absurd (cc (is, live));
    none = λ is. absurd (cc (is, live));
    one = λ apart. few;
    taken = λ t held. let was = held-before t held in other-taken t was.1 ((rule.views id v at).taken t was.0);
  }

  -- to each other pass others went on
  other-view : (a : ℕ) (x : View D L) → a ≢ id → get_elem? s.views a ≡ some x → IsView tells begun j.entries words x
  other-view a x apart there =
      let is = rule.views a x there in
      record {
        of_run = is.of_run;
        grows = λ lives. rw now-is (grows_more (view_standing tells x 0) adds.added rule.past (is.grows lives)
            (others-of x.number (λ same. apart (rule.numbers.apart a id x v there at lives live same)))
            (λ t held. quiet-held a x t apart there held));
        spent = is.spent;
        none = is.none;
        one = is.one;
        taken = λ t held. other-taken t (no-journal a x t apart there held) (is.taken t held);
      }

  views-after : run_of v ≡ begun → (a : ℕ) (x : View D L) → get_elem? views a ≡ some x → IsView tells begun j.entries words x
  views-after run a x there = ⊎_elim
      (λ here. subst (λ (y : View D L). IsView tells begun j.entries words y) here.1 (own-view run))
      (λ other. other-view a x other.0 other.1)
      (at_set s.views id a after x there)

  -- ---- no turn is held twice

  apart-after : (a b : ℕ) (x y : View D L) (t : Turn) → get_elem? views a ≡ some x → get_elem? views b ≡ some y → holds (turns_held x) t ≡ true → holds (turns_held y) t ≡ true → a ≡ b
  apart-after = apart-set s.views id after
      (λ b x t other there mine held. other (rule.apart b id x v t there at held (held-before t mine).0))
      rule.apart

  -- ---- what passes have reserved

  -- nobody holds the journal then
  reserved-after : (a : ℕ) (x : View D L) → get_elem? views a ≡ some x → x.journal ≡ true → under_way views ≡ x.in_flight + x.others
  reserved-after a x there held = ⊎_elim
      (λ here. let is = ap (λ (y : View D L). y.journal) here.1 in absurd (cc (is, held)))
      (λ other. absurd (other.0 (rule.apart a id x v Journal other.1 at held journal)))
      (at_set s.views id a after x there)

  -- ---- the numbers of passes

  numbers-after : (first : View D L) × PassesAreNumbered j.entries words views first
  numbers-after = numbers-set rule.past j.entries s.words words s.views id v after rule.first at
      (record { live = refl; number = refl; made = refl; drawn = refl; ended = refl; passes = refl; before = refl; in_flight = λ first. absurd (other first) })
      (word-first begun s.words Journal 0)
      (λ number seen among. idle-on number seen (λ same. rule.numbers.ended_apart number seen id v among at live (sym same)) (rule.numbers.ended number seen among))
      (λ u there number free. ⊎_elim
      (λ here. subst (λ (x : View D L). IsIdle number x.seen j.entries) here.1 (idle-none number j.entries))
      (λ other. let is : rule.first ≡ u = some-injective rule.first u (sym rule.numbers.there ∙ other.1) in
      let below = rule.numbers.below id v at live in
      subst (λ (x : View D L). IsIdle number x.seen j.entries) is
      (idle-on number rule.first.seen (λ same. absurd (omega (arith, below, free, same))) (rule.numbers.unmade number free)))
      (at_set s.views id 0 after u there))
      rule.numbers

  -- ---- the rule

  kept : run_of v ≡ begun → JournalStands tells.posted (without_journal j (view_standing tells v turns)) j → IsBoard tells begun (record { words = words; homes = homes; views = views })
  kept run stands = let numbers = numbers-after in record {
    past = j.entries;
    good = subst (λ (b : Begun D L). IsGood (setup_in tells b) j.entries) run stands.good;
    within = journal_within j begun.capacity adds.added rule.past now-is adds.event (stands.capacity_is ∙ ap (λ (b : Begun D L). b.capacity) run) (let is = stands.reserved_is in omega (arith, is)) room rule.within;
    few = rule.few;
    sized = (length-set s.words (turn_word begun Journal) 0 ∙ rule.sized.0, length-set s.homes (slot_of begun Journal) (some (Some (place.Journal j))) ∙ rule.sized.1);
    home = home-after run stands;
    out = out-after;
    views = views-after run;
    apart = apart-after;
    reserved = reserved-after;
    first = numbers.0;
    numbers = numbers.1;
  }

-- A pass may give the journal back with what it added.
pub gives_journal : {D L Q : Type 0} (tells : Tells D L Q) (begun : Begun D L) (id : ℕ) (v : View D L) (carried : List (ℕ × Option (Place D L Q))) (turns : ℕ) (j : JournalState Q) (slot : ℕ) → slot ≡ slot_of begun Journal → v.live ≡ true → run_of v ≡ begun → v.journal ≡ true → v.number ≢ 0 → j.reserved - (reserved_in j.entries + v.others) ≤ 1 → length j.entries + j.reserved ≤ j.capacity →
    AddsEvent (view_standing tells v turns) j.entries → JournalStands tells.posted (without_journal j (view_standing tells v turns)) j →
    Allows (IsBoard tells begun) (slots_of begun) id (v, (slot, Some (place.Journal j)) ∷ carried) (suc slot) (λ _. 0)
    (GivesTurn journal_at (step (slots_of begun) (suc slot) 0 0 none) (v, (slot, Some (place.Journal j)) ∷ carried))
gives_journal {D} {L} {Q} tells begun id v carried turns j slot is live run journal other few room adds stands =
    subst (λ (n : ℕ). Allows (IsBoard tells begun) (slots_of begun) id (v, (n, Some (place.Journal j)) ∷ carried) (suc n) (λ _. 0)
    (GivesTurn journal_at (step (slots_of begun) (suc n) 0 0 none) (v, (n, Some (place.Journal j)) ∷ carried))) (sym is)
    (λ s rule sized at small. (
      without_turn Journal (place.Journal j) v,
      gives,
      tt,
      kept tells begun s id v turns j rule at live journal other few room adds run stands,
      refl,
    ))

-- the same, of a pass whose standing names its board
pub gives_journal_at : {D L Q : Type 0} (tells : Tells D L Q) (begun : Begun D L) (at : TableId) (id : ℕ) (v : View D L) (carried : List (ℕ × Option (Place D L Q))) (turns : ℕ) (j : JournalState Q) (slot : ℕ) → slot ≡ slot_of begun Journal → v.live ≡ true → run_of v ≡ begun → v.journal ≡ true → v.number ≢ 0 → j.reserved - (reserved_in j.entries + v.others) ≤ 1 → length j.entries + j.reserved ≤ j.capacity →
    AddsEvent (standing_at tells at v turns) j.entries → JournalStands tells.posted (without_journal j (standing_at tells at v turns)) j →
    Allows (IsBoard tells begun) (slots_of begun) id (v, (slot, Some (place.Journal j)) ∷ carried) (suc slot) (λ _. 0)
    (GivesTurn journal_at (step (slots_of begun) (suc slot) 0 0 none) (v, (slot, Some (place.Journal j)) ∷ carried))
gives_journal_at tells begun at id v carried turns j slot is live run journal other few room adds stands =
    gives_journal tells begun id v carried turns j slot is live run journal other few room
    (record { added = adds.added; grew = adds.grew; event = adds.event; held = adds.held; own = adds.own })
    (record {
      entries_are = stands.entries_are;
      good = stands.good;
      capacity_is = stands.capacity_is;
      threshold_is = stands.threshold_is;
      logs_are = stands.logs_are;
      reserved_is = stands.reserved_is;
      unposted = stands.unposted;
    })
