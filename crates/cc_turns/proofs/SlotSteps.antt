-- How a desk goes out into slots, and comes back.
use Rattle.std.specs.Prelude.{◌≡◌, ℕ, zero, suc, ◌+◌, ◌-◌, ◌*◌, ◌<◌, ◌≤◌, Bool, true, false, if◌then◌else◌, List, [], ◌∷◌, ◌++◌, length, map, reverse, drop, slice_get, is_some}
use Rattle.std.specs.declared.option.Option.{Option}
use Rattle.std.specs.declared.option.Option.TheVariants.{Some, None}
use Rattle.std.specs.List.{list_all}
use Rattle.std.specs.Option.{option_map}
use Rattle.std.proofs.Common.{refl, sym, subst, ap, ◌∙◌, arith, append_assoc}
use Rattle.std.proofs.lemmas.List.{reverse-append, append-nil, length-append, length-map, length-drop}
use Rattle.std.proofs.lemmas.Option.{slice_get-map}
use Rattle.cc_entry.specs.declared.entry.Entry.{Entry}
use Rattle.cc_book.specs.Book.{BookState}
use Rattle.cc_journal.specs.Journal.{JournalState}
use Rattle.cc_log.specs.Turn.{LogTurnState}
use Rattle.cc_model.specs.Room.{reserved_in}
use Rattle.cc_model.specs.Turns.{Turn, Device, Book, Log, Journal}
use Rattle.cc_turns.specs.Standing.{nothing}
use Rattle.cc_turns.specs.Places.{AreHome}
use Rattle.cc_turns.specs.Desk.{Begun, DeskState, DeskStands, Tells, DiskIsHome, BookIsHome, LogIsHome, openings}
use Rattle.cc_turns.specs.Slots.{HasTurn, Fits, IsInSlot, AreInSlots, IsPutTogether, JournalIsHome, under_way_in}
use Rattle.cc_turns.specs.declared.slots.Place.{Place}
use Rattle.cc_turns.specs.declared.slots.Place.TheVariants as place
use Rattle.cc_turns.proofs.RowSteps.{longer, all_at_home}

-- what there is of one kind in a row of slots, in its order
pub kept : {A : Type 0} → Option A → List (Option A)
kept None = []
kept (Some a) = Some a ∷ []

pub picked : {A P : Type 0} → (P → Option A) → List (Option P) → List (Option A)
picked f [] = []
picked f (None ∷ slots) = picked f slots
picked f (Some p ∷ slots) = kept (f p) ++ picked f slots

picked-append : {A P : Type 0} (f : P → Option A) (xs ys : List (Option P)) → picked f (xs ++ ys) ≡ picked f xs ++ picked f ys
unfolding picked
picked-append f [] ys = refl
picked-append f (None ∷ xs) ys = picked-append f xs ys
picked-append f (Some p ∷ xs) ys =
    ap (λ zs. kept (f p) ++ zs) (picked-append f xs ys) ∙ sym (append_assoc (kept (f p)) (picked f xs) (picked f ys))

picked_one : {A P : Type 0} (f : P → Option A) (p : P) → picked f (Some p ∷ []) ≡ kept (f p)
unfolding picked
picked_one f p = append-nil (kept (f p))

-- of a row of its kind it is all, and of one of another kind nothing
picked_own : {A P : Type 0} (f : P → Option A) (wrap : A → P) (things : List A) → ((a : A) → f (wrap a) ≡ Some a) → picked f (map (λ a. Some (wrap a)) things) ≡ map (λ a. Some a) things
unfolding picked kept
picked_own f wrap [] own = refl
picked_own f wrap (a ∷ things) own =
    ap (λ o. kept o ++ picked f (map (λ a. Some (wrap a)) things)) (own a) ∙ ap (λ zs. Some a ∷ zs) (picked_own f wrap things own)

picked_other : {A B P : Type 0} (f : P → Option A) (wrap : B → P) (things : List B) → ((b : B) → f (wrap b) ≡ None) → picked f (map (λ b. Some (wrap b)) things) ≡ []
unfolding picked kept
picked_other f wrap [] other = refl
picked_other f wrap (b ∷ things) other =
    ap (λ o. kept o ++ picked f (map (λ b. Some (wrap b)) things)) (other b) ∙ picked_other f wrap things other

-- of a row of slots it is what is of its kind in the last one, behind what is of it in the others
picked_last : {A P : Type 0} (f : P → Option A) (slots rest : List (Option P)) (slot : Option P) (p : P) (o : Option A) → slots ≡ rest ++ slot ∷ [] → slot ≡ Some p → f p ≡ o → picked f slots ≡ picked f rest ++ kept o
picked_last f slots rest slot p o is put of =
    ap (picked f) is
    ∙ picked-append f rest (slot ∷ [])
    ∙ ap (λ o. picked f rest ++ picked f (o ∷ [])) put
    ∙ ap (λ zs. picked f rest ++ zs) (picked_one f p ∙ ap kept of)

-- What there is of one kind in the slots still, and what came back of it, the last one first, are what there was.
-- There is room for all.
pub record Returns {A P : Type 0} (f : P → Option A) (old slots : List (Option P)) (row : List (Option A)) (capacity : ℕ) : Type 0 where
  pub moved : picked f slots ++ reverse row ≡ picked f old
  pub room : length (picked f slots) + length row ≤ capacity

pub returns_begun : {A P : Type 0} (f : P → Option A) (old : List (Option P)) (row : List (Option A)) (capacity : ℕ) → row ≡ [] → length (picked f old) ≤ capacity → Returns f old old row capacity
returns_begun f old row capacity empty room = subst (λ xs. Returns f old old xs capacity) (sym empty) (record {
  moved = append-nil (picked f old);
  room = omega arith;
})

pub returns_own : {A P : Type 0} (f : P → Option A) (old slots rest : List (Option P)) (slot : Option P) (p : P) (a : A) (row now : List (Option A)) (before after : ℕ) → slots ≡ rest ++ slot ∷ [] → slot ≡ Some p → f p ≡ Some a → now ≡ row ++ Some a ∷ [] → after ≡ before → Returns f old slots row before → Returns f old rest now after
unfolding kept
returns_own f old slots rest slot p a row now before after is put of pushed same returns =
    let last : picked f slots ≡ picked f rest ++ Some a ∷ [] = picked_last f slots rest slot p (Some a) is put of in
    record {
      moved = ap (λ xs. picked f rest ++ reverse xs) pushed
          ∙ ap (λ xs. picked f rest ++ xs) (reverse-append row (Some a ∷ []))
          ∙ sym (append_assoc (picked f rest) (Some a ∷ []) (reverse row))
          ∙ ap (λ xs. xs ++ reverse row) (sym last)
          ∙ returns.moved;
      room = omega (arith, longer _ _ (Some a) last, longer _ _ (Some a) pushed, returns.room);
    }

-- where one comes back, there is room for it
pub returns_room : {A P : Type 0} (f : P → Option A) (old slots rest : List (Option P)) (slot : Option P) (p : P) (a : A) (row : List (Option A)) (capacity : ℕ) → slots ≡ rest ++ slot ∷ [] → slot ≡ Some p → f p ≡ Some a → Returns f old slots row capacity → length row < capacity
unfolding kept
returns_room f old slots rest slot p a row capacity is put of returns =
    omega (arith, longer _ _ (Some a) (picked_last f slots rest slot p (Some a) is put of), returns.room)

pub returns_other : {A P : Type 0} (f : P → Option A) (old slots rest : List (Option P)) (slot : Option P) (p : P) (row : List (Option A)) (capacity : ℕ) → slots ≡ rest ++ slot ∷ [] → slot ≡ Some p → f p ≡ None → Returns f old slots row capacity → Returns f old rest row capacity
unfolding kept
returns_other f old slots rest slot p row capacity is put of returns =
    let last : picked f slots ≡ picked f rest = picked_last f slots rest slot p None is put of ∙ append-nil (picked f rest) in
    record {
      moved = ap (λ xs. xs ++ reverse row) (sym last) ∙ returns.moved;
      room = omega (arith, ap length last, returns.room);
    }

pub returns_ended : {A P : Type 0} (f : P → Option A) (old slots : List (Option P)) (row : List (Option A)) (capacity : ℕ) → slots ≡ [] → Returns f old slots row capacity → reverse row ≡ picked f old
unfolding picked
returns_ended f old slots row capacity empty returns = ap (λ xs. picked f xs ++ reverse row) (sym empty) ∙ returns.moved

-- The one journal is in the slots still, or it came back.
pub one_begun : {A P : Type 0} (f : P → Option A) (old : List (Option P)) → picked f old ++ kept None ≡ picked f old
unfolding kept
one_begun f old = append-nil (picked f old)

pub one_own : {A P : Type 0} (f : P → Option A) (old slots rest : List (Option P)) (slot : Option P) (p : P) (a b : A) (came : Option A) → slots ≡ rest ++ slot ∷ [] → slot ≡ Some p → f p ≡ Some a → picked f old ≡ Some b ∷ [] → picked f slots ++ kept came ≡ picked f old → picked f rest ++ kept (Some a) ≡ picked f old
unfolding kept
one_own f old slots rest slot p a b came is put of one moved =
    first (picked f rest) (kept came) (Some a) (Some b)
    (sym (append_assoc (picked f rest) (Some a ∷ []) (kept came)) ∙ ap (λ xs. xs ++ kept came) (sym (picked_last f slots rest slot p (Some a) is put of)) ∙ moved ∙ one)
    ∙ sym one
  where
    first : {X : Type 0} (xs ys : List X) (x y : X) → xs ++ x ∷ ys ≡ y ∷ [] → xs ++ x ∷ [] ≡ y ∷ []
    first [] ys x y is = cc
    first (z ∷ []) ys x y is = absurd (cc)
    first (z ∷ w ∷ xs) ys x y is = absurd (cc)

pub one_other : {A P : Type 0} (f : P → Option A) (old slots rest : List (Option P)) (slot : Option P) (p : P) (came : Option A) → slots ≡ rest ++ slot ∷ [] → slot ≡ Some p → f p ≡ None → picked f slots ++ kept came ≡ picked f old → picked f rest ++ kept came ≡ picked f old
unfolding kept
one_other f old slots rest slot p came is put of moved =
    ap (λ xs. xs ++ kept came) (sym (picked_last f slots rest slot p None is put of ∙ append-nil (picked f rest))) ∙ moved

pub one_ended : {A P : Type 0} (f : P → Option A) (old slots : List (Option P)) (a : A) (came : Option A) → slots ≡ [] → picked f old ≡ Some a ∷ [] → picked f slots ++ kept came ≡ picked f old → came ≡ Some a
unfolding kept picked
one_ended f old slots a None empty one moved = let no : [] ≡ Some a ∷ [] = ap (λ xs. picked f xs ++ []) (sym empty) ∙ moved ∙ one in absurd (cc no)
one_ended f old slots a (Some b) empty one moved = let is : Some b ∷ [] ≡ Some a ∷ [] = ap (λ xs. picked f xs ++ Some b ∷ []) (sym empty) ∙ moved ∙ one in cc is

pub one_came : {A P : Type 0} (f : P → Option A) (old slots : List (Option P)) (a : A) (came : Option A) → slots ≡ [] → came ≡ Some a → picked f slots ++ kept came ≡ picked f old → picked f old ≡ Some a ∷ []
unfolding kept picked
one_came f old slots a came empty is moved = sym moved ∙ ap (λ xs. picked f xs ++ kept came) empty ∙ ap kept is

-- what is in a row is there in the row with more before it, and behind it
get_before : {P : Type 0} (xs ys : List P) (n : ℕ) (p : P) → slice_get xs n ≡ Some p → slice_get (xs ++ ys) n ≡ Some p
get_before [] ys zero p is = absurd (cc)
get_before [] ys (suc n) p is = absurd (cc)
get_before (x ∷ xs) ys zero p is = is
get_before (x ∷ xs) ys (suc n) p is = get_before xs ys n p is

get_behind : {P : Type 0} (xs ys : List P) (at n : ℕ) (p : P) → at ≡ length xs + n → slice_get ys n ≡ Some p → slice_get (xs ++ ys) at ≡ Some p
get_behind [] ys at n p is there = let same : n ≡ at = omega arith in subst (λ k. slice_get ys k ≡ Some p) same there
get_behind (x ∷ xs) ys zero n p is there = absurd (omega arith)
get_behind (x ∷ xs) ys (suc at) n p is there = get_behind xs ys at n p (omega arith) there

-- something is at each place of a row
at_each : {A : Type 0} (xs : List A) (n : ℕ) → n < length xs → (x : A) × (slice_get xs n ≡ Some x)
at_each [] n within = absurd (omega arith)
at_each (x ∷ xs) zero within = (x, refl)
at_each (x ∷ xs) (suc n) within = at_each xs n (omega arith)

-- where nothing is out, what is at home at a place is in its slot
slot_home : {A P : Type 0} {IsHome : ℕ → A → Type 0} (wrap : A → P) (count : ℕ) (held : Option ℕ) (row : List (Option A)) (n : ℕ) → n < count → held ≡ None → AreHome count held IsHome row → (a : A) × ((slice_get (map (option_map wrap) row) n ≡ Some (Some (wrap a))) × IsHome n a)
slot_home {A} {P} {IsHome} wrap count held row n within free are = let at : (o : Option A) × (slice_get row n ≡ Some o) = at_each row n (rw are.counted within) in go at.0 at.1
  where
    no_number : None ≡ Some n → ⊥
    no_number is = absurd (cc)

    go : (o : Option A) → slice_get row n ≡ Some o → (a : A) × ((slice_get (map (option_map wrap) row) n ≡ Some (Some (wrap a))) × IsHome n a)
    go None is = absurd (no_number (sym free ∙ (are.out n).0 is))
    go (Some a) is = (a, (slice_get-map (option_map wrap) row n ∙ ap (option_map (option_map wrap)) is, are.home n a is))

-- how many slots there are where three rows moved out
pub moved_counted : {A B C P : Type 0} (f : A → P) (g : B → P) (h : C → P) (xs : List (Option A)) (ys : List (Option B)) (zs : List (Option C)) (none one two three : List (Option P)) → none ≡ [] → one ≡ none ++ map (option_map f) xs → two ≡ one ++ map (option_map g) ys → three ≡ two ++ map (option_map h) zs → length three ≡ length xs + length ys + length zs
moved_counted f g h xs ys zs none one two three empty first second third = omega (
  arith,
  ap length empty,
  ap length first ∙ length-append none (map (option_map f) xs),
  ap length second ∙ length-append one (map (option_map g) ys),
  ap length third ∙ length-append two (map (option_map h) zs),
  length-map xs (option_map f),
  length-map ys (option_map g),
  length-map zs (option_map h),
)

-- a journal last at home is at home where its turn is not held
the_journal : {A : Type 0} (held : Bool) (journal : Option A) (j last : A) → held ≡ false → journal ≡ (if held then None else Some last) → journal ≡ Some j → j ≡ last
the_journal true journal j last free is there = absurd (cc)
the_journal false journal j last free is there = cc

-- the places of each kind
abbrev pub device : {D L Q : Type 0} → D → Place D L Q
device disk = place.Device disk

abbrev pub book : {D L Q : Type 0} → BookState → Place D L Q
book b = place.Book b

abbrev pub log : {D L Q : Type 0} → LogTurnState L → Place D L Q
log l = place.Log l

module _ {D L Q : Type 0} (tells : Tells D L Q) (d : DeskState D L Q) (disks : List (Option D)) (books : List (Option BookState)) (logs : List (Option (LogTurnState L))) (journal : Option (JournalState Q)) (j : JournalState Q) (slots : List (Option (Place D L Q))) where
  -- the slots of the disks, of the books behind them, and of the logs behind those
  abbrev device_slots : List (Option (Place D L Q))
  device_slots = map (option_map device) disks

  abbrev book_slots : List (Option (Place D L Q))
  book_slots = map (option_map book) books

  abbrev log_slots : List (Option (Place D L Q))
  log_slots = map (option_map log) logs

  -- a journal at home fits
  journal_fits : j ≡ d.last → DeskStands tells d disks books logs journal → JournalIsHome tells d.begun d.last.entries (under_way_in d) j
  journal_fits same stands = subst (JournalIsHome tells d.begun d.last.entries (under_way_in d)) (sym same) (record {
    entries_are = refl;
    capacity_is = stands.journal_was.capacity_is;
    threshold_is = stands.journal_was.threshold_is;
    logs_are = stands.journal_was.logs_are;
    reserved_is = omega (arith, stands.journal_was.reserved_is);
    unposted = stands.journal_was.unposted;
  })

  abbrev all_slots : List (Option (Place D L Q))
  all_slots = ((device_slots ++ book_slots) ++ log_slots) ++ Some (place.Journal j) ∷ []

  -- how many slots come before the books, the logs, and the journal
  before_books : DeskStands tells d disks books logs journal → length device_slots ≡ length d.begun.disks
  before_books stands = length-map disks (option_map device) ∙ stands.disks_are.counted

  before_logs : DeskStands tells d disks books logs journal → length (device_slots ++ book_slots) ≡ 2 * length d.begun.disks
  before_logs stands =
      omega (arith, length-append device_slots book_slots, before_books stands, length-map books (option_map (book {D = D} {L = L} {Q = Q})), stands.books_are.counted)

  before_journal : DeskStands tells d disks books logs journal → length ((device_slots ++ book_slots) ++ log_slots) ≡ 2 * length d.begun.disks + length d.begun.logs
  before_journal stands =
      omega (arith, length-append (device_slots ++ book_slots) log_slots, before_logs stands, length-map logs (option_map (log {D = D} {L = L} {Q = Q})), stands.logs_are.counted)

  -- what is before the journal is in its slot
  in_front : (n : ℕ) (slot : Option (Place D L Q)) → slice_get ((device_slots ++ book_slots) ++ log_slots) n ≡ Some slot → slice_get all_slots n ≡ Some slot
  in_front n slot is = get_before ((device_slots ++ book_slots) ++ log_slots) (Some (place.Journal j) ∷ []) n slot is

  -- what each turn is of is in its slot
  each_in_slot : d.held ≡ nothing → j ≡ d.last → DeskStands tells d disks books logs journal → (turn : Turn) → HasTurn d.begun turn → IsInSlot tells d.begun d.last.entries (under_way_in d) all_slots turn
  each_in_slot free same stands (Device s) within =
      let home = slot_home device (length d.begun.disks) d.held.device disks s within (ap (λ held. held.device) free) stands.disks_are in
      record {
        place = place.Device home.0;
        there = in_front s _ (get_before (device_slots ++ book_slots) log_slots s _ (get_before device_slots book_slots s _ home.1.0));
        fits = home.1.1;
      }
  each_in_slot free same stands (Book s) within =
      let home = slot_home book (length d.begun.disks) d.held.book books s within (ap (λ held. held.book) free) stands.books_are in
      record {
        place = place.Book home.0;
        there = in_front (length d.begun.disks + s) _ (get_before (device_slots ++ book_slots) log_slots (length d.begun.disks + s) _
            (get_behind device_slots book_slots (length d.begun.disks + s) s _ (omega (arith, before_books stands)) home.1.0));
        fits = home.1.1;
      }
  each_in_slot free same stands (Log handle) within =
      let home = slot_home log (length d.begun.logs) d.held.log logs handle within (ap (λ held. held.log) free) stands.logs_are in
      record {
        place = place.Log home.0;
        there = in_front (2 * length d.begun.disks + handle) _ (get_behind (device_slots ++ book_slots) log_slots (2 * length d.begun.disks + handle) handle _ (omega (arith, before_logs stands)) home.1.0);
        fits = home.1.1;
      }
  each_in_slot free same stands Journal within = record {
    place = place.Journal j;
    there = get_behind ((device_slots ++ book_slots) ++ log_slots) _ (2 * length d.begun.disks + length d.begun.logs) 0 (Some (place.Journal j)) (omega (arith, before_journal stands)) refl;
    fits = journal_fits same stands;
  }

  -- the slots of a desk of which no turn is held
  pub desk_in_slots : d.held ≡ nothing → journal ≡ Some j → slots ≡ all_slots → DeskStands tells d disks books logs journal → AreInSlots tells d.begun d.last.entries (under_way_in d) slots
  desk_in_slots free there are stands = rw are (record {
    counted = omega (arith, before_journal stands, longer all_slots ((device_slots ++ book_slots) ++ log_slots) (Some (place.Journal j)) refl);
    few = stands.few;
    good = stands.journal_was.good;
    within = stands.within;
    each = each_in_slot free (the_journal d.held.journal journal j d.last (ap (λ held. held.journal) free) stands.journal_is there) stands;
  })

-- things that are in slots in a row, each where it belongs at home
record Things {A P : Type 0} (wrap : A → P) (IsHome : ℕ → A → Type 0) (slots rest : List (Option P)) (count : ℕ) : Type 0 where
  things : List A
  are : slots ≡ map (λ a. Some (wrap a)) things ++ rest
  counted : length things ≡ count
  home : (n : ℕ) (a : A) → slice_get things n ≡ Some a → IsHome n a

things_from : {A P : Type 0} (wrap : A → P) (IsHome : ℕ → A → Type 0) (slots : List (Option P)) (count : ℕ) → ((n : ℕ) → n < count → (a : A) × ((slice_get slots n ≡ Some (Some (wrap a))) × IsHome n a)) → Things wrap IsHome slots (drop count slots) count
things_from wrap IsHome slots zero at = record { things = []; are = refl; counted = refl; home = λ n a is. absurd (nowhere n a is) }
  where
    nowhere : {A : Type 0} (n : ℕ) (a : A) → slice_get [] n ≡ Some a → ⊥
    nowhere zero a is = absurd (cc)
    nowhere (suc n) a is = absurd (cc)
things_from wrap IsHome [] (suc count) at = absurd (nothing (at 0 (omega arith)).1.0)
  where
    nothing : {P : Type 0} {o : Option P} → None ≡ Some o → ⊥
    nothing is = absurd (cc)
things_from {A} {P} wrap IsHome (slot ∷ slots) (suc count) at =
    let first = at 0 (omega arith) in
    let more = things_from wrap (λ n. IsHome (suc n)) slots count (λ n within. at (suc n) (omega arith)) in
    record {
      things = first.0 ∷ more.things;
      are = put slot (Some (wrap first.0)) slots _ first.1.0 more.are;
      counted = ap suc more.counted;
      home = λ n a is. each first.0 more.things first.1.1 more.home n a is;
    }
  where
    put : {P : Type 0} (slot p : P) (slots all : List P) → Some slot ≡ Some p → slots ≡ all → slot ∷ slots ≡ p ∷ all
    put slot p slots all is same = cc

    each : (b : A) (things : List A) → IsHome 0 b → ((n : ℕ) (a : A) → slice_get things n ≡ Some a → IsHome (suc n) a) → (n : ℕ) (a : A) → slice_get (b ∷ things) n ≡ Some a → IsHome n a
    each b things first more zero a is = let same : b ≡ a = cc is in subst (IsHome 0) same first
    each b things first more (suc n) a is = more n a is

-- what is left of a row, by its place in the row
get_drop : {P : Type 0} (xs : List P) (k n : ℕ) → slice_get (drop k xs) n ≡ slice_get xs (k + n)
get_drop xs zero n = let same : n ≡ 0 + n = omega arith in ap (slice_get xs) same
get_drop [] (suc k) zero = refl
get_drop [] (suc k) (suc n) = refl
get_drop (x ∷ xs) (suc k) n = let same : suc (k + n) ≡ suc k + n = omega arith in get_drop xs k n ∙ ap (slice_get (x ∷ xs)) same

-- a row of one
alone : {P : Type 0} (xs : List P) (p : P) → length xs ≡ 1 → slice_get xs 0 ≡ Some p → xs ≡ p ∷ []
alone [] p one is = absurd (omega arith)
alone (x ∷ []) p one is = cc
alone (x ∷ y ∷ xs) p one is = absurd (omega arith)

-- something is in each slot
full_before : {A P : Type 0} (wrap : A → P) (things : List A) (slots : List (Option P)) → list_all is_some slots ≡ true → list_all is_some (map (λ a. Some (wrap a)) things ++ slots) ≡ true
full_before wrap [] slots all = all
full_before wrap (a ∷ things) slots all = full_before wrap things slots all

-- what a place is of, by its kind
abbrev pub device_of : {D L Q : Type 0} → Place D L Q → Option D
device_of (place.Device disk) = Some disk
device_of other = None

abbrev pub book_of : {D L Q : Type 0} → Place D L Q → Option BookState
book_of (place.Book b) = Some b
book_of other = None

abbrev pub log_of : {D L Q : Type 0} → Place D L Q → Option (LogTurnState L)
log_of (place.Log l) = Some l
log_of other = None

abbrev pub journal_of : {D L Q : Type 0} → Place D L Q → Option (JournalState Q)
journal_of (place.Journal j) = Some j
journal_of other = None

-- the slots of so many disks, books and logs, and of a journal behind them
module _ {D L Q : Type 0} (disks : List D) (books : List BookState) (logs : List (LogTurnState L)) (j : JournalState Q) where
  abbrev slots_for : List (Option (Place D L Q))
  slots_for = map (λ disk. Some (device disk)) disks ++ (map (λ b. Some (book b)) books ++ (map (λ l. Some (log l)) logs ++ Some (place.Journal j) ∷ []))

  picks : {A : Type 0} (f : Place D L Q → Option A) → picked f slots_for ≡ picked f (map (λ disk. Some (device disk)) disks) ++ (picked f (map (λ b. Some (book b)) books) ++ (picked f (map (λ l. Some (log l)) logs) ++ kept (f (place.Journal j))))
  picks f =
      picked-append f (map (λ disk. Some (device disk)) disks) _
      ∙ ap (λ xs. picked f (map (λ disk. Some (device disk)) disks) ++ xs) (picked-append f (map (λ b. Some (book b)) books) _
      ∙ ap (λ xs. picked f (map (λ b. Some (book b)) books) ++ xs) (picked-append f (map (λ l. Some (log l)) logs) _
      ∙ ap (λ xs. picked f (map (λ l. Some (log l)) logs) ++ xs) (picked_one f (place.Journal j))))

  picks_devices : picked device_of slots_for ≡ map (λ disk. Some disk) disks
  unfolding kept
  picks_devices = picks device_of ∙ rw (
    picked_own (device_of {D = D} {L = L} {Q = Q}) device disks (λ disk. refl),
    picked_other (device_of {D = D} {L = L} {Q = Q}) book books (λ b. refl),
    picked_other (device_of {D = D} {L = L} {Q = Q}) log logs (λ l. refl),
  ) (append-nil (map (λ disk. Some disk) disks))

  picks_books : picked book_of slots_for ≡ map (λ b. Some b) books
  unfolding kept
  picks_books = picks book_of ∙ rw (
    picked_other (book_of {D = D} {L = L} {Q = Q}) device disks (λ disk. refl),
    picked_own (book_of {D = D} {L = L} {Q = Q}) book books (λ b. refl),
    picked_other (book_of {D = D} {L = L} {Q = Q}) log logs (λ l. refl),
  ) (append-nil (map (λ b. Some b) books))

  picks_logs : picked log_of slots_for ≡ map (λ l. Some l) logs
  unfolding kept
  picks_logs = picks log_of ∙ rw (
    picked_other (log_of {D = D} {L = L} {Q = Q}) device disks (λ disk. refl),
    picked_other (log_of {D = D} {L = L} {Q = Q}) book books (λ b. refl),
    picked_own (log_of {D = D} {L = L} {Q = Q}) log logs (λ l. refl),
  ) (append-nil (map (λ l. Some l) logs))

  picks_journal : picked journal_of slots_for ≡ Some j ∷ []
  unfolding kept
  picks_journal = picks journal_of ∙ rw (
    picked_other (journal_of {D = D} {L = L} {Q = Q}) device disks (λ disk. refl),
    picked_other (journal_of {D = D} {L = L} {Q = Q}) book books (λ b. refl),
    picked_other (journal_of {D = D} {L = L} {Q = Q}) log logs (λ l. refl),
  ) refl

  full_slots : list_all is_some slots_for ≡ true
  full_slots =
      full_before device disks (map (λ b. Some (book b)) books ++ (map (λ l. Some (log l)) logs ++ Some (place.Journal j) ∷ []))
      (full_before book books (map (λ l. Some (log l)) logs ++ Some (place.Journal j) ∷ []) (full_before log logs (Some (place.Journal j) ∷ []) refl))

-- What is in slots, by its kind: something is in each, and all that a desk has is at home.
pub record AreSorted {D L Q : Type 0} (tells : Tells D L Q) (begun : Begun D L) (past : List Entry) (under_way : ℕ) (slots : List (Option (Place D L Q))) : Type 0 where
  pub full : list_all is_some slots ≡ true
  pub disks : AreHome (length begun.disks) None (DiskIsHome tells.disk tells.disk_faults begun.disks past) (picked device_of slots)
  pub books : AreHome (length begun.disks) None (BookIsHome (openings tells.disk tells.disk_faults begun.disks) past) (picked book_of slots)
  pub logs : AreHome (length begun.logs) None (LogIsHome tells.log tells.log_faults begun.logs past) (picked log_of slots)
  pub journal : JournalState Q
  pub one : picked journal_of slots ≡ Some journal ∷ []
  pub home : JournalIsHome tells begun past under_way journal

module _ {D L Q : Type 0} (tells : Tells D L Q) (begun : Begun D L) (past : List Entry) (under_way : ℕ) (slots : List (Option (Place D L Q))) where
  -- what is in the slot of each turn
  device_in : (s : ℕ) → IsInSlot tells begun past under_way slots (Device s) → (disk : D) × ((slice_get slots s ≡ Some (Some (device disk))) × DiskIsHome tells.disk tells.disk_faults begun.disks past s disk)
  device_in s is = go is.place is.there is.fits
    where
      go : (p : Place D L Q) → slice_get slots s ≡ Some (Some p) → Fits tells begun past under_way (Device s) p → (disk : D) × ((slice_get slots s ≡ Some (Some (device disk))) × DiskIsHome tells.disk tells.disk_faults begun.disks past s disk)
      go (place.Device disk) there fits = (disk, (there, fits))
      go (place.Book b) there fits = absurd fits
      go (place.Log l) there fits = absurd fits
      go (place.Journal j) there fits = absurd fits

  book_in : (s : ℕ) → IsInSlot tells begun past under_way slots (Book s) → (b : BookState) × ((slice_get slots (length begun.disks + s) ≡ Some (Some (book b))) × BookIsHome (openings tells.disk tells.disk_faults begun.disks) past s b)
  book_in s is = go is.place is.there is.fits
    where
      go : (p : Place D L Q) → slice_get slots (length begun.disks + s) ≡ Some (Some p) → Fits tells begun past under_way (Book s) p → (b : BookState) × ((slice_get slots (length begun.disks + s) ≡ Some (Some (book b))) × BookIsHome (openings tells.disk tells.disk_faults begun.disks) past s b)
      go (place.Device disk) there fits = absurd fits
      go (place.Book b) there fits = (b, (there, fits))
      go (place.Log l) there fits = absurd fits
      go (place.Journal j) there fits = absurd fits

  log_in : (handle : ℕ) → IsInSlot tells begun past under_way slots (Log handle) → (l : LogTurnState L) × ((slice_get slots (2 * length begun.disks + handle) ≡ Some (Some (log l))) × LogIsHome tells.log tells.log_faults begun.logs past handle l)
  log_in handle is = go is.place is.there is.fits
    where
      go : (p : Place D L Q) → slice_get slots (2 * length begun.disks + handle) ≡ Some (Some p) → Fits tells begun past under_way (Log handle) p → (l : LogTurnState L) × ((slice_get slots (2 * length begun.disks + handle) ≡ Some (Some (log l))) × LogIsHome tells.log tells.log_faults begun.logs past handle l)
      go (place.Device disk) there fits = absurd fits
      go (place.Book b) there fits = absurd fits
      go (place.Log l) there fits = (l, (there, fits))
      go (place.Journal j) there fits = absurd fits

  journal_in : IsInSlot tells begun past under_way slots Journal → (j : JournalState Q) × ((slice_get slots (2 * length begun.disks + length begun.logs) ≡ Some (Some (place.Journal j))) × JournalIsHome tells begun past under_way j)
  journal_in is = go is.place is.there is.fits
    where
      go : (p : Place D L Q) → slice_get slots (2 * length begun.disks + length begun.logs) ≡ Some (Some p) → Fits tells begun past under_way Journal p → (j : JournalState Q) × ((slice_get slots (2 * length begun.disks + length begun.logs) ≡ Some (Some (place.Journal j))) × JournalIsHome tells begun past under_way j)
      go (place.Device disk) there fits = absurd fits
      go (place.Book b) there fits = absurd fits
      go (place.Log l) there fits = absurd fits
      go (place.Journal j) there fits = (j, (there, fits))

  -- what is behind the disks, behind the books, and behind the logs
  abbrev behind_disks : List (Option (Place D L Q))
  behind_disks = drop (length begun.disks) slots

  abbrev behind_books : List (Option (Place D L Q))
  behind_books = drop (length begun.disks) behind_disks

  abbrev behind_logs : List (Option (Place D L Q))
  behind_logs = drop (length begun.logs) behind_books

  get_behind_books : (n : ℕ) → slice_get behind_books n ≡ slice_get slots (2 * length begun.disks + n)
  get_behind_books n =
      let at : length begun.disks + (length begun.disks + n) ≡ 2 * length begun.disks + n = omega arith in
      get_drop behind_disks (length begun.disks) n ∙ get_drop slots (length begun.disks) (length begun.disks + n) ∙ ap (slice_get slots) at

  disks_from : AreInSlots tells begun past under_way slots → Things device (DiskIsHome tells.disk tells.disk_faults begun.disks past) slots behind_disks (length begun.disks)
  disks_from are = things_from device _ slots (length begun.disks) (λ s within. device_in s (are.each (Device s) within))

  books_from : AreInSlots tells begun past under_way slots → Things book (BookIsHome (openings tells.disk tells.disk_faults begun.disks) past) behind_disks behind_books (length begun.disks)
  books_from are = things_from book _ behind_disks (length begun.disks) (λ s within.
      let found = book_in s (are.each (Book s) within) in (found.0, (get_drop slots (length begun.disks) s ∙ found.1.0, found.1.1)))

  logs_from : AreInSlots tells begun past under_way slots → Things log (LogIsHome tells.log tells.log_faults begun.logs past) behind_books behind_logs (length begun.logs)
  logs_from are = things_from log _ behind_books (length begun.logs) (λ handle within.
      let found = log_in handle (are.each (Log handle) within) in (found.0, (get_behind_books handle ∙ found.1.0, found.1.1)))

  journal_left : (are : AreInSlots tells begun past under_way slots) → behind_logs ≡ Some (place.Journal (journal_in (are.each Journal tt)).0) ∷ []
  journal_left are =
      let found = journal_in (are.each Journal tt) in
      let one : length behind_logs ≡ 1 = omega (
        arith,
        are.counted,
        length-drop (length begun.disks) slots,
        length-drop (length begun.disks) behind_disks,
        length-drop (length begun.logs) behind_books,
      ) in
      let at : 2 * length begun.disks + (length begun.logs + 0) ≡ 2 * length begun.disks + length begun.logs = omega arith in
      alone behind_logs (Some (place.Journal found.0)) one
      (get_drop behind_books (length begun.logs) 0 ∙ get_behind_books (length begun.logs + 0) ∙ ap (slice_get slots) at ∙ found.1.0)

  all_there : (are : AreInSlots tells begun past under_way slots) → slots ≡ slots_for (disks_from are).things (books_from are).things (logs_from are).things (journal_in (are.each Journal tt)).0
  all_there are =
      (disks_from are).are ∙ ap (λ ys. map (λ disk. Some (device disk)) (disks_from are).things ++ ys) ((books_from are).are
      ∙ ap (λ ys. map (λ b. Some (book b)) (books_from are).things ++ ys) ((logs_from are).are
      ∙ ap (λ ys. map (λ l. Some (log l)) (logs_from are).things ++ ys) (journal_left are)))

  -- what is in slots is sorted
  pub sorted : AreInSlots tells begun past under_way slots → AreSorted tells begun past under_way slots
  sorted are = record {
    full = ap (list_all is_some) (all_there are) ∙ full_slots (disks_from are).things (books_from are).things (logs_from are).things (journal_in (are.each Journal tt)).0;
    disks = subst (AreHome _ None _) (sym (ap (picked device_of) (all_there are) ∙ picks_devices _ _ _ _)) (all_at_home _ _ _ (disks_from are).counted (disks_from are).home);
    books = subst (AreHome _ None _) (sym (ap (picked book_of) (all_there are) ∙ picks_books _ _ _ _)) (all_at_home _ _ _ (books_from are).counted (books_from are).home);
    logs = subst (AreHome _ None _) (sym (ap (picked log_of) (all_there are) ∙ picks_logs _ _ _ _)) (all_at_home _ _ _ (logs_from are).counted (logs_from are).home);
    journal = (journal_in (are.each Journal tt)).0;
    one = ap (picked journal_of) (all_there are) ∙ picks_journal _ _ _ _;
    home = (journal_in (are.each Journal tt)).1.1;
  }

one_there : {A : Type 0} (a b : A) → Some a ∷ [] ≡ Some b ∷ [] → a ≡ b
one_there a b is = cc

-- A desk that is put together of what is at home stands, of which no turn is held.
pub put_together : {D L Q : Type 0} (tells : Tells D L Q) (d : DeskState D L Q) (begun : Begun D L) (past : List Entry) (under_way : ℕ) (slots : List (Option (Place D L Q))) (disks : List (Option D)) (books : List (Option BookState)) (logs : List (Option (LogTurnState L))) (j : JournalState Q) → AreInSlots tells begun past under_way slots → AreSorted tells begun past under_way slots → d.begun ≡ begun → d.last ≡ j → d.since ≡ j.entries → d.held ≡ nothing → disks ≡ picked device_of slots → books ≡ picked book_of slots → logs ≡ picked log_of slots → picked journal_of slots ≡ Some j ∷ [] → DeskStands tells d disks books logs (Some j)
put_together tells d begun past under_way slots disks books logs j are sorted begun_is last_is since_is held_is disks_are books_are logs_are one =
    let same : j ≡ sorted.journal = one_there j sorted.journal (sym one ∙ sorted.one) in
    let entries : d.last.entries ≡ past = ap (λ l. l.entries) (last_is ∙ same) ∙ sorted.home.entries_are in
    record {
      disks_are = rw (begun_is, held_is, entries, disks_are) sorted.disks;
      books_are = rw (begun_is, held_is, entries, books_are) sorted.books;
      logs_are = rw (begun_is, held_is, entries, logs_are) sorted.logs;
      few = rw begun_is are.few;
      journal_was = record {
        entries_are = refl;
        good = rw (entries, begun_is) are.good;
        capacity_is = rw (last_is, same, begun_is) sorted.home.capacity_is;
        threshold_is = rw (last_is, same, begun_is) sorted.home.threshold_is;
        logs_are = rw (last_is, same, begun_is) sorted.home.logs_are;
        reserved_is = omega (arith, ap (λ l. l.reserved) (last_is ∙ same), ap reserved_in entries, sorted.home.reserved_is);
        unposted = rw (last_is, same) sorted.home.unposted;
      };
      journal_is = rw (held_is, last_is) refl;
      within = rw (begun_is, entries) are.within;
      acted = record { added = []; grew = ap (λ l. l.entries) last_is ∙ sym since_is; own = tt };
    }

-- what it is then
pub is_put_together : {D L Q : Type 0} (tells : Tells D L Q) (d : DeskState D L Q) (begun : Begun D L) (past : List Entry) (under_way : ℕ) (slots : List (Option (Place D L Q))) → AreSorted tells begun past under_way slots → d.begun ≡ begun → picked journal_of slots ≡ Some d.last ∷ [] → d.held ≡ nothing → d.pass ≡ 0 → IsPutTogether begun past under_way d
is_put_together tells d begun past under_way slots sorted begun_is one held_is pass_is =
    let same : d.last ≡ sorted.journal = one_there d.last sorted.journal (sym one ∙ sorted.one) in
    record {
      begun_is = begun_is;
      past_is = ap (λ j. j.entries) same ∙ sorted.home.entries_are;
      under_way_is = ap (λ j. j.reserved - reserved_in j.entries) same ∙ ap (λ past. sorted.journal.reserved - reserved_in past) sorted.home.entries_are ∙ omega (arith, sorted.home.reserved_is);
      held_is = held_is;
      pass_is = pass_is;
    }
