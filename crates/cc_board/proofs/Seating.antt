-- What the functions of a seated pass have from the steps.
use Rattle.std.specs.Prelude.{◌≡◌, ◌≢◌, ℕ, suc, ◌+◌, ◌-◌, ◌*◌, ◌<◌, ◌==◌, Bool, true, false, List, ◌∷◌, length, slice_get, Option, refl}
use Rattle.std.specs.declared.option.Option.TheVariants.{Some, None}
use Rattle.std.proofs.Common.{sym, ap, ◌∙◌, subst, arith}
use Rattle.std.specs.Bool.{MatchBool}
use Rattle.std.proofs.lemmas.Bool.{eq-eqb, ne_eqb}
use mathlib.Core.Option.{none}
use mathlib.Core.Logic.{dite}
use native.Mathlib.Decide.{ℕ_discrete}
use prog.Atomic.{either}
use Rattle.atomic_table.specs.Seated.{TableId}
use Rattle.atomic_table.specs.Table.{State, Me, step, rest, Allows}
use Rattle.cc_book.specs.Book.{BookState, BookStands}
use Rattle.cc_log.specs.Turn.{LogTurnState}
use Rattle.cc_model.specs.Good.{IsGood}
use Rattle.cc_model.specs.History.{history}
use Rattle.cc_model.specs.Images.{open_of}
use Rattle.cc_model.specs.Turns.{Turn, Device, Book, Log, Journal, is_journal}
use Rattle.cc_turns.specs.Standing.{TurnsHeld, holds, is_the}
use Rattle.cc_turns.specs.Disk.{DiskStands}
use Rattle.cc_turns.specs.Log.{LogStands}
use Rattle.cc_turns.specs.Desk.{Begun, Tells, disk_at_first, log_at_first, openings}
use Rattle.cc_turns.specs.Slots.{slot_of, slots_of, HasTurn, setup_in, Fits}
use Rattle.cc_turns.specs.Takes.{Takes, with_journal}
use Rattle.cc_turns.specs.declared.slots.Place.{Place}
use Rattle.cc_turns.specs.declared.slots.Place.TheVariants as place
use Rattle.cc_board.specs.declared.rule.View.{View}
use Rattle.cc_board.specs.View.{run_of, turns_held, standing_at, with_turn}
use Rattle.cc_board.specs.Plays.{TurnSlot, Telling, TookTurn, TakesTurn, MayTake, GivesTurn, device_at, book_at, log_at}
use Rattle.cc_board.specs.Rule.{turn_word, IsBoard}
use Rattle.cc_board.specs.Board.{HoldsOwn, carried_of}
use Rattle.cc_board.proofs.Taking.{Lacks, takes_turn}
use Rattle.cc_board.proofs.Giving.{gives_turn}

-- ---- the turn of a word

pub device-word : {D L : Type 0} (begun : Begun D L) (stream : ℕ) → device_at begun (turn_word begun (Device stream)) ≡ Device stream
device-word begun stream = let same : suc stream - 1 ≡ stream = omega arith in ap Device same

pub book-word : {D L : Type 0} (begun : Begun D L) (stream : ℕ) → book_at begun (turn_word begun (Book stream)) ≡ Book stream
book-word begun stream = let same : suc (length begun.disks + stream) - 1 - length begun.disks ≡ stream = omega arith in ap Book same

pub log-word : {D L : Type 0} (begun : Begun D L) (handle : ℕ) → log_at begun (turn_word begun (Log handle)) ≡ Log handle
log-word begun handle = let same : suc (2 * length begun.disks + handle) - 1 - 2 * length begun.disks ≡ handle = omega arith in ap Log same

-- ---- what the steps ask, at a slot that the code computes

-- the turn that the step took, by its own name
pub took-turn : {D L Q : Type 0} (tells : Tells D L Q) (turn_at : Begun D L → ℕ → Turn) (begun : Begun D L) (t : Turn) (slot : ℕ) (me now : Me (TurnSlot D L Q) (View D L)) → run_of me.0 ≡ begun → slot ≡ slot_of begun t → turn_at begun (turn_word begun t) ≡ t → TookTurn tells (turn_at (run_of me.0) (suc slot)) me now → TookTurn tells t me now
took-turn tells turn_at begun t slot me now run_is slot_is at_is took =
    subst (λ u. TookTurn tells u me now) (ap (λ b. turn_at b (suc slot)) run_is ∙ ap (λ n. turn_at begun (suc n)) slot_is ∙ at_is) took

-- with what was in its slot
carried-own : {D L Q : Type 0} (tells : Tells D L Q) (begun : Begun D L) (t : Turn) (me now : Me (TurnSlot D L Q) (View D L)) → run_of me.0 ≡ begun → (took : TookTurn tells t me now) → now.1 ≡ (slot_of begun t, Some took.place) ∷ me.1
carried-own {D} {L} {Q} tells begun t me now run_is took = subst (λ (b : Begun D L). now.1 ≡ (slot_of b t, Some took.place) ∷ me.1) run_is took.carried

-- a turn that was not free was not taken
not-taken : {D L Q : Type 0} (tells : Tells D L Q) (t : Turn) (me now : Me (TurnSlot D L Q) (View D L)) (n : ℕ) → n ≢ 0 → MatchBool (n == 0) (TookTurn tells t me now) (now ≡ me) → now ≡ me
not-taken tells t me now n taken told = subst (λ (b : Bool). MatchBool b (TookTurn tells t me now) (now ≡ me)) (ne_eqb n 0 taken) told

pub take-allowed : {D L Q : Type 0} (tells : Tells D L Q) (begun : Begun D L) (turn_at : Begun D L → ℕ → Turn) (t : Turn) (slot id : ℕ) (me : Me (TurnSlot D L Q) (View D L)) → slot ≡ slot_of begun t → run_of me.0 ≡ begun → me.0.live ≡ true → HasTurn begun t → Lacks t me.0 → turn_at begun (turn_word begun t) ≡ t →
    MayTake (IsBoard tells begun) (TakesTurn tells turn_at) (slots_of begun) slot id me
take-allowed {D} {L} {Q} tells begun turn_at t slot id me slot_is run_is live known lacks at_is = record {
  allowed = λ f first second leaves.
      subst (λ (k : ℕ). Allows (IsBoard tells begun) (slots_of begun) id me (suc k) f (TakesTurn tells turn_at (step (slots_of begun) (suc k) first second none) me))
      (sym slot_is) (takes_turn tells begun turn_at t id me f first second leaves run_is live known lacks at_is);
  same = λ first second n now taken told. not-taken tells (turn_at (run_of me.0) (suc slot)) me now n taken told;
  alike = λ first second now told. told;
  taken = λ now told.
      let took = took-turn tells turn_at begun t slot me now run_is slot_is at_is told in
      (took.place, subst (λ (k : ℕ). now.1 ≡ (k, Some took.place) ∷ me.1) (sym slot_is) (carried-own tells begun t me now run_is took));
}

-- the step that takes a free turn leaves no word at 0
pub taken_either : (n : ℕ) → either (n == 0) 1 n ≢ 0
taken_either n is = dite (ℕ_discrete n 0)
    (λ free. let one : 1 ≡ 0 = subst (λ (b : Bool). either b 1 n ≡ 0) (eq-eqb n 0 free) is in absurd (omega arith))
    (λ taken. taken (subst (λ (b : Bool). either b 1 n ≡ 0) (ne_eqb n 0 taken) is))

-- what a step that may take the turn asks, of a table by its own counts
pub may-step : {D L Q : Type 0} (tells : Tells D L Q) (begun run : Begun D L) (told : Telling D L Q) (slots slot word id : ℕ) (me : Me (TurnSlot D L Q) (View D L)) → MayTake (IsBoard tells begun) told (slots_of begun) slot id me → begun ≡ run → slots ≡ slots_of begun → word ≡ suc slot → (f : ℕ → ℕ) (first second : ℕ) → ((n : ℕ) → f n ≢ 0) →
    Allows (IsBoard tells run) slots id me word f (told (step slots word first second none) me)
may-step {D} {L} {Q} tells begun run told slots slot word id me may run_is slots_is word_is f first second leaves =
    subst (λ (z : Begun D L × (ℕ × ℕ)). Allows (IsBoard tells z.0) z.1.0 id me z.1.1 f (told (step z.1.0 z.1.1 first second none) me))
    (λ i. (run_is i, (sym slots_is i, sym word_is i))) (may.allowed f first second leaves)

-- such a step tells whether it took the turn
pub told-whether : {D L Q : Type 0} (fact : State (TurnSlot D L Q) (View D L) → Type 0) (told : Telling D L Q) (slots slot id : ℕ) (me : Me (TurnSlot D L Q) (View D L)) → MayTake fact told slots slot id me → (first second found : ℕ) (now : Me (TurnSlot D L Q) (View D L)) →
    told (step slots (suc slot) first second none) me found now → MatchBool (found == 0) (told (step slots (suc slot) 0 1 none) me 0 now) (now ≡ me)
told-whether {D} {L} {Q} fact told slots slot id me may first second found now is =
    let Whether : Bool → Type 0 = λ b. MatchBool b (told (step slots (suc slot) 0 1 none) me 0 now) (now ≡ me) in
    dite (ℕ_discrete found 0)
    (λ free. subst Whether (sym (eq-eqb found 0 free)) (may.alike first second now (subst (λ (n : ℕ). told (step slots (suc slot) first second none) me n now) free is)))
    (λ taken. subst Whether (sym (ne_eqb found 0 taken)) (may.same first second found now taken is))

pub give-allowed : {D L Q : Type 0} (tells : Tells D L Q) (begun : Begun D L) (turn_at : Begun D L → ℕ → Turn) (t : Turn) (place : Place D L Q) (slot n id : ℕ) (v : View D L) (c : List (ℕ × TurnSlot D L Q)) → slot ≡ slot_of begun t → run_of v ≡ begun → v.live ≡ true → HasTurn begun t → is_journal t ≡ false → holds (turns_held v) t ≡ true → Fits tells begun v.seen n t place → turn_at begun (turn_word begun t) ≡ t →
    Allows (IsBoard tells begun) (slots_of begun) id (v, (slot, Some place) ∷ c) (suc slot) (λ _. 0)
    (GivesTurn turn_at (step (slots_of begun) (suc slot) 0 0 none) (v, (slot, Some place) ∷ c))
give-allowed {D} {L} {Q} tells begun turn_at t place slot n id v c slot_is run_is live known other has fits at_is =
    subst (λ (k : ℕ). Allows (IsBoard tells begun) (slots_of begun) id (v, (k, Some place) ∷ c) (suc k) (λ _. 0) (GivesTurn turn_at (step (slots_of begun) (suc k) 0 0 none) (v, (k, Some place) ∷ c)))
    (sym slot_is) (gives_turn tells begun turn_at t place n id v c run_is live known other has fits at_is)

-- ---- a turn taken

-- What a pass with a turn more, of its run, keeps.
pub record Seats {D L Q : Type 0} (begun : Begun D L) (carried : List (ℕ × TurnSlot D L Q)) (held : TurnsHeld) : Type 0 where
  pub carried_is : carried ≡ carried_of begun held
  pub own : HoldsOwn begun held

-- the slots that are out with it then
carried-book : {D L Q : Type 0} (begun : Begun D L) (held : TurnsHeld) (stream : ℕ) (carried : List (ℕ × TurnSlot D L Q)) → held.journal ≡ false → held.log ≡ None → held.book ≡ None → carried ≡ (slot_of begun (Book stream), None) ∷ carried_of begun held → carried ≡ carried_of begun (record held { book = Some stream })
carried-book begun held stream carried journal log book is = let there = rw (journal, log, book) at is in rw (journal, log) there

carried-log : {D L Q : Type 0} (begun : Begun D L) (held : TurnsHeld) (handle : ℕ) (carried : List (ℕ × TurnSlot D L Q)) → held.journal ≡ false → held.log ≡ None → carried ≡ (slot_of begun (Log handle), None) ∷ carried_of begun held → carried ≡ carried_of begun (record held { log = Some handle })
carried-log begun held handle carried journal log is = let there = rw (journal, log) at is in rw journal there

carried-journal : {D L Q : Type 0} (begun : Begun D L) (held : TurnsHeld) (carried : List (ℕ × TurnSlot D L Q)) → held.journal ≡ false → carried ≡ (slot_of begun Journal, None) ∷ carried_of begun held → carried ≡ carried_of begun (record held { journal = true })
carried-journal begun held carried journal is = rw journal at is

-- the slot that was taken comes first
taken-first : {D L Q : Type 0} (begun : Begun D L) (held : TurnsHeld) (slot n : ℕ) (old carried : List (ℕ × TurnSlot D L Q)) → slot ≡ n → old ≡ carried_of begun held → carried ≡ (slot, None) ∷ old → carried ≡ (n, None) ∷ carried_of begun held
taken-first begun held slot n old carried slot_is old_is is = cc

pub seats-book : {D L Q : Type 0} (begun : Begun D L) (v w : View D L) (stream slot : ℕ) (old carried : List (ℕ × TurnSlot D L Q)) → w ≡ record (with_turn (Book stream) v) { seen = w.seen; others = w.others } → slot ≡ slot_of begun (Book stream) → stream < length begun.disks → v.journal ≡ false → v.log ≡ None → v.book ≡ None → HoldsOwn begun (turns_held v) → old ≡ carried_of begun (turns_held v) → carried ≡ (slot, None) ∷ old → Seats begun carried (turns_held w)
seats-book begun v w stream slot old carried same slot_is known journal log book own old_is is =
    subst (λ x. Seats begun carried (turns_held x)) (sym same) (record {
      carried_is = carried-book begun (turns_held v) stream carried journal log book (taken-first begun (turns_held v) slot (slot_of begun (Book stream)) old carried slot_is old_is is);
      own = record { device = own.device; book = λ s there. let here : stream ≡ s = cc in rw here at known; log = own.log };
    })

pub seats-log : {D L Q : Type 0} (begun : Begun D L) (v w : View D L) (handle slot : ℕ) (old carried : List (ℕ × TurnSlot D L Q)) → w ≡ record (with_turn (Log handle) v) { seen = w.seen; others = w.others } → slot ≡ slot_of begun (Log handle) → handle < length begun.logs → v.journal ≡ false → v.log ≡ None → HoldsOwn begun (turns_held v) → old ≡ carried_of begun (turns_held v) → carried ≡ (slot, None) ∷ old → Seats begun carried (turns_held w)
seats-log begun v w handle slot old carried same slot_is known journal log own old_is is =
    subst (λ x. Seats begun carried (turns_held x)) (sym same) (record {
      carried_is = carried-log begun (turns_held v) handle carried journal log (taken-first begun (turns_held v) slot (slot_of begun (Log handle)) old carried slot_is old_is is);
      own = record { device = own.device; book = own.book; log = λ h there. let here : handle ≡ h = cc in rw here at known };
    })

pub seats-journal : {D L Q : Type 0} (begun : Begun D L) (v w : View D L) (slot : ℕ) (old carried : List (ℕ × TurnSlot D L Q)) → w ≡ record (with_turn Journal v) { seen = w.seen; others = w.others } → slot ≡ slot_of begun Journal → v.journal ≡ false → HoldsOwn begun (turns_held v) → old ≡ carried_of begun (turns_held v) → carried ≡ (slot, None) ∷ old → Seats begun carried (turns_held w)
seats-journal begun v w slot old carried same slot_is journal own old_is is =
    subst (λ x. Seats begun carried (turns_held x)) (sym same) (record {
      carried_is = carried-journal begun (turns_held v) carried journal (taken-first begun (turns_held v) slot (slot_of begun Journal) old carried slot_is old_is is);
      own = record { device = own.device; book = own.book; log = own.log };
    })

-- the turn of the journal was taken
pub takes-journal : {D L Q : Type 0} (tells : Tells D L Q) (id : TableId) (me now : Me (TurnSlot D L Q) (View D L)) (n : ℕ) → TookTurn tells Journal me now → Takes with_journal (standing_at tells id me.0 n) (standing_at tells id now.0 n)
takes-journal {D} {L} {Q} tells id me now n took = record {
  grows = record { later = took.grows.later; grew = took.grows.grew; quiet = took.grows.quiet; others = took.grows.others };
  good = subst (λ (b : Begun D L). IsGood (setup_in tells b) now.0.seen) (sym (ap (λ (x : View D L). run_of x) took.same)) took.good;
  same = ap (λ (x : View D L). standing_at tells id x n) took.same;
}

-- what was in the slot of a disk's turn
first_same : {A : Type 0} (x y : A) (more others : List A) → x ∷ more ≡ y ∷ others → x ≡ y
first_same x y more others is = cc

place_same : {D L Q : Type 0} (p q : Place D L Q) → Some p ≡ Some q → p ≡ q
place_same p q is = cc

same_place : {D L Q : Type 0} (a b : ℕ) (p q : Place D L Q) (more others : List (ℕ × TurnSlot D L Q)) → (a, Some p) ∷ more ≡ (b, Some q) ∷ others → p ≡ q
same_place {D} {L} {Q} a b p q more others is =
    place_same p q (ap (λ (z : ℕ × TurnSlot D L Q). z.1) (first_same {A = ℕ × TurnSlot D L Q} (a, Some p) (b, Some q) more others is))

pub took-device : {D L Q : Type 0} (tells : Tells D L Q) (s slot : ℕ) (disk : D) (me now : Me (TurnSlot D L Q) (View D L)) → TookTurn tells (Device s) me now → now.1 ≡ (slot, Some (place.Device disk)) ∷ me.1 → DiskStands tells.disk tells.disk_faults (disk_at_first tells.disk tells.disk_faults (slice_get now.0.disks s)) now.0.seen s disk
took-device {D} {L} {Q} tells s slot disk me now took is =
    subst (λ (x : View D L). DiskStands tells.disk tells.disk_faults (disk_at_first tells.disk tells.disk_faults (slice_get x.disks s)) now.0.seen s disk) (sym took.same) own.stands
  where
    own : Fits tells (run_of me.0) now.0.seen (me.0.in_flight + now.0.others) (Device s) (place.Device disk)
    own = subst (λ (p : Place D L Q). Fits tells (run_of me.0) now.0.seen (me.0.in_flight + now.0.others) (Device s) p)
        (same_place _ slot took.place (place.Device disk) me.1 me.1 (sym took.carried ∙ is)) took.fits

-- ---- a turn given back

pub holds-the : (n : ℕ) (held : Option ℕ) → held ≡ Some n → is_the n held ≡ true
holds-the n held is = rw is (eq-eqb n n refl)

-- a disk that stands for what the pass knows is fit to be given
pub fits-device : {D L Q : Type 0} (tells : Tells D L Q) (begun : Begun D L) (v x : View D L) (stream : ℕ) (disk : D) → v ≡ x → run_of v ≡ begun → DiskStands tells.disk tells.disk_faults (disk_at_first tells.disk tells.disk_faults (slice_get x.disks stream)) x.seen stream disk → open_of (history x.seen stream) ≡ None → Fits tells begun v.seen 0 (Device stream) (place.Device disk)
fits-device tells begun v x stream disk is run_is stands at_rest =
    let own : Fits tells (run_of x) x.seen 0 (Device stream) (place.Device disk) = record { stands = stands; at_rest = at_rest } in
    let seen = subst (λ y. Fits tells (run_of y) y.seen 0 (Device stream) (place.Device disk)) (sym is) own in
    subst (λ b. Fits tells b v.seen 0 (Device stream) (place.Device disk)) run_is seen

-- so is a book
pub fits-book : {D L Q : Type 0} (tells : Tells D L Q) (begun : Begun D L) (v x : View D L) (stream : ℕ) (book : BookState) → v ≡ x → run_of v ≡ begun → book.stream ≡ stream → BookStands (openings tells.disk tells.disk_faults x.disks stream) x.seen book → Fits tells begun v.seen 0 (Book stream) (place.Book book)
fits-book tells begun v x stream book is run_is stream_is stands =
    let own : Fits tells (run_of x) x.seen 0 (Book stream) (place.Book book) = record { stream_is = stream_is; stands = stands } in
    let seen = subst (λ y. Fits tells (run_of y) y.seen 0 (Book stream) (place.Book book)) (sym is) own in
    subst (λ b. Fits tells b v.seen 0 (Book stream) (place.Book book)) run_is seen

-- and a log
pub fits-log : {D L Q : Type 0} (tells : Tells D L Q) (begun : Begun D L) (v x : View D L) (handle : ℕ) (log : LogTurnState L) → v ≡ x → run_of v ≡ begun → log.handle ≡ handle → LogStands tells.log tells.log_faults (log_at_first tells.log tells.log_faults (slice_get x.logs handle)) x.seen log → Fits tells begun v.seen 0 (Log handle) (place.Log log)
fits-log tells begun v x handle log is run_is handle_is stands =
    let own : Fits tells (run_of x) x.seen 0 (Log handle) (place.Log log) = record { handle_is = handle_is; stands = stands } in
    let seen = subst (λ y. Fits tells (run_of y) y.seen 0 (Log handle) (place.Log log)) (sym is) own in
    subst (λ b. Fits tells b v.seen 0 (Log handle) (place.Log log)) run_is seen

-- the slots that are out with the pass then
left-book : {D L Q : Type 0} (begun : Begun D L) (held : TurnsHeld) (stream : ℕ) (carried : List (ℕ × TurnSlot D L Q)) → held.journal ≡ false → held.log ≡ None → held.book ≡ Some stream → carried ≡ carried_of begun held → rest carried ≡ carried_of begun (record held { book = None })
left-book begun held stream carried journal log book is = let there = rw (journal, log, book) at is in rw (journal, log, there) refl

left-log : {D L Q : Type 0} (begun : Begun D L) (held : TurnsHeld) (handle : ℕ) (carried : List (ℕ × TurnSlot D L Q)) → held.journal ≡ false → held.log ≡ Some handle → carried ≡ carried_of begun held → rest carried ≡ carried_of begun (record held { log = None })
left-log begun held handle carried journal log is = let there = rw (journal, log) at is in rw (journal, there) refl

pub seats-no_book : {D L Q : Type 0} (begun : Begun D L) (me now : Me (TurnSlot D L Q) (View D L)) (stream : ℕ) → now ≡ (record me.0 { book = None }, rest me.1) → me.0.journal ≡ false → me.0.log ≡ None → me.0.book ≡ Some stream → HoldsOwn begun (turns_held me.0) → me.1 ≡ carried_of begun (turns_held me.0) → Seats begun now.1 (turns_held now.0)
seats-no_book {D} {L} {Q} begun me now stream same journal log book own is =
    subst (λ (x : Me (TurnSlot D L Q) (View D L)). Seats begun x.1 (turns_held x.0)) (sym same) (record {
      carried_is = left-book begun (turns_held me.0) stream me.1 journal log book is;
      own = record { device = own.device; book = λ s there. absurd (cc); log = own.log };
    })

pub seats-no_log : {D L Q : Type 0} (begun : Begun D L) (me now : Me (TurnSlot D L Q) (View D L)) (handle : ℕ) → now ≡ (record me.0 { log = None }, rest me.1) → me.0.journal ≡ false → me.0.log ≡ Some handle → HoldsOwn begun (turns_held me.0) → me.1 ≡ carried_of begun (turns_held me.0) → Seats begun now.1 (turns_held now.0)
seats-no_log {D} {L} {Q} begun me now handle same journal log own is =
    subst (λ (x : Me (TurnSlot D L Q) (View D L)). Seats begun x.1 (turns_held x.0)) (sym same) (record {
      carried_is = left-log begun (turns_held me.0) handle me.1 journal log is;
      own = record { device = own.device; book = own.book; log = λ h there. absurd (cc) };
    })

left-journal : {D L Q : Type 0} (begun : Begun D L) (held : TurnsHeld) (carried : List (ℕ × TurnSlot D L Q)) → held.journal ≡ true → carried ≡ carried_of begun held → rest carried ≡ carried_of begun (record held { journal = false })
left-journal begun held carried journal is = let there = rw journal at is in rw there refl

pub seats-no_journal : {D L Q : Type 0} (begun : Begun D L) (me now : Me (TurnSlot D L Q) (View D L)) → now.1 ≡ rest me.1 → turns_held now.0 ≡ record (turns_held me.0) { journal = false } → me.0.journal ≡ true → HoldsOwn begun (turns_held me.0) → me.1 ≡ carried_of begun (turns_held me.0) → Seats begun now.1 (turns_held now.0)
seats-no_journal {D} {L} {Q} begun me now carried same journal own is =
    subst (λ (h : TurnsHeld). Seats begun now.1 h) (sym same) (record {
      carried_is = carried ∙ left-journal begun (turns_held me.0) me.1 journal is;
      own = record { device = own.device; book = own.book; log = own.log };
    })
