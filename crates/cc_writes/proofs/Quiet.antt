-- What a pass that holds a stream's book and disk goes on knowing while others go on.
use Rattle.std.specs.Prelude.{◌≡◌, ℕ, suc, ◌≤◌, true, false, List, [], ◌∷◌, ◌++◌, Option, None, Some, max, refl}
use Rattle.std.proofs.Common.{ap, sym, ◌∙◌, subst, arith}
use Rattle.std.proofs.lemmas.Bool.{eq-eqb}
use Rattle.cc_entry.specs.declared.entry.Entry.{Entry}
use Rattle.cc_book.specs.Book.{BookState, BookStands}
use Rattle.cc_laws.proofs.LogSteps.{floor_of-quiet, flushed_to-entry, flushed_to-quiet}
use Rattle.cc_laws.proofs.QuietSteps.{history-quiet}
use Rattle.cc_model.specs.Covered.{FlushedUpTo, IsLogged, IsNextLsn}
use Rattle.cc_model.specs.Good.{IsGood}
use Rattle.cc_model.specs.History.{history}
use Rattle.cc_model.specs.Images.{open_of}
use Rattle.cc_model.specs.Logs.{floor_of, flush_of, flushed_to}
use Rattle.cc_model.specs.Settings.{log_of}
use Rattle.cc_model.specs.Stamps.{newest_of}
use Rattle.cc_model.specs.Turns.{Device, Book, Log}
use Rattle.cc_turns.specs.Standing.{Standing, TurnsHeld, is_the, nothing}
use Rattle.cc_turns.specs.Takes.{Grows}
use Rattle.cc_writes.specs.Hands.{HasBook, IsAtRest, WentWith}
use Rattle.cc_writes.specs.Logs.{HoldsBoth}
use Rattle.cc_writes.proofs.OneVisit.{went-held}

pub is_held : (n : ℕ) (held : Option ℕ) → held ≡ Some n → is_the n held ≡ true
is_held n held is = rw is (eq-eqb n n refl)

-- what a pass holds that has the book of a stream in its hands, and its disk
pub holds_both : (w : Standing) (s : ℕ) (b : BookState) → HasBook w s b → w.held.device ≡ Some s → HoldsBoth w s
holds_both w s b has device = has.held ∙ ap (λ (d : Option ℕ). record nothing { device = d; book = Some s }) device

pub holds_no_journal : (w : Standing) (s : ℕ) (b : BookState) → HasBook w s b → w.held.journal ≡ false
holds_no_journal w s b has = ap (λ h. h.journal) has.held

pub holds_the_book : (w : Standing) (s : ℕ) (b : BookState) → HasBook w s b → w.held.book ≡ Some s
holds_the_book w s b has = ap (λ h. h.book) has.held

-- The history of the stream stays, whatever is placed.
pub history-kept : (w : Standing) (s : ℕ) (seen : List Entry) → w.held.book ≡ Some s → w.held.device ≡ Some s → Grows w seen → history seen s ≡ history w.seen s
history-kept w s seen book device grows =
    ap (λ past. history past s) grows.grew
    ∙ history-quiet grows.later w.seen s (grows.quiet (Book s) (is_held s w.held.book book)) (grows.quiet (Device s) (is_held s w.held.device device))

pub history-both : (w : Standing) (s : ℕ) (seen : List Entry) → HoldsBoth w s → Grows w seen → history seen s ≡ history w.seen s
history-both w s seen held grows = history-kept w s seen (ap (λ h. h.book) held) (ap (λ h. h.device) held) grows

-- a book stands for the history of its stream
pub stands-same : (opening : Option (ℕ → List ℕ)) (past now : List Entry) (b : BookState) → history now b.stream ≡ history past b.stream → BookStands opening past b → BookStands opening now b
stands-same opening past now b same stands = record {
  state_is = rw same stands.state_is;
  maps_are = rw same stands.maps_are;
  holds_are = rw same stands.holds_are;
  contents_are = rw same stands.contents_are;
  images_are = rw same stands.images_are;
}

-- a log is flushed no less far later
pub flushed_to-grown : (later past : List Entry) (log : ℕ) → flushed_to past log ≤ flushed_to (later ++ past) log
flushed_to-grown [] past log = omega arith
flushed_to-grown (e ∷ later) past log = rw (flushed_to-entry e (later ++ past) log) (more (flushed_to past log) (flushed_to (later ++ past) log) (flush_of log e) (flushed_to-grown later past log))
  where
    more : (a b c : ℕ) → a ≤ b → a ≤ max c b
    more a b c less = omega (arith, less)

pub flushed_to-grows : (w : Standing) (seen : List Entry) (log : ℕ) → Grows w seen → flushed_to w.seen log ≤ flushed_to seen log
flushed_to-grows w seen log grows = subst (λ (past : List Entry). flushed_to w.seen log ≤ flushed_to past log) (sym grows.grew) (flushed_to-grown grows.later w.seen log)

-- and just as far while its turn is held
pub flushed_to-held : (w : Standing) (seen : List Entry) (log : ℕ) → w.held.log ≡ Some log → Grows w seen → flushed_to seen log ≡ flushed_to w.seen log
flushed_to-held w seen log held grows = ap (λ past. flushed_to past log) grows.grew ∙ flushed_to-quiet grows.later w.seen log (grows.quiet (Log log) (is_held log w.held.log held))

-- so does its floor stay, and its next LSN
pub floor_of-held : (w : Standing) (seen : List Entry) (log : ℕ) → w.held.log ≡ Some log → Grows w seen → floor_of seen log ≡ floor_of w.seen log
floor_of-held w seen log held grows = ap (λ past. floor_of past log) grows.grew ∙ floor_of-quiet grows.later w.seen log (grows.quiet (Log log) (is_held log w.held.log held))

pub next_lsn-held : (w : Standing) (seen : List Entry) (log lsn : ℕ) → w.held.log ≡ Some log → Grows w seen → IsNextLsn w.seen log lsn → IsNextLsn seen log lsn
next_lsn-held w seen log lsn held grows is = record { next = is.next ∙ ap suc (sym (floor_of-held w seen log held grows)); in_range = is.in_range }

flushed-further : (past now : List Entry) (log lsn : Option ℕ) → ((handle : ℕ) → flushed_to past handle ≤ flushed_to now handle) → FlushedUpTo past log lsn → FlushedUpTo now log lsn
flushed-further past now None lsn further is = tt
flushed-further past now (Some log) None further is = tt
flushed-further past now (Some log) (Some lsn) further is = still lsn (flushed_to past log) (flushed_to now log) is (further log)
  where
    still : (a b c : ℕ) → a ≤ b → b ≤ c → a ≤ c
    still a b c first second = omega (arith, first, second)

-- the log of a page stays flushed
pub logged-kept : (past now : List Entry) (s p : ℕ) → history now s ≡ history past s → ((handle : ℕ) → flushed_to past handle ≤ flushed_to now handle) → IsLogged past s p → IsLogged now s p
logged-kept past now s p same further is = record {
  stamped = rw same is.stamped;
  flushed = rw same (flushed-further past now (log_of (history past s)) (newest_of (history past s) p) further is.flushed);
}

-- The pass has the book in its hands as before, where it goes on.
pub book-after : (n : ℕ) (w x : Standing) (s : ℕ) (b c : BookState) → HasBook w s b → WentWith n w x → c.stream ≡ s → BookStands (w.setup.opening s) x.seen c → IsGood x.setup x.seen → HasBook x s c
book-after n w x s b c has went stream stands good = record {
  held = went-held n w x went ∙ (has.held ∙ ap (λ (h : TurnsHeld). record nothing { device = h.device; book = Some s }) (sym (went-held n w x went)));
  stream = stream;
  stands = subst (λ u. BookStands (u.opening s) x.seen c) (sym (ap (λ y. y.setup) went.same)) stands;
  good = good;
}

-- It has the same book, where the history of its stream is as it was.
pub book-kept : (n : ℕ) (w x : Standing) (s : ℕ) (b : BookState) → HasBook w s b → WentWith n w x → history x.seen s ≡ history w.seen s → IsGood x.setup x.seen → HasBook x s b
book-kept n w x s b has went same good =
    book-after n w x s b b has went has.stream
    (stands-same (w.setup.opening s) w.seen x.seen b (subst (λ (m : ℕ). history x.seen m ≡ history w.seen m) (sym has.stream) same) has.stands)
    good

pub rest-kept : (n : ℕ) (w x : Standing) (s : ℕ) → IsAtRest w s → WentWith n w x → history x.seen s ≡ history w.seen s → IsAtRest x s
rest-kept n w x s rest went same = record {
  device = ap (λ h. h.device) (went-held n w x went) ∙ rest.device;
  no_transfer = ap open_of same ∙ rest.no_transfer;
}
