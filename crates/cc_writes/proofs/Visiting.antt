-- One visit to the journal, with a book in hand: what the pass knows in it, and what it gives.
use Rattle.std.specs.Prelude.{◌≡◌, ℕ, ◌+◌, ◌-◌, ◌≤◌, Bool, true, false, List, ◌++◌, Some, refl}
use Rattle.std.specs.List.{AllByRecursion}
use Rattle.std.proofs.Common.{ap, sym, ◌∙◌, subst, arith}
use Rattle.cc_entry.specs.declared.entry.Entry.{Entry}
use Rattle.cc_book.specs.Book.{BookState, BookStands}
use Rattle.cc_effects.specs.Moments.{IsIdle}
use Rattle.cc_journal.specs.Journal.{JournalState}
use Rattle.cc_journal.specs.Queue.{AllUnposted}
use Rattle.cc_model.specs.Good.{IsGood}
use Rattle.cc_model.specs.Room.{reserved_in}
use Rattle.cc_model.specs.Turns.{Turn, is_quiet}
use Rattle.cc_step.specs.Step.{StandUnder}
use Rattle.cc_turns.specs.Standing.{Standing, TurnsHeld, nothing, holds}
use Rattle.cc_turns.specs.Journal.{JournalStands}
use Rattle.cc_turns.specs.Takes.{Grows, Takes, AddsEvent, IsOneEvent, with_journal, without_journal, may_be_of}
use Rattle.cc_turns.proofs.Taking.{book_kept}
use Rattle.cc_writes.specs.Hands.{HasBook, WentWith}

-- What a pass knows as it has taken the journal, with a book in its hands: its front is what it has seen now.
pub record Visiting {Q : Type 0} (posted : Q → Bool) (w v : Standing) (s : ℕ) (b : BookState) (j : JournalState Q) : Type 0 where
  pub taken : Takes with_journal w v
  pub front_is : j.entries ≡ v.seen
  pub idle : IsIdle w.number w.seen j.entries
  pub grows : Grows w j.entries
  pub stand : StandUnder w.setup b j
  pub number_is : v.number ≡ w.number
  pub setup_is : v.setup ≡ w.setup
  pub flight_is : v.in_flight ≡ w.in_flight
  pub held_is : v.held ≡ record w.held { journal = true }
  pub reserved_is : j.reserved ≡ reserved_in j.entries + w.in_flight + v.others
  pub journal : JournalStands posted v j

pub visiting : {Q : Type 0} (posted : Q → Bool) (w v : Standing) (s : ℕ) (b : BookState) (j : JournalState Q) → HasBook w s b → Takes with_journal w v → JournalStands posted v j → Visiting posted w v s b j
visiting posted w v s b j has t js = record {
  taken = t;
  front_is = js.entries_are;
  idle = record { during = t.grows.later; grew = js.entries_are ∙ t.grows.grew; others = t.grows.others };
  grows = record { later = t.grows.later; grew = js.entries_are ∙ t.grows.grew; quiet = t.grows.quiet; others = t.grows.others };
  stand = record {
    good = subst (λ u. IsGood u j.entries) (ap (λ x. x.setup) t.same) (subst (λ (past : List Entry). IsGood v.setup past) (sym js.entries_are) js.good);
    stands = subst (λ (n : ℕ). BookStands (w.setup.opening n) j.entries b) (sym has.stream)
        (subst (λ (past : List Entry). BookStands (w.setup.opening s) past b) (sym js.entries_are)
        (subst (λ u. BookStands (u.opening s) v.seen b) (ap (λ x. x.setup) t.same)
        (book_kept with_journal w v s b t refl (ap (λ h. h.book) has.held) has.stream has.stands)));
    logs_are = ap (λ x. x.setup.logs) (sym t.same) ∙ sym js.logs_are;
    threshold_is = ap (λ x. x.setup.threshold) (sym t.same) ∙ sym js.threshold_is;
  };
  number_is = ap (λ x. x.number) t.same;
  setup_is = ap (λ x. x.setup) t.same;
  flight_is = ap (λ x. x.in_flight) t.same;
  held_is = ap (λ x. x.held) t.same;
  reserved_is = js.reserved_is ∙ (ap (λ past. reserved_in past + v.in_flight + v.others) (sym js.entries_are) ∙ ap (λ n. reserved_in j.entries + n + v.others) (ap (λ x. x.in_flight) t.same));
  journal = js;
}

-- What a step on the book and the journal left, so that both may be given: it added these entries, which are one event,
-- the pass's own, and need no turn that it does not hold; and so much is under way.
pub record Stepping {Q : Type 0} (w v : Standing) (s flight : ℕ) (added : List Entry) (c : BookState) (j k : JournalState Q) : Type 0 where
  pub kept : k ≡ record j { entries = added ++ j.entries; reserved = k.reserved; rows = k.rows }
  pub stand : StandUnder w.setup c k
  pub stream : c.stream ≡ s
  pub event : IsOneEvent added
  pub own : AllByRecursion (λ e. may_be_of w.number e ≡ true) added
  pub held : (t : Turn) → holds (record w.held { journal = true }) t ≡ false → is_quiet t added ≡ true
  pub reserved : k.reserved ≡ reserved_in k.entries + flight + v.others

-- What the pass gives, and how it stands with the journal given.
pub record Visited {Q : Type 0} (posted : Q → Bool) (w v : Standing) (s flight : ℕ) (c : BookState) (k : JournalState Q) : Type 0 where
  pub adds : AddsEvent v k.entries
  pub journal : JournalStands posted (without_journal k v) k
  pub book : HasBook (without_journal k v) s c
  pub went : WentWith flight w (without_journal k v)

pub visited : {Q : Type 0} (posted : Q → Bool) (w v : Standing) (s flight : ℕ) (added : List Entry) (b c : BookState) (j k : JournalState Q) → HasBook w s b → Visiting posted w v s b j → Stepping w v s flight added c j k → Visited posted w v s flight c k
visited {Q = Q} posted w v s flight added b c j k has vis step = record {
  adds = record {
    added = added;
    grew = ap (λ x. x.entries) step.kept ∙ ap (λ past. added ++ past) vis.front_is;
    event = step.event;
    held = λ t there free. step.held t (subst (λ (h : TurnsHeld). holds h t ≡ false) vis.held_is free);
    own = subst (λ (n : ℕ). AllByRecursion (λ e. may_be_of n e ≡ true) added) (sym vis.number_is) step.own;
  };
  journal = record {
    entries_are = refl;
    good = subst (λ u. IsGood u k.entries) (sym vis.setup_is) step.stand.good;
    capacity_is = ap (λ x. x.capacity) step.kept ∙ vis.journal.capacity_is;
    threshold_is = ap (λ x. x.threshold) step.kept ∙ vis.journal.threshold_is;
    logs_are = ap (λ x. x.logs) step.kept ∙ vis.journal.logs_are;
    reserved_is = step.reserved ∙ ap (λ (n : ℕ). reserved_in k.entries + n + v.others) (sym rest);
    unposted = subst (λ (x : JournalState Q). AllUnposted posted x.queue) (sym step.kept) vis.journal.unposted;
  };
  book = record {
    held = ap (λ (h : TurnsHeld). record h { journal = false }) vis.held_is
        ∙ (subst (λ (h : TurnsHeld). record h { journal = false } ≡ record nothing { device = h.device; book = Some s }) (sym has.held) refl
        ∙ ap (λ (h : TurnsHeld). record nothing { device = h.device; book = Some s }) (sym vis.held_is));
    stream = step.stream;
    stands = subst (λ u. BookStands (u.opening s) k.entries c) (sym vis.setup_is)
        (subst (λ (n : ℕ). BookStands (w.setup.opening n) k.entries c) step.stream step.stand.stands);
    good = subst (λ u. IsGood u k.entries) (sym vis.setup_is) step.stand.good;
  };
  went = record {
    same = ap (λ (x : Standing). without_journal k x) vis.taken.same
        ∙ (ap (λ (n : ℕ). record w { seen = k.entries; held = record w.held { journal = false }; others = v.others; in_flight = n }) rest
        ∙ ap (λ (h : TurnsHeld). record w { seen = k.entries; held = h; others = v.others; in_flight = flight }) back);
  };
}
  where
    rest : k.reserved - (reserved_in k.entries + v.others) ≡ flight
    rest = left k.reserved (reserved_in k.entries) flight v.others step.reserved
      where
        left : (n owed mine others : ℕ) → n ≡ owed + mine + others → n - (owed + others) ≡ mine
        left n owed mine others same = omega (arith, same)

    back : record w.held { journal = false } ≡ w.held
    back = subst (λ (h : TurnsHeld). record h { journal = false } ≡ h) (sym has.held) refl

-- so much under way at most is left to whom gives the journal
pub few-left : {old new : Standing} (flight : ℕ) → WentWith flight old new → flight ≤ 1 → new.in_flight ≤ 1
few-left flight went most = omega (arith, ap (λ (x : Standing). x.in_flight) went.same, most)
