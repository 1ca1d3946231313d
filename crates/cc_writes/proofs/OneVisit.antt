-- One visit to the journal: what a pass knows in it, and what it gives.
use Rattle.std.specs.Prelude.{◌≡◌, ℕ, ◌+◌, ◌-◌, Bool, true, false, List, [], ◌++◌, refl}
use Rattle.std.specs.List.{AllByRecursion}
use Rattle.std.proofs.Common.{ap, sym, ◌∙◌, subst, arith, append_assoc}
use Rattle.cc_entry.specs.declared.entry.Entry.{Entry}
use Rattle.cc_effects.specs.Moments.{Others}
use Rattle.cc_effects.proofs.Stretches.{others-append}
use Rattle.cc_journal.specs.Journal.{JournalState}
use Rattle.cc_journal.specs.Queue.{AllUnposted}
use Rattle.cc_laws.proofs.TurnSteps.{is_quiet-none, is_quiet-append}
use Rattle.cc_model.specs.Good.{IsGood}
use Rattle.cc_model.specs.Room.{reserved_in}
use Rattle.cc_model.specs.Turns.{Turn, is_quiet}
use Rattle.cc_turns.specs.Standing.{Standing, TurnsHeld, holds}
use Rattle.cc_turns.specs.Journal.{JournalStands}
use Rattle.cc_turns.specs.Takes.{Grows, Takes, AddsEvent, IsOneEvent, IsThere, with_journal, without_journal, may_be_of}
use Rattle.cc_writes.specs.Hands.{WentWith}
use Rattle.cc_writes.specs.Visits.{HasPlaced}

-- What a pass knows as it has taken the journal: its front is what it has seen now.
pub record Visiting {Q : Type 0} (posted : Q → Bool) (w v : Standing) (j : JournalState Q) : Type 0 where
  pub taken : Takes with_journal w v
  pub journal : JournalStands posted v j
  pub grows : Grows w j.entries
  pub good : IsGood w.setup j.entries
  pub reserved_is : j.reserved ≡ reserved_in j.entries + w.in_flight + v.others

pub visiting : {Q : Type 0} (posted : Q → Bool) (w v : Standing) (j : JournalState Q) → Takes with_journal w v → JournalStands posted v j → Visiting posted w v j
visiting posted w v j t js = record {
  taken = t;
  journal = js;
  grows = record { later = t.grows.later; grew = js.entries_are ∙ t.grows.grew; quiet = t.grows.quiet; others = t.grows.others };
  good = subst (λ u. IsGood u j.entries) (ap (λ x. x.setup) t.same) (subst (λ (past : List Entry). IsGood v.setup past) (sym js.entries_are) js.good);
  reserved_is = js.reserved_is ∙ (ap (λ past. reserved_in past + v.in_flight + v.others) (sym js.entries_are) ∙ ap (λ (n : ℕ). reserved_in j.entries + n + v.others) (ap (λ x. x.in_flight) t.same));
}

-- What a step on the journal left, so that it may be given: it added these entries, which are one event, the pass's own,
-- and need no turn that it does not hold; and so much is under way.
pub record Stepping {Q : Type 0} (w v : Standing) (flight : ℕ) (added : List Entry) (j k : JournalState Q) : Type 0 where
  pub kept : k ≡ record j { entries = added ++ j.entries; reserved = k.reserved; rows = k.rows }
  pub good : IsGood w.setup k.entries
  pub event : IsOneEvent added
  pub own : AllByRecursion (λ e. may_be_of w.number e ≡ true) added
  pub held : (t : Turn) → holds (record w.held { journal = true }) t ≡ false → is_quiet t added ≡ true
  pub reserved : k.reserved ≡ reserved_in k.entries + flight + v.others

-- The same, where it needs no turn that there is and that it does not hold.
pub record SteppingThere {Q : Type 0} (w v : Standing) (flight : ℕ) (added : List Entry) (j k : JournalState Q) : Type 0 where
  pub kept : k ≡ record j { entries = added ++ j.entries; reserved = k.reserved; rows = k.rows }
  pub good : IsGood w.setup k.entries
  pub event : IsOneEvent added
  pub own : AllByRecursion (λ e. may_be_of w.number e ≡ true) added
  pub held : (t : Turn) → IsThere w.streams t → holds (record w.held { journal = true }) t ≡ false → is_quiet t added ≡ true
  pub reserved : k.reserved ≡ reserved_in k.entries + flight + v.others

-- What the pass gives, and how it goes on with the journal given.
pub record Visited {Q : Type 0} (posted : Q → Bool) (w v : Standing) (flight : ℕ) (k : JournalState Q) : Type 0 where
  pub adds : AddsEvent v k.entries
  pub journal : JournalStands posted (without_journal k v) k
  pub good : IsGood (without_journal k v).setup k.entries
  pub went : WentWith flight w (without_journal k v)

-- the same, where nothing is said of the turns that there are not
pub visited-there : {Q : Type 0} (posted : Q → Bool) (w v : Standing) (flight : ℕ) (added : List Entry) (j k : JournalState Q) → w.held.journal ≡ false → Visiting posted w v j → SteppingThere w v flight added j k → Visited posted w v flight k
visited-there {Q = Q} posted w v flight added j k away vis step = record {
  adds = record {
    added = added;
    grew = ap (λ x. x.entries) step.kept ∙ ap (λ past. added ++ past) vis.journal.entries_are;
    event = step.event;
    held = λ t there free. step.held t (subst (λ (n : ℕ). IsThere n t) (ap (λ (x : Standing). x.streams) vis.taken.same) there) (subst (λ (h : TurnsHeld). holds h t ≡ false) (ap (λ x. x.held) vis.taken.same) free);
    own = subst (λ (n : ℕ). AllByRecursion (λ e. may_be_of n e ≡ true) added) (sym (ap (λ x. x.number) vis.taken.same)) step.own;
  };
  journal = record {
    entries_are = refl;
    good = good;
    capacity_is = ap (λ x. x.capacity) step.kept ∙ vis.journal.capacity_is;
    threshold_is = ap (λ x. x.threshold) step.kept ∙ vis.journal.threshold_is;
    logs_are = ap (λ x. x.logs) step.kept ∙ vis.journal.logs_are;
    reserved_is = step.reserved ∙ ap (λ (n : ℕ). reserved_in k.entries + n + v.others) (sym rest);
    unposted = subst (λ (x : JournalState Q). AllUnposted posted x.queue) (sym step.kept) vis.journal.unposted;
  };
  good = good;
  went = record {
    same = ap (λ (x : Standing). without_journal k x) vis.taken.same
        ∙ (ap (λ (n : ℕ). record w { seen = k.entries; held = record w.held { journal = false }; others = v.others; in_flight = n }) rest
        ∙ ap (λ (b : Bool). record w { seen = k.entries; held = record w.held { journal = b }; others = v.others; in_flight = flight }) (sym away));
  };
}
  where
    good : IsGood (without_journal k v).setup k.entries
    good = subst (λ u. IsGood u k.entries) (sym (ap (λ x. x.setup) vis.taken.same)) step.good

    rest : k.reserved - (reserved_in k.entries + v.others) ≡ flight
    rest = left k.reserved (reserved_in k.entries) flight v.others step.reserved
      where
        left : (n owed mine others : ℕ) → n ≡ owed + mine + others → n - (owed + others) ≡ mine
        left n owed mine others same = omega (arith, same)

pub visited : {Q : Type 0} (posted : Q → Bool) (w v : Standing) (flight : ℕ) (added : List Entry) (j k : JournalState Q) → w.held.journal ≡ false → Visiting posted w v j → Stepping w v flight added j k → Visited posted w v flight k
visited posted w v flight added j k away vis step =
    visited-there posted w v flight added j k away vis
    (record { kept = step.kept; good = step.good; event = step.event; own = step.own; held = λ t there free. step.held t free; reserved = step.reserved })

-- A journal that nothing was placed in, with so much under way.
pub stepping-none : {Q : Type 0} (posted : Q → Bool) (w v : Standing) (flight reserved : ℕ) (j k : JournalState Q) → Visiting posted w v j → k ≡ record j { reserved = reserved } → reserved ≡ reserved_in j.entries + flight + v.others → Stepping w v flight [] j k
stepping-none {Q = Q} posted w v flight reserved j k vis same is = record {
  kept = subst (λ (x : JournalState Q). x ≡ record j { reserved = x.reserved; rows = x.rows }) (sym same) refl;
  good = subst (λ (x : JournalState Q). IsGood w.setup x.entries) (sym same) vis.good;
  event = tt;
  own = tt;
  held = λ t free. is_quiet-none t;
  reserved = ap (λ x. x.reserved) same ∙ (is ∙ ap (λ (x : JournalState Q). reserved_in x.entries + flight + v.others) (sym same));
}

-- nothing was placed
pub grows-none : (w : Standing) → Grows w w.seen
grows-none w = record { later = []; grew = refl; quiet = λ t held. is_quiet-none t; others = tt }

-- Others went on twice, while no turn less was held.
pub grows-then : (w x : Standing) (seen : List Entry) → x.number ≡ w.number → ((t : Turn) → holds w.held t ≡ true → holds x.held t ≡ true) → Grows w x.seen → Grows x seen → Grows w seen
grows-then w x seen same keeps first second = record {
  later = second.later ++ first.later;
  grew = second.grew ∙ (ap (λ past. second.later ++ past) first.grew ∙ sym (append_assoc second.later first.later w.seen));
  quiet = λ t held. is_quiet-append t second.later first.later (second.quiet t (keeps t held)) (first.quiet t held);
  others = others-append w.number second.later first.later (subst (λ (n : ℕ). Others n second.later) same second.others) first.others;
}

abbrev pub placed-then : (w x : Standing) (e : Entry) (seen : List Entry) → x.number ≡ w.number → ((t : Turn) → holds w.held t ≡ true → holds x.held t ≡ true) → Grows w x.seen → HasPlaced x e seen → HasPlaced w e seen
placed-then w x e seen same keeps first second = record { front = second.front; grows = grows-then w x second.front same keeps first second.grows; placed = second.placed }

-- a pass that goes on holds what it held
pub went-number : (n : ℕ) (w x : Standing) → WentWith n w x → x.number ≡ w.number
went-number n w x went = ap (λ y. y.number) went.same

pub went-held : (n : ℕ) (w x : Standing) → WentWith n w x → x.held ≡ w.held
went-held n w x went = ap (λ y. y.held) went.same

pub went-holds : (n : ℕ) (w x : Standing) → WentWith n w x → (t : Turn) → holds w.held t ≡ true → holds x.held t ≡ true
went-holds n w x went t held = subst (λ (h : TurnsHeld). holds h t ≡ true) (sym (went-held n w x went)) held

-- it goes on twice
pub went-then : (n m : ℕ) (w x y : Standing) → WentWith n w x → WentWith m x y → WentWith m w y
went-then n m w x y first second = record { same = second.same ∙ ap (λ (z : Standing). record z { seen = y.seen; others = y.others; in_flight = m }) first.same }

pub went-none : (w : Standing) → WentWith w.in_flight w w
went-none w = record { same = refl }
