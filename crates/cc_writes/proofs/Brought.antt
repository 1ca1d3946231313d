-- What became of a page that a call waited for, by what its landing or its failure left.
use Rattle.std.specs.Prelude.{◌≡◌, ℕ, ◌*◌, ◌&&◌, nat_lt, not, Bool, true, false, List, ◌∷◌, Result, Ok, Err, OnOk, IsErr, refl}
use Rattle.std.specs.declared.option.Option.{Option}
use Rattle.std.specs.declared.option.Option.TheVariants.{Some, None}
use Rattle.std.proofs.Common.{ap, sym, ◌∙◌, subst, inl, inr}
use Rattle.std.proofs.lemmas.Bool.{and_from}
use Rattle.cc_entry.specs.declared.call.Call.{Call}
use Rattle.cc_entry.specs.declared.entry.Entry.{Entry}
use Rattle.cc_entry.specs.declared.entry.Entry.TheVariants as entry
use Rattle.cc_entry.specs.declared.error.CcError.{CcError}
use Rattle.cc_effects.specs.Places.{is_on_disk_alone}
use Rattle.cc_model.specs.History.{Effect, history}
use Rattle.cc_model.specs.Residency.{is_resident}
use Rattle.cc_model.specs.Setup.{Setup}
use Rattle.cc_model.specs.Touches.{valid_of}
use Rattle.cc_step.specs.Fill.{IsNotToLand}
use Rattle.cc_step.specs.Step.{is_awaited}
use Rattle.cc_step.proofs.Waiting.{needs}
use Rattle.cc_turns.specs.Standing.{Standing}
use Rattle.cc_writes.specs.Hands.{HasBook, WentWith}
use Rattle.cc_writes.specs.Visits.{HasLanded, IsElsewhere, IsWaitedFor, VisitLandLeft}
use Rattle.cc_writes.specs.Rounds.{AwaitedPageLeft, CameIn, AwaitedPageIsPassedOver}
use Rattle.cc_writes.proofs.Landing.{history-held}

-- a call that failed goes on with no page
pub on-err : {T E : Type 0} (P : Type 0) (r : Result T E) → IsErr r → OnOk r P
on-err P (Ok done) failed = absurd (cc)
on-err P (Err e) failed = tt

pub on-ok-weaker : {T E P R : Type 0} (r : Result T E) → (P → R) → OnOk r P → OnOk r R
on-ok-weaker (Ok done) so holds = so holds
on-ok-weaker (Err e) so holds = tt

-- the page that a call waits for and that has a byte below the valid data length is on the disk alone
pub alone : (u : Setup) (s : ℕ) (it : Call) (page : ℕ) (past : List Entry) → IsWaitedFor u s it page past → nat_lt (4096 * page) (valid_of (history past s)) ≡ true → is_on_disk_alone (record { stream = s; page = page }) past ≡ true
alone u s it page past waited below =
    let n = needs u past s it page (record { admitted = waited.admitted; least = waited.least }) in
    and_from (not (is_resident (history past s) page)) _ (ap not n.absent) below

pub apart : {A : Type 0} (b : Bool) → b ≡ true → b ≡ false → A
apart b is isnt = absurd (cc)

-- A page that was read: others may have gone on meanwhile.
module _ (flight : ℕ) (w v : Standing) (s page : ℕ) (it : Call) (went : WentWith flight w v) where
  setup_same : v.setup ≡ w.setup
  setup_same = ap (λ x. x.setup) went.same

  number_same : v.number ≡ w.number
  number_same = ap (λ x. x.number) went.same

  came_in : (seen : List Entry) → HasLanded v s it page seen → CameIn w s it page seen
  came_in seen came = record {
    front = came.placed.front;
    from_disk = came.from_disk;
    placed = came.placed.placed ∙ ap (λ (n : ℕ). entry.PageIn n (record { stream = s; page = page }) came.from_disk ∷ came.placed.front) number_same;
    awaited = subst (λ (u : Setup). is_awaited u came.placed.front s it page ≡ true) setup_same came.awaited;
  }

  pub brought : (raw : List ℕ) (seen : List Entry) → VisitLandLeft v s it page (Some raw) seen → AwaitedPageLeft w s it page seen
  brought raw seen (inl came) = inl (came_in seen came)
  brought raw seen (inr none) = inr (by none.reason)
    where
      by : IsNotToLand v.setup seen s it page (Some raw) → AwaitedPageIsPassedOver w.setup s it page seen
      by (inl other) = inl (subst (λ (u : Setup). is_awaited u seen s it page ≡ false) setup_same other)
      by (inr (inl full)) = inr (inl full)
      by (inr (inr (below, unread))) = absurd (cc)

  -- one that the disk failed to read
  pub brought-not : (r : Result Call CcError) (n : ℕ) (seen : List Entry) → n ≡ s → OnOk r (IsElsewhere v n page seen) → OnOk r (AwaitedPageLeft w s it page seen)
  brought-not r n seen same = on-ok-weaker r (λ gone. inr (inr (inr (subst (λ (t : ℕ). is_on_disk_alone (record { stream = t; page = page }) seen ≡ false) same gone.elsewhere))))

-- A page with no byte below the valid data length, which is not read: the book stays in hand, so it has none when it
-- lands.
pub brought-unread : (w : Standing) (s page : ℕ) (it : Call) (seen : List Entry) → w.held.book ≡ Some s → w.held.device ≡ Some s → nat_lt (4096 * page) (valid_of (history w.seen s)) ≡ false → VisitLandLeft w s it page None seen → AwaitedPageLeft w s it page seen
brought-unread w s page it seen book device above (inl came) =
    inl (record { front = came.placed.front; from_disk = came.from_disk; placed = came.placed.placed; awaited = came.awaited })
brought-unread w s page it seen book device above (inr none) = by none.reason
  where
    by : IsNotToLand w.setup seen s it page None → AwaitedPageLeft w s it page seen
    by (inl other) = inr (inl other)
    by (inr (inl full)) = inr (inr (inl full))
    by (inr (inr (below, unread))) =
        apart (nat_lt (4096 * page) (valid_of (history seen s))) below
        (ap (λ (h : List Effect). nat_lt (4096 * page) (valid_of h)) (history-held w s seen book device none.grows) ∙ above)
