-- A page was read for a call, while others may have gone on: what the call is then, and what it leaves.
use Rattle.std.specs.Prelude.{◌≡◌, ℕ, true, Result, List}
use Rattle.std.proofs.Common.{sym, ap, subst}
use Rattle.cc_entry.specs.declared.call.Call.{Call}
use Rattle.cc_entry.specs.declared.error.CcError.{CcError}
use Rattle.cc_entry.specs.declared.entry.Entry.{Entry}
use Rattle.cc_effects.specs.Asked.{brings_in}
use Rattle.cc_effects.specs.Calls.{IsUnderWay}
use Rattle.cc_effects.specs.Moments.{IsIdle}
use Rattle.cc_effects.proofs.Starts.{begins}
use Rattle.cc_model.specs.Setup.{Setup}
use Rattle.cc_step.specs.Step.{is_stepped}
use Rattle.cc_turns.specs.Standing.{Standing}
use Rattle.cc_writes.specs.Hands.{WentWith}
use Rattle.cc_writes.specs.Ways.{WasWanted}
use Rattle.cc_writes.specs.Visits.{CallIsOfStream, IsWaitedFor}
use Rattle.cc_writes.proofs.Others.{under_way-on}
use Rattle.cc_writes.specs.Calls.{PageStepLeft}
use Rattle.cc_writes.specs.Rounds.{CallWantedPage}
use Rattle.cc_writes.proofs.Going.{wanted}

module _ (flight : ℕ) (w v : Standing) (s page : ℕ) (it : Call) (went : WentWith flight w v) (idle : IsIdle w.number w.seen v.seen) where
  setup_same : v.setup ≡ w.setup
  setup_same = ap (λ x. x.setup) went.same

  number_same : v.number ≡ w.number
  number_same = ap (λ x. x.number) went.same

  -- the call is under way still
  way_since : (begun : List Entry) → IsUnderWay w.number it begun w.seen → IsUnderWay v.number it begun v.seen
  way_since begun way = subst (λ (n : ℕ). IsUnderWay n it begun v.seen) (sym number_same) (under_way-on w.number it begun w.seen v.seen way idle)

  page_left : (r : Result Call CcError) (begun new : List Entry) → PageStepLeft v.setup v.number it r begun new → PageStepLeft w.setup w.number it r begun new
  page_left r begun new left = subst (λ (n : ℕ). PageStepLeft w.setup n it r begun new) number_same
      (subst (λ (u : Setup). PageStepLeft u v.number it r begun new) setup_same left)

  -- what it leaves from then on, it leaves from before the read
  pub left_since : (r : Result Call CcError) (new : List Entry) → ((begun : List Entry) → IsUnderWay v.number it begun v.seen → PageStepLeft v.setup v.number it r begun new) → (begun : List Entry) → IsUnderWay w.number it begun w.seen → PageStepLeft w.setup w.number it r begun new
  left_since r new left begun way = page_left r begun new (left begun (way_since begun way))

  module _ (stepped : is_stepped it ≡ true) (brings : brings_in it ≡ true) (filed : CallIsOfStream it s) (waited : IsWaitedFor w.setup s it page w.seen) where
    wanted_since : (begun : List Entry) → IsUnderWay w.number it begun w.seen → WasWanted v.setup it (record { stream = s; page = page }) begun v.seen
    wanted_since begun way = subst (λ (u : Setup). WasWanted u it (record { stream = s; page = page }) begun v.seen) (sym setup_same)
        (wanted w.setup w.number s page it begun w.seen v.seen stepped brings filed way idle waited)

    pub is_wanted : CallWantedPage v s it page
    is_wanted = (w.seen, way_since w.seen (begins w.number it w.seen), wanted_since w.seen (begins w.number it w.seen))

    -- the same where its failure is told as one of a page that the call wanted
    pub left_wanted : (r : Result Call CcError) (new : List Entry) → ((begun : List Entry) → IsUnderWay v.number it begun v.seen → WasWanted v.setup it (record { stream = s; page = page }) begun v.seen → PageStepLeft v.setup v.number it r begun new) → (begun : List Entry) → IsUnderWay w.number it begun w.seen → PageStepLeft w.setup w.number it r begun new
    left_wanted r new left begun way = page_left r begun new (left begun (way_since begun way) (wanted_since begun way))
