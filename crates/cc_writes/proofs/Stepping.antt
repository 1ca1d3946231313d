-- A call took its next step: what is known of the page that the step asks for, and what the round leaves.
use Rattle.std.specs.Prelude.{◌≡◌, ℕ, Result, Ok, Err, List}
use Rattle.std.proofs.Common.{sym, ap, ◌∙◌, subst}
use Rattle.cc_entry.specs.declared.call.Call.{Call}
use Rattle.cc_entry.specs.declared.error.CcError.{CcError}
use Rattle.cc_entry.specs.declared.entry.Entry.{Entry}
use Rattle.cc_effects.specs.Calls.{IsUnderWay}
use Rattle.cc_effects.proofs.Starts.{begins}
use Rattle.cc_model.specs.Setup.{Setup}
use Rattle.cc_turns.specs.Standing.{Standing}
use Rattle.cc_writes.specs.Hands.{WentWith}
use Rattle.cc_writes.specs.Visits.{CallStepLeft, IsToBeWritten, IsWaitedFor}
use Rattle.cc_step.specs.declared.ways.Way.{Way}
use Rattle.cc_step.specs.declared.ways.Way.TheVariants as ways
use Rattle.cc_writes.specs.declared.course.Course.{Course}
use Rattle.cc_writes.specs.declared.course.Course.TheVariants as course
use Rattle.cc_writes.specs.Calls.{PageStepLeft}
use Rattle.cc_writes.specs.Rounds.{RoundLeft, course_of}

-- what the step left of the call, wherever it began
abbrev pub HasStepped : Standing → Standing → ℕ → Call → Course Way → List ℕ → List ℕ → Type 0
HasStepped w v s it r was now =
    (begun : List Entry) → IsUnderWay w.number it begun w.seen → CallStepLeft w.setup w.number s it r begun v.seen was now

module _ (w v : Standing) (s flight : ℕ) (it again : Call) (page : ℕ) (was now : List ℕ) (went : WentWith flight w v) where
  setup_same : v.setup ≡ w.setup
  setup_same = ap (λ x. x.setup) went.same

  -- the call is the one that was handed in
  pub to_write_call : HasStepped w v s it (course.GoesOn (ways.Writes page again)) was now → again ≡ it
  to_write_call stepped = (stepped w.seen (begins w.number it w.seen)).0

  pub to_read_call : HasStepped w v s it (course.GoesOn (ways.Reads page again)) was now → again ≡ it
  to_read_call stepped = (stepped w.seen (begins w.number it w.seen)).0

  -- the page is one to be written, or to be read
  pub to_write : (n : ℕ) → n ≡ s → HasStepped w v s it (course.GoesOn (ways.Writes page again)) was now → IsToBeWritten v.setup n again page v.seen
  to_write n same stepped =
      subst (λ (t : ℕ). IsToBeWritten v.setup t again page v.seen) (sym same)
      (subst (λ (a : Call). IsToBeWritten v.setup s a page v.seen) (sym (to_write_call stepped))
      (subst (λ (u : Setup). IsToBeWritten u s it page v.seen) (sym setup_same) (stepped w.seen (begins w.number it w.seen)).2))

  pub to_read : (n : ℕ) → n ≡ s → HasStepped w v s it (course.GoesOn (ways.Reads page again)) was now → IsWaitedFor v.setup n again page v.seen
  to_read n same stepped =
      subst (λ (t : ℕ). IsWaitedFor v.setup t again page v.seen) (sym same)
      (subst (λ (a : Call). IsWaitedFor v.setup s a page v.seen) (sym (to_read_call stepped))
      (subst (λ (u : Setup). IsWaitedFor u s it page v.seen) (sym setup_same) (stepped w.seen (begins w.number it w.seen)).2))

  -- what the round left, by what its page step left
  of_page : (r : Result Call CcError) (begun new : List Entry) → again ≡ it → now ≡ was → PageStepLeft w.setup w.number again r begun new → RoundLeft w.setup w.number it (course_of r) begun new was now
  of_page (Ok on) begun new same told left = (left.0 ∙ same, subst (λ (a : Call). IsUnderWay w.number a begun new) same left.1, told)
  of_page (Err e) begun new same told left = (subst (λ (a : Call). PageStepLeft w.setup w.number a (Err e) begun new) same left, told)

  of_step : (r : Result Call CcError) (begun new : List Entry) → again ≡ it → IsUnderWay w.number it begun v.seen → now ≡ was → ((earlier : List Entry) → IsUnderWay v.number again earlier v.seen → PageStepLeft v.setup v.number again r earlier new) → RoundLeft w.setup w.number it (course_of r) begun new was now
  of_step r begun new same way told left =
      let number : v.number ≡ w.number = ap (λ x. x.number) went.same in
      let here : IsUnderWay v.number again begun v.seen =
      subst (λ (n : ℕ). IsUnderWay n again begun v.seen) (sym number) (subst (λ (a : Call). IsUnderWay w.number a begun v.seen) (sym same) way) in
      of_page r begun new same told
      (subst (λ (n : ℕ). PageStepLeft w.setup n again r begun new) number (subst (λ (u : Setup). PageStepLeft u v.number again r begun new) setup_same (left begun here)))

  pub round_wrote : (r : Result Call CcError) (new : List Entry) → HasStepped w v s it (course.GoesOn (ways.Writes page again)) was now → ((earlier : List Entry) → IsUnderWay v.number again earlier v.seen → PageStepLeft v.setup v.number again r earlier new) → (begun : List Entry) → IsUnderWay w.number it begun w.seen → RoundLeft w.setup w.number it (course_of r) begun new was now
  round_wrote r new stepped left begun way = let x = stepped begun way in of_step r begun new x.0 x.1 x.3 left

  pub round_read : (r : Result Call CcError) (new : List Entry) → HasStepped w v s it (course.GoesOn (ways.Reads page again)) was now → ((earlier : List Entry) → IsUnderWay v.number again earlier v.seen → PageStepLeft v.setup v.number again r earlier new) → (begun : List Entry) → IsUnderWay w.number it begun w.seen → RoundLeft w.setup w.number it (course_of r) begun new was now
  round_read r new stepped left begun way = let x = stepped begun way in of_step r begun new x.0 x.1 x.3 left
