-- The rounds of a call so far, and one more.
use Rattle.std.specs.Prelude.{◌≡◌, ℕ, Option, List, refl}
use Rattle.std.proofs.Common.{sym, ap, ◌∙◌, subst}
use Rattle.cc_entry.specs.declared.call.Call.{Call}
use Rattle.cc_entry.specs.declared.entry.Entry.{Entry}
use Rattle.cc_traits.specs.Disk.{Disk}
use Rattle.cc_book.specs.Book.{BookState}
use Rattle.cc_effects.specs.Calls.{IsUnderWay}
use Rattle.cc_effects.proofs.Starts.{begins}
use Rattle.cc_model.specs.Setup.{Setup}
use Rattle.cc_turns.specs.Standing.{Standing}
use Rattle.cc_writes.specs.Hands.{Went}
use Rattle.cc_writes.specs.Writes.{HasBoth}
use Rattle.cc_writes.specs.Rounds.{RoundLeft}
use Rattle.cc_writes.specs.declared.course.Course.{Course}
use Rattle.cc_writes.specs.declared.course.Course.TheVariants as course

-- what a round left of a call, wherever it began
abbrev pub HasGoneRound : Standing → Standing → Call → Course Call → List ℕ → List ℕ → Type 0
HasGoneRound v x it o was now =
    (begun : List Entry) → IsUnderWay v.number it begun v.seen → RoundLeft v.setup v.number it o begun x.seen was now

-- A call goes on after some rounds: disk and book are in hand, it is the call that was handed in, it is under way since
-- it began, and its caller was told nothing.
pub record GoesOn {D : Type 0} (told : D → Option Disk) (faults : D → ℕ) (w v : Standing) (s : ℕ) (it now_it : Call) (b : BookState)
    (disk : D) (was now : List ℕ) : Type 0 where
  pub both : HasBoth told faults v s b disk
  pub went : Went w v
  pub same : now_it ≡ it
  pub told_none : now ≡ was
  pub way : (begun : List Entry) → IsUnderWay w.number it begun w.seen → IsUnderWay w.number it begun v.seen

-- what a round left of a call that had gone on so far, it left of the call as it was handed in
module _ {D : Type 0} (told : D → Option Disk) (faults : D → ℕ) (w v x : Standing) (s : ℕ) (it now_it : Call) (b : BookState) (disk : D)
    (was now after : List ℕ) (on : GoesOn told faults w v s it now_it b disk was now) (went : Went v x) where
  pub left_so_far : (o : Course Call) → HasGoneRound v x now_it o now after → (begun : List Entry) → IsUnderWay w.number it begun w.seen → RoundLeft w.setup w.number it o begun x.seen was after
  left_so_far o left begun way =
      let number : v.number ≡ w.number = ap (λ (y : Standing). y.number) on.went.same in
      let setup : v.setup ≡ w.setup = ap (λ (y : Standing). y.setup) on.went.same in
      let here : IsUnderWay v.number now_it begun v.seen =
      subst (λ (n : ℕ). IsUnderWay n now_it begun v.seen) (sym number) (subst (λ (a : Call). IsUnderWay w.number a begun v.seen) (sym on.same) (on.way begun way)) in
      subst (λ (out : List ℕ). RoundLeft w.setup w.number it o begun x.seen out after) on.told_none
      (subst (λ (a : Call). RoundLeft w.setup w.number a o begun x.seen now after) on.same
      (subst (λ (n : ℕ). RoundLeft w.setup n now_it o begun x.seen now after) number
      (subst (λ (u : Setup). RoundLeft u v.number now_it o begun x.seen now after) setup (left begun here))))

  went_so_far : Went w x
  went_so_far = record {
    same = went.same ∙ subst (λ (y : Standing). record y { seen = x.seen; others = x.others; in_flight = y.in_flight } ≡ record w { seen = x.seen; others = x.others; in_flight = w.in_flight }) (sym on.went.same) refl;
  }

  -- and it goes on
  pub goes_on : (again : Call) (c : BookState) (disk_now : D) → HasBoth told faults x s c disk_now → HasGoneRound v x now_it (course.GoesOn again) now after → GoesOn told faults w x s it again c disk_now was after
  goes_on again c disk_now both left =
      let first = left_so_far (course.GoesOn again) left w.seen (begins w.number it w.seen) in
      record {
        both = both;
        went = went_so_far;
        same = first.0;
        told_none = first.2;
        way = λ begun way. (left_so_far (course.GoesOn again) left begun way).1;
      }
