-- The placing of a done call's entry, for which so many more places are reserved, ends its step.
use Rattle.std.specs.Prelude.{◌≡◌, ℕ, ◌+◌, ◌-◌, ◌<◌, ◌≤◌, List, ◌∷◌}
use Rattle.std.proofs.Common.{ap, sym, ◌∙◌, arith, inr, subst}
use Rattle.cc_entry.specs.declared.call.Call.{Call}
use Rattle.cc_entry.specs.declared.entry.Entry.{Entry}
use Rattle.cc_entry.specs.declared.error.CcError.{CcError}
use Rattle.cc_entry.specs.declared.error.CcError.TheVariants as error
use Rattle.cc_entry.specs.declared.reply.Reply.{Reply}
use Rattle.cc_book.specs.Book.{BookState, done}
use Rattle.cc_journal.specs.Journal.{JournalState}
use Rattle.cc_model.specs.Room.{reserved_in}
use Rattle.cc_model.specs.Setup.{Setup}
use Rattle.cc_step.specs.Step.{IsReadyFor, IsReadyWhenFull, MayStep, StepLeft, StepPlacingLeft}
use Rattle.cc_step.specs.declared.ways.Attempt.{Attempt}
use Rattle.cc_step.specs.declared.ways.Attempt.TheVariants as attempt

-- a journal with so many places more reserved
abbrev pub reserving-more : {Q : Type 0} → ℕ → JournalState Q → JournalState Q
reserving-more more j = record j { reserved = j.reserved + more }

pub may-more : {Q : Type 0} (u : Setup) (pass more : ℕ) (it : Call) (b : BookState) (j : JournalState Q) → MayStep u pass it b j → MayStep u pass it b (reserving-more more j)
may-more u pass more it b j may = record {
  stand = record { good = may.stand.good; stands = may.stand.stands; logs_are = may.stand.logs_are; threshold_is = may.stand.threshold_is };
  filed = may.filed;
  owed = further (reserved_in j.entries) j.reserved may.owed;
}
  where
    further : (owed n : ℕ) → owed ≤ n → owed ≤ n + more
    further owed n most = omega (arith, most)

-- a call that is ready is so whatever it finds
pub ready-full : (u : Setup) (past : List Entry) (s : ℕ) (it : Call) (e : CcError) → IsReadyFor u past s it → IsReadyWhenFull u past s it e
ready-full u past s it (error.JournalFull entries) ready = ready
ready-full u past s it other ready = tt

pub placed-step : {Q : Type 0} (u : Setup) (pass more : ℕ) (it : Call) (r : Reply) (ended : Attempt (ℕ × Call)) (b c : BookState) (j k : JournalState Q) → 0 < j.reserved → StepPlacingLeft u pass more it r ended b c (reserving-more more j) k → StepLeft u pass more it ended b c j k
placed-step u pass more it r attempt.Done b c j k some left = (
  r,
  record {
    placed = left.0 ∙ ap (λ (n : ℕ). record j { entries = done pass j.entries b.stream it r ∷ j.entries; reserved = n; rows = k.rows }) (turned j.reserved some);
    stand = left.1;
    stream = left.2;
  },
)
  where
    turned : (n : ℕ) → 0 < n → (n + more) - 1 ≡ (n - 1) + more
    turned n some_place = omega (arith, some_place)
placed-step u pass more it r (attempt.Stopped e) b c j k some left = (
  inr left.0,
  record {
    same_journal = left.1 ∙ ap (λ (n : ℕ). record j { reserved = n }) (back j.reserved);
    stand = left.2;
    stream = left.3;
  },
  subst (λ (x : CcError). IsReadyWhenFull u j.entries b.stream it x) (sym left.0) tt,
)
  where
    back : (n : ℕ) → (n + more) - more ≡ n
    back n = omega arith
placed-step u pass more it r (attempt.Refused e) b c j k some left = absurd left
placed-step u pass more it r (attempt.GoesOn (page, again)) b c j k some left = absurd left
