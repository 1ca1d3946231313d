-- What stays of a stream in a visit: its open holds, since its book's turn is held, and what its disk stands for, where
-- that turn is held too.
use Rattle.std.specs.Prelude.{◌≡◌, ℕ, true, List, Option, None, Some, refl}
use Rattle.std.proofs.Common.{ap, sym, ◌∙◌, subst}
use Rattle.std.proofs.lemmas.Bool.{eq-eqb}
use Rattle.cc_entry.specs.declared.call.Call.{Call}
use Rattle.cc_entry.specs.declared.entry.Entry.{Entry}
use Rattle.cc_laws.proofs.HoldSteps.{holds_of-synced}
use Rattle.cc_laws.proofs.QuietLaws.{kept_without_book}
use Rattle.cc_model.specs.Acts.{file_of}
use Rattle.cc_model.specs.Filing.{IsFiled}
use Rattle.cc_model.specs.History.{history}
use Rattle.cc_model.specs.Holds.{Hold, holds_of}
use Rattle.cc_model.specs.Images.{open_of}
use Rattle.cc_model.specs.Turns.{Book, Device}
use Rattle.cc_turns.specs.Standing.{Standing, is_the}
use Rattle.cc_turns.specs.Takes.{Grows}
use Rattle.cc_writes.specs.Hands.{IsAtRest, SameDisk, WentWith}
use Rattle.cc_writes.specs.Visits.{IsFiledNow, CallIsOfStream}
use Rattle.cc_writes.proofs.VisitDisks.{disk-quiet}

pub is-held : (s : ℕ) (device : Option ℕ) → device ≡ Some s → is_the s device ≡ true
is-held s device is = rw is (eq-eqb s s refl)

-- others leave the holds of the stream whose book's turn is held
holds-held : (w : Standing) (s : ℕ) (seen : List Entry) → w.held.book ≡ Some s → Grows w seen → holds_of (history seen s) ≡ holds_of (history w.seen s)
holds-held w s seen book grows =
    ap (λ past. holds_of (history past s)) grows.grew
    ∙ kept_without_book holds_of (λ pass how h. holds_of-synced pass how h) grows.later w.seen s (grows.quiet (Book s) (is-held s w.held.book book))

-- so a call that is filed there is filed there still
pub filed-held : (w : Standing) (s : ℕ) (it : Call) (seen : List Entry) → w.held.book ≡ Some s → Grows w seen → IsFiledNow w s it → IsFiled (holds_of (history seen s)) w.number (Some s) it (file_of it)
filed-held w s it seen book grows filed =
    subst (λ (holds : List Hold). IsFiled holds w.number (Some s) it (file_of it)) (sym (holds-held w s seen book grows)) filed

-- one that is filed whatever holds are open is filed there now
pub filed-now : (w : Standing) (s : ℕ) (it : Call) → CallIsOfStream it s → IsFiledNow w s it
filed-now w s it filed = filed (holds_of (history w.seen s)) w.number

-- others leave the disk whose turn is held
pub disk-held : (w : Standing) (s : ℕ) (seen : List Entry) → w.held.device ≡ Some s → Grows w seen → SameDisk w.seen seen s
disk-held w s seen device grows =
    subst (λ (past : List Entry). SameDisk w.seen past s) (sym grows.grew)
    (disk-quiet grows.later w.seen s (grows.quiet (Device s) (is-held s w.held.device device)))

-- no transfer is under way where none was
pub rest-same : (past now : List Entry) (s : ℕ) → SameDisk past now s → open_of (history past s) ≡ None → open_of (history now s) ≡ None
rest-same past now s same none = same.images.same_transfer ∙ none

pub rest-went : (flight s : ℕ) (old new : Standing) → IsAtRest old s → WentWith flight old new → SameDisk old.seen new.seen s → IsAtRest new s
rest-went flight s old new rest went same = record {
  device = ap (λ (x : Standing). x.held.device) went.same ∙ rest.device;
  no_transfer = rest-same old.seen new.seen s same rest.no_transfer;
}
