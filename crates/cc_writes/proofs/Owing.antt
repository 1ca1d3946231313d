-- The entry of a page that comes in, goes out, or could not be read leaves what is reserved as it was, and what the
-- pass owes.
use Rattle.std.specs.Prelude.{◌≡◌, ℕ, Bool, true, false, ◌==◌, List, [], ◌∷◌, Option, None, Some, if◌then◌else◌, refl}
use Rattle.std.proofs.Common.{sym, ◌∙◌}
use Rattle.std.proofs.lemmas.List.Sums.{sum_by-cons}
use Rattle.std.specs.List.{cons_option, sum_by}
use Rattle.cc_entry.specs.Place.{Page}
use Rattle.cc_entry.specs.declared.entry.Entry.{Entry}
use Rattle.cc_entry.specs.declared.entry.Entry.TheVariants as entry
use Rattle.cc_laws.proofs.HoldSteps.{holds_of-came_in, holds_of-went_out}
use Rattle.cc_laws.proofs.ImageSteps.{open_of-came_in, open_of-went_out}
use Rattle.cc_laws.proofs.QuietSteps.{none_or}
use Rattle.cc_model.specs.Cache.{all_streams}
use Rattle.cc_model.specs.History.{Effect, CameIn, WentOut, effect_of, history}
use Rattle.cc_model.specs.Room.{owed_by_stream, stores_unfinished, reserved_in}

-- sums of the same terms are the same
sum-same : (f g : ℕ → ℕ) (ns : List ℕ) → ((n : ℕ) → f n ≡ g n) → sum_by f ns ≡ sum_by g ns
sum-same f g [] same = refl
sum-same f g (n ∷ ns) same = sum_by-cons f n ns ∙ rw (same n, sum-same f g ns same) (sym (sum_by-cons g n ns))

-- whether an effect is that of a page that came in or went out
abbrev moves_page : Effect → Bool
moves_page (CameIn pass page from_disk) = true
moves_page (WentOut pass page) = true
moves_page other = false

owed-moved : (o : Option Effect) (h : List Effect) → none_or moves_page o ≡ true → owed_by_stream (cons_option o h) ≡ owed_by_stream h
owed-moved None h moves = refl
owed-moved (Some (CameIn pass page from_disk)) h moves = rw (holds_of-came_in pass page from_disk h, open_of-came_in pass page from_disk h) refl
owed-moved (Some (WentOut pass page)) h moves = rw (holds_of-went_out pass page h, open_of-went_out pass page h) refl
owed-moved (Some other) h moves = absurd (cc)

reserved-moved : (e : Entry) (past : List Entry) → ((s : ℕ) → none_or moves_page (effect_of e s) ≡ true) → stores_unfinished [] (e ∷ past) ≡ stores_unfinished [] past → reserved_in (e ∷ past) ≡ reserved_in past
unfolding reserved_in history
reserved-moved e past moves same =
    rw (
      sum-same (λ s. owed_by_stream (history (e ∷ past) s)) (λ s. owed_by_stream (history past s)) all_streams (λ s. owed-moved (effect_of e s) (history past s) (moves s)),
      same,
    ) refl

moves-if : (b : Bool) (effect : Effect) → moves_page effect ≡ true → none_or moves_page (if b then Some effect else None) ≡ true
moves-if true effect moves = moves
moves-if false effect moves = refl

pub reserved-page_in : (me : ℕ) (page : Page) (from_disk : Bool) (past : List Entry) → reserved_in (entry.PageIn me page from_disk ∷ past) ≡ reserved_in past
unfolding stores_unfinished
reserved-page_in me page from_disk past =
    reserved-moved (entry.PageIn me page from_disk) past (λ s. moves-if (page.stream == s) (CameIn me page.page from_disk) refl) refl

pub reserved-page_out : (me : ℕ) (page : Page) (past : List Entry) → reserved_in (entry.PageOut me page ∷ past) ≡ reserved_in past
unfolding stores_unfinished
reserved-page_out me page past =
    reserved-moved (entry.PageOut me page) past (λ s. moves-if (page.stream == s) (WentOut me page.page) refl) refl

pub reserved-fill_failed : (me : ℕ) (page : Page) (past : List Entry) → reserved_in (entry.FillFailed me page ∷ past) ≡ reserved_in past
unfolding stores_unfinished
reserved-fill_failed me page past = reserved-moved (entry.FillFailed me page) past (λ s. refl) refl
