-- What the entries of a page's writing reserve, and what they give back.
use Rattle.std.specs.Prelude.{◌≡◌, ℕ, zero, suc, ◌+◌, ◌<◌, ◌≤◌, Bool, true, false, ◌==◌, List, [], ◌∷◌, None, Some, refl}
use Rattle.std.proofs.Common.{ap, sym, ◌∙◌, arith}
use Rattle.std.specs.List.{sum_by, range_with_len}
use Rattle.std.proofs.lemmas.Bool.{eqb-true, eqb-false, eq-eqb}
use Rattle.std.proofs.lemmas.List.Sums.{sum_by-cons}
use Rattle.cc_entry.specs.Place.{Page}
use Rattle.cc_entry.specs.declared.entry.End.{End}
use Rattle.cc_entry.specs.declared.entry.Entry.{Entry}
use Rattle.cc_entry.specs.declared.entry.Entry.TheVariants as entry
use Rattle.cc_laws.proofs.HistorySteps.{history-no_effect, history-write_begin, history-write_begin_other, history-write_end, history-write_end_other}
use Rattle.cc_laws.proofs.HoldSteps.{holds_of-began, holds_of-ended}
use Rattle.cc_laws.proofs.ImageSteps.{open_of-began, open_of-ended}
use Rattle.cc_model.specs.Cache.{all_streams}
use Rattle.cc_model.specs.History.{history}
use Rattle.cc_model.specs.Images.{Transfer, open_of}
use Rattle.cc_model.specs.Room.{owed_by_stream, stores_unfinished, reserved_in}

-- sums over the same terms are the same
sum-same : (f g : ℕ → ℕ) (ns : List ℕ) → ((n : ℕ) → f n ≡ g n) → sum_by f ns ≡ sum_by g ns
sum-same f g [] same = refl
sum-same f g (n ∷ ns) same = sum_by-cons f n ns ∙ rw (same n, sum-same f g ns same) (sym (sum_by-cons g n ns))

sum-below : (f g : ℕ → ℕ) (s from n : ℕ) → ((m : ℕ) → (m == s) ≡ false → f m ≡ g m) → s < from → sum_by f (range_with_len from n) ≡ sum_by g (range_with_len from n)
sum-below f g s from zero others below = refl
sum-below f g s from (suc n) others below =
    sum_by-cons f from (range_with_len (from + 1) n)
    ∙ (rw (others from (apart from s below), sum-below f g s (from + 1) n others (omega (arith, below))) (sym (sum_by-cons g from (range_with_len (from + 1) n))))
  where
    apart : (a b : ℕ) → b < a → (a == b) ≡ false
    apart a b less = by (a == b) refl
      where
        by : (t : Bool) → (a == b) ≡ t → t ≡ false
        by false is = refl
        by true is = absurd (omega (arith, eqb-true a b is, less))

one-before : (a b : ℕ) → suc a + b ≡ suc (a + b)
one-before a b = omega arith

one-behind : (a b : ℕ) → a + suc b ≡ suc (a + b)
one-behind a b = omega arith

next-up : (a b : ℕ) → a ≤ b → (a ≡ b → ⊥) → a + 1 ≤ b
next-up a b less apart = omega (arith, less, apart)

-- a sum with one term that is one more is one more
sum-more : (f g : ℕ → ℕ) (s from n : ℕ) → ((m : ℕ) → (m == s) ≡ false → f m ≡ g m) → f s ≡ suc (g s) → from ≤ s → s < from + n → sum_by f (range_with_len from n) ≡ suc (sum_by g (range_with_len from n))
sum-more f g s from zero others more above below = absurd (omega (arith, above, below))
sum-more f g s from (suc n) others more above below = go (from == s) refl (λ past. sum-more f g s (from + 1) n others more past (omega (arith, below)))
  where
    go : (t : Bool) → (from == s) ≡ t → (from + 1 ≤ s → sum_by f (range_with_len (from + 1) n) ≡ suc (sum_by g (range_with_len (from + 1) n))) → sum_by f (range_with_len from (suc n)) ≡ suc (sum_by g (range_with_len from (suc n)))
    go true here rest =
        let at : from ≡ s = eqb-true from s here in
        sum_by-cons f from (range_with_len (from + 1) n)
        ∙ (rw (sum-below f g s (from + 1) n others (omega (arith, at)))
        (ap (λ (k : ℕ). k + sum_by g (range_with_len (from + 1) n)) (ap f at ∙ (more ∙ ap (λ (k : ℕ). suc (g k)) (sym at)))
        ∙ (one-before (g from) (sum_by g (range_with_len (from + 1) n)) ∙ ap suc (sym (sum_by-cons g from (range_with_len (from + 1) n))))))
    go false away rest =
        sum_by-cons f from (range_with_len (from + 1) n)
        ∙ (rw (others from away, rest (next-up from s above (eqb-false from s away)))
        (one-behind (g from) (sum_by g (range_with_len (from + 1) n)) ∙ ap suc (sym (sum_by-cons g from (range_with_len (from + 1) n)))))

-- what a stream owes, by its open transfer
owed-one : (pass : ℕ) (page : Page) (past : List Entry) → open_of (history past page.stream) ≡ None → owed_by_stream (history (entry.WriteBegin pass page ∷ past) page.stream) ≡ suc (owed_by_stream (history past page.stream))
owed-one pass page past none =
    rw (history-write_begin pass page past page.stream (eq-eqb page.stream page.stream refl), holds_of-began pass page.page (history past page.stream), open_of-began pass page.page (history past page.stream), none)
    (omega arith)

owed-ended : (pass : ℕ) (page : Page) (how : End) (past : List Entry) (t : Transfer) → open_of (history past page.stream) ≡ Some t → owed_by_stream (history past page.stream) ≡ suc (owed_by_stream (history (entry.WriteEnd pass page how ∷ past) page.stream))
owed-ended pass page how past t is =
    rw (history-write_end pass page how past page.stream (eq-eqb page.stream page.stream refl), holds_of-ended pass page.page how (history past page.stream), open_of-ended pass page.page how (history past page.stream), is)
    (omega arith)

swapped : (a b : ℕ) → (a == b) ≡ false → (b == a) ≡ false
swapped a b apart = by (b == a) refl
  where
    by : (t : Bool) → (b == a) ≡ t → t ≡ false
    by false is = refl
    by true is = absurd (eqb-false a b apart (sym (eqb-true b a is)))

-- the begin of a transfer reserves a place for its end
pub reserved-begun : (pass : ℕ) (page : Page) (past : List Entry) → page.stream < 16 → open_of (history past page.stream) ≡ None → reserved_in (entry.WriteBegin pass page ∷ past) ≡ suc (reserved_in past)
unfolding reserved_in stores_unfinished
reserved-begun pass page past known none =
    rw (
    sum-more (λ s. owed_by_stream (history (entry.WriteBegin pass page ∷ past) s)) (λ s. owed_by_stream (history past s)) page.stream 0 16
    (λ m away. ap owed_by_stream (history-write_begin_other pass page past m (swapped m page.stream away)))
    (owed-one pass page past none) (omega arith) (omega (arith, known))
    ) (one-before _ _)

-- and the end gives it back
pub reserved-ended : (pass : ℕ) (page : Page) (how : End) (past : List Entry) (t : Transfer) → page.stream < 16 → open_of (history past page.stream) ≡ Some t → reserved_in past ≡ suc (reserved_in (entry.WriteEnd pass page how ∷ past))
unfolding reserved_in stores_unfinished
reserved-ended pass page how past t known is =
    rw (
    sum-more (λ s. owed_by_stream (history past s)) (λ s. owed_by_stream (history (entry.WriteEnd pass page how ∷ past) s)) page.stream 0 16
    (λ m away. sym (ap owed_by_stream (history-write_end_other pass page how past m (swapped m page.stream away))))
    (owed-ended pass page how past t is) (omega arith) (omega (arith, known))
    ) (one-before _ _)

-- an entry of a log reserves nothing
pub reserved-appended : (pass handle lsn : ℕ) (bytes : List ℕ) (past : List Entry) → reserved_in (entry.Append pass handle lsn bytes ∷ past) ≡ reserved_in past
unfolding reserved_in stores_unfinished
reserved-appended pass handle lsn bytes past =
    rw (sum-same (λ s. owed_by_stream (history (entry.Append pass handle lsn bytes ∷ past) s)) (λ s. owed_by_stream (history past s)) all_streams (λ s. ap owed_by_stream (history-no_effect (entry.Append pass handle lsn bytes) past s refl))) refl

pub reserved-flushed : (pass handle to : ℕ) (past : List Entry) → reserved_in (entry.Flushed pass handle to ∷ past) ≡ reserved_in past
unfolding reserved_in stores_unfinished
reserved-flushed pass handle to past =
    rw (sum-same (λ s. owed_by_stream (history (entry.Flushed pass handle to ∷ past) s)) (λ s. owed_by_stream (history past s)) all_streams (λ s. ap owed_by_stream (history-no_effect (entry.Flushed pass handle to) past s refl))) refl

pub reserved-log_failed : (pass handle : ℕ) (past : List Entry) → reserved_in (entry.LogFailed pass handle ∷ past) ≡ reserved_in past
unfolding reserved_in stores_unfinished
reserved-log_failed pass handle past =
    rw (sum-same (λ s. owed_by_stream (history (entry.LogFailed pass handle ∷ past) s)) (λ s. owed_by_stream (history past s)) all_streams (λ s. ap owed_by_stream (history-no_effect (entry.LogFailed pass handle) past s refl))) refl
