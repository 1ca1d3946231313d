-- Whether a page is dirty, as the rows of the dirty page table tell it, and what the call is told that asks it.
use Rattle.std.specs.Prelude.{◌≡◌, ℕ, zero, suc, ◌+◌, Bool, not, ◌||◌, ◌==◌, nat_lt, List, [], ◌∷◌, length, None, refl}
use Rattle.std.specs.List.{list_any, sum_by}
use Rattle.std.proofs.Common.{ap, sym, ◌∙◌, arith}
use Rattle.std.proofs.lemmas.Bool.{lt-ltb, ne_eqb}
use Rattle.std.proofs.lemmas.List.Sums.{sum_by-cons}
use Rattle.cc_entry.specs.declared.call.Call.TheVariants as call
use Rattle.cc_entry.specs.declared.query.Query.TheVariants as query
use Rattle.cc_entry.specs.declared.entry.Entry.{Entry}
use Rattle.cc_entry.specs.declared.reply.Outcome.TheVariants as outcome
use Rattle.cc_entry.specs.declared.reply.Reply.TheVariants as reply
use Rattle.cc_entry.specs.declared.query.Value.TheVariants as value
use Rattle.cc_dirty.specs.Table.{Sound}
use Rattle.cc_dirty.specs.declared.row.Row.{Row}
use Rattle.cc_journal.specs.Rows.{Follows}
use Rattle.cc_journal.proofs.RowCounts.{dirty_total-rows}
use Rattle.cc_model.specs.Cache.{all_streams, dirty_total, is_any_dirty}
use Rattle.cc_model.specs.History.{history}
use Rattle.cc_model.specs.Legal.{IsOutcome}
use Rattle.cc_model.specs.Numbers.{is_empty}
use Rattle.cc_model.specs.Setup.{Setup}
use Rattle.cc_model.specs.Touches.{dirty_pages}
use Rattle.cc_calls.proofs.Streamless.{dirty-unrefused}

none-more : (n : ℕ) → n ≡ 0 + n
none-more n = omega arith

-- one of some lists has something, where they have something together
any-counted : (f : ℕ → List ℕ) (ns : List ℕ) → list_any (λ n. not (is_empty (f n))) ns ≡ nat_lt 0 (sum_by (λ n. length (f n)) ns)
any-counted f [] = refl
any-counted f (n ∷ ns) = rw (sum_by-cons (λ n. length (f n)) n ns) (go (f n) (any-counted f ns))
  where
    go : (l : List ℕ) → list_any (λ n. not (is_empty (f n))) ns ≡ nat_lt 0 (sum_by (λ n. length (f n)) ns) → (not (is_empty l) || list_any (λ n. not (is_empty (f n))) ns) ≡ nat_lt 0 (length l + sum_by (λ n. length (f n)) ns)
    go [] rest = rest ∙ ap (λ n. nat_lt 0 n) (none-more (sum_by (λ n. length (f n)) ns))
    go (x ∷ l) rest = sym (lt-ltb 0 (length (x ∷ l) + sum_by (λ n. length (f n)) ns) (omega arith))

some-more : (n : ℕ) → nat_lt 0 n ≡ not (n == 0)
some-more zero = refl
some-more (suc n) = lt-ltb 0 (suc n) (omega arith) ∙ sym (ap not (ne_eqb (suc n) 0 (λ is. omega (arith, is))))

pub dirty-rows : (past : List Entry) (rows : List Row) → Follows past rows → Sound rows → not (length rows == 0) ≡ is_any_dirty past
unfolding is_any_dirty dirty_total
dirty-rows past rows follows sound =
    sym (some-more (length rows))
    ∙ (ap (λ n. nat_lt 0 n) (dirty_total-rows past rows follows sound sound.numbered)
    ∙ sym (any-counted (λ s. dirty_pages (history past s)) all_streams))

-- that is what the call is told, which nothing refuses
pub dirty-outcome : (u : Setup) (past : List Entry) (pass : ℕ) (flag : Bool) → flag ≡ is_any_dirty past → IsOutcome u past pass None (call.Query query.IsDirtyData) (outcome.Done (reply.Value (value.Flag flag)))
dirty-outcome u past pass flag is = (dirty-unrefused u past, ap (λ (flag : Bool). reply.Value (value.Flag flag)) is)
