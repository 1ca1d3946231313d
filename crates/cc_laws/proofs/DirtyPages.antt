-- The dirty pages of all streams are at most as many as the pages of the pool of views.
use Rattle.std.specs.Prelude.{◌≡◌, ℕ, zero, suc, ◌+◌, ◌*◌, ◌≤◌, Bool, true, false, nat_eq, List, refl}
use Rattle.std.proofs.Common.{sym, ◌∙◌, arith}
use Rattle.std.proofs.lemmas.List.Sums.{sum_by-cons}
use Rattle.std.specs.List.{sum_by, range_with_len}
use Rattle.std.specs.Set.{is_member}
use Rattle.cc_entry.specs.declared.entry.Entry.{Entry}
use Rattle.cc_model.specs.Numbers.{ascending}
use Rattle.cc_model.specs.Setup.{Setup}
use Rattle.cc_model.specs.History.{Effect, history}
use Rattle.cc_model.specs.Touches.{touched, is_dirty, dirty_pages, is_mapped}
use Rattle.cc_model.specs.Settings.{quota_of}
use Rattle.cc_model.specs.Residency.{residents, is_resident, mapped_block_count}
use Rattle.cc_model.specs.Cache.{views_of, views_taken, dirty_count, dirty_total}
use Rattle.cc_model.specs.Good.{IsGoodSoFar}
use Rattle.cc_laws.specs.Facts.{IsWithinLimits}
use Rattle.cc_laws.proofs.ResidencySteps.{residents-unmapped}
use Rattle.cc_laws.proofs.BlockLists.{IsDistinct-filter}
use Rattle.cc_laws.proofs.DirtyAmong.{dirty_pages-dirty}
use Rattle.cc_laws.proofs.BlockPages.{IsDistinct-ascending, is_member-among, length-within_blocks}
use Rattle.cc_laws.proofs.SoundFacts.{dirty_resident-good, within_quota-good}
use Rattle.cc_laws.proofs.ViewsTaken.{views_of-mapped, views_taken-good}

dirty_count-blocks : (h : List Effect) → ((p : ℕ) → is_dirty h p ≡ true → is_resident h p ≡ true) → dirty_count h ≤ 64 * mapped_block_count h
dirty_count-blocks h resident = length-within_blocks (dirty_pages h) (residents h) (IsDistinct-filter (is_dirty h) (ascending (touched h)) (IsDistinct-ascending (touched h))) each
  where
    each : (q : ℕ) → is_member nat_eq (dirty_pages h) q ≡ true → is_member nat_eq (residents h) q ≡ true
    each q is = is_member-among q (residents h) ∙ resident q (dirty_pages-dirty h q (sym (is_member-among q (dirty_pages h)) ∙ is))

mapped_blocks-views : (h : List Effect) → mapped_block_count h ≤ quota_of h → mapped_block_count h ≤ views_of h
mapped_blocks-views h within = go (is_mapped h) refl
  where
    go : (t : Bool) → is_mapped h ≡ t → mapped_block_count h ≤ views_of h
    go true is = let views : views_of h ≡ quota_of h = views_of-mapped h is in omega arith
    go false is = let none : mapped_block_count h ≡ 0 = rw (residents-unmapped h is) refl in omega arith

-- the dirty pages of a stream fit the views that it takes
pub dirty_count-views : (h : List Effect) → ((p : ℕ) → is_dirty h p ≡ true → is_resident h p ≡ true) → mapped_block_count h ≤ quota_of h → dirty_count h ≤ 64 * views_of h
dirty_count-views h resident within = chain (dirty_count h) (mapped_block_count h) (views_of h) (dirty_count-blocks h resident) (mapped_blocks-views h within)
  where
    chain : (d m v : ℕ) → d ≤ 64 * m → m ≤ v → d ≤ 64 * v
    chain d m v a b = omega arith

sum_by-scaled : (f g : ℕ → ℕ) (a n : ℕ) → ((s : ℕ) → f s ≤ 64 * g s) → sum_by f (range_with_len a n) ≤ 64 * sum_by g (range_with_len a n)
sum_by-scaled f g a zero each = omega arith
sum_by-scaled f g a (suc n) each =
    let here : f a ≤ 64 * g a = each a in
    let rest : sum_by f (range_with_len (a + 1) n) ≤ 64 * sum_by g (range_with_len (a + 1) n) = sum_by-scaled f g (a + 1) n each in
    rw (sum_by-cons f a (range_with_len (a + 1) n), sum_by-cons g a (range_with_len (a + 1) n)) (omega arith)

dirty_total-views : (past : List Entry) → ((s : ℕ) → dirty_count (history past s) ≤ 64 * views_of (history past s)) → dirty_total past ≤ 64 * views_taken past
unfolding dirty_total views_taken
dirty_total-views past each = sum_by-scaled (λ s. dirty_count (history past s)) (λ s. views_of (history past s)) 0 16 each

pub dirty_total-within : (past : List Entry) → views_taken past ≤ 256 → ((s p : ℕ) → is_dirty (history past s) p ≡ true → is_resident (history past s) p ≡ true) → ((s : ℕ) → mapped_block_count (history past s) ≤ quota_of (history past s)) → dirty_total past ≤ 16384
dirty_total-within past views resident within =
    let scaled : dirty_total past ≤ 64 * views_taken past = dirty_total-views past (λ s. dirty_count-views (history past s) (resident s) (within s)) in
    omega arith

pub IsWithinLimits-good : (u : Setup) (past : List Entry) → IsGoodSoFar u past → IsWithinLimits past
IsWithinLimits-good u past good = record {
  views = views_taken-good u past good;
  dirty = dirty_total-within past (views_taken-good u past good) (λ s. dirty_resident-good u past s good) (λ s. within_quota-good u past s good);
}
