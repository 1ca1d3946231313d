-- How many view blocks are mapped with one page more.
use Rattle.std.specs.Prelude.{◌≡◌, ℕ, ◌+◌, Bool, true, false, ◌==◌, nat_eq, nat_le, nat_lt, List, [], ◌∷◌, map, refl, if◌then◌else◌}
use Rattle.std.specs.List.{list_any}
use Rattle.std.specs.Set.{distinct_count, is_member}
use Rattle.std.proofs.Common.{ap, sym, ◌∙◌, arith, add-one}
use Rattle.cc_entry.specs.Pages.{block_of}
use Rattle.cc_laws.proofs.BlockPages.{is_member-among}
use Rattle.cc_model.specs.History.{Effect}
use Rattle.cc_model.specs.Numbers.{is_among}
use Rattle.cc_model.specs.Residency.{residents, block_is_mapped, mapped_block_count, mapped_blocks_with}
use Rattle.cc_model.specs.Settings.{quota_of}

among-blocks : (b : ℕ) (ps : List ℕ) → is_among b (map block_of ps) ≡ list_any (λ p. block_of p == b) ps
among-blocks b [] = refl
among-blocks b (p ∷ ps) = rw (among-blocks b ps) refl

counted : (b : ℕ) (bs : List ℕ) (t : Bool) → is_member nat_eq bs b ≡ t → distinct_count nat_eq (b ∷ bs) ≡ distinct_count nat_eq bs + (if t then 0 else 1)
counted b bs true is = rw is (omega arith)
counted b bs false is = rw is (omega arith)

pub mapped-with : (h : List Effect) (page : ℕ) (t : Bool) → block_is_mapped h (block_of page) ≡ t → mapped_blocks_with h page ≡ mapped_block_count h + (if t then 0 else 1)
mapped-with h page t is =
    counted (block_of page) (map block_of (residents h)) t
    (is_member-among (block_of page) (map block_of (residents h)) ∙ (among-blocks (block_of page) (residents h) ∙ is))

one-above : (a b : ℕ) → nat_lt a b ≡ nat_le (a + 1) b
one-above a b = rw (add-one a) refl

-- whether they are within the quota, where the page's block is mapped, and where it is not
pub fits-mapped : (h : List Effect) (page : ℕ) → block_is_mapped h (block_of page) ≡ true → nat_le (mapped_block_count h) (quota_of h) ≡ nat_le (mapped_blocks_with h page) (quota_of h)
fits-mapped h page is = ap (λ n. nat_le n (quota_of h)) (sym (mapped-with h page true is ∙ same (mapped_block_count h)))
  where
    same : (n : ℕ) → n + 0 ≡ n
    same n = omega arith

pub fits-unmapped : (h : List Effect) (page : ℕ) → block_is_mapped h (block_of page) ≡ false → nat_lt (mapped_block_count h) (quota_of h) ≡ nat_le (mapped_blocks_with h page) (quota_of h)
fits-unmapped h page is = one-above (mapped_block_count h) (quota_of h) ∙ ap (λ n. nat_le n (quota_of h)) (sym (mapped-with h page false is))
