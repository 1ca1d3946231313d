-- How many levels the view index of a stream has.
use Rattle.std.specs.Prelude.{ℕ, ◌+◌, ◌*◌, ◌^◌, ◌≤◌, nat_le, if◌then◌else◌}

-- The least number of levels of 128 slots whose slots cover the size. A view block has 2^18 bytes, and seven levels
-- reach every size below 2^63, the bound of a stream's size.
unfoldable pub levels_of : ℕ → ℕ
levels_of size =
    if nat_le size (2 ^ 25) then 1
    else if nat_le size (2 ^ 32) then 2
    else if nat_le size (2 ^ 39) then 3
    else if nat_le size (2 ^ 46) then 4
    else if nat_le size (2 ^ 53) then 5
    else if nat_le size (2 ^ 60) then 6
    else 7

-- a number is the least count of levels whose slots cover the size
pub record IsLeastLevels (size levels : ℕ) : Type 0 where
  pub some : 1 ≤ levels
  pub covers : size ≤ 2 ^ (18 + 7 * levels)
  pub least : (fewer : ℕ) → 1 ≤ fewer → size ≤ 2 ^ (18 + 7 * fewer) → levels ≤ fewer
