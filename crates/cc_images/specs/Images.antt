-- What is kept of the images of a stream's pages, standing for its history.
use Rattle.std.specs.Prelude.{◌≡◌, ℕ, ◌*◌, ◌/◌, ◌<◌, ◌≤◌, ◌==◌, ◌&&◌, Bool, true, not, nat_lt, max, List, [], ◌∷◌, length, Some}
use Rattle.std.specs.List.{AllByRecursion}
use Rattle.cc_model.specs.Discards.{is_known, low_since, low_of, has_grown}
use Rattle.cc_model.specs.History.{Effect}
use Rattle.cc_model.specs.Images.{Transfer, open_of}
use Rattle.cc_model.specs.Numbers.{is_among}
use Rattle.cc_model.specs.Settings.{quota_of}
use Rattle.cc_model.specs.Touches.{valid_of, is_dirty}
use Rattle.cc_images.specs.PageSet.{PageSet, is_in_set}

-- Of each page that has grown its first byte that became valid since the disk took the page; the least valid
-- data length since the last transfer began; the pages whose image is not known; and how many of the first there
-- is room for.
pub record Images : Type 0 where
  pub grown : List ℕ
  pub begun : ℕ
  pub unknown : PageSet
  pub grown_room : ℕ

-- whether a byte is the first of its page that became valid since the disk took the page
abbrev pub is_first_grown : List Effect → ℕ → Bool
is_first_grown h byte = byte == max (4096 * (byte / 4096)) (low_of h (byte / 4096)) && nat_lt byte (valid_of h)

-- each byte is of a later page than those before it
abbrev pub AscendsByPage : List ℕ → Type 0
AscendsByPage [] = Unit {0}
AscendsByPage (byte ∷ bytes) = AllByRecursion (λ later. byte / 4096 < later / 4096) bytes × AscendsByPage bytes

-- what is kept stands for a history
pub record ImagesStand (h : List Effect) (i : Images) : Type 0 where
  pub grown_are : (byte : ℕ) → is_among byte i.grown ≡ is_first_grown h byte
  pub in_order : AscendsByPage i.grown
  -- as no clean page has grown, a mapped stream has no more of them than its quota has pages
  pub grown_is_dirty : (p : ℕ) → has_grown h p ≡ true → is_dirty h p ≡ true
  pub grown_has_room : 64 * quota_of h ≤ i.grown_room
  pub begun_is : (t : Transfer) → open_of h ≡ Some t → i.begun ≡ low_since true h t.page
  pub unknown_are : (p : ℕ) → is_in_set p i.unknown ≡ not (is_known h p)
  -- an end has its place: one that failed may make a range more, and so may one that splits a range
  pub unknown_has_room : (t : Transfer) → open_of h ≡ Some t → length i.unknown.ranges < i.unknown.room
