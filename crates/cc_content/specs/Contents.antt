-- What a stream's resident pages hold, standing for its history.
use Rattle.std.specs.Prelude.{◌≡◌, ℕ, ◌≤◌, true, false, List, Option, None, Some}
use Rattle.cc_views.specs.Views.{MappedViews}
use Rattle.cc_resident.specs.Residents.{blocks, byte_at, is_resident as is_kept}
use Rattle.cc_model.specs.Bytes.{byte_of}
use Rattle.cc_model.specs.History.{Effect}
use Rattle.cc_model.specs.Residency.{is_resident, order_of_use}
use Rattle.cc_model.specs.Settings.{quota_of}
use Rattle.cc_model.specs.Touches.{size_of, valid_of, is_mapped}

-- a stream's valid data length, and its resident pages while it has a shared map
pub record Contents : Type 0 where
  pub valid : ℕ
  pub pages : Option MappedViews

-- What a kept byte is: that of the plain file, where the disk tells its opening pages; over a disk that tells
-- nothing, zero from the valid data length on.
abbrev pub IsByteOfContents : Option (ℕ → List ℕ) → List Effect → ℕ → ℕ → Type 0
IsByteOfContents (Some pages) h i byte = byte ≡ byte_of pages h i
IsByteOfContents None h i byte = valid_of h ≤ i → byte ≡ 0

-- resident pages stand for a history in which the stream has a map
pub record PagesStand (opening : Option (ℕ → List ℕ)) (h : List Effect) (m : MappedViews) : Type 0 where
  pub mapped : is_mapped h ≡ true
  pub quota : m.quota ≡ quota_of h
  pub size : m.size ≡ size_of h
  pub resident : (p : ℕ) → is_kept m p ≡ is_resident h p
  pub order : blocks m ≡ order_of_use h
  pub bytes : (i byte : ℕ) → byte_at m i ≡ Some byte → IsByteOfContents opening h i byte

-- with no pages kept, the stream has no map
abbrev pub MapStands : Option (ℕ → List ℕ) → List Effect → Option MappedViews → Type 0
MapStands opening h None = is_mapped h ≡ false
MapStands opening h (Some m) = PagesStand opening h m

-- what is kept of a stream's contents stands for its history
pub record ContentsStand (opening : Option (ℕ → List ℕ)) (h : List Effect) (c : Contents) : Type 0 where
  pub valid_is : c.valid ≡ valid_of h
  pub map_is : MapStands opening h c.pages
