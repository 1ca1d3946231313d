-- What is read of a page that may come in is the plain file below the valid data length.
use Rattle.std.specs.Prelude.{◌≡◌, ℕ, ◌+◌, ◌-◌, ◌*◌, ◌≤◌, Bool, true, false, List, slice_index, Option, None, Some}
use Rattle.std.proofs.Common.{refl, ap, sym, ◌∙◌, arith, true≢false}
use Rattle.cc_model.specs.Bytes.{byte_of}
use Rattle.cc_model.specs.History.{Effect}
use Rattle.cc_model.specs.Images.{image}
use Rattle.cc_model.specs.Residency.{is_resident}
use Rattle.cc_model.specs.Touches.{valid_of, is_dirty}
use Rattle.cc_laws.specs.Facts.{IsOnDisk, IsSoundHistory}
use Rattle.cc_content.specs.Filling.{IsReadFrom}

-- over a disk that tells nothing, nothing is asked
pub read-untold : (h : List Effect) (page : ℕ) (raw : List ℕ) → IsReadFrom None h page raw
read-untold h page raw = λ pages untold i inside below. absurd (cc)

-- nor of a page that starts at the valid data length or past it
pub read-past : (opening : Option (ℕ → List ℕ)) (h : List Effect) (page : ℕ) (raw : List ℕ) → valid_of h ≤ 4096 * page → IsReadFrom opening h page raw
read-past opening h page raw past = λ pages told i inside below. absurd (omega arith)

-- a page that is not resident is not dirty
clean-absent : (h : List Effect) (page : ℕ) → IsSoundHistory h → is_resident h page ≡ false → is_dirty h page ≡ false
clean-absent h page sound absent = go (is_dirty h page) refl
  where
    go : (t : Bool) → is_dirty h page ≡ t → is_dirty h page ≡ false
    go true is = absurd (true≢false (sym (sound.dirty_is_resident page is) ∙ absent))
    go false is = is

on_disk : (pages : ℕ → List ℕ) (h : List Effect) (page i : ℕ) (raw : List ℕ) → image pages h page ≡ Some raw → IsOnDisk pages h page (4096 * page + i) → slice_index raw i ≡ byte_of pages h (4096 * page + i)
on_disk pages h page i raw known is =
    let same : raw ≡ is.bytes = of_some raw is.bytes (sym known ∙ is.known) in
    let at : 4096 * page + i - 4096 * page ≡ i = omega arith in
    ap (λ bytes. slice_index bytes i) same ∙ (ap (slice_index is.bytes) (sym at) ∙ is.same)
  where
    of_some : (x y : List ℕ) → Some x ≡ Some y → x ≡ y
    of_some x y e = cc

-- the image of a page that is not resident is the plain file, where what holds of a good journal holds
pub read-image : (opening : Option (ℕ → List ℕ)) (h : List Effect) (page : ℕ) (raw : List ℕ) → IsSoundHistory h → is_resident h page ≡ false → ((pages : ℕ → List ℕ) → opening ≡ Some pages → image pages h page ≡ Some raw) → IsReadFrom opening h page raw
read-image opening h page raw sound absent known = λ pages told i inside below.
    on_disk pages h page i raw (known pages told) (sound.clean_is_on_disk pages page (4096 * page + i) (clean-absent h page sound absent) (omega arith) (omega arith) below)
