-- What a byte is after a noncached store, and after an initialise on a stream that has a map.
use Rattle.std.specs.Prelude.{◌≡◌, ℕ, ◌-◌, ◌*◌, ◌<◌, Bool, true, false, nat_lt, nat_le, List, ◌∷◌, max, slice_index}
use Rattle.std.proofs.Common.{sym, ◌∙◌, arith}
use Rattle.std.proofs.lemmas.Bool.{lt-ltb, ltb-true, and_parts}
use Rattle.cc_entry.specs.Place.{File}
use Rattle.cc_entry.specs.declared.place.FileSizes.{FileSizes}
use Rattle.cc_entry.specs.declared.call.Call.{Call}
use Rattle.cc_entry.specs.declared.reply.Reply.{Reply}
use Rattle.cc_entry.specs.Pages.{has_byte}
use Rattle.cc_model.specs.History.{Effect, Did}
use Rattle.cc_model.specs.Acts.{act_of, Opens, Stores}
use Rattle.cc_model.specs.Sizes.{stored_range}
use Rattle.cc_model.specs.Touches.{size_of, valid_of, is_mapped}
use Rattle.cc_model.specs.Bytes.{byte_of}
use Rattle.cc_laws.proofs.SizeSteps.{sizes-opens_mapped, sizes-stores}
use Rattle.cc_laws.proofs.ByteSteps.{content-opens, content-stores_covered, content-stores_past, byte_of-below, byte_of-same}

lt-max : (i m n : ℕ) → i < n → i < max m n
lt-max i m n before = omega arith

max-lt : (i m n : ℕ) → i < m → i < max m n
max-lt i m n before = omega arith

-- each byte that a store gives reads as it was given
pub byte_of-stored : {page : ℕ} {bytes : List ℕ} (pages : ℕ → List ℕ) (pass : ℕ) (call : Call) (reply : Reply) (h : List Effect) (i : ℕ) → act_of call ≡ Stores page bytes → has_byte (stored_range page (size_of h)) i ≡ true → byte_of pages (Did pass call reply ∷ h) i ≡ slice_index bytes (i - 4096 * page)
byte_of-stored {page} {bytes} pages pass call reply h i is covered =
    byte_of-below pages (Did pass call reply ∷ h) i below ∙ content-stores_covered pages pass call reply h i is covered
  where
    before : i < (stored_range page (size_of h)).to
    before = ltb-true i (stored_range page (size_of h)).to (and_parts (nat_le (4096 * page) i) (nat_lt i (stored_range page (size_of h)).to) covered).1

    below : nat_lt i (valid_of (Did pass call reply ∷ h)) ≡ true
    below = rw (sizes-stores _ _ _ _ is, valid_of) (lt-ltb i (max (valid_of h) (stored_range page (size_of h)).to) (lt-max i (valid_of h) (stored_range page (size_of h)).to before))

-- a byte outside of what is stored stays, where it lies below the valid data length
pub byte_of-past_store : {page : ℕ} {bytes : List ℕ} (pages : ℕ → List ℕ) (pass : ℕ) (call : Call) (reply : Reply) (h : List Effect) (i : ℕ) → act_of call ≡ Stores page bytes → i < valid_of h → has_byte (stored_range page (size_of h)) i ≡ false → byte_of pages (Did pass call reply ∷ h) i ≡ byte_of pages h i
byte_of-past_store {page} {bytes} pages pass call reply h i is valid past =
    byte_of-below pages (Did pass call reply ∷ h) i below
    ∙ (content-stores_past pages pass call reply h i is past ∙ sym (byte_of-below pages h i (lt-ltb i (valid_of h) valid)))
  where
    below : nat_lt i (valid_of (Did pass call reply ∷ h)) ≡ true
    below = rw (sizes-stores _ _ _ _ is, valid_of) (lt-ltb i (max (valid_of h) (stored_range page (size_of h)).to) (max-lt i (valid_of h) (stored_range page (size_of h)).to valid))

-- an initialise on a stream that has a map changes no byte
pub byte_of-opens_mapped : {file : File} {given : FileSizes} {quota : ℕ} {temporary : Bool} (pages : ℕ → List ℕ) (pass : ℕ) (call : Call) (reply : Reply) (h : List Effect) (i : ℕ) → act_of call ≡ Opens file given quota temporary → is_mapped h ≡ true → byte_of pages (Did pass call reply ∷ h) i ≡ byte_of pages h i
byte_of-opens_mapped pages pass call reply h i is mapped =
    byte_of-same pages (Did pass call reply ∷ h) h i (sizes-opens_mapped pass call reply h is mapped) (content-opens pages pass call reply h i is)
