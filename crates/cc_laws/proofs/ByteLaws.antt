-- What a byte is after a change.
use Rattle.std.specs.Prelude.{◌≡◌, ℕ, ◌+◌, ◌-◌, ◌<◌, ◌≤◌, true, false, nat_lt, List, ◌∷◌, length, max, min, slice_index}
use Rattle.std.specs.declared.option.Option.{Option}
use Rattle.std.proofs.Common.{ap, sym, ◌∙◌, arith}
use Rattle.std.proofs.lemmas.Bool.{lt-ltb, le-ltb}
use Rattle.cc_entry.specs.declared.call.Call.{Call}
use Rattle.cc_entry.specs.declared.reply.Reply.{Reply}
use Rattle.cc_entry.specs.Pages.{has_byte}
use Rattle.cc_model.specs.History.{Effect, Did}
use Rattle.cc_model.specs.Acts.{act_of, Resizes, Writes, Zeroes, Stamps, Looks}
use Rattle.cc_model.specs.Touches.{valid_of}
use Rattle.cc_model.specs.Bytes.{byte_of}
use Rattle.cc_laws.proofs.CoveredBytes.{has_byte-between}
use Rattle.cc_laws.proofs.SizeSteps.{sizes-writes, sizes-zeroes, sizes-looks, sizes-stamps, sizes-resizes}
use Rattle.cc_laws.proofs.ByteSteps.{content-writes_covered, content-writes_past, content-zeroes_covered, content-zeroes_past, content-looks, content-stamps, byte_of-below, byte_of-above, byte_of-same}

-- each byte that a write gives reads as it was given
pub byte_of-written : {at : ℕ} {bytes : List ℕ} (pages : ℕ → List ℕ) (pass : ℕ) (call : Call) (reply : Reply) (h : List Effect) (k : ℕ) → act_of call ≡ Writes at bytes → k < length bytes → byte_of pages (Did pass call reply ∷ h) (at + k) ≡ slice_index bytes k
byte_of-written {at} {bytes} pages pass call reply h k is inside =
    byte_of-below pages (Did pass call reply ∷ h) (at + k) below
    ∙ (content-writes_covered pages pass call reply h (at + k) is (has_byte-between (record { from = at; to = at + length bytes }) (at + k) (omega arith) (omega arith))
    ∙ ap (slice_index bytes) offset)
  where
    offset : (at + k) - at ≡ k
    offset = omega arith

    reaches : at + k < max (valid_of h) (at + length bytes)
    reaches = omega arith

    below : nat_lt (at + k) (valid_of (Did pass call reply ∷ h)) ≡ true
    below = rw (sizes-writes _ _ _ _ is, valid_of) (lt-ltb (at + k) (max (valid_of h) (at + length bytes)) reaches)

-- a byte outside of what is written stays, where it lies below the valid data length
pub byte_of-past_write : {at : ℕ} {bytes : List ℕ} (pages : ℕ → List ℕ) (pass : ℕ) (call : Call) (reply : Reply) (h : List Effect) (i : ℕ) → act_of call ≡ Writes at bytes → i < valid_of h → has_byte (record { from = at; to = at + length bytes }) i ≡ false → byte_of pages (Did pass call reply ∷ h) i ≡ byte_of pages h i
byte_of-past_write {at} {bytes} pages pass call reply h i is valid past =
    byte_of-below pages (Did pass call reply ∷ h) i below
    ∙ (content-writes_past pages pass call reply h i is past ∙ sym (byte_of-below pages h i (lt-ltb i (valid_of h) valid)))
  where
    reaches : i < max (valid_of h) (at + length bytes)
    reaches = omega arith

    below : nat_lt i (valid_of (Did pass call reply ∷ h)) ≡ true
    below = rw (sizes-writes _ _ _ _ is, valid_of) (lt-ltb i (max (valid_of h) (at + length bytes)) reaches)

-- a zeroed byte reads as zero
pub byte_of-zeroed : {from to : ℕ} (pages : ℕ → List ℕ) (pass : ℕ) (call : Call) (reply : Reply) (h : List Effect) (i : ℕ) → act_of call ≡ Zeroes from to → from ≤ i → i < to → byte_of pages (Did pass call reply ∷ h) i ≡ 0
byte_of-zeroed {from} {to} pages pass call reply h i is from_on before =
    byte_of-below pages (Did pass call reply ∷ h) i below
    ∙ content-zeroes_covered pages pass call reply h i is (has_byte-between (record { from = from; to = to }) i from_on before)
  where
    reaches : i < max (valid_of h) to
    reaches = omega arith

    below : nat_lt i (valid_of (Did pass call reply ∷ h)) ≡ true
    below = rw (sizes-zeroes _ _ _ _ is, valid_of) (lt-ltb i (max (valid_of h) to) reaches)

-- a byte outside of what is zeroed stays, where it lies below the valid data length
pub byte_of-past_zero : {from to : ℕ} (pages : ℕ → List ℕ) (pass : ℕ) (call : Call) (reply : Reply) (h : List Effect) (i : ℕ) → act_of call ≡ Zeroes from to → i < valid_of h → has_byte (record { from = from; to = to }) i ≡ false → byte_of pages (Did pass call reply ∷ h) i ≡ byte_of pages h i
byte_of-past_zero {from} {to} pages pass call reply h i is valid past =
    byte_of-below pages (Did pass call reply ∷ h) i below
    ∙ (content-zeroes_past pages pass call reply h i is past ∙ sym (byte_of-below pages h i (lt-ltb i (valid_of h) valid)))
  where
    reaches : i < max (valid_of h) to
    reaches = omega arith

    below : nat_lt i (valid_of (Did pass call reply ∷ h)) ≡ true
    below = rw (sizes-zeroes _ _ _ _ is, valid_of) (lt-ltb i (max (valid_of h) to) reaches)

-- a call that looks, or that stamps, changes no byte
pub byte_of-looks : (pages : ℕ → List ℕ) (pass : ℕ) (call : Call) (reply : Reply) (h : List Effect) (i : ℕ) → act_of call ≡ Looks → byte_of pages (Did pass call reply ∷ h) i ≡ byte_of pages h i
byte_of-looks pages pass call reply h i is = byte_of-same pages (Did pass call reply ∷ h) h i (sizes-looks pass call reply h is) (content-looks pages pass call reply h i is)

pub byte_of-stamps : {hold : ℕ} {lsn : Option ℕ} (pages : ℕ → List ℕ) (pass : ℕ) (call : Call) (reply : Reply) (h : List Effect) (i : ℕ) → act_of call ≡ Stamps hold lsn → byte_of pages (Did pass call reply ∷ h) i ≡ byte_of pages h i
byte_of-stamps pages pass call reply h i is = byte_of-same pages (Did pass call reply ∷ h) h i (sizes-stamps pass call reply h is) (content-stamps pages pass call reply h i is)

-- from the new size on a byte reads as zero after the size is set
pub byte_of-resized : {allocation size : ℕ} (pages : ℕ → List ℕ) (pass : ℕ) (call : Call) (reply : Reply) (h : List Effect) (i : ℕ) → act_of call ≡ Resizes allocation size → size ≤ i → byte_of pages (Did pass call reply ∷ h) i ≡ 0
byte_of-resized {allocation} {size} pages pass call reply h i is from_on = byte_of-above pages (Did pass call reply ∷ h) i above
  where
    reaches : min (valid_of h) size ≤ i
    reaches = omega arith

    above : nat_lt i (valid_of (Did pass call reply ∷ h)) ≡ false
    above = rw (sizes-resizes _ _ _ _ is, valid_of) (le-ltb i (min (valid_of h) size) reaches)
