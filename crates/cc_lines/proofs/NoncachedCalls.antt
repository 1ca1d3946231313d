-- What a noncached line leaves whose call was not made for want of memory.
use Rattle.std.specs.Prelude.{◌≡◌, ℕ, zero, suc, ◌+◌, ◌/◌, ◌%◌, ◌<◌, Bool, true, false, ◌&&◌, ◌==◌, nat_lt, List, [], ◌∷◌, length, Err, refl, if◌then◌else◌}
use Rattle.std.specs.declared.option.Option.{Option}
use Rattle.std.specs.declared.option.Option.TheVariants.{Some, None}
use Rattle.std.proofs.Common.{arith, inl}
use Rattle.std.proofs.lemmas.Bool.{eqb-true}
use Rattle.std.proofs.Math.Nat.{div-add-mod}
use Rattle.std.proofs.lemmas.List.FromFn.{length-range_with_len}
use Rattle.cc_entry.specs.Place.{File}
use Rattle.cc_entry.specs.declared.call.Call.TheVariants as call
use Rattle.cc_entry.specs.declared.error.CcError.{CcError}
use Rattle.cc_entry.specs.declared.error.CcError.TheVariants as error
use Rattle.cc_entry.specs.declared.entry.Entry.{Entry}
use Rattle.cc_model.specs.Setup.{Setup}
use Rattle.cc_effects.specs.Noncached.{AlignedReadLeft, AlignedWriteLeft, NcReadLeft, NcWriteLeft, ShapedReadLeft, ShapedWriteLeft, shape_refusal}
use Rattle.cc_effects.proofs.Stretches.{idle-none}
use Rattle.cc_lines.proofs.Calls.{unplaced}

-- a length that is refused for nothing is of whole pages
whole-pages : (at len : ℕ) → shape_refusal at len ≡ None → len % 4096 ≡ 0
whole-pages at len is = eqb-true (len % 4096) 0 (by (nat_lt 65536 len) (at % 4096 == 0) (len % 4096 == 0) is)
  where
    by : (long even whole : Bool) → (if long then Some (error.TooLong 65536) else (if even && whole then None else Some error.Unaligned)) ≡ None → whole ≡ true
    by true even whole is = absurd (cc is)
    by false false whole is = absurd (cc is)
    by false true true is = refl
    by false true false is = absurd (cc is)

-- so one that is not zero has a page
has-page : (at n : ℕ) → shape_refusal at (suc n) ≡ None → 0 < suc n / 4096
has-page at n is = omega (arith, whole-pages at (suc n) is, div-add-mod (suc n) 4096)

aligned-read-wanting : (u : Setup) (me : ℕ) (file : File) (at len : ℕ) (past : List Entry) → shape_refusal at len ≡ None → AlignedReadLeft u me file at len (Err (0, error.NoMemory)) past past
aligned-read-wanting u me file at zero past is = (refl, idle-none me past)
aligned-read-wanting u me file at (suc n) past is = (
  rw (length-range_with_len (at / 4096) (suc n / 4096)) (has-page at n is),
  (refl, unplaced me (call.NcRead file (at / 4096)) past refl refl),
)

pub nc_read-wanting : (u : Setup) (me : ℕ) (file : File) (at len : ℕ) (past : List Entry) → NcReadLeft u me file at len (Err (0, error.NoMemory)) past past
nc_read-wanting u me file at len past = by (shape_refusal at len) refl
  where
    by : (shape : Option CcError) → shape_refusal at len ≡ shape → ShapedReadLeft u me file at len shape (Err (0, error.NoMemory)) past past
    by None is = aligned-read-wanting u me file at len past is
    by (Some refusal) is = (refl, idle-none me past)

aligned-write-wanting : (u : Setup) (me : ℕ) (file : File) (at : ℕ) (bytes : List ℕ) (past : List Entry) → shape_refusal at (length bytes) ≡ None → AlignedWriteLeft u me file at bytes (Err (0, error.NoMemory)) past past
aligned-write-wanting u me file at [] past is = (refl, idle-none me past)
aligned-write-wanting u me file at (byte ∷ bytes) past is = (
  has-page at (length bytes) is,
  (past, 0, (refl, idle-none me past), inl (refl, unplaced me (call.NcWrite file (at / 4096 + 0)) past refl refl)),
)

pub nc_write-wanting : (u : Setup) (me : ℕ) (file : File) (at : ℕ) (bytes : List ℕ) (past : List Entry) → NcWriteLeft u me file at bytes (Err (0, error.NoMemory)) past past
nc_write-wanting u me file at bytes past = by (shape_refusal at (length bytes)) refl
  where
    by : (shape : Option CcError) → shape_refusal at (length bytes) ≡ shape → ShapedWriteLeft u me file at bytes shape (Err (0, error.NoMemory)) past past
    by None is = aligned-write-wanting u me file at bytes past is
    by (Some refusal) is = (refl, idle-none me past)
