-- Where a page lies by the size, what a read of it can answer, and the bytes of a page that is stored, as they go to the
-- disk.
use Rattle.std.specs.Prelude.{◌≡◌, ℕ, ◌+◌, ◌-◌, ◌*◌, ◌/◌, ◌<◌, ◌≤◌, Bool, true, false, nat_lt, min, List, [], ◌∷◌, length, replicate, take, slice_index, Option, None, Some, refl, if◌then◌else◌}
use Rattle.std.specs.List.{list_all, range_with_len}
use Rattle.std.specs.Int.{div_ceil}
use Rattle.std.proofs.Common.{ap, sym, ◌∙◌, subst, arith}
use Rattle.std.proofs.lemmas.Bool.{lt-ltb, ltb-true, ltb-false}
use Rattle.std.proofs.lemmas.List.{get_or-take, get_or-replicate, length-replicate}
use Rattle.cc_entry.specs.Pages.{pages_of}
use Rattle.cc_entry.specs.declared.reply.Reply.{Reply}
use Rattle.cc_entry.specs.declared.reply.Reply.TheVariants as reply
use Rattle.cc_book.proofs.ReadSteps.{reads-part}
use Rattle.cc_content.specs.Contents.{IsByteOfContents}
use Rattle.cc_content.specs.Filling.{IsReadFrom, IsClearedFrom}
use Rattle.cc_content.proofs.ContentSteps.{IsByteOf-filled}
use Rattle.cc_model.specs.Bytes.{answer, answer_length}
use Rattle.cc_model.specs.History.{Effect}
use Rattle.cc_model.specs.Ranges.{cut_range}
use Rattle.cc_model.specs.Replies.{Reads}
use Rattle.cc_model.specs.Residency.{all_resident, is_resident}
use Rattle.cc_model.specs.Touches.{size_of, valid_of}
use Rattle.cc_world.specs.Uncached.{stored_byte}

-- where a page lies, by what is known of the size
pub lies-past : (size real page : ℕ) → size ≡ real → div_ceil size 4096 ≤ page → 4096 * page < real → ⊥
lies-past size real page same past below = omega (arith, same, past, below)

pub lies-below : (size real page : ℕ) → size ≡ real → page < div_ceil size 4096 → 4096 * page < real
lies-below size real page same below = omega (arith, same, below)

-- a read has a reply, whatever the disk tells
pub some-read : (opening : Option (ℕ → List ℕ)) (h : List Effect) (at n : ℕ) → (r : Reply) × Reads opening h at n r
some-read None h at n =
    let long = answer_length h at n in (
      reply.Read (replicate long 0),
      record { bytes = replicate long 0; is = refl; long = length-replicate {A = ℕ} long 0; zeros = λ k below past. get_or-replicate long k 0 0 (omega (arith, below, length-replicate {A = ℕ} long 0)) },
    )
some-read (Some pages) h at n = (reply.Read (answer pages h at n), refl)

-- the bytes of a page that are cleared from the size on are those that are stored
pub as-cut : (size page place : ℕ) (bytes cut : List ℕ) → place ≡ size - 4096 * page → IsClearedFrom place bytes cut → (i : ℕ) → slice_index cut i ≡ stored_byte size page bytes i
as-cut size page place bytes cut is clear i = go (nat_lt i (size - 4096 * page)) refl
  where
    go : (b : Bool) → nat_lt i (size - 4096 * page) ≡ b → slice_index cut i ≡ (if b then slice_index bytes i else 0)
    go true inside = let below = ltb-true i (size - 4096 * page) inside in clear.below i (omega (arith, below, is))
    go false outside = let above = ltb-false i (size - 4096 * page) outside in clear.above i (omega (arith, above, is))
