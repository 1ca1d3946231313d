-- The bytes that a noncached read of a page answers: those of its frame, or those that the disk gave, as far as the size.
use Rattle.std.specs.Prelude.{◌≡◌, ℕ, ◌+◌, ◌-◌, ◌*◌, ◌/◌, ◌<◌, ◌≤◌, true, min, List, [], ◌∷◌, length, take, slice_index, Option, None, Some, refl}
use Rattle.std.specs.List.{list_all, range_with_len}
use Rattle.std.specs.Int.{div_ceil}
use Rattle.std.proofs.Common.{ap, sym, ◌∙◌, subst, arith}
use Rattle.std.proofs.lemmas.Bool.{lt-ltb}
use Rattle.std.proofs.lemmas.List.{get_or-take}
use Rattle.cc_entry.specs.Pages.{pages_of}
use Rattle.cc_entry.specs.declared.reply.Reply.TheVariants as reply
use Rattle.cc_content.specs.Contents.{IsByteOfContents}
use Rattle.cc_content.specs.Filling.{IsReadFrom, IsClearedFrom}
use Rattle.cc_content.proofs.ContentSteps.{IsByteOf-filled}
use Rattle.cc_model.specs.History.{Effect}
use Rattle.cc_model.specs.Ranges.{cut_range}
use Rattle.cc_model.specs.Replies.{Reads}
use Rattle.cc_model.specs.Residency.{all_resident, is_resident}
use Rattle.cc_model.specs.Touches.{size_of, valid_of}
use Rattle.cc_book.specs.Noncached.{IsStart}
use Rattle.cc_book.proofs.ReadSteps.{reads-part}

-- where a page starts
pub starts-some : (size page : ℕ) → page < div_ceil size 4096 → IsStart size page (Some (4096 * page))
starts-some size page below = (refl, omega (arith, below))

pub starts-none : (size page : ℕ) → div_ceil size 4096 ≤ page → IsStart size page None
starts-none size page past = omega (arith, past)

-- a page that starts at the size or past it has no bytes
pub reads-none : (opening : Option (ℕ → List ℕ)) (h : List Effect) (page : ℕ) → size_of h ≤ 4096 * page → Reads opening h (4096 * page) 4096 (reply.Read [])
reads-none opening h page past =
    reads-part opening h (4096 * page) 4096 [] (none (size_of h) past) (λ k below. absurd (omega (arith, below)))
  where
    none : (size : ℕ) → size ≤ 4096 * page → 0 ≡ min (4096 * page + 4096) size - 4096 * page
    none size is = omega (arith, is)

-- the range of one page has that page alone
one-page : (page to : ℕ) → 4096 * page < to → to ≤ 4096 * page + 4096 → pages_of (record { from = 4096 * page; to = to }) ≡ page ∷ []
one-page page to low high =
    let one : ((to - 1) / 4096 + 1) - 4096 * page / 4096 ≡ 1 = omega (arith, low, high) in
    let first : 4096 * page / 4096 ≡ page = omega arith in
    rw (lt-ltb (4096 * page) to low) (ap (range_with_len (4096 * page / 4096)) one ∙ ap (λ p. p ∷ []) first)

pub one-resident : (h : List Effect) (page : ℕ) → is_resident h page ≡ true → 4096 * page < size_of h → all_resident h (cut_range (size_of h) (4096 * page) 4096) ≡ true
one-resident h page resident below =
    ap (λ ps. list_all (is_resident h) ps) (one-page page (min (4096 * page + 4096) (size_of h)) (omega (arith, below)) (omega arith))
    ∙ rw resident refl

-- a byte of the front of a list is that of the list
pub front-byte : (end k : ℕ) (bytes : List ℕ) → k < end → slice_index (take end bytes) k ≡ slice_index bytes k
front-byte end k bytes inside = get_or-take end bytes k 0 inside

-- what the disk gave of a page, cleared from the valid data length on and cut at the size
pub reads-disk : (opening : Option (ℕ → List ℕ)) (h : List Effect) (page end : ℕ) (raw bytes part : List ℕ) → 4096 * page < size_of h → IsReadFrom opening h page raw → IsClearedFrom (valid_of h - 4096 * page) raw bytes → length part ≡ end → end ≡ min (size_of h - 4096 * page) 4096 → ((k : ℕ) → k < end → slice_index part k ≡ slice_index bytes k) → Reads opening h (4096 * page) 4096 (reply.Read part)
reads-disk opening h page end raw bytes part below read cleared long ends same =
    reads-part opening h (4096 * page) 4096 part (count (size_of h) (length part) below long ends)
    (λ k inside.
    subst (λ (byte : ℕ). IsByteOfContents opening h (4096 * page + k) byte) (sym (same k (omega (arith, inside, long))))
    (IsByteOf-filled opening h page k raw bytes (omega (arith, inside, long, ends)) read cleared))
  where
    count : (size n : ℕ) → 4096 * page < size → n ≡ end → end ≡ min (size - 4096 * page) 4096 → n ≡ min (4096 * page + 4096) size - 4096 * page
    count size n b l e = omega (arith, b, l, e)
