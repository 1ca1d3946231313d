-- What a read gathers, page by page, and what it answers.
use Rattle.std.specs.Prelude.{◌≡◌, ℕ, ◌+◌, ◌-◌, ◌*◌, ◌/◌, ◌^◌, ◌<◌, ◌≤◌, true, is_some, List, ◌++◌, length, map, min, slice_index, drop, Option, None, Some, IfSome, refl}
use Rattle.std.specs.List.{range_with_len, slice_range}
use Rattle.std.specs.Option.{unwrap_or}
use Rattle.std.proofs.Common.{ap, sym, subst, ◌∙◌, arith, true≢false, inl, inr, ◌⊎◌, Bor}
use Rattle.std.proofs.lemmas.Bool.{and_from, lt-ltb, cases_lt}
use Rattle.std.proofs.lemmas.List.{length-take, length-append, get_or_append_left, get_or-append_right, ext_get_or}
use Rattle.std.proofs.lemmas.List.Edits.{get_or-between}
use Rattle.std.proofs.lemmas.List.FromFn.{length-map-range_with_len, get_or-map-range_with_len}
use Rattle.cc_entry.specs.Place.{Range}
use Rattle.cc_entry.specs.Pages.{pages_of}
use Rattle.cc_entry.specs.declared.reply.Reply.TheVariants as reply
use Rattle.cc_model.specs.Bytes.{byte_of, answer, answer_length}
use Rattle.cc_model.specs.History.{Effect}
use Rattle.cc_model.specs.Replies.{Reads}
use Rattle.cc_model.specs.Residency.{all_resident, is_resident}
use Rattle.cc_laws.proofs.Lists1.{among-all, among-pages}
use Rattle.cc_content.specs.Contents.{IsByteOfContents}
use Rattle.cc_book.specs.Read.{IsPartOf}

-- where a read ends
pub end-of_read : (at n full kept end size : ℕ) → full ≡ min (at + n) (2 ^ 64 - 1) → kept < 2 ^ 64 → end ≡ min full kept → kept ≡ size → end ≡ min (at + n) size
end-of_read at n full kept end size sum fits cut is = omega arith

-- the page of each byte of a resident range is resident
pub resident-at : (h : List Effect) (r : Range) (i : ℕ) → all_resident h r ≡ true → r.from ≤ i → i < r.to → is_resident h (i / 4096) ≡ true
resident-at h r i all from to =
    among-all (is_resident h) (i / 4096) (pages_of r) all
    (among-pages r (i / 4096)
    (and_from _ _ (lt-ltb r.from r.to (omega arith)) (and_from _ _ (lt-ltb r.from (4096 * (i / 4096) + 4096) (omega arith)) (lt-ltb (4096 * (i / 4096)) r.to (omega arith)))))

module _ (opening : Option (ℕ → List ℕ)) (h : List Effect) where
  -- bytes of a page that is found, from a place in it on
  pub part-found : (at from to : ℕ) (found : Option (Bor (List ℕ))) (other frame : Bor (List ℕ)) → at ≡ 4096 * (at / 4096) + from → to ≤ 4096 → is_some found ≡ true → frame ≡ unwrap_or found other → IfSome found (λ bytes. (i : ℕ) → i < 4096 → IsByteOfContents opening h (4096 * (at / 4096) + i) (slice_index bytes.now i)) → IsPartOf opening h at (slice_range frame.now from to)
  part-found at from to None other frame place within some is bytes = absurd (true≢false (sym some))
  part-found at from to (Some found) other frame place within some is bytes = λ k below.
      let short = length-take (to - from) (drop from frame.now) in
      let there : from + k < to = omega (arith, short, below) in
      let where_it_is : 4096 * (at / 4096) + (from + k) ≡ at + k = omega (arith, place) in
      let byte : slice_index found.now (from + k) ≡ slice_index (slice_range frame.now from to) k = ap (λ (f : Bor (List ℕ)). slice_index f.now (from + k)) (sym is) ∙ sym (get_or-between frame.now from to k 0 there) in
      subst (λ i. IsByteOfContents opening h i (slice_index (slice_range frame.now from to) k)) where_it_is
      (subst (λ b. IsByteOfContents opening h (4096 * (at / 4096) + (from + k)) b) byte (bytes (from + k) (omega arith)))

  -- bytes that follow one another
  pub part-more : (at next : ℕ) (front part : List ℕ) → at + length front ≡ next → IsPartOf opening h at front → IsPartOf opening h next part → IsPartOf opening h at (front ++ part)
  part-more at next front part on first then = λ k below. go k below (cases_lt k (length front))
    where
      go : (k : ℕ) → k < length (front ++ part) → (k < length front) ⊎ (length front ≤ k) → IsByteOfContents opening h (at + k) (slice_index (front ++ part) k)
      go k below (inl low) = subst (IsByteOfContents opening h (at + k)) (sym (get_or_append_left front part 0 k low)) (first k low)
      go k below (inr high) =
          let place : next + (k - length front) ≡ at + k = omega (arith, on, high) in
          subst (IsByteOfContents opening h (at + k)) (sym (get_or-append_right front part (length front) k 0 refl high))
          (subst (λ i. IsByteOfContents opening h i (slice_index part (k - length front))) place (then (k - length front) (omega (arith, below, high, length-append front part))))

-- as many bytes of the stream as a read answers are what it answers
pub reads-part : (opening : Option (ℕ → List ℕ)) (h : List Effect) (at n : ℕ) (bytes : List ℕ) → length bytes ≡ answer_length h at n → IsPartOf opening h at bytes → Reads opening h at n (reply.Read bytes)
unfolding answer
reads-part None h at n bytes long part = record { bytes = bytes; is = refl; long = long; zeros = part }
reads-part (Some pages) h at n bytes long part =
    ap reply.Read
    (ext_get_or 0 bytes (map (byte_of pages h) (range_with_len at (answer_length h at n)))
    (long ∙ sym (length-map-range_with_len (byte_of pages h) at (answer_length h at n)))
    (λ k below. part k below ∙ sym (get_or-map-range_with_len (byte_of pages h) at (answer_length h at n) k (at + k) 0 (omega (arith, long, below)) refl)))
