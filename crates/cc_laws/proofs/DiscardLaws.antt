-- What a discard makes of the pages and the bytes of a stream.
use Rattle.std.specs.Prelude.{◌≡◌, ℕ, ◌+◌, ◌-◌, ◌*◌, ◌/◌, ◌<◌, ◌≤◌, Bool, true, false, not, ◌&&◌, List, ◌∷◌, slice_index, refl}
use Rattle.std.specs.declared.option.Option.{Option}
use Rattle.std.specs.declared.option.Option.TheVariants.{Some}
use Rattle.std.proofs.Common.{ap, ◌∙◌, arith}
use Rattle.std.proofs.lemmas.Bool.{and_from, and_right, lt-ltb}
use Rattle.cc_entry.specs.Place.{Range}
use Rattle.cc_entry.specs.declared.call.Call.{Call}
use Rattle.cc_entry.specs.declared.reply.Reply.{Reply}
use Rattle.cc_model.specs.Numbers.{is_among, is_empty}
use Rattle.cc_model.specs.History.{Effect, Did}
use Rattle.cc_model.specs.Acts.{act_of, Discards}
use Rattle.cc_model.specs.Sizes.{dropped_if}
use Rattle.cc_model.specs.Ranges.{span_has}
use Rattle.cc_model.specs.Touches.{valid_of, unwritten, is_dirty, is_mapped}
use Rattle.cc_model.specs.Bytes.{on_disk, byte_of}
use Rattle.cc_model.specs.Residency.{residents, is_resident}
use Rattle.cc_model.specs.Images.{image}
use Rattle.cc_laws.proofs.SizeSteps.{sizes-discards}
use Rattle.cc_laws.proofs.TouchSteps.{touches-discards}
use Rattle.cc_laws.proofs.ByteSteps.{content-discards_dirty, content-discards_kept, byte_of-below, byte_of-same}
use Rattle.cc_laws.proofs.DiskBytes.{on_disk-image}
use Rattle.cc_laws.proofs.ResidencySteps.{residents-discards, residents-unmapped}
use Rattle.cc_laws.proofs.PlacesResident.{among-filtered}

module _ (pass : ℕ) (call : Call) (reply : Reply) (h : List Effect) (span : Option Range) where
  pub is_dirty-discarded : (p : ℕ) → act_of call ≡ Discards span → span_has span p ≡ true → is_dirty (Did pass call reply ∷ h) p ≡ false
  is_dirty-discarded p is has =
      ap (λ ts. not (is_empty ts)) (touches-discards false pass call reply h p is ∙ ap (λ b. dropped_if b (unwritten h p)) has)

  pub is_resident-discarded : (p : ℕ) → act_of call ≡ Discards span → span_has span p ≡ true → is_resident (Did pass call reply ∷ h) p ≡ false
  is_resident-discarded p is has = go (is_mapped (Did pass call reply ∷ h)) refl
    where
      go : (b : Bool) → is_mapped (Did pass call reply ∷ h) ≡ b → is_among p (residents (Did pass call reply ∷ h)) ≡ false
      go true mapped =
          ap (is_among p) (residents-discards pass call reply h is mapped)
          ∙ (among-filtered (λ q. not (span_has span q)) p (residents h) ∙ ap (λ b. not b && is_among p (residents h)) has)
      go false unmapped = ap (is_among p) (residents-unmapped (Did pass call reply ∷ h) unmapped)

  pub unwritten-discard_apart : (p : ℕ) → act_of call ≡ Discards span → span_has span p ≡ false → unwritten (Did pass call reply ∷ h) p ≡ unwritten h p
  unwritten-discard_apart p is apart = touches-discards false pass call reply h p is ∙ ap (λ b. dropped_if b (unwritten h p)) apart

  pub is_resident-discard_apart : (p : ℕ) → act_of call ≡ Discards span → span_has span p ≡ false → is_mapped (Did pass call reply ∷ h) ≡ true → is_resident (Did pass call reply ∷ h) p ≡ is_resident h p
  is_resident-discard_apart p is apart mapped =
      ap (is_among p) (residents-discards pass call reply h is mapped)
      ∙ (among-filtered (λ q. not (span_has span q)) p (residents h) ∙ ap (λ b. not b && is_among p (residents h)) apart)

  -- a byte that the discard does not cover stays
  byte_of-uncovered : (pages : ℕ → List ℕ) (i : ℕ) → act_of call ≡ Discards span → (span_has span (i / 4096) && is_dirty h (i / 4096)) ≡ false → byte_of pages (Did pass call reply ∷ h) i ≡ byte_of pages h i
  byte_of-uncovered pages i is aside =
      byte_of-same pages (Did pass call reply ∷ h) h i (sizes-discards pass call reply h is) (content-discards_kept pages pass call reply h i is aside)

  pub byte_of-discard_apart : (pages : ℕ → List ℕ) (p i : ℕ) → act_of call ≡ Discards span → span_has span p ≡ false → 4096 * p ≤ i → i < 4096 * p + 4096 → byte_of pages (Did pass call reply ∷ h) i ≡ byte_of pages h i
  byte_of-discard_apart pages p i is apart low high = byte_of-uncovered pages i is (aside (i / 4096) (omega arith))
    where
      aside : (q : ℕ) → q ≡ p → (span_has span q && is_dirty h q) ≡ false
      aside q same = ap (λ b. b && is_dirty h q) (ap (span_has span) same ∙ apart)

  pub byte_of-discard_clean : (pages : ℕ → List ℕ) (p i : ℕ) → act_of call ≡ Discards span → is_dirty h p ≡ false → 4096 * p ≤ i → i < 4096 * p + 4096 → byte_of pages (Did pass call reply ∷ h) i ≡ byte_of pages h i
  byte_of-discard_clean pages p i is clean low high = byte_of-uncovered pages i is (aside (i / 4096) (omega arith))
    where
      aside : (q : ℕ) → q ≡ p → (span_has span q && is_dirty h q) ≡ false
      aside q same = and_right (span_has span q) (is_dirty h q) (ap (is_dirty h) same ∙ clean)

  pub byte_of-discard_dirty : (pages : ℕ → List ℕ) (p i : ℕ) (bytes : List ℕ) → act_of call ≡ Discards span → span_has span p ≡ true → is_dirty h p ≡ true → image pages h p ≡ Some bytes → 4096 * p ≤ i → i < 4096 * p + 4096 → i < valid_of h → byte_of pages (Did pass call reply ∷ h) i ≡ slice_index bytes (i - 4096 * p)
  byte_of-discard_dirty pages p i bytes is has dirty known low high valid = go (i / 4096) (omega arith) refl
    where
      below : i < valid_of (Did pass call reply ∷ h)
      below = rw (sizes-discards pass call reply h is, valid_of) valid

      go : (q : ℕ) → q ≡ p → i / 4096 ≡ q → byte_of pages (Did pass call reply ∷ h) i ≡ slice_index bytes (i - 4096 * p)
      go q same page =
          byte_of-below pages (Did pass call reply ∷ h) i (lt-ltb i (valid_of (Did pass call reply ∷ h)) below)
          ∙ (content-discards_dirty pages pass call reply h i is (covered (i / 4096) (page ∙ same))
          ∙ (on_disk-image pages h i bytes (ap (image pages h) (page ∙ same) ∙ known)
          ∙ ap (λ r. slice_index bytes (i - 4096 * r)) (page ∙ same)))
        where
          covered : (r : ℕ) → r ≡ p → (span_has span r && is_dirty h r) ≡ true
          covered r e = and_from _ _ (ap (span_has span) e ∙ has) (ap (is_dirty h) e ∙ dirty)

-- the byte on the disk of a page with a known image
pub on_disk-page : (pages : ℕ → List ℕ) (h : List Effect) (p i : ℕ) (bytes : List ℕ) → 4096 * p ≤ i → i < 4096 * p + 4096 → image pages h p ≡ Some bytes → on_disk pages false h i ≡ slice_index bytes (i - 4096 * p)
on_disk-page pages h p i bytes low high known = go (i / 4096) refl (omega arith)
  where
    go : (q : ℕ) → i / 4096 ≡ q → q ≡ p → on_disk pages false h i ≡ slice_index bytes (i - 4096 * p)
    go q page same =
        on_disk-image pages h i bytes (ap (image pages h) (page ∙ same) ∙ known)
        ∙ ap (λ r. slice_index bytes (i - 4096 * r)) (page ∙ same)
