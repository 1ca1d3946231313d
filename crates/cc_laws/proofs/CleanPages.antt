-- What is clean is on the disk: each byte below the valid data length of a page that is not dirty.
use Rattle.std.specs.Prelude.{◌≡◌, ℕ, ◌+◌, ◌-◌, ◌*◌, ◌/◌, ◌%◌, ◌<◌, ◌≤◌, Bool, true, false, ◌==◌, ◌&&◌, is_some, List, [], ◌∷◌, slice_index, refl}
use Rattle.std.proofs.Common.{arith, ap, sym, subst, ◌∙◌}
use Rattle.std.proofs.lemmas.Bool.{and_from, and_right, eqb-true, lt-ltb}
use Rattle.std.specs.declared.option.Option.{Option}
use Rattle.std.specs.declared.option.Option.TheVariants.{Some, None}
use Rattle.cc_entry.specs.Place.{Range}
use Rattle.cc_entry.specs.declared.call.Call.{Call}
use Rattle.cc_entry.specs.declared.reply.Reply.{Reply}
use Rattle.cc_entry.specs.declared.entry.End.{End}
use Rattle.cc_entry.specs.declared.entry.Entry.{Entry}
use Rattle.cc_model.specs.Setup.{Setup}
use Rattle.cc_model.specs.History.{Effect, Did, CameIn, WentOut, Began, Ended, Synced, history}
use Rattle.cc_model.specs.Acts.{Act, act_of, Discards}
use Rattle.cc_model.specs.Objects.{had_map}
use Rattle.cc_model.specs.Sizes.{Sizes, ended_ok}
use Rattle.cc_model.specs.Ranges.{span_has}
use Rattle.cc_model.specs.Touches.{sizes, touches, valid_of, is_dirty}
use Rattle.cc_model.specs.Bytes.{content, page_bytes}
use Rattle.cc_model.specs.Images.{image}
use Rattle.cc_model.specs.Discards.{is_known}
use Rattle.cc_model.specs.Good.{IsGoodSoFar}
use Rattle.cc_laws.specs.Facts.{IsOnDisk}
use Rattle.cc_laws.specs.ByPlaces.{act_discards}
use Rattle.cc_laws.proofs.TouchSteps.{touches-ended_good, touches-ended_bad, touches-ended_other}
use Rattle.cc_laws.proofs.SizeSteps.{sizes-discards}
use Rattle.cc_laws.proofs.ByteSteps.{content-discards_dirty, content-discards_kept, byte_of-below}
use Rattle.cc_laws.proofs.DiskBytes.{page_bytes-at, image-known, on_disk-image}
use Rattle.cc_laws.proofs.ImageSteps.{image-ended_good, image-ended_other}
use Rattle.cc_laws.proofs.Steady.{DiscardsSettled, IsSteady}
use Rattle.cc_laws.proofs.SteadyPasts.{IsSteady-good}
use Rattle.cc_laws.proofs.FirstMap.{IsFirst, IsFirst-steady, content-first}
use Rattle.cc_laws.proofs.KeptBytes.{IsKeptByte-done}
use Rattle.cc_laws.proofs.OpenTransfers.{open_is_dirty, IsSinceBegin-untouched}

-- the image of the page is known, and has the content of the byte
record IsStored (pages : ℕ → List ℕ) (h : List Effect) (p i : ℕ) : Type 0 where
  bytes : List ℕ
  known : image pages h p ≡ Some bytes
  same : slice_index bytes (i - 4096 * p) ≡ content pages h i

-- a page that is still the opening one
IsStored-first : (pages : ℕ → List ℕ) (h : List Effect) (p i : ℕ) → IsFirst h → 4096 * p ≤ i → i < 4096 * p + 4096 → IsStored pages h p i
IsStored-first pages h p i first low high =
    record { bytes = pages p; known = first.opening_page pages p; same = at (i / 4096) (i % 4096) (omega arith) (omega arith) ∙ sym (first.opening pages i) }
  where
    at : (q j : ℕ) → q ≡ p → j ≡ i - 4096 * p → slice_index (pages p) (i - 4096 * p) ≡ slice_index (pages q) j
    at q j e f = cc

IsStored-ended : (pages : ℕ → List ℕ) (pass page : ℕ) (how : End) (h : List Effect) (p i : ℕ) → IsSteady (Ended pass page how ∷ h) → 4096 * p ≤ i → i < 4096 * p + 4096 → touches false (Ended pass page how ∷ h) p ≡ [] → i < valid_of h → (touches false h p ≡ [] → IsStored pages h p i) → IsStored pages (Ended pass page how ∷ h) p i
unfolding content
IsStored-ended pages pass page how h p i steady low high clean below before = go (page == p) refl (ended_ok how) refl
  where
    go : (b : Bool) → (page == p) ≡ b → (good : Bool) → ended_ok how ≡ good → IsStored pages (Ended pass page how ∷ h) p i
    go false other good is =
        let k = before (sym (touches-ended_other false pass page how h p other) ∙ clean) in
        record { bytes = k.bytes; known = image-ended_other pages pass page how h p other ∙ k.known; same = k.same }
    go true same true is =
        let k = IsSinceBegin-untouched pages h pass p steady.1 (steady.0 ∙ ap (λ q. Some (record { pass = pass; page = q })) (eqb-true page p same)) i low high (sym (touches-ended_good false pass page how h p same is) ∙ clean) below in
        record {
          bytes = page_bytes pages k.front p;
          known = image-ended_good pages pass page how h k.front p same is k.is;
          same = page_bytes-at pages k.front p i low high ∙ byte_of-below pages k.front i (lt-ltb i (valid_of k.front) k.below) ∙ k.same;
        }
    go true same false is =
        absurd (open_is_dirty h steady.1 (record { pass = pass; page = p }) (steady.0 ∙ ap (λ q. Some (record { pass = pass; page = q })) (eqb-true page p same)) i low high (sym (touches-ended_bad false pass page how h p is) ∙ clean) below)

-- a page that is not dirty has no touch left
no_touch : (h : List Effect) (p : ℕ) → is_dirty h p ≡ false → touches false h p ≡ []
no_touch h p clean = go (touches false h p) refl
  where
    go : (ts : _) → touches false h p ≡ ts → ts ≡ []
    go [] is = refl
    go (t ∷ ts) is = absurd (cc)

-- an image that is known whatever the opening pages is known for these
record IsKnown (pages : ℕ → List ℕ) (h : List Effect) (p : ℕ) : Type 0 where
  bytes : List ℕ
  is : image pages h p ≡ Some bytes

IsKnown-known : (pages : ℕ → List ℕ) (h : List Effect) (p : ℕ) → is_known h p ≡ true → IsKnown pages h p
IsKnown-known pages h p known = go (image pages h p) refl (image-known pages (λ page. []) h p ∙ known)
  where
    go : (o : Option (List ℕ)) → image pages h p ≡ o → is_some o ≡ true → IsKnown pages h p
    go None is none = absurd (cc)
    go (Some bytes) is some = record { bytes = bytes; is = is }

-- a page that a discard throws away has the disk's bytes, whether it was dirty or not
IsStored-discarded : (pages : ℕ → List ℕ) (pass : ℕ) (call : Call) (reply : Reply) (h : List Effect) (p i : ℕ) → 4096 * p ≤ i → i < 4096 * p + 4096 → DiscardsSettled h (act_of call) → act_discards (act_of call) p ≡ true → i < valid_of (Did pass call reply ∷ h) → (touches false h p ≡ [] → i < valid_of h → IsStored pages h p i) → IsStored pages (Did pass call reply ∷ h) p i
unfolding image
IsStored-discarded pages pass call reply h p i low high settled drops below before = go (act_of call) refl settled drops
  where
    dirty : (span : Option Range) → act_of call ≡ Discards span → (q : ℕ) → i / 4096 ≡ q → span_has span q ≡ true → is_dirty h q ≡ true → IsKnown pages h q → IsStored pages (Did pass call reply ∷ h) q i
    dirty span is q same has touched k =
        record {
          bytes = k.bytes;
          known = k.is;
          same = sym (content-discards_dirty pages pass call reply h i is (there (i / 4096) same) ∙ (on_disk-image pages h i k.bytes (ap (image pages h) same ∙ k.is) ∙ ap (λ r. slice_index k.bytes (i - 4096 * r)) same));
        }
      where
        there : (r : ℕ) → r ≡ q → (span_has span r && is_dirty h r) ≡ true
        there r e = and_from _ _ (ap (span_has span) e ∙ has) (ap (is_dirty h) e ∙ touched)

    clean : (span : Option Range) → act_of call ≡ Discards span → (q : ℕ) → i / 4096 ≡ q → is_dirty h q ≡ false → IsStored pages h q i → IsStored pages (Did pass call reply ∷ h) q i
    clean span is q same untouched k =
        record {
          bytes = k.bytes;
          known = k.known;
          same = k.same ∙ sym (content-discards_kept pages pass call reply h i is (aside (i / 4096) same));
        }
      where
        aside : (r : ℕ) → r ≡ q → (span_has span r && is_dirty h r) ≡ false
        aside r e = and_right (span_has span r) (is_dirty h r) (ap (is_dirty h) e ∙ untouched)

    go : (a : Act) → act_of call ≡ a → DiscardsSettled h a → act_discards a p ≡ true → IsStored pages (Did pass call reply ∷ h) p i
    go (Discards span) is finds has = at (is_dirty h p) refl
      where
        at : (b : Bool) → is_dirty h p ≡ b → IsStored pages (Did pass call reply ∷ h) p i
        at true touched = dirty span is p (omega arith) has touched (IsKnown-known pages h p (finds.known p has touched))
        at false untouched =
            clean span is p (omega arith) untouched
            (before (no_touch h p untouched) (subst (λ (s : Sizes). i < s.valid) (sizes-discards pass call reply h is) below))
    go other is finds none = absurd (cc)

IsStored-clean : (pages : ℕ → List ℕ) (h : List Effect) (p i : ℕ) → IsSteady h → 4096 * p ≤ i → i < 4096 * p + 4096 → touches false h p ≡ [] → i < valid_of h → IsStored pages h p i
unfolding sizes touches content image
IsStored-clean pages [] p i steady low high clean below = absurd (omega arith)
IsStored-clean pages (Did pass call reply ∷ h) p i steady low high clean below =
    go (IsStored-clean pages h p i steady.1 low high) (had_map h) refl (act_discards (act_of call) p) refl
  where
    go : (touches false h p ≡ [] → i < valid_of h → IsStored pages h p i) → (b : Bool) → had_map h ≡ b → (drops : Bool) → act_discards (act_of call) p ≡ drops → IsStored pages (Did pass call reply ∷ h) p i
    go before true had true drops = IsStored-discarded pages pass call reply h p i low high steady.0.settled drops below before
    go before true had false apart =
        let k = IsKeptByte-done pages false pass call reply h p i low high clean below steady.0 had apart in
        let m = before k.kept.clean k.kept.below in
        record { bytes = m.bytes; known = m.known; same = m.same ∙ sym k.same }
    go before false never drops is =
        let first = IsFirst-steady h steady.1 never in
        let k = IsStored-first pages h p i first low high in
        record { bytes = k.bytes; known = k.known; same = k.same ∙ sym (content-first pages pass call reply h i steady.0 first) }
IsStored-clean pages (CameIn pass page from_disk ∷ h) p i steady low high clean below =
    let k = IsStored-clean pages h p i steady.1 low high clean below in record { bytes = k.bytes; known = k.known; same = k.same }
IsStored-clean pages (WentOut pass page ∷ h) p i steady low high clean below =
    let k = IsStored-clean pages h p i steady.1 low high clean below in record { bytes = k.bytes; known = k.known; same = k.same }
IsStored-clean pages (Began pass page ∷ h) p i steady low high clean below =
    let k = IsStored-clean pages h p i steady.1 low high clean below in record { bytes = k.bytes; known = k.known; same = k.same }
IsStored-clean pages (Ended pass page how ∷ h) p i steady low high clean below =
    IsStored-ended pages pass page how h p i steady low high clean below (λ c. IsStored-clean pages h p i steady.1 low high c below)
IsStored-clean pages (Synced pass how ∷ h) p i steady low high clean below =
    let k = IsStored-clean pages h p i steady.1 low high clean below in record { bytes = k.bytes; known = k.known; same = k.same }

pub IsOnDisk-steady : (pages : ℕ → List ℕ) (h : List Effect) (p i : ℕ) → IsSteady h → is_dirty h p ≡ false → 4096 * p ≤ i → i < 4096 * p + 4096 → i < valid_of h → IsOnDisk pages h p i
IsOnDisk-steady pages h p i steady clean low high below =
    let k = IsStored-clean pages h p i steady low high (no_touch h p clean) below in
    record { bytes = k.bytes; known = k.known; same = k.same ∙ sym (byte_of-below pages h i (lt-ltb i (valid_of h) below)) }

pub IsOnDisk-good : (u : Setup) (past : List Entry) (s : ℕ) → IsGoodSoFar u past → (pages : ℕ → List ℕ) (p i : ℕ) → is_dirty (history past s) p ≡ false → 4096 * p ≤ i → i < 4096 * p + 4096 → i < valid_of (history past s) → IsOnDisk pages (history past s) p i
IsOnDisk-good u past s good pages p i = IsOnDisk-steady pages (history past s) p i (IsSteady-good u past s good)
