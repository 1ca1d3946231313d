-- What a crash may leave of a page is the opening page, or the page as it was at some moment; and the latter alone once it is
-- settled.
use Rattle.std.specs.Prelude.{◌≡◌, ℕ, ◌+◌, ◌-◌, ◌*◌, ◌/◌, ◌%◌, ◌<◌, ◌≤◌, ◌⊎◌, Bool, true, false, ◌==◌, ◌||◌, ◌&&◌, nat_lt, List, [], ◌∷◌, ◌++◌, Contains, slice_index, refl}
use Rattle.std.proofs.Common.{arith, ap, sym, subst, ◌∙◌, inl, inr, ⊎_elim}
use Rattle.std.proofs.lemmas.Bool.{lt-ltb}
use Rattle.std.proofs.lemmas.List.Elements.{Contains-push_cases}
use Rattle.std.specs.declared.option.Option.{Option}
use Rattle.std.specs.declared.option.Option.TheVariants.{Some, None}
use Rattle.cc_entry.specs.declared.call.Call.{Call}
use Rattle.cc_entry.specs.declared.reply.Reply.{Reply}
use Rattle.cc_entry.specs.declared.entry.End.{End}
use Rattle.cc_model.specs.Acts.{Act, act_of, Opens, Closes, Resizes, Writes, Zeroes, Stores, Stamps, Discards, Looks}
use Rattle.cc_model.specs.Bytes.{byte_of, content, page_bytes}
use Rattle.cc_model.specs.History.{Effect, Did, CameIn, WentOut, Began, Ended, Synced}
use Rattle.cc_model.specs.Images.{Transfer, image, image_after, begun, open_of, settled, crash_pages}
use Rattle.cc_model.specs.Objects.{had_map}
use Rattle.cc_model.specs.Records.{first_valid, is_stored, is_settled}
use Rattle.cc_model.specs.Sizes.{ended_ok}
use Rattle.cc_model.specs.Touches.{valid_of}
use Rattle.cc_laws.proofs.ByteSteps.{byte_of-below}
use Rattle.cc_laws.proofs.DiskBytes.{page_bytes-at}
use Rattle.cc_laws.proofs.FirstMap.{IsFirst, IsFirst-steady, content-first}
use Rattle.cc_laws.proofs.ObjectSteps.{had_map-opens}
use Rattle.cc_laws.proofs.Steady.{IsSteady}
use Rattle.cc_records.proofs.FirstMaps.{first_valid-did, valid-opened, had-before}

-- at a moment of the history the page was this
pub record WasPage (pages : ℕ → List ℕ) (p : ℕ) (h : List Effect) (bytes : List ℕ) : Type 0 where
  pub later : List Effect
  pub before : List Effect
  pub splits : h ≡ later ++ before
  pub was : page_bytes pages before p ≡ bytes

was-longer : {pages : ℕ → List ℕ} {p : ℕ} {h : List Effect} {bytes : List ℕ} (e : Effect) → WasPage pages p h bytes → WasPage pages p (e ∷ h) bytes
was-longer e k = record { later = e ∷ k.later; before = k.before; splits = ap (λ (l : List Effect). e ∷ l) k.splits; was = k.was }

was-now : (pages : ℕ → List ℕ) (p : ℕ) (e : Effect) (h : List Effect) → WasPage pages p (e ∷ h) (page_bytes pages h p)
was-now pages p e h = record { later = e ∷ []; before = h; splits = refl; was = refl }

either-longer : {pages : ℕ → List ℕ} {p : ℕ} {h : List Effect} {bytes : List ℕ} (e : Effect) → (pages p ≡ bytes) ⊎ WasPage pages p h bytes → (pages p ≡ bytes) ⊎ WasPage pages p (e ∷ h) bytes
either-longer e (inl first) = inl first
either-longer e (inr was) = inr (was-longer e was)

-- the image is known, and the page was so
record IsWasImage (pages : ℕ → List ℕ) (p : ℕ) (h g : List Effect) : Type 0 where
  bytes : List ℕ
  known : image pages h p ≡ Some bytes
  was : WasPage pages p g bytes

-- what is known of a page that is settled
record IsWasAll (pages : ℕ → List ℕ) (p : ℕ) (h g : List Effect) : Type 0 where
  crash : (bytes : List ℕ) → Contains (crash_pages pages h p) bytes → WasPage pages p g bytes
  known : (bytes : List ℕ) → image pages h p ≡ Some bytes → WasPage pages p g bytes

-- the front of the last begin of the page's transfer
record IsWasBegun (pages : ℕ → List ℕ) (p : ℕ) (h g : List Effect) : Type 0 where
  front : List Effect
  is : begun h p ≡ Some front
  was : WasPage pages p g (page_bytes pages front p)

-- What holds of a page in a history h, as moments of a history g that is as long or longer.
record Holds (pages : ℕ → List ℕ) (p : ℕ) (h g : List Effect) : Type 0 where
  crash : (bytes : List ℕ) → Contains (crash_pages pages h p) bytes → (pages p ≡ bytes) ⊎ WasPage pages p g bytes
  known : (bytes : List ℕ) → image pages h p ≡ Some bytes → (pages p ≡ bytes) ⊎ WasPage pages p g bytes
  opened : (t : Transfer) → open_of h ≡ Some t → (t.page == p) ≡ true → IsWasBegun pages p h g
  stored : is_stored h p ≡ true → IsWasImage pages p h g
  settles : is_settled h p ≡ true → IsWasAll pages p h g

longer : {pages : ℕ → List ℕ} {p : ℕ} {h g : List Effect} (e : Effect) → Holds pages p h g → Holds pages p h (e ∷ g)
longer e k = record {
  crash = λ bytes among. either-longer e (k.crash bytes among);
  known = λ bytes is. either-longer e (k.known bytes is);
  opened = λ t under same. let f = k.opened t under same in record { front = f.front; is = f.is; was = was-longer e f.was };
  stored = λ is. let f = k.stored is in record { bytes = f.bytes; known = f.known; was = was-longer e f.was };
  settles = λ is. let f = k.settles is in record { crash = λ bytes among. was-longer e (f.crash bytes among); known = λ bytes known. was-longer e (f.known bytes known) };
}

same_some : {A : Type 0} (x y : A) → Some x ≡ Some y → x ≡ y
same_some x y e = cc

only_one : (bytes content : List ℕ) → Contains (bytes ∷ []) content → bytes ≡ content
only_one bytes content among = go (Contains-push_cases [] bytes content among)
  where
    go : Contains [] content ⊎ (bytes ≡ content) → bytes ≡ content
    go (inl none) = absurd (omega (arith, none.1))
    go (inr is) = is

module _ (pages : ℕ → List ℕ) (p : ℕ) (g : List Effect) where
  holds-did : (pass : ℕ) (call : Call) (reply : Reply) (h : List Effect) → Holds pages p h g → Holds pages p (Did pass call reply ∷ h) g
  unfolding image begun open_of crash_pages is_stored is_settled
  holds-did pass call reply h k = record {
    crash = k.crash;
    known = k.known;
    opened = λ t under same. let f = k.opened t under same in record { front = f.front; is = f.is; was = f.was };
    stored = λ is. let f = k.stored is in record { bytes = f.bytes; known = f.known; was = f.was };
    settles = λ is. let f = k.settles is in record { crash = f.crash; known = f.known };
  }

  holds-came_in : (pass page : ℕ) (from_disk : Bool) (h : List Effect) → Holds pages p h g → Holds pages p (CameIn pass page from_disk ∷ h) g
  unfolding image begun open_of crash_pages is_stored is_settled
  holds-came_in pass page from_disk h k = record {
    crash = k.crash;
    known = k.known;
    opened = λ t under same. let f = k.opened t under same in record { front = f.front; is = f.is; was = f.was };
    stored = λ is. let f = k.stored is in record { bytes = f.bytes; known = f.known; was = f.was };
    settles = λ is. let f = k.settles is in record { crash = f.crash; known = f.known };
  }

  holds-went_out : (pass page : ℕ) (h : List Effect) → Holds pages p h g → Holds pages p (WentOut pass page ∷ h) g
  unfolding image begun open_of crash_pages is_stored is_settled
  holds-went_out pass page h k = record {
    crash = k.crash;
    known = k.known;
    opened = λ t under same. let f = k.opened t under same in record { front = f.front; is = f.is; was = f.was };
    stored = λ is. let f = k.stored is in record { bytes = f.bytes; known = f.known; was = f.was };
    settles = λ is. let f = k.settles is in record { crash = f.crash; known = f.known };
  }

  holds-began : (pass page : ℕ) (h : List Effect) → WasPage pages p g (page_bytes pages h p) → Holds pages p h g → Holds pages p (Began pass page ∷ h) g
  unfolding image begun open_of crash_pages is_stored is_settled
  holds-began pass page h now k = go (page == p) refl
    where
      go : (b : Bool) → (page == p) ≡ b → Holds pages p (Began pass page ∷ h) g
      go true same = record {
        crash = λ bytes among. either bytes (Contains-push_cases (crash_pages pages h p) (page_bytes pages h p) bytes (subst (λ contents. Contains contents bytes) pushed among));
        known = k.known;
        opened = λ t under is. record { front = h; is = rw (same, begun) refl; was = now };
        stored = λ is. let f = k.stored is in record { bytes = f.bytes; known = f.known; was = f.was };
        settles = λ is. let f = k.settles is in record {
          crash = λ bytes among. after f.crash bytes (Contains-push_cases (crash_pages pages h p) (page_bytes pages h p) bytes (subst (λ contents. Contains contents bytes) pushed among));
          known = f.known;
        };
      }
        where
          pushed : crash_pages pages (Began pass page ∷ h) p ≡ crash_pages pages h p ++ page_bytes pages h p ∷ []
          pushed = rw (same, crash_pages) refl

          here : (bytes : List ℕ) → page_bytes pages h p ≡ bytes → WasPage pages p g bytes
          here bytes is = subst (λ c. WasPage pages p g c) is now

          either : (bytes : List ℕ) → Contains (crash_pages pages h p) bytes ⊎ (page_bytes pages h p ≡ bytes) → (pages p ≡ bytes) ⊎ WasPage pages p g bytes
          either bytes (inl before) = k.crash bytes before
          either bytes (inr is) = inr (here bytes is)

          after : ((bytes : List ℕ) → Contains (crash_pages pages h p) bytes → WasPage pages p g bytes) → (bytes : List ℕ) → Contains (crash_pages pages h p) bytes ⊎ (page_bytes pages h p ≡ bytes) → WasPage pages p g bytes
          after all bytes (inl before) = all bytes before
          after all bytes (inr is) = here bytes is
      go false other = record {
        crash = λ bytes among. k.crash bytes (subst (λ contents. Contains contents bytes) aside among);
        known = k.known;
        opened = λ t under is.
            let it : record { pass = pass; page = page } ≡ t = same_some _ t under in
            let same : (page == p) ≡ (t.page == p) = ap (λ (v : Transfer). v.page == p) it in
            absurd (cc (other, same, is));
        stored = λ is. let f = k.stored is in record { bytes = f.bytes; known = f.known; was = f.was };
        settles = λ is. let f = k.settles is in record {
          crash = λ bytes among. f.crash bytes (subst (λ contents. Contains contents bytes) aside among);
          known = f.known;
        };
      }
        where
          aside : crash_pages pages (Began pass page ∷ h) p ≡ crash_pages pages h p
          aside = rw (other, crash_pages) refl

  holds-ended : (pass page : ℕ) (how : End) (h : List Effect) → open_of h ≡ Some (record { pass = pass; page = page }) → Holds pages p h g → Holds pages p (Ended pass page how ∷ h) g
  unfolding image begun open_of crash_pages is_stored is_settled
  holds-ended pass page how h under k = go (page == p) refl (ended_ok how) refl
    where
      none : {t : Transfer} → None ≡ Some t → ⊥
      none e = absurd (cc)

      go : (b : Bool) → (page == p) ≡ b → (good : Bool) → ended_ok how ≡ good → Holds pages p (Ended pass page how ∷ h) g
      go false other good ends = record {
        crash = k.crash;
        known = λ bytes is. k.known bytes (sym aside ∙ is);
        opened = λ t opened same. absurd (none opened);
        stored = λ is. let f = k.stored (sym unstored ∙ is) in record { bytes = f.bytes; known = aside ∙ f.known; was = f.was };
        settles = λ is. let f = k.settles is in record { crash = f.crash; known = λ bytes is. f.known bytes (sym aside ∙ is) };
      }
        where
          aside : image pages (Ended pass page how ∷ h) p ≡ image pages h p
          aside = rw (other, image) refl

          unstored : is_stored (Ended pass page how ∷ h) p ≡ is_stored h p
          unstored = rw (other, is_stored) refl
      go true same true ends =
          let f = k.opened (record { pass = pass; page = page }) under same in
          let is_now : image pages (Ended pass page how ∷ h) p ≡ Some (page_bytes pages f.front p) = now f.front f.is in
          record {
            crash = k.crash;
            known = λ bytes is. inr (subst (λ c. WasPage pages p g c) (same_some _ bytes (sym is_now ∙ is)) f.was);
            opened = λ t opened same. absurd (none opened);
            stored = λ is. record { bytes = page_bytes pages f.front p; known = is_now; was = f.was };
            settles = λ is. let s = k.settles is in record { crash = s.crash; known = λ bytes is. subst (λ c. WasPage pages p g c) (same_some _ bytes (sym is_now ∙ is)) f.was };
          }
        where
          now : (front : List Effect) → begun h p ≡ Some front → image pages (Ended pass page how ∷ h) p ≡ Some (page_bytes pages front p)
          now front is = rw (same, ends, is, image) refl
      go true same false ends =
          let f = k.opened (record { pass = pass; page = page }) under same in
          let gone : image pages (Ended pass page how ∷ h) p ≡ None = now f.front f.is in
          record {
            crash = k.crash;
            known = λ bytes is. absurd (lost bytes (sym gone ∙ is));
            opened = λ t opened same. absurd (none opened);
            stored = λ is. absurd (bad (sym unstored ∙ is));
            settles = λ is. let s = k.settles is in record { crash = s.crash; known = λ bytes is. absurd (lost bytes (sym gone ∙ is)) };
          }
        where
          lost : (bytes : List ℕ) → None ≡ Some bytes → ⊥
          lost bytes e = absurd (cc)

          bad : false ≡ true → ⊥
          bad e = absurd (cc)

          unstored : is_stored (Ended pass page how ∷ h) p ≡ false
          unstored = rw (same, ends, is_stored) refl

          now : (front : List Effect) → begun h p ≡ Some front → image pages (Ended pass page how ∷ h) p ≡ None
          now front is = rw (same, ends, is, image) refl

  holds-synced : (pass : ℕ) (how : End) (h : List Effect) → Holds pages p h g → Holds pages p (Synced pass how ∷ h) g
  unfolding image begun open_of crash_pages is_stored is_settled
  holds-synced pass how h k = record {
    crash = λ bytes among. crash (ended_ok how) bytes (image pages h p) refl among;
    known = k.known;
    opened = λ t under same. let f = k.opened t under same in record { front = f.front; is = f.is; was = f.was };
    stored = λ is. let f = k.stored is in record { bytes = f.bytes; known = f.known; was = f.was };
    settles = λ is. all (ended_ok how) refl (is_stored h p) refl is;
  }
    where
      crash : (good : Bool) (bytes : List ℕ) (o : Option (List ℕ)) → image pages h p ≡ o → Contains (settled good o (crash_pages pages h p)) bytes → (pages p ≡ bytes) ⊎ WasPage pages p g bytes
      crash false bytes o is among = k.crash bytes among
      crash true bytes None is among = k.crash bytes among
      crash true bytes (Some found) is among = k.known bytes (is ∙ ap Some (only_one found bytes among))

      fresh : IsWasImage pages p h g → ended_ok how ≡ true → IsWasAll pages p (Synced pass how ∷ h) g
      fresh f good = record {
        crash = λ bytes among. subst (λ c. WasPage pages p g c) (only_one f.bytes bytes (subst (λ contents. Contains contents bytes) alone among)) f.was;
        known = λ bytes is. subst (λ c. WasPage pages p g c) (same_some f.bytes bytes (sym f.known ∙ is)) f.was;
      }
        where
          alone : crash_pages pages (Synced pass how ∷ h) p ≡ f.bytes ∷ []
          alone = rw (good, f.known, crash_pages) refl

      kept : (good : Bool) (bytes : List ℕ) (o : Option (List ℕ)) → image pages h p ≡ o → IsWasAll pages p h g → Contains (settled good o (crash_pages pages h p)) bytes → WasPage pages p g bytes
      kept false bytes o is f among = f.crash bytes among
      kept true bytes None is f among = f.crash bytes among
      kept true bytes (Some found) is f among = f.known bytes (is ∙ ap Some (only_one found bytes among))

      stays : is_settled h p ≡ true → IsWasAll pages p (Synced pass how ∷ h) g
      stays is = let f = k.settles is in record { crash = λ bytes among. kept (ended_ok how) bytes (image pages h p) refl f among; known = f.known }

      all : (good : Bool) → ended_ok how ≡ good → (b : Bool) → is_stored h p ≡ b → is_settled (Synced pass how ∷ h) p ≡ true → IsWasAll pages p (Synced pass how ∷ h) g
      all true good true is settled = fresh (k.stored is) good
      all true good false is settled = stays (ap (λ (b : Bool). (true && b) || is_settled h p) (sym is) ∙ (ap (λ (b : Bool). (b && is_stored h p) || is_settled h p) (sym good) ∙ settled))
      all false good b is settled = stays (ap (λ (b : Bool). (b && is_stored h p) || is_settled h p) (sym good) ∙ settled)

holds-all : (pages : ℕ → List ℕ) (p : ℕ) (h : List Effect) → IsSteady h → Holds pages p h h
unfolding image begun open_of crash_pages is_stored is_settled
holds-all pages p [] steady = record {
  crash = λ bytes among. inl (only_one (pages p) bytes among);
  known = λ bytes is. inl (same_some (pages p) bytes is);
  opened = λ t under same. absurd (cc);
  stored = λ is. absurd (cc);
  settles = λ is. absurd (cc);
}
holds-all pages p (Did pass call reply ∷ h) steady = longer (Did pass call reply) (holds-did pages p h pass call reply h (holds-all pages p h steady.1))
holds-all pages p (CameIn pass page from_disk ∷ h) steady = longer (CameIn pass page from_disk) (holds-came_in pages p h pass page from_disk h (holds-all pages p h steady.1))
holds-all pages p (WentOut pass page ∷ h) steady = longer (WentOut pass page) (holds-went_out pages p h pass page h (holds-all pages p h steady.1))
holds-all pages p (Began pass page ∷ h) steady =
    holds-began pages p (Began pass page ∷ h) pass page h (was-now pages p (Began pass page) h) (longer (Began pass page) (holds-all pages p h steady.1))
holds-all pages p (Ended pass page how ∷ h) steady = longer (Ended pass page how) (holds-ended pages p h pass page how h steady.0 (holds-all pages p h steady.1))
holds-all pages p (Synced pass how ∷ h) steady = longer (Synced pass how) (holds-synced pages p h pass how h (holds-all pages p h steady.1))

-- what a crash may leave of a page, and of one that is settled
pub crash-was : (pages : ℕ → List ℕ) (p : ℕ) (h : List Effect) (bytes : List ℕ) → IsSteady h → Contains (crash_pages pages h p) bytes → (pages p ≡ bytes) ⊎ WasPage pages p h bytes
crash-was pages p h bytes steady among = (holds-all pages p h steady).crash bytes among

pub crash-settled : (pages : ℕ → List ℕ) (p : ℕ) (h : List Effect) (bytes : List ℕ) → IsSteady h → is_settled h p ≡ true → Contains (crash_pages pages h p) bytes → WasPage pages p h bytes
crash-settled pages p h bytes steady is among = ((holds-all pages p h steady).settles is).crash bytes among

-- at a moment of the history the byte was this
pub record WasByteOf (pages : ℕ → List ℕ) (h : List Effect) (i byte : ℕ) : Type 0 where
  pub later : List Effect
  pub before : List Effect
  pub splits : h ≡ later ++ before
  pub was : byte_of pages before i ≡ byte

pub was-byte : (pages : ℕ → List ℕ) (p i : ℕ) (h : List Effect) (bytes : List ℕ) → 4096 * p ≤ i → i < 4096 * p + 4096 → WasPage pages p h bytes → WasByteOf pages h i (slice_index bytes (i - 4096 * p))
was-byte pages p i h bytes low high k = record {
  later = k.later;
  before = k.before;
  splits = k.splits;
  was = sym (page_bytes-at pages k.before p i low high) ∙ ap (λ (l : List ℕ). slice_index l (i - 4096 * p)) k.was;
}

-- a stream whose first initialise made a byte valid had a map
pub first-had : (h : List Effect) → 0 < first_valid h → had_map h ≡ true
unfolding first_valid had_map
first-had [] some = absurd (omega (arith, some))
first-had (Did pass call reply ∷ h) some = go (had_map h) refl (act_of call) refl
  where
    stays : (b : Bool) → had_map (Did pass call reply ∷ h) ≡ b → had_map h ≡ true → had_map (Did pass call reply ∷ h) ≡ true
    stays true is was = is
    stays false never was = let before = had-before pass call reply h never in absurd (cc (before, was))

    nothing : (n : ℕ) → first_valid (Did pass call reply ∷ h) ≡ n → n ≡ 0 → ⊥
    nothing n is zero = omega (arith, some, is, zero)

    go : (b : Bool) → had_map h ≡ b → (a : Act) → act_of call ≡ a → had_map (Did pass call reply ∷ h) ≡ true
    go true was a is = stays (had_map (Did pass call reply ∷ h)) refl was
    go false never (Opens file given quota temporary) is = had_map-opens pass call reply h is
    go false never (Closes file truncate) is = absurd (nothing 0 (rw (never, is, first_valid) refl) refl)
    go false never (Resizes allocation size) is = absurd (nothing 0 (rw (never, is, first_valid) refl) refl)
    go false never (Writes at bytes) is = absurd (nothing 0 (rw (never, is, first_valid) refl) refl)
    go false never (Zeroes from to) is = absurd (nothing 0 (rw (never, is, first_valid) refl) refl)
    go false never (Stores page bytes) is = absurd (nothing 0 (rw (never, is, first_valid) refl) refl)
    go false never (Stamps hold lsn) is = absurd (nothing 0 (rw (never, is, first_valid) refl) refl)
    go false never (Discards span) is = absurd (nothing 0 (rw (never, is, first_valid) refl) refl)
    go false never Looks is = absurd (nothing 0 (rw (never, is, first_valid) refl) refl)
first-had (CameIn pass page from_disk ∷ h) some = first-had h some
first-had (WentOut pass page ∷ h) some = first-had h some
first-had (Began pass page ∷ h) some = first-had h some
first-had (Ended pass page how ∷ h) some = first-had h some
first-had (Synced pass how ∷ h) some = first-had h some

byte-longer : {pages : ℕ → List ℕ} {i byte : ℕ} {h : List Effect} (e : Effect) → WasByteOf pages h i byte → WasByteOf pages (e ∷ h) i byte
byte-longer e k = record { later = e ∷ k.later; before = k.before; splits = ap (λ (l : List Effect). e ∷ l) k.splits; was = k.was }

-- the opening byte was the plain file's as the stream was first initialised, below what that made valid
pub opening-was : (pages : ℕ → List ℕ) (i : ℕ) (h : List Effect) → IsSteady h → had_map h ≡ true → i < first_valid h → WasByteOf pages h i (slice_index (pages (i / 4096)) (i % 4096))
unfolding had_map first_valid
opening-was pages i [] steady had below = absurd (cc)
opening-was pages i (Did pass call reply ∷ h) steady had below = go (had_map h) refl (opening-was pages i h steady.1)
  where
    go : (b : Bool) → had_map h ≡ b → (had_map h ≡ true → i < first_valid h → WasByteOf pages h i (slice_index (pages (i / 4096)) (i % 4096))) → WasByteOf pages (Did pass call reply ∷ h) i (slice_index (pages (i / 4096)) (i % 4096))
    go true was before = byte-longer (Did pass call reply) (before was (subst (λ (n : ℕ). i < n) (first_valid-did pass call reply h was) below))
    go false never before =
        let first = IsFirst-steady h steady.1 never in
        let reached : i < valid_of (Did pass call reply ∷ h) = subst (λ (n : ℕ). i < n) (sym (valid-opened pass call reply h steady.1 never had)) below in
        record {
          later = [];
          before = Did pass call reply ∷ h;
          splits = refl;
          was =
              byte_of-below pages (Did pass call reply ∷ h) i (lt-ltb i (valid_of (Did pass call reply ∷ h)) reached)
              ∙ (content-first pages pass call reply h i steady.0 first ∙ first.opening pages i);
        }
opening-was pages i (CameIn pass page from_disk ∷ h) steady had below = byte-longer (CameIn pass page from_disk) (opening-was pages i h steady.1 had below)
opening-was pages i (WentOut pass page ∷ h) steady had below = byte-longer (WentOut pass page) (opening-was pages i h steady.1 had below)
opening-was pages i (Began pass page ∷ h) steady had below = byte-longer (Began pass page) (opening-was pages i h steady.1 had below)
opening-was pages i (Ended pass page how ∷ h) steady had below = byte-longer (Ended pass page how) (opening-was pages i h steady.1 had below)
opening-was pages i (Synced pass how ∷ h) steady had below = byte-longer (Synced pass how) (opening-was pages i h steady.1 had below)
