-- What a crash may leave of a page: the opening page, or the page at the begin of a transfer; and what is said of each such begin.
use Rattle.std.specs.Prelude.{◌≡◌, ℕ, ◌⊎◌, Bool, true, false, ◌==◌, List, [], ◌∷◌, Contains, refl}
use Rattle.std.specs.List.{cons_option}
use Rattle.std.specs.declared.option.Option.{Option}
use Rattle.std.specs.declared.option.Option.TheVariants.{Some, None}
use Rattle.std.proofs.Common.{ap, sym, subst, ◌∙◌, inl, inr, arith}
use Rattle.std.proofs.lemmas.Bool.{eqb-true}
use Rattle.std.proofs.lemmas.List.Elements.{Contains-push_cases}
use Rattle.cc_entry.specs.declared.entry.Entry.{Entry}
use Rattle.cc_entry.specs.declared.entry.Entry.TheVariants as entry
use Rattle.cc_entry.specs.declared.reply.Outcome.TheVariants as outcome
use Rattle.cc_laws.proofs.ImageSteps.{begun-done, begun-came_in, begun-went_out, begun-began_page, begun-began_other, begun-ended, begun-synced, image-done, image-came_in, image-went_out, image-began, image-ended_page, image-ended_other, image-synced, crash_pages-done, crash_pages-came_in, crash_pages-went_out, crash_pages-began_page, crash_pages-began_other, crash_pages-ended, crash_pages-synced}
use Rattle.cc_laws.proofs.TouchSteps.{touches-came_in, touches-went_out, touches-synced, touches-began_open, touches-began_other, touches-ended_after, touches-ended_other}
use Rattle.cc_model.specs.Bytes.{page_bytes}
use Rattle.cc_model.specs.Good.{IsGoodSoFar}
use Rattle.cc_model.specs.History.{Effect, Did, CameIn, WentOut, Began, Ended, Synced, effect_of, history}
use Rattle.cc_model.specs.Images.{begun, crash_pages, image, image_after, settled}
use Rattle.cc_model.specs.Setup.{Setup}
use Rattle.cc_model.specs.Sizes.{ended_ok}
use Rattle.cc_model.specs.Touches.{touches}
use Rattle.cc_restart_laws.proofs.Entries.{IsBegin, began-entry, did-entry}
use Rattle.cc_restart_laws.proofs.Stamped.{has_stamp, stamp-did, stamp-open}
use Rattle.cc_restart_laws.specs.Updates.{IsUpdated}

-- a page as it stood at a front of which something is said
pub record IsWrittenAt (B : List Entry → Type 0) (pages : ℕ → List ℕ) (s p : ℕ) (bytes : List ℕ) : Type 0 where
  pub front : List Entry
  pub is : bytes ≡ page_bytes pages (history front s) p
  pub said : B front

-- the opening page, where that may be, or so
abbrev pub IsLeft : Type 0 → (List Entry → Type 0) → (ℕ → List ℕ) → ℕ → ℕ → List ℕ → Type 0
IsLeft O B pages s p bytes = (O × (bytes ≡ pages p)) ⊎ IsWrittenAt B pages s p bytes

pub record IsBegunAt (B : List Entry → Type 0) (s : ℕ) (f : List Effect) : Type 0 where
  pub front : List Entry
  pub is : f ≡ history front s
  pub said : B front

abbrev pub AreBegun : (List Entry → Type 0) → ℕ → ℕ → List Effect → Type 0
AreBegun B s p h = (f : List Effect) → begun h p ≡ Some f → IsBegunAt B s f

abbrev pub IsKnownAs : Type 0 → (List Entry → Type 0) → (ℕ → List ℕ) → ℕ → ℕ → List Effect → Type 0
IsKnownAs O B pages s p h = (bytes : List ℕ) → image pages h p ≡ Some bytes → IsLeft O B pages s p bytes

abbrev pub CrashLeaves : Type 0 → (List Entry → Type 0) → (ℕ → List ℕ) → ℕ → ℕ → List Effect → Type 0
CrashLeaves O B pages s p h = (bytes : List ℕ) → Contains (crash_pages pages h p) bytes → IsLeft O B pages s p bytes

some-is : {A : Type 0} (a b : A) → Some a ≡ Some b → a ≡ b
some-is a b is = cc

some-none : {A : Type 0} (b : A) → None ≡ Some b → ⊥
some-none b is = cc

module _ (O : Type 0) (B : List Entry → Type 0) (pages : ℕ → List ℕ) (s p : ℕ) where
  same-begun : (h now : List Effect) → begun now p ≡ begun h p → AreBegun B s p h → AreBegun B s p now
  same-begun h now same k f is = k f (sym same ∙ is)

  same-known : (h now : List Effect) → image pages now p ≡ image pages h p → IsKnownAs O B pages s p h → IsKnownAs O B pages s p now
  same-known h now same k bytes is = k bytes (sym same ∙ is)

  same-crash : (h now : List Effect) → crash_pages pages now p ≡ crash_pages pages h p → CrashLeaves O B pages s p h → CrashLeaves O B pages s p now
  same-crash h now same k bytes among = k bytes (subst (λ (l : List (List ℕ)). Contains l bytes) same among)

  -- what is said of the begin of the page's transfer that an entry is
  abbrev pub MayBeginAs : Entry → List Entry → Type 0
  MayBeginAs e past = (pass : ℕ) → IsBegin e s pass p → B past

  pub begun-step : (e : Entry) (past : List Entry) → MayBeginAs e past → (o : Option Effect) → effect_of e s ≡ o → AreBegun B s p (history past s) → AreBegun B s p (cons_option o (history past s))
  begun-step e past may None effect k = k
  begun-step e past may (Some (Did pass it reply)) effect k = same-begun _ _ (begun-done pass it reply (history past s) p) k
  begun-step e past may (Some (CameIn pass page from_disk)) effect k = same-begun _ _ (begun-came_in pass page from_disk (history past s) p) k
  begun-step e past may (Some (WentOut pass page)) effect k = same-begun _ _ (begun-went_out pass page (history past s) p) k
  begun-step e past may (Some (Began pass page)) effect k = go (page == p) refl
    where
      go : (b : Bool) → (page == p) ≡ b → AreBegun B s p (Began pass page ∷ history past s)
      go true same f is = record {
        front = past;
        is = some-is f (history past s) (sym is ∙ begun-began_page pass page (history past s) p same);
        said = may pass (began-entry e s pass p (effect ∙ ap (λ (n : ℕ). Some (Began pass n)) (eqb-true page p same)));
      }
      go false other f is = same-begun _ _ (begun-began_other pass page (history past s) p other) k f is
  begun-step e past may (Some (Ended pass page how)) effect k = same-begun _ _ (begun-ended pass page how (history past s) p) k
  begun-step e past may (Some (Synced pass how)) effect k = same-begun _ _ (begun-synced pass how (history past s) p) k

  ended-known : (h : List Effect) (o : Option (List Effect)) (good : Bool) (old : Option (List ℕ)) → begun h p ≡ o → AreBegun B s p h → ((bytes : List ℕ) → old ≡ Some bytes → IsLeft O B pages s p bytes) → (bytes : List ℕ) →
      image_after pages p o good old ≡ Some bytes → IsLeft O B pages s p bytes
  ended-known h None good old is k known bytes after = known bytes after
  ended-known h (Some f) false old is k known bytes after = absurd (some-none bytes after)
  ended-known h (Some f) true old is k known bytes after =
      let at = k f is in
      inr (record { front = at.front; is = sym (some-is (page_bytes pages f p) bytes after) ∙ ap (λ (g : List Effect). page_bytes pages g p) at.is; said = at.said })

  pub known-step : (e : Entry) (past : List Entry) → (o : Option Effect) → effect_of e s ≡ o → AreBegun B s p (history past s) → IsKnownAs O B pages s p (history past s) → IsKnownAs O B pages s p (cons_option o (history past s))
  known-step e past None effect begins k = k
  known-step e past (Some (Did pass it reply)) effect begins k = same-known _ _ (image-done pages pass it reply (history past s) p) k
  known-step e past (Some (CameIn pass page from_disk)) effect begins k = same-known _ _ (image-came_in pages pass page from_disk (history past s) p) k
  known-step e past (Some (WentOut pass page)) effect begins k = same-known _ _ (image-went_out pages pass page (history past s) p) k
  known-step e past (Some (Began pass page)) effect begins k = same-known _ _ (image-began pages pass page (history past s) p) k
  known-step e past (Some (Ended pass page how)) effect begins k = go (page == p) refl
    where
      go : (b : Bool) → (page == p) ≡ b → IsKnownAs O B pages s p (Ended pass page how ∷ history past s)
      go true same bytes is =
          ended-known (history past s) (begun (history past s) p) (ended_ok how) (image pages (history past s) p) refl begins k bytes
          (sym (image-ended_page pages pass page how (history past s) p same) ∙ is)
      go false other bytes is = same-known _ _ (image-ended_other pages pass page how (history past s) p other) k bytes is
  known-step e past (Some (Synced pass how)) effect begins k = same-known _ _ (image-synced pages pass how (history past s) p) k

  pub one-alone : (only bytes : List ℕ) → Contains (only ∷ []) bytes → only ≡ bytes
  one-alone only bytes among = go (Contains-push_cases [] only bytes among)
    where
      go : Contains [] bytes ⊎ (only ≡ bytes) → only ≡ bytes
      go (inl none) = absurd (omega (arith, none.1))
      go (inr is) = is

  settled-left : (good : Bool) (o : Option (List ℕ)) (contents : List (List ℕ)) → ((bytes : List ℕ) → o ≡ Some bytes → IsLeft O B pages s p bytes) → ((bytes : List ℕ) → Contains contents bytes → IsLeft O B pages s p bytes) →
      (bytes : List ℕ) → Contains (settled good o contents) bytes → IsLeft O B pages s p bytes
  settled-left false o contents known k bytes among = k bytes among
  settled-left true None contents known k bytes among = k bytes among
  settled-left true (Some only) contents known k bytes among = known bytes (ap (λ (l : List ℕ). Some l) (one-alone only bytes among))

  pub crash-step : (e : Entry) (past : List Entry) → MayBeginAs e past → (o : Option Effect) → effect_of e s ≡ o → IsKnownAs O B pages s p (history past s) → CrashLeaves O B pages s p (history past s) →
      CrashLeaves O B pages s p (cons_option o (history past s))
  crash-step e past may None effect known k = k
  crash-step e past may (Some (Did pass it reply)) effect known k = same-crash _ _ (crash_pages-done pages pass it reply (history past s) p) k
  crash-step e past may (Some (CameIn pass page from_disk)) effect known k = same-crash _ _ (crash_pages-came_in pages pass page from_disk (history past s) p) k
  crash-step e past may (Some (WentOut pass page)) effect known k = same-crash _ _ (crash_pages-went_out pages pass page (history past s) p) k
  crash-step e past may (Some (Began pass page)) effect known k = go (page == p) refl
    where
      either : (page == p) ≡ true → (bytes : List ℕ) → Contains (crash_pages pages (history past s) p) bytes ⊎ (page_bytes pages (history past s) p ≡ bytes) → IsLeft O B pages s p bytes
      either same bytes (inl among) = k bytes among
      either same bytes (inr is) = inr (record {
        front = past;
        is = sym is;
        said = may pass (began-entry e s pass p (effect ∙ ap (λ (n : ℕ). Some (Began pass n)) (eqb-true page p same)));
      })

      go : (b : Bool) → (page == p) ≡ b → CrashLeaves O B pages s p (Began pass page ∷ history past s)
      go true same bytes among =
          either same bytes
          (Contains-push_cases (crash_pages pages (history past s) p) (page_bytes pages (history past s) p) bytes
          (subst (λ (l : List (List ℕ)). Contains l bytes) (crash_pages-began_page pages pass page (history past s) p same) among))
      go false other bytes among = same-crash _ _ (crash_pages-began_other pages pass page (history past s) p other) k bytes among
  crash-step e past may (Some (Ended pass page how)) effect known k = same-crash _ _ (crash_pages-ended pages pass page how (history past s) p) k
  crash-step e past may (Some (Synced pass how)) effect known k = λ bytes among.
      settled-left (ended_ok how) (image pages (history past s) p) (crash_pages pages (history past s) p) known k bytes
      (subst (λ (l : List (List ℕ)). Contains l bytes) (crash_pages-synced pages pass how (history past s) p) among)

  -- ---- from a stamp on

  -- behind a begin of which something is said, the stamp of LSN n is left or the image is from such a begin
  pub record IsBegunSince (n : ℕ) (h : List Effect) : Type 0 where
    pub front : List Entry
    pub is : begun h p ≡ Some (history front s)
    pub said : B front
    pub left : (has_stamp n (touches false h p) ≡ true) ⊎ IsKnownAs O B pages s p h

  abbrev pub IsSince : ℕ → List Effect → Type 0
  IsSince n h = (has_stamp n (touches true h p) ≡ true) ⊎ IsBegunSince n h

  same-since : (n : ℕ) (h now : List Effect) → begun now p ≡ begun h p → (has_stamp n (touches false h p) ≡ true → has_stamp n (touches false now p) ≡ true) → image pages now p ≡ image pages h p → IsBegunSince n h → IsBegunSince n now
  same-since n h now begins stamps images k = record { front = k.front; is = begins ∙ k.is; said = k.said; left = go k.left }
    where
      go : (has_stamp n (touches false h p) ≡ true) ⊎ IsKnownAs O B pages s p h → (has_stamp n (touches false now p) ≡ true) ⊎ IsKnownAs O B pages s p now
      go (inl stamped) = inl (stamps stamped)
      go (inr known) = inr (same-known h now images known)

  through-both : (n : ℕ) (h now : List Effect) → begun now p ≡ begun h p → (has_stamp n (touches true h p) ≡ true → has_stamp n (touches true now p) ≡ true) →
      (has_stamp n (touches false h p) ≡ true → has_stamp n (touches false now p) ≡ true) → image pages now p ≡ image pages h p → IsSince n h → IsSince n now
  through-both n h now begins closed opened images (inl stamped) = inl (closed stamped)
  through-both n h now begins closed opened images (inr k) = inr (same-since n h now begins opened images k)

  pub since-step : (u : Setup) (log n : ℕ) (e : Entry) (past : List Entry) → IsGoodSoFar u (e ∷ past) → IsUpdated s log (e ∷ past) → MayBeginAs e past → (o : Option Effect) → effect_of e s ≡ o → IsSince n (history past s) →
      IsSince n (cons_option o (history past s))
  since-step u log n e past good updated may None effect k = k
  since-step u log n e past good updated may (Some (Did pass it reply)) effect k =
      let call = did-entry e s pass it reply effect in
      let sound : IsGoodSoFar u (entry.Call pass call.nth (Some s) it (outcome.Done reply) ∷ past) = subst (λ (x : Entry). IsGoodSoFar u (x ∷ past)) call.is good in
      let right : IsUpdated s log (entry.Call pass call.nth (Some s) it (outcome.Done reply) ∷ past) = subst (λ (x : Entry). IsUpdated s log (x ∷ past)) call.is updated in
      through-both n _ _ (begun-done pass it reply (history past s) p)
      (stamp-did u s log past pass call.nth it reply sound right true n p) (stamp-did u s log past pass call.nth it reply sound right false n p)
      (image-done pages pass it reply (history past s) p) k
  since-step u log n e past good updated may (Some (CameIn pass page from_disk)) effect k =
      through-both n _ _ (begun-came_in pass page from_disk (history past s) p)
      (λ is. ap (has_stamp n) (touches-came_in true pass page from_disk (history past s) p) ∙ is) (λ is. ap (has_stamp n) (touches-came_in false pass page from_disk (history past s) p) ∙ is)
      (image-came_in pages pass page from_disk (history past s) p) k
  since-step u log n e past good updated may (Some (WentOut pass page)) effect k =
      through-both n _ _ (begun-went_out pass page (history past s) p)
      (λ is. ap (has_stamp n) (touches-went_out true pass page (history past s) p) ∙ is) (λ is. ap (has_stamp n) (touches-went_out false pass page (history past s) p) ∙ is)
      (image-went_out pages pass page (history past s) p) k
  since-step u log n e past good updated may (Some (Began pass page)) effect k = go (page == p) refl k
    where
      left-open : IsSince n (history past s) → (has_stamp n (touches false (Began pass page ∷ history past s) p) ≡ true) ⊎ IsKnownAs O B pages s p (Began pass page ∷ history past s)
      left-open (inl stamped) = inl (ap (has_stamp n) (touches-began_open pass page (history past s) p) ∙ stamp-open n (history past s) p stamped)
      left-open (inr k) = either k.left
        where
          either : (has_stamp n (touches false (history past s) p) ≡ true) ⊎ IsKnownAs O B pages s p (history past s) →
              (has_stamp n (touches false (Began pass page ∷ history past s) p) ≡ true) ⊎ IsKnownAs O B pages s p (Began pass page ∷ history past s)
          either (inl stamped) = inl (ap (has_stamp n) (touches-began_open pass page (history past s) p) ∙ stamped)
          either (inr known) = inr (same-known _ _ (image-began pages pass page (history past s) p) known)

      go : (b : Bool) → (page == p) ≡ b → IsSince n (history past s) → IsSince n (Began pass page ∷ history past s)
      go true same k = inr (record {
        front = past;
        is = begun-began_page pass page (history past s) p same;
        said = may pass (began-entry e s pass p (effect ∙ ap (λ (m : ℕ). Some (Began pass m)) (eqb-true page p same)));
        left = left-open k;
      })
      go false other k =
          through-both n _ _ (begun-began_other pass page (history past s) p other)
          (λ is. ap (has_stamp n) (touches-began_other true pass page (history past s) p other) ∙ is) (λ is. ap (has_stamp n) (touches-began_open pass page (history past s) p) ∙ is)
          (image-began pages pass page (history past s) p) k
  since-step u log n e past good updated may (Some (Ended pass page how)) effect k = go (page == p) refl k
    where
      begins : (k : IsBegunSince n (history past s)) → AreBegun B s p (history past s)
      begins k f is = record { front = k.front; is = some-is f (history k.front s) (sym is ∙ k.is); said = k.said }

      known-now : (page == p) ≡ true → ended_ok how ≡ true → IsBegunSince n (history past s) → IsKnownAs O B pages s p (Ended pass page how ∷ history past s)
      known-now same good k bytes is =
          let after : image_after pages p (Some (history k.front s)) true (image pages (history past s) p) ≡ Some bytes =
          ap (λ (o : Option (List Effect)). image_after pages p o true (image pages (history past s) p)) (sym k.is)
          ∙ (ap (λ (b : Bool). image_after pages p (begun (history past s) p) b (image pages (history past s) p)) (sym good)
          ∙ (sym (image-ended_page pages pass page how (history past s) p same) ∙ is)) in
          inr (record { front = k.front; is = sym (some-is (page_bytes pages (history k.front s) p) bytes after); said = k.said })

      bad-now : (page == p) ≡ true → ended_ok how ≡ false → IsBegunSince n (history past s) → IsKnownAs O B pages s p (Ended pass page how ∷ history past s)
      bad-now same bad k bytes is =
          let after : image_after pages p (Some (history k.front s)) false (image pages (history past s) p) ≡ Some bytes =
          ap (λ (o : Option (List Effect)). image_after pages p o false (image pages (history past s) p)) (sym k.is)
          ∙ (ap (λ (b : Bool). image_after pages p (begun (history past s) p) b (image pages (history past s) p)) (sym bad)
          ∙ (sym (image-ended_page pages pass page how (history past s) p same) ∙ is)) in
          absurd (some-none bytes after)

      ended : (k : IsBegunSince n (history past s)) → IsKnownAs O B pages s p (Ended pass page how ∷ history past s) → IsBegunSince n (Ended pass page how ∷ history past s)
      ended k known = record { front = k.front; is = begun-ended pass page how (history past s) p ∙ k.is; said = k.said; left = inr known }

      closed : has_stamp n (touches true (history past s) p) ≡ true → has_stamp n (touches true (Ended pass page how ∷ history past s) p) ≡ true
      closed is = ap (has_stamp n) (touches-ended_after pass page how (history past s) p) ∙ is

      here : (page == p) ≡ true → (c : Bool) → ended_ok how ≡ c → IsSince n (history past s) → IsSince n (Ended pass page how ∷ history past s)
      here same c is_c (inl stamped) = inl (closed stamped)
      here same true good (inr k) = inr (ended k (known-now same good k))
      here same false bad (inr k) = inr (ended k (bad-now same bad k))

      go : (b : Bool) → (page == p) ≡ b → IsSince n (history past s) → IsSince n (Ended pass page how ∷ history past s)
      go true same k = here same (ended_ok how) refl k
      go false other k =
          through-both n _ _ (begun-ended pass page how (history past s) p) closed
          (λ is. ap (has_stamp n) (touches-ended_other false pass page how (history past s) p other) ∙ is) (image-ended_other pages pass page how (history past s) p other) k
  since-step u log n e past good updated may (Some (Synced pass how)) effect k =
      through-both n _ _ (begun-synced pass how (history past s) p)
      (λ is. ap (has_stamp n) (touches-synced true pass how (history past s) p) ∙ is) (λ is. ap (has_stamp n) (touches-synced false pass how (history past s) p) ∙ is)
      (image-synced pages pass how (history past s) p) k
