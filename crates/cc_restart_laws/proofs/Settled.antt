-- What a crash may leave of a page that was settled since its stream was initialised: no opening page.
use Rattle.std.specs.Prelude.{◌≡◌, ℕ, Bool, true, false, ◌==◌, ◌&&◌, ◌||◌, List, [], ◌∷◌, Contains, is_some, refl}
use Rattle.std.specs.List.{cons_option}
use Rattle.std.specs.declared.option.Option.{Option}
use Rattle.std.specs.declared.option.Option.TheVariants.{Some, None}
use Rattle.std.proofs.Common.{ap, sym, subst, ◌∙◌, inr}
use Rattle.std.proofs.lemmas.Bool.{and_parts}
use Rattle.cc_entry.specs.declared.entry.End.{End}
use Rattle.cc_entry.specs.declared.entry.Entry.{Entry}
use Rattle.cc_laws.proofs.HistorySteps.{history-effect}
use Rattle.cc_laws.proofs.ImageSteps.{crash_pages-synced_known, image-ended_good, image-ended_other, image-done, image-came_in, image-went_out, image-began, image-synced}
use Rattle.cc_laws.proofs.Steady.{IsSteady}
use Rattle.cc_laws.proofs.SteadyPasts.{IsSteady-good}
use Rattle.cc_model.specs.Bytes.{page_bytes}
use Rattle.cc_model.specs.Good.{IsGoodSoFar}
use Rattle.cc_model.specs.History.{Effect, Did, CameIn, WentOut, Began, Ended, Synced, effect_of, history}
use Rattle.cc_model.specs.Images.{Transfer, begun, image, open_of}
use Rattle.cc_model.specs.Records.{is_settled, is_stored}
use Rattle.cc_model.specs.Setup.{Setup}
use Rattle.cc_model.specs.Sizes.{ended_ok}
use Rattle.cc_restart_laws.proofs.Entries.{IsBegin, good-tail, updated-tail}
use Rattle.cc_restart_laws.proofs.Fronts.{AreBegun, CrashLeaves, IsKnownAs, begun-step, crash-step, known-step, one-alone}
use Rattle.cc_restart_laws.proofs.Walks.{Front, IsFrontOf, begun-front, front-tail}
use Rattle.cc_restart_laws.specs.Updates.{IsUpdated}

clash : true ≡ false → ⊥
clash is = absurd (cc)

-- an open transfer of a page has its begin
record IsBegunSome (h : List Effect) (p : ℕ) : Type 0 where
  front : List Effect
  is : begun h p ≡ Some front

open-begun : (h : List Effect) (t : Transfer) (p : ℕ) → open_of h ≡ Some t → (t.page == p) ≡ true → IsBegunSome h p
unfolding open_of begun
open-begun [] t p is same = absurd (cc)
open-begun (Did pass it reply ∷ h) t p is same = let k = open-begun h t p is same in record { front = k.front; is = k.is }
open-begun (CameIn pass page from_disk ∷ h) t p is same = let k = open-begun h t p is same in record { front = k.front; is = k.is }
open-begun (WentOut pass page ∷ h) t p is same = let k = open-begun h t p is same in record { front = k.front; is = k.is }
open-begun (Began pass page ∷ h) t p is same = record { front = h; is = go (page == p) (ap (λ (x : Transfer). x.page == p) (some-is (record { pass = pass; page = page }) t is) ∙ same) }
  where
    some-is : (a b : Transfer) → Some a ≡ Some b → a ≡ b
    some-is a b is = cc

    go : (b : Bool) → b ≡ true → elim b [ true ↦ Some h | false ↦ begun h p ] ≡ Some h
    go true is = refl
    go false is = absurd (clash (sym is))
open-begun (Ended pass page how ∷ h) t p is same = absurd (cc)
open-begun (Synced pass how ∷ h) t p is same = let k = open-begun h t p is same in record { front = k.front; is = k.is }

module _ (u : Setup) (s log p : ℕ) (whole : List Entry) (pages : ℕ → List ℕ) where
  record IsSettling (h : List Effect) : Type 0 where
    begins : AreBegun (Front u s log p whole) s p h
    stored : is_stored h p ≡ true → IsKnownAs ⊥ (Front u s log p whole) pages s p h × (is_some (image pages h p) ≡ true)
    settled : is_settled h p ≡ true → IsKnownAs ⊥ (Front u s log p whole) pages s p h × CrashLeaves ⊥ (Front u s log p whole) pages s p h

  -- an effect that ends no transfer of the page and syncs nothing
  plain : (e : Entry) (past : List Entry) (x : Effect) → effect_of e s ≡ Some x → ((pass : ℕ) → IsBegin e s pass p → Front u s log p whole past) → is_stored (x ∷ history past s) p ≡ is_stored (history past s) p → is_settled (x ∷ history past s) p ≡ is_settled (history past s) p →
      image pages (x ∷ history past s) p ≡ image pages (history past s) p → IsSettling (history past s) → IsSettling (x ∷ history past s)
  plain e past x effect may stored settled images k = record {
    begins = begun-step ⊥ (Front u s log p whole) pages s p e past may (Some x) effect k.begins;
    stored = λ is. let before = k.stored (sym stored ∙ is) in (known-step ⊥ (Front u s log p whole) pages s p e past (Some x) effect k.begins before.0, ap is_some images ∙ before.1);
    settled = λ is.
        let before = k.settled (sym settled ∙ is) in (
          known-step ⊥ (Front u s log p whole) pages s p e past (Some x) effect k.begins before.0,
          crash-step ⊥ (Front u s log p whole) pages s p e past may (Some x) effect before.0 before.1,
        );
  }

  -- the page's transfer ended well: the image is the page at its begin
  known-good : (pass page : ℕ) (how : End) (h : List Effect) → (page == p) ≡ true → ended_ok how ≡ true → IsBegunSome h p → AreBegun (Front u s log p whole) s p h →
      IsKnownAs ⊥ (Front u s log p whole) pages s p (Ended pass page how ∷ h) × (is_some (image pages (Ended pass page how ∷ h) p) ≡ true)
  known-good pass page how h same good b begins =
      let at = begins b.front b.is in
      let now : image pages (Ended pass page how ∷ h) p ≡ Some (page_bytes pages b.front p) = image-ended_good pages pass page how h b.front p same good b.is in
      (λ bytes is. inr (record { front = at.front; is = some-is bytes (page_bytes pages b.front p) (sym is ∙ now) ∙ ap (λ (g : List Effect). page_bytes pages g p) at.is; said = at.said }), ap is_some now)
    where
      some-is : (a b : List ℕ) → Some a ≡ Some b → a ≡ b
      some-is a b is = cc

  ended : (e : Entry) (past : List Entry) (pass page : ℕ) (how : End) → effect_of e s ≡ Some (Ended pass page how) → ((pass : ℕ) → IsBegin e s pass p → Front u s log p whole past) →
      open_of (history past s) ≡ Some (record { pass = pass; page = page }) → IsSettling (history past s) → IsSettling (Ended pass page how ∷ history past s)
  unfolding is_stored is_settled
  ended e past pass page how effect may opened k = record {
    begins = begun-step ⊥ (Front u s log p whole) pages s p e past may (Some (Ended pass page how)) effect k.begins;
    stored = λ is. stored (page == p) refl (ended_ok how) refl is;
    settled = λ is.
        let before = k.settled is in (
          known-step ⊥ (Front u s log p whole) pages s p e past (Some (Ended pass page how)) effect k.begins before.0,
          crash-step ⊥ (Front u s log p whole) pages s p e past may (Some (Ended pass page how)) effect before.0 before.1,
        );
  }
    where
      stored : (b : Bool) → (page == p) ≡ b → (c : Bool) → ended_ok how ≡ c → elim b [ true ↦ ended_ok how | false ↦ is_stored (history past s) p ] ≡ true →
          IsKnownAs ⊥ (Front u s log p whole) pages s p (Ended pass page how ∷ history past s) × (is_some (image pages (Ended pass page how ∷ history past s) p) ≡ true)
      stored true same true good is = known-good pass page how (history past s) same good (open-begun (history past s) (record { pass = pass; page = page }) p opened same) k.begins
      stored true same false bad is = absurd (clash (sym is ∙ bad))
      stored false other c is_c is =
          let before = k.stored is in
          (known-step ⊥ (Front u s log p whole) pages s p e past (Some (Ended pass page how)) effect k.begins before.0, ap is_some (image-ended_other pages pass page how (history past s) p other) ∙ before.1)

  -- a good sync while the image is from a transfer
  synced-crash : (pass : ℕ) (how : End) (h : List Effect) → ended_ok how ≡ true → IsKnownAs ⊥ (Front u s log p whole) pages s p h → is_some (image pages h p) ≡ true → CrashLeaves ⊥ (Front u s log p whole) pages s p (Synced pass how ∷ h)
  synced-crash pass how h good known some = go (image pages h p) refl some
    where
      go : (o : Option (List ℕ)) → image pages h p ≡ o → is_some o ≡ true → CrashLeaves ⊥ (Front u s log p whole) pages s p (Synced pass how ∷ h)
      go None is none bytes among = absurd (cc)
      go (Some only) is _ bytes among =
          known bytes (is ∙ ap (λ (l : List ℕ). Some l) (one-alone ⊥ (Front u s log p whole) pages s p only bytes
          (subst (λ (l : List (List ℕ)). Contains l bytes) (crash_pages-synced_known pages pass how h p only good is) among)))

  synced : (e : Entry) (past : List Entry) (pass : ℕ) (how : End) → effect_of e s ≡ Some (Synced pass how) → ((pass : ℕ) → IsBegin e s pass p → Front u s log p whole past) → IsSettling (history past s) → IsSettling (Synced pass how ∷ history past s)
  unfolding is_stored is_settled
  synced e past pass how effect may k = record {
    begins = begun-step ⊥ (Front u s log p whole) pages s p e past may (Some (Synced pass how)) effect k.begins;
    stored = λ is.
        let before = k.stored is in
        (known-step ⊥ (Front u s log p whole) pages s p e past (Some (Synced pass how)) effect k.begins before.0, ap is_some (image-synced pages pass how (history past s) p) ∙ before.1);
    settled = λ is. settled (ended_ok how && is_stored (history past s) p) refl is;
  }
    where
      settled : (b : Bool) → (ended_ok how && is_stored (history past s) p) ≡ b → (b || is_settled (history past s) p) ≡ true →
          IsKnownAs ⊥ (Front u s log p whole) pages s p (Synced pass how ∷ history past s) × CrashLeaves ⊥ (Front u s log p whole) pages s p (Synced pass how ∷ history past s)
      settled true both is =
          let parts = and_parts (ended_ok how) (is_stored (history past s) p) both in
          let before = k.stored parts.1 in
          (known-step ⊥ (Front u s log p whole) pages s p e past (Some (Synced pass how)) effect k.begins before.0, synced-crash pass how (history past s) parts.0 before.0 before.1)
      settled false neither is =
          let before = k.settled is in (
            known-step ⊥ (Front u s log p whole) pages s p e past (Some (Synced pass how)) effect k.begins before.0,
            crash-step ⊥ (Front u s log p whole) pages s p e past may (Some (Synced pass how)) effect before.0 before.1,
          )

  step : (e : Entry) (past : List Entry) (o : Option Effect) → effect_of e s ≡ o → IsGoodSoFar u (e ∷ past) → ((pass : ℕ) → IsBegin e s pass p → Front u s log p whole past) → IsSettling (history past s) → IsSettling (cons_option o (history past s))
  unfolding is_stored is_settled
  step e past None effect good may k = k
  step e past (Some (Did pass it reply)) effect good may k = plain e past (Did pass it reply) effect may refl refl (image-done pages pass it reply (history past s) p) k
  step e past (Some (CameIn pass page from_disk)) effect good may k = plain e past (CameIn pass page from_disk) effect may refl refl (image-came_in pages pass page from_disk (history past s) p) k
  step e past (Some (WentOut pass page)) effect good may k = plain e past (WentOut pass page) effect may refl refl (image-went_out pages pass page (history past s) p) k
  step e past (Some (Began pass page)) effect good may k = plain e past (Began pass page) effect may refl refl (image-began pages pass page (history past s) p) k
  step e past (Some (Ended pass page how)) effect good may k =
      let steady : IsSteady (Ended pass page how ∷ history past s) = subst (λ (h : List Effect). IsSteady h) (history-effect e past s (Some (Ended pass page how)) effect) (IsSteady-good u (e ∷ past) s good) in
      ended e past pass page how effect may steady.0 k
  step e past (Some (Synced pass how)) effect good may k = synced e past pass how effect may k

  begun-none : IsSettling (history [] s)
  unfolding history begun is_stored is_settled
  begun-none = record { begins = λ f is. absurd (none f is); stored = λ is. absurd (clash (sym is)); settled = λ is. absurd (clash (sym is)) }
    where
      none : (f : List Effect) → None ≡ Some f → ⊥
      none f is = cc

  settling : (past : List Entry) → IsGoodSoFar u past → IsUpdated s log past → IsFrontOf whole past → IsSettling (history past s)
  settling [] good updated within = begun-none
  settling (e ∷ past) good updated within =
      let before = front-tail whole e past within in
      subst (λ (h : List Effect). IsSettling h) (sym (history-effect e past s (effect_of e s) refl))
      (step e past (effect_of e s) refl good (begun-front u s log p whole e past good updated before) (settling past (good-tail u e past good) (updated-tail s log e past updated) before))

  pub settled-leaves : IsGoodSoFar u whole → IsUpdated s log whole → is_settled (history whole s) p ≡ true → CrashLeaves ⊥ (Front u s log p whole) pages s p (history whole s)
  settled-leaves good updated is = ((settling whole good updated ([], refl)).settled is).1
