-- While a hold is open the valid data length stays at or above each place up to the hold's end that it was at or above: a
-- size step below the hold's end is refused, and the map stays.
use Rattle.std.specs.Prelude.{◌≡◌, ℕ, ◌+◌, ◌≤◌, Bool, true, false, cond, List, [], ◌∷◌, ◌++◌, length, min, max, refl}
use Rattle.std.specs.declared.option.Option.{Option}
use Rattle.std.specs.declared.option.Option.TheVariants.{Some, None}
use Rattle.std.specs.List.{cons_option, list_any}
use Rattle.std.proofs.Common.{sym, subst, arith}
use Rattle.std.proofs.lemmas.Bool.{or_parts}
use Rattle.cc_entry.specs.declared.call.Call.{Call}
use Rattle.cc_entry.specs.declared.entry.Entry.{Entry}
use Rattle.cc_entry.specs.declared.reply.Reply.{Reply}
use Rattle.cc_model.specs.Acts.{Act, act_of, Opens, Closes, Resizes, Writes, Zeroes, Stores, Stamps, Discards, Looks}
use Rattle.cc_model.specs.Good.{IsGoodSoFar}
use Rattle.cc_model.specs.History.{Effect, Did, CameIn, WentOut, Began, Ended, Synced, effect_of, history}
use Rattle.cc_model.specs.Holds.{Hold, hold_at, holds_of}
use Rattle.cc_model.specs.Objects.{objects, truncation}
use Rattle.cc_model.specs.Passes.{is_mine}
use Rattle.cc_model.specs.Setup.{Setup}
use Rattle.cc_model.specs.Sizes.{Sizes, raised, resized_by, stored_range}
use Rattle.cc_model.specs.Touches.{is_mapped, size_of, sizes, valid_of}
use Rattle.cc_effects.specs.Moments.{own}
use Rattle.cc_laws.proofs.HeldObjects.{HoldsAsOpen-good}
use Rattle.cc_laws.proofs.RoomPasts.{IsGoodSoFar-before}
use Rattle.cc_laws.proofs.SizeSteps.{sizes-opens_mapped, sizes-closes, sizes-resizes, sizes-writes, sizes-zeroes, sizes-stores, sizes-stamps, sizes-discards, sizes-looks, sizes-came_in, sizes-went_out, sizes-began, sizes-ended, sizes-synced}
use Rattle.cc_own.specs.Own.{HasHold, IsUnchanged, changes_hold}
use Rattle.cc_own.proofs.HeldPages.{held-within}
use Rattle.cc_own.proofs.OwnHolds.{all-keep}

-- a size step to n or above leaves the valid data length at n or above
resized-kept : (o : Option ℕ) (s : Sizes) (n : ℕ) → n ≤ s.valid → n ≤ (resized_by o s).size → n ≤ (resized_by o s).valid
resized-kept None s n valid size = valid
resized-kept (Some to) s n valid size = both s.valid to valid size
  where
    both : (a b : ℕ) → n ≤ a → n ≤ b → n ≤ min a b
    both a b p q = omega arith

raised-kept : (end : ℕ) (s : Sizes) (n : ℕ) → n ≤ s.valid → n ≤ (raised end s).valid
raised-kept end s n valid = over s.valid end valid
  where
    over : (a b : ℕ) → n ≤ a → n ≤ max a b
    over a b p = omega arith

module _ (n : ℕ) where
  -- what the sizes of a history are by another's
  by-sizes : (h : List Effect) (s : Sizes) → sizes h ≡ s → n ≤ s.valid → n ≤ valid_of h
  by-sizes h s is valid = subst (λ (x : Sizes). n ≤ x.valid) (sym is) valid

  by-step : (o : Option ℕ) (new old : List Effect) → sizes new ≡ resized_by o (sizes old) → n ≤ valid_of old → n ≤ size_of new → n ≤ valid_of new
  by-step o new old is valid size =
      by-sizes new (resized_by o (sizes old)) is (resized-kept o (sizes old) n valid (subst (λ (x : Sizes). n ≤ x.size) is size))

  valid-done : (pass : ℕ) (call : Call) (reply : Reply) (h : List Effect) → is_mapped h ≡ true → n ≤ valid_of h → n ≤ size_of (Did pass call reply ∷ h) → n ≤ valid_of (Did pass call reply ∷ h)
  valid-done pass call reply h mapped valid size = go (act_of call) refl
    where
      go : (a : Act) → act_of call ≡ a → n ≤ valid_of (Did pass call reply ∷ h)
      go (Opens file given quota temporary) is = by-sizes (Did pass call reply ∷ h) (sizes h) (sizes-opens_mapped pass call reply h is mapped) valid
      go (Closes file truncate) is =
          by-step (truncation (objects h) (size_of h) file truncate) (Did pass call reply ∷ h) h (sizes-closes pass call reply h is) valid size
      go (Resizes allocation to) is = by-step (Some to) (Did pass call reply ∷ h) h (sizes-resizes pass call reply h is) valid size
      go (Writes at bytes) is =
          by-sizes (Did pass call reply ∷ h) (raised (at + length bytes) (sizes h)) (sizes-writes pass call reply h is) (raised-kept (at + length bytes) (sizes h) n valid)
      go (Zeroes from to) is = by-sizes (Did pass call reply ∷ h) (raised to (sizes h)) (sizes-zeroes pass call reply h is) (raised-kept to (sizes h) n valid)
      go (Stores page bytes) is =
          by-sizes (Did pass call reply ∷ h) (raised (stored_range page (size_of h)).to (sizes h)) (sizes-stores pass call reply h is)
          (raised-kept (stored_range page (size_of h)).to (sizes h) n valid)
      go (Stamps hold lsn) is = by-sizes (Did pass call reply ∷ h) (sizes h) (sizes-stamps pass call reply h is) valid
      go (Discards span) is = by-sizes (Did pass call reply ∷ h) (sizes h) (sizes-discards pass call reply h is) valid
      go Looks is = by-sizes (Did pass call reply ∷ h) (sizes h) (sizes-looks pass call reply h is) valid

  valid-effect : (e : Effect) (h : List Effect) → is_mapped h ≡ true → n ≤ valid_of h → n ≤ size_of (e ∷ h) → n ≤ valid_of (e ∷ h)
  valid-effect (Did pass call reply) h mapped valid size = valid-done pass call reply h mapped valid size
  valid-effect (CameIn pass page from_disk) h mapped valid size = by-sizes (CameIn pass page from_disk ∷ h) (sizes h) (sizes-came_in pass page from_disk h) valid
  valid-effect (WentOut pass page) h mapped valid size = by-sizes (WentOut pass page ∷ h) (sizes h) (sizes-went_out pass page h) valid
  valid-effect (Began pass page) h mapped valid size = by-sizes (Began pass page ∷ h) (sizes h) (sizes-began pass page h) valid
  valid-effect (Ended pass page how) h mapped valid size = by-sizes (Ended pass page how ∷ h) (sizes h) (sizes-ended pass page how h) valid
  valid-effect (Synced pass how) h mapped valid size = by-sizes (Synced pass how ∷ h) (sizes h) (sizes-synced pass how h) valid

  valid-onto : (o : Option Effect) (h : List Effect) → is_mapped h ≡ true → n ≤ valid_of h → n ≤ size_of (cons_option o h) → n ≤ valid_of (cons_option o h)
  valid-onto None h mapped valid size = valid
  valid-onto (Some e) h mapped valid size = valid-effect e h mapped valid size

  valid-entry : (e : Entry) (past : List Entry) (s : ℕ) → is_mapped (history past s) ≡ true → n ≤ valid_of (history past s) → n ≤ size_of (history (e ∷ past) s) → n ≤ valid_of (history (e ∷ past) s)
  unfolding history
  valid-entry e past s mapped valid size = valid-onto (effect_of e s) (history past s) mapped valid size

-- a stream with an open hold has a map
mapped-by : (h : List Effect) (id : ℕ) (hold : Hold) → (objects h ≡ [] → holds_of h ≡ []) → hold_at (holds_of h) id ≡ Some hold → is_mapped h ≡ true
mapped-by h id hold none found = go (objects h) refl
  where
    go : (opened : List ℕ) → objects h ≡ opened → is_mapped h ≡ true
    go [] is = let free = none is in let closed : hold_at [] id ≡ Some hold = rw free at found in absurd (cc closed)
    go (object ∷ opened) is = rw is refl

module _ (u : Setup) (me s id : ℕ) (hold : Hold) (n : ℕ) (below : n ≤ hold.at + hold.len) where
  valid-over : (during past : List Entry) → IsGoodSoFar u (during ++ past) → list_any (changes_hold id) (own me during) ≡ false → HasHold me s id hold past → n ≤ valid_of (history past s) → n ≤ valid_of (history (during ++ past) s)
  valid-over [] past good none has valid = valid
  valid-over (e ∷ during) past good none has valid =
      let before = IsGoodSoFar-before u (during ++ past) e good in
      let there = all-keep u me s id hold during past before (rest (is_mine me e) none) has in
      let here = all-keep u me s id hold (e ∷ during) past good none has in
      let within = held-within u me s id hold ((e ∷ during) ++ past) good here in
      valid-entry n e (during ++ past) s (mapped-by (history (during ++ past) s) id hold (HoldsAsOpen-good u (during ++ past) s before) there.found)
      (valid-over during past before (rest (is_mine me e) none) has valid) (omega (arith, below, within))
    where
      rest : (b : Bool) → list_any (changes_hold id) (cond b (e ∷ own me during) (own me during)) ≡ false → list_any (changes_hold id) (own me during) ≡ false
      rest true none = (or_parts (changes_hold id e) _ none).1
      rest false none = none

  -- from one moment to another, while no entry of the pass changes its hold
  pub valid-stays : (old new : List Entry) → IsUnchanged me id old new → IsGoodSoFar u new → HasHold me s id hold old → n ≤ valid_of (history old s) → n ≤ valid_of (history new s)
  valid-stays old new is good has valid =
      subst (λ (past : List Entry). n ≤ valid_of (history past s)) (sym is.grew)
      (valid-over is.during old (subst (IsGoodSoFar u) is.grew good) is.unchanged has valid)
