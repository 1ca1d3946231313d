-- A hold is open only while an object is, and ends within the size, with its pages resident.
use Rattle.std.specs.Prelude.{◌≡◌, ℕ, ◌+◌, Bool, true, false, ◌||◌, ◌==◌, nat_lt, List, [], ◌∷◌, cond, refl}
use Rattle.std.specs.declared.option.Option.{Option}
use Rattle.std.specs.declared.option.Option.TheVariants.{Some, None}
use Rattle.std.specs.List.{list_any, filter}
use Rattle.std.proofs.Common.{ap, ◌∙◌}
use Rattle.std.proofs.lemmas.Bool.{or_from, or_parts}
use Rattle.cc_entry.specs.declared.call.Call.{Call}
use Rattle.cc_entry.specs.declared.call.Call.TheVariants as call
use Rattle.cc_entry.specs.declared.reply.Reply.{Reply}
use Rattle.cc_entry.specs.Pages.{has_page}
use Rattle.cc_model.specs.Numbers.{is_empty}
use Rattle.cc_model.specs.History.{Effect, Did, CameIn, WentOut, Began, Ended, Synced}
use Rattle.cc_model.specs.Acts.{Act, act_of, Opens, Closes, Resizes, Writes, Zeroes, Stores, Stamps, Discards, Looks}
use Rattle.cc_model.specs.Objects.{objects}
use Rattle.cc_model.specs.Holds.{Hold, hold_at, changed_at, repinned, id_of, held_after, holds_of}
use Rattle.cc_model.specs.Touches.{size_of}
use Rattle.cc_model.specs.Residency.{is_resident}
use Rattle.cc_laws.proofs.HoldSteps.{changes_holds, holds_of-done, holds_of-other, holds_of-came_in, holds_of-went_out, holds_of-began, holds_of-ended, holds_of-synced}
use Rattle.cc_laws.proofs.ObjectSteps.{objects-opens, objects-closes, objects-resizes, objects-writes, objects-zeroes, objects-stores, objects-stamps, objects-discards, objects-looks, objects-came_in, objects-went_out, objects-began, objects-ended, objects-synced}
use Rattle.cc_laws.proofs.Lists1.{any-found}
use Rattle.cc_laws.proofs.SafeHistory.{MayHold, IsHoldSafe, IsSafe}

-- what a test of ranges says of the range of the hold that a call makes
abbrev pub IsNewClear : (ℕ → ℕ → Bool) → Call → Type 0
IsNewClear test (call.Map file at len) = test at len ≡ false
IsNewClear test (call.PinRead file at len exclusive) = test at len ≡ false
IsNewClear test (call.PreparePin file at len zero exclusive) = test at len ≡ false
IsNewClear test (call.MdlRead file at len) = test at len ≡ false
IsNewClear test (call.MdlWrite file at len) = test at len ≡ false
IsNewClear test other = Unit {0}

changed-clear : (test : ℕ → ℕ → Bool) (id : ℕ) (change : Hold → Hold) (holds : List Hold) → ((hold : Hold) → test (change hold).at (change hold).len ≡ test hold.at hold.len) → list_any (λ hold. test hold.at hold.len) (changed_at id change holds) ≡ list_any (λ hold. test hold.at hold.len) holds
changed-clear test id change [] same = refl
changed-clear test id change (hold ∷ holds) same = go (hold.id == id) (changed-clear test id change holds same)
  where
    here : (t : Bool) → (let it : Hold = cond t (change hold) hold in test it.at it.len) ≡ test hold.at hold.len
    here true = same hold
    here false = refl

    go : (t : Bool) → list_any (λ it. test it.at it.len) (changed_at id change holds) ≡ list_any (λ it. test it.at it.len) holds → ((let it : Hold = cond t (change hold) hold in test it.at it.len) || list_any (λ it. test it.at it.len) (changed_at id change holds)) ≡ (test hold.at hold.len || list_any (λ it. test it.at it.len) holds)
    go t rest = rw (here t, rest) refl

ended-clear : (test : Hold → Bool) (kept : Hold → Bool) (holds : List Hold) → list_any test holds ≡ false → list_any test (filter kept holds) ≡ false
ended-clear test kept [] clear = refl
ended-clear test kept (hold ∷ holds) clear = go (kept hold) (ended-clear test kept holds (or_parts (test hold) _ clear).1)
  where
    go : (t : Bool) → list_any test (filter kept holds) ≡ false → list_any test (cond t (hold ∷ filter kept holds) (filter kept holds)) ≡ false
    go true rest = or_from _ _ (or_parts (test hold) _ clear).0 rest
    go false rest = rest

repinned-clear : (test : ℕ → ℕ → Bool) (id pass hold : ℕ) (holds : List Hold) → list_any (λ it. test it.at it.len) holds ≡ false → list_any (λ it. test it.at it.len) (repinned id pass (hold_at holds hold) holds) ≡ false
repinned-clear test id pass hold holds clear = go (hold_at holds hold) refl
  where
    go : (o : Option Hold) → hold_at holds hold ≡ o → list_any (λ it. test it.at it.len) (repinned id pass o holds) ≡ false
    go None found = clear
    go (Some it) found = or_from _ _ (there (test it.at it.len) refl) clear
      where
        there : (t : Bool) → test it.at it.len ≡ t → test it.at it.len ≡ false
        there true is = absurd (cc (any-found (λ x. x.id == hold) (λ x. test x.at x.len) holds it found is))
        there false is = is

-- a test that fails for each open hold, and for the range of a new one, fails for each after the call
pub holds-clear : (test : ℕ → ℕ → Bool) (pass : ℕ) (call : Call) (id : ℕ) (holds : List Hold) → list_any (λ hold. test hold.at hold.len) holds ≡ false → IsNewClear test call → list_any (λ hold. test hold.at hold.len) (held_after pass call id holds) ≡ false
holds-clear test pass (call.Map file at len) id holds clear new = or_from _ _ new clear
holds-clear test pass (call.PinRead file at len exclusive) id holds clear new = or_from _ _ new clear
holds-clear test pass (call.PinMapped hold exclusive) id holds clear new = changed-clear test hold _ holds (λ it. refl) ∙ clear
holds-clear test pass (call.PreparePin file at len true exclusive) id holds clear new = or_from _ _ new clear
holds-clear test pass (call.PreparePin file at len false exclusive) id holds clear new = or_from _ _ new clear
holds-clear test pass (call.PinnedWrite hold at bytes) id holds clear new = changed-clear test hold _ holds (λ it. refl) ∙ clear
holds-clear test pass (call.SetDirty hold lsn) id holds clear new = changed-clear test hold _ holds (λ it. refl) ∙ clear
holds-clear test pass (call.EndHold hold) id holds clear new = ended-clear (λ it. test it.at it.len) _ holds clear
holds-clear test pass (call.Repin hold) id holds clear new = repinned-clear test id pass hold holds clear
holds-clear test pass (call.MdlRead file at len) id holds clear new = or_from _ _ new clear
holds-clear test pass (call.MdlWrite file at len) id holds clear new = or_from _ _ new clear
holds-clear test pass other id holds clear new = clear

-- whether an act makes no hold, as far as it goes by the act
abbrev pub is_still : Act → Bool
is_still (Opens file sizes quota temporary) = true
is_still (Closes file truncate) = true
is_still (Resizes allocation size) = true
is_still (Stores page bytes) = true
is_still (Writes at bytes) = false
is_still (Zeroes from to) = false
is_still (Stamps hold lsn) = false
is_still (Discards span) = true
is_still Looks = false

still-unchanged : (call : Call) → is_still (act_of call) ≡ true → changes_holds call ≡ false
still-unchanged (call.Map file at len) still = absurd (cc)
still-unchanged (call.PinRead file at len exclusive) still = absurd (cc)
still-unchanged (call.PinMapped hold exclusive) still = absurd (cc)
still-unchanged (call.PreparePin file at len true exclusive) still = absurd (cc)
still-unchanged (call.PreparePin file at len false exclusive) still = absurd (cc)
still-unchanged (call.PinnedWrite hold at bytes) still = absurd (cc)
still-unchanged (call.SetDirty hold lsn) still = absurd (cc)
still-unchanged (call.EndHold hold) still = absurd (cc)
still-unchanged (call.Repin hold) still = absurd (cc)
still-unchanged (call.MdlRead file at len) still = absurd (cc)
still-unchanged (call.MdlWrite file at len) still = absurd (cc)
still-unchanged other still = refl

pub holds_of-still : (pass : ℕ) (call : Call) (reply : Reply) (h : List Effect) → is_still (act_of call) ≡ true → holds_of (Did pass call reply ∷ h) ≡ holds_of h
holds_of-still pass call reply h still = holds_of-other pass call reply h (still-unchanged call still)

-- what a safe call says of the range of its hold
pub new-within : (h : List Effect) (call : Call) → IsHoldSafe h call → IsNewClear (λ at len. nat_lt (size_of h) (at + len)) call
new-within h (call.Map file at len) safe = safe.within
new-within h (call.PinRead file at len exclusive) safe = safe.within
new-within h (call.PreparePin file at len zero exclusive) safe = safe.within
new-within h (call.MdlRead file at len) safe = safe.within
new-within h (call.MdlWrite file at len) safe = safe.within
new-within h other safe = tt

pub new-opened : (h : List Effect) (call : Call) → IsHoldSafe h call → is_empty (objects h) ≡ true → IsNewClear (λ at len. true) call
new-opened h (call.Map file at len) safe empty = absurd (cc safe.opened)
new-opened h (call.PinRead file at len exclusive) safe empty = absurd (cc safe.opened)
new-opened h (call.PreparePin file at len zero exclusive) safe empty = absurd (cc safe.opened)
new-opened h (call.MdlRead file at len) safe empty = absurd (cc safe.opened)
new-opened h (call.MdlWrite file at len) safe empty = absurd (cc safe.opened)
new-opened h other safe empty = tt

pub new-resident : (h : List Effect) (p : ℕ) (call : Call) → IsHoldSafe h call → is_resident h p ≡ false → IsNewClear (λ at len. has_page (record { from = at; to = at + len }) p) call
new-resident h p made_by safe absent = go made_by safe
  where
    apart : (at len : ℕ) → MayHold h at len → has_page (record { from = at; to = at + len }) p ≡ false
    apart at len made = go (has_page (record { from = at; to = at + len }) p) refl
      where
        go : (t : Bool) → has_page (record { from = at; to = at + len }) p ≡ t → has_page (record { from = at; to = at + len }) p ≡ false
        go true is = absurd (cc (made.resident p is))
        go false is = is

    go : (c : Call) → IsHoldSafe h c → IsNewClear (λ at len. has_page (record { from = at; to = at + len }) p) c
    go (call.Map file at len) made = apart at len made
    go (call.PinRead file at len exclusive) made = apart at len made
    go (call.PreparePin file at len zero exclusive) made = apart at len made
    go (call.MdlRead file at len) made = apart at len made
    go (call.MdlWrite file at len) made = apart at len made
    go other made = tt

none-first : list_any (λ hold. true) (holds_of []) ≡ false
unfolding holds_of
none-first = refl

-- without an open object no hold is open
pub no-holds : (h : List Effect) → IsSafe h → is_empty (objects h) ≡ true → list_any (λ hold. true) (holds_of h) ≡ false
unfolding IsSafe
no-holds [] safe empty = none-first
no-holds (Did pass call reply ∷ h) safe empty = go (act_of call) refl (no-holds h safe.1)
  where
    kept : is_still (act_of call) ≡ true → list_any (λ hold. true) (holds_of h) ≡ false → list_any (λ hold. true) (holds_of (Did pass call reply ∷ h)) ≡ false
    kept still none = ap (list_any (λ hold. true)) (holds_of-still pass call reply h still) ∙ none

    moved : objects (Did pass call reply ∷ h) ≡ objects h → (is_empty (objects h) ≡ true → list_any (λ hold. true) (holds_of h) ≡ false) → list_any (λ hold. true) (holds_of (Did pass call reply ∷ h)) ≡ false
    moved same none = let before : is_empty (objects h) ≡ true = rw same at empty in ap (list_any (λ hold. true)) (holds_of-done pass call reply h) ∙ holds-clear (λ at len. true) pass call (id_of reply) (holds_of h) (none before) (new-opened h call safe.0.0 before)

    go : (a : Act) → act_of call ≡ a → (is_empty (objects h) ≡ true → list_any (λ hold. true) (holds_of h) ≡ false) → list_any (λ hold. true) (holds_of (Did pass call reply ∷ h)) ≡ false
    go (Opens file sizes quota temporary) is none = absurd (cc (ap is_empty (objects-opens pass call reply h is)))
    go (Closes file truncate) is none = kept (ap is_still is) ((rw is at safe.0.1) (rw (objects-closes pass call reply h is) at empty))
    go (Resizes allocation size) is none = moved (objects-resizes pass call reply h is) none
    go (Writes at bytes) is none = moved (objects-writes pass call reply h is) none
    go (Zeroes from to) is none = moved (objects-zeroes pass call reply h is) none
    go (Stores page bytes) is none = moved (objects-stores pass call reply h is) none
    go (Stamps hold lsn) is none = moved (objects-stamps pass call reply h is) none
    go (Discards span) is none = moved (objects-discards pass call reply h is) none
    go Looks is none = moved (objects-looks pass call reply h is) none
no-holds (CameIn pass page from_disk ∷ h) safe empty = rw (holds_of-came_in pass page from_disk h) (no-holds h safe.1 (rw (objects-came_in pass page from_disk h) at empty))
no-holds (WentOut pass page ∷ h) safe empty = rw (holds_of-went_out pass page h) (no-holds h safe.1 (rw (objects-went_out pass page h) at empty))
no-holds (Began pass page ∷ h) safe empty = rw (holds_of-began pass page h) (no-holds h safe.1 (rw (objects-began pass page h) at empty))
no-holds (Ended pass page how ∷ h) safe empty = rw (holds_of-ended pass page how h) (no-holds h safe.1 (rw (objects-ended pass page how h) at empty))
no-holds (Synced pass how ∷ h) safe empty = rw (holds_of-synced pass how h) (no-holds h safe.1 (rw (objects-synced pass how h) at empty))
