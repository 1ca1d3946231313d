-- Dirty, said of places of a history: some touch of the page is neither written nor cut.
use Rattle.std.specs.Prelude.{◌≡◌, ℕ, suc, ◌+◌, ◌*◌, ◌<◌, ◌≤◌, Bool, true, false, ◌&&◌, nat_lt, List, [], ◌∷◌, ◌++◌, length}
use Rattle.std.specs.List.{list_all}
use Rattle.cc_model.specs.History.{Effect, Did}
use Rattle.cc_model.specs.Acts.{Act, act_of, Stamps}
use Rattle.cc_model.specs.Holds.{holds_of, hold_at}
use Rattle.cc_model.specs.Sizes.{Touch, hold_has}
use Rattle.cc_laws.specs.ByPlaces.{some_effect, touches_page, changes_byte, lsn_of_touch, cuts_page, begins_page_transfer, ends_well}

-- a byte of the page that an effect changes
pub record ChangedByte (p : ℕ) (e : Effect) (h : List Effect) : Type 0 where
  pub byte : ℕ
  pub low : 4096 * p ≤ byte
  pub high : byte < 4096 * p + 4096
  pub changes_it : changes_byte byte e h ≡ true

-- whether an effect is a set-dirty whose hold has the page
abbrev pub act_stamps : ℕ → Act → List Effect → Bool
act_stamps p (Stamps hold lsn) h = hold_has (hold_at (holds_of h) hold) p
act_stamps p other h = false

abbrev pub stamps_page : ℕ → Effect → List Effect → Bool
stamps_page p (Did pass call reply) h = act_stamps p (act_of call) h
stamps_page p other h = false

-- A transfer of the page that began after a place and ended well: its begin, and after it a good end,
-- with no other begin of the page between.
pub record IsTransferredSince (later : List Effect) (p : ℕ) : Type 0 where
  pub after : List Effect
  pub ok_end : Effect
  pub between : List Effect
  pub begin : Effect
  pub front : List Effect
  pub places : later ≡ after ++ ok_end ∷ (between ++ begin ∷ front)
  pub begins_it : begins_page_transfer p begin ≡ true
  pub ends_it : ends_well p ok_end ≡ true
  pub same_transfer : some_effect (λ e front. begins_page_transfer p e) between (begin ∷ front) ≡ false

-- A place of the history whose effect touches the page, with no transfer of it that began later and
-- ended well, and no later size step at or below its first byte.
pub record IsTouch (h : List Effect) (p : ℕ) (t : Touch) : Type 0 where
  pub later : List Effect
  pub effect : Effect
  pub before : List Effect
  pub places : h ≡ later ++ effect ∷ before
  pub touches_it : touches_page p effect before ≡ true
  pub is : t ≡ record { place = suc (length before); lsn = lsn_of_touch effect }
  pub unwritten : IsTransferredSince later p → ⊥
  pub uncut : some_effect (cuts_page p) later (effect ∷ before) ≡ false

-- the touch is in the list
pub data Has : List Touch → Touch → Type 0 where
  here : {t : Touch} {ts : List Touch} → Has (t ∷ ts) t
  there : {t s : Touch} {ts : List Touch} → Has ts t → Has (s ∷ ts) t

-- each touch of a list has a later place than those after it
abbrev pub is_newest_first : List Touch → Bool
is_newest_first [] = true
is_newest_first (t ∷ ts) = list_all (λ s. nat_lt s.place t.place) ts && is_newest_first ts
