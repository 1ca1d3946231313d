-- Words for places of a history: what an effect does over the effects before it, and what some effect
-- of a stretch does.
use Rattle.std.specs.Prelude.{◌≡◌, ℕ, ◌+◌, ◌-◌, ◌*◌, ◌/◌, Bool, true, false, ◌==◌, ◌&&◌, ◌||◌, nat_le, List, [], ◌∷◌, ◌++◌, length, slice_index}
use Rattle.std.specs.declared.option.Option.{Option}
use Rattle.std.specs.declared.option.Option.TheVariants.{Some, None}
use Rattle.cc_entry.specs.Pages.{has_byte, has_page}
use Rattle.cc_model.specs.History.{Effect, Did, Began, Ended}
use Rattle.cc_model.specs.Acts.{Act, act_of, Opens, Closes, Resizes, Writes, Zeroes, Stores, Stamps, Discards, Looks}
use Rattle.cc_model.specs.Objects.{objects, truncation}
use Rattle.cc_model.specs.Holds.{holds_of, hold_at}
use Rattle.cc_model.specs.Sizes.{stored_range, hold_has, ended_ok}
use Rattle.cc_model.specs.Touches.{size_of, is_dirty}
use Rattle.cc_model.specs.Ranges.{span_has}

-- whether some effect of the later ones, over all that stood before it, passes the test
abbrev pub some_effect : (Effect → List Effect → Bool) → List Effect → List Effect → Bool
some_effect test [] before = false
some_effect test (e ∷ later) before = test e (later ++ before) || some_effect test later before

-- whether an act touches the page: a change of a byte of it, or a set-dirty whose hold has it
abbrev pub act_touches : Act → List Effect → ℕ → Bool
act_touches (Writes at bytes) h p = has_page (record { from = at; to = at + length bytes }) p
act_touches (Zeroes from to) h p = has_page (record { from = from; to = to }) p
act_touches (Stores page bytes) h p = has_page (stored_range page (size_of h)) p
act_touches (Stamps hold lsn) h p = hold_has (hold_at (holds_of h) hold) p
act_touches (Opens file sizes quota temporary) h p = false
act_touches (Closes file truncate) h p = false
act_touches (Resizes allocation size) h p = false
act_touches (Discards span) h p = false
act_touches Looks h p = false

-- the LSN that an act gives the pages that it touches
abbrev pub act_lsn : Act → Option ℕ
act_lsn (Stamps hold lsn) = lsn
act_lsn other = None

-- the size that an act sets, where it is a size step
abbrev pub act_size : Act → List Effect → Option ℕ
act_size (Closes file truncate) h = truncation (objects h) (size_of h) file truncate
act_size (Resizes allocation size) h = Some size
act_size other h = None

-- whether an act changes the byte at i
abbrev pub act_changes : Act → List Effect → ℕ → Bool
act_changes (Writes at bytes) h i = has_byte (record { from = at; to = at + length bytes }) i
act_changes (Zeroes from to) h i = has_byte (record { from = from; to = to }) i
act_changes (Stores page bytes) h i = has_byte (stored_range page (size_of h)) i
act_changes other h i = false

-- what an act that changes the byte at i gives there
abbrev pub act_gives : Act → ℕ → ℕ
act_gives (Writes at bytes) i = slice_index bytes (i - at)
act_gives (Stores page bytes) i = slice_index bytes (i - 4096 * page)
act_gives other i = 0

-- the same of an effect, given the stream before it
abbrev pub touches_page : ℕ → Effect → List Effect → Bool
touches_page p (Did pass call reply) h = act_touches (act_of call) h p
touches_page p other h = false

abbrev pub lsn_of_touch : Effect → Option ℕ
lsn_of_touch (Did pass call reply) = act_lsn (act_of call)
lsn_of_touch other = None

abbrev pub size_step : Effect → List Effect → Option ℕ
size_step (Did pass call reply) h = act_size (act_of call) h
size_step other h = None

abbrev pub changes_byte : ℕ → Effect → List Effect → Bool
changes_byte i (Did pass call reply) h = act_changes (act_of call) h i
changes_byte i other h = false

abbrev pub byte_given : ℕ → Effect → ℕ
byte_given i (Did pass call reply) = act_gives (act_of call) i
byte_given i other = 0

-- whether an act throws the page away unwritten
abbrev pub act_discards : Act → ℕ → Bool
act_discards (Discards span) p = span_has span p
act_discards other p = false

abbrev pub discards_page : ℕ → Effect → Bool
discards_page p (Did pass call reply) = act_discards (act_of call) p
discards_page p other = false

-- whether an effect decides what the byte at i is: a change of it, or a discard of its page while that
-- was dirty
abbrev pub decides_byte : ℕ → Effect → List Effect → Bool
decides_byte i e h = changes_byte i e h || (discards_page (i / 4096) e && is_dirty h (i / 4096))

-- whether a size step takes the page away: the page begins at the size that is set, or past it
abbrev pub is_past_size : Option ℕ → ℕ → Bool
is_past_size None p = false
is_past_size (Some to) p = nat_le to (4096 * p)

-- whether an effect takes the page away with all that was not written of it
abbrev pub cuts_page : ℕ → Effect → List Effect → Bool
cuts_page p e h = is_past_size (size_step e h) p || discards_page p e

-- whether an effect begins a transfer of the page, ends one, or ends one well
abbrev pub begins_page_transfer : ℕ → Effect → Bool
begins_page_transfer p (Began pass page) = page == p
begins_page_transfer p other = false

abbrev pub ends_page_transfer : ℕ → Effect → Bool
ends_page_transfer p (Ended pass page how) = page == p
ends_page_transfer p other = false

abbrev pub ends_well : ℕ → Effect → Bool
ends_well p (Ended pass page how) = page == p && ended_ok how
ends_well p other = false

-- the last place of the history whose effect passes the test: no later effect does
pub record LastPlace (test : Effect → List Effect → Bool) (h : List Effect) : Type 0 where
  pub later : List Effect
  pub effect : Effect
  pub before : List Effect
  pub places : h ≡ later ++ effect ∷ before
  pub passes : test effect before ≡ true
  pub last : some_effect test later (effect ∷ before) ≡ false

-- A place of the history whose effect brings something about, with no later effect that takes it away.
pub record SincePlace (brings takes : Effect → List Effect → Bool) (h : List Effect) : Type 0 where
  pub later : List Effect
  pub effect : Effect
  pub before : List Effect
  pub places : h ≡ later ++ effect ∷ before
  pub brings_it : brings effect before ≡ true
  pub kept : some_effect takes later (effect ∷ before) ≡ false
