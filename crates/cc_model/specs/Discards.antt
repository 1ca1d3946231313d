-- What a discard asks of the disk: that it holds the pages which go unwritten, as far as they are valid.
use Rattle.std.specs.Prelude.{ℕ, ◌+◌, ◌*◌, Bool, true, false, not, ◌&&◌, ◌||◌, ◌==◌, nat_lt, is_some, List, [], ◌∷◌, min, max}
use Rattle.std.specs.declared.option.Option.{Option}
use Rattle.std.specs.declared.option.Option.TheVariants.{None}
use Rattle.std.specs.List.{find}
use Rattle.std.specs.Option.{option_map}
use Rattle.cc_entry.specs.declared.call.Call.{Call}
use Rattle.cc_entry.specs.declared.call.Call.TheVariants as call
use Rattle.cc_entry.specs.declared.error.CcError.{CcError}
use Rattle.cc_entry.specs.declared.error.CcError.TheVariants as error
use Rattle.cc_model.specs.History.{Effect, Began, Ended}
use Rattle.cc_model.specs.Objects.{had_map}
use Rattle.cc_model.specs.Sizes.{ended_ok}
use Rattle.cc_model.specs.Touches.{valid_of, dirty_pages}
use Rattle.cc_model.specs.Ranges.{span_has}
use Rattle.cc_model.specs.Images.{image}

-- whether the image of a page is known, whatever the disk's opening pages: its last transfer that ended
-- ended well
abbrev pub is_known : List Effect → ℕ → Bool
is_known h p = is_some (image (λ page. []) h p)

-- the lesser of the valid data length now and before, where the stream was initialised before
abbrev pub least_valid : Bool → ℕ → ℕ → ℕ
least_valid true now before = min now before
least_valid false now before = now

-- The least valid data length at or since the begin of the transfer that the image of the page stands on,
-- or since the first initialise of the stream where there is none. `ended` says whether a transfer of the
-- page ended well after the effects that are left to look at, so that its begin is the next one.
unfoldable pub low_since : Bool → List Effect → ℕ → ℕ
low_since ended [] p = 0
low_since ended (Began pass page ∷ h) p =
    elim (ended && page == p) [
      | true ↦ valid_of h
      | false ↦ least_valid (had_map h) (valid_of (Began pass page ∷ h)) (low_since ended h p)
    ]
low_since ended (Ended pass page how ∷ h) p =
    least_valid (had_map h) (valid_of (Ended pass page how ∷ h)) (low_since (ended || (page == p && ended_ok how)) h p)
low_since ended (other ∷ h) p = least_valid (had_map h) (valid_of (other ∷ h)) (low_since ended h p)

abbrev pub low_of : List Effect → ℕ → ℕ
low_of h p = low_since false h p

-- whether a byte of the page became valid since, so that the disk never held it
abbrev pub has_grown : List Effect → ℕ → Bool
has_grown h p = nat_lt (max (4096 * p) (low_of h p)) (min (4096 * p + 4096) (valid_of h))

-- a discard drops no dirty page whose image is not known: the least such page of its span
abbrev pub unsettled : List Effect → Call → Option CcError
unsettled h (call.Discard file span) =
    option_map (λ p. error.Unsettled p) (find (λ p. span_has span p && not (is_known h p)) (dirty_pages h))
unsettled h other = None

-- nor one that has grown
abbrev pub grown : List Effect → Call → Option CcError
grown h (call.Discard file span) =
    option_map (λ p. error.Grown p) (find (λ p. span_has span p && has_grown h p) (dirty_pages h))
grown h other = None
