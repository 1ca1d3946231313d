-- The touches of a history have no later places than it is long.
use Rattle.std.specs.Prelude.{◌≡◌, ℕ, suc, ◌+◌, ◌*◌, ◌≤◌, Bool, true, false, ◌==◌, ◌||◌, ◌&&◌, nat_le, List, [], ◌∷◌, length, refl}
use Rattle.std.specs.List.{list_all}
use Rattle.std.proofs.Common.{arith, ap, sym, ◌∙◌}
use Rattle.std.proofs.lemmas.Bool.{le-leb}
use Rattle.std.specs.declared.option.Option.{Option}
use Rattle.std.specs.declared.option.Option.TheVariants.{Some, None}
use Rattle.cc_entry.specs.Pages.{has_page}
use Rattle.cc_entry.specs.declared.call.Call.{Call}
use Rattle.cc_entry.specs.declared.reply.Reply.{Reply}
use Rattle.cc_model.specs.History.{Effect, Did, CameIn, WentOut, Began, Ended, Synced}
use Rattle.cc_model.specs.Acts.{Act, act_of, Opens, Closes, Resizes, Writes, Zeroes, Stores, Stamps, Discards, Looks}
use Rattle.cc_model.specs.Holds.{holds_of, hold_at}
use Rattle.cc_model.specs.Objects.{objects, truncation}
use Rattle.cc_model.specs.Ranges.{span_has}
use Rattle.cc_model.specs.Sizes.{Touch, touched_if, cut_if, dropped_if, stored_range, ended_ok, hold_has}
use Rattle.cc_model.specs.Touches.{touches, size_of}
use Rattle.cc_laws.proofs.TouchSteps.{touches-opens, touches-closes, touches-resizes, touches-writes, touches-zeroes, touches-stores, touches-stamps, touches-discards, touches-looks, touches-went_out, touches-began_open, touches-ended_other, touches-synced}

-- whether each touch has a place up to this one
abbrev pub all_by : ℕ → List Touch → Bool
all_by n ts = list_all (λ t. nat_le t.place n) ts

by-cut : (n : ℕ) (o : Option ℕ) (p : ℕ) (ts : List Touch) → all_by n ts ≡ true → all_by n (cut_if o p ts) ≡ true
by-cut n None p ts all = all
by-cut n (Some to) p ts all = go (nat_le to (4096 * p)) refl
  where
    go : (b : Bool) → nat_le to (4096 * p) ≡ b → all_by n (cut_if (Some to) p ts) ≡ true
    go true is = rw is refl
    go false is = rw is all

by-touched : (n : ℕ) (b : Bool) (place : ℕ) (lsn : Option ℕ) (ts : List Touch) → place ≤ n → all_by n ts ≡ true → all_by n (touched_if b place lsn ts) ≡ true
by-touched n false place lsn ts le all = all
by-touched n true place lsn ts le all = rw (le-leb place n le) all

by-dropped : (n : ℕ) (b : Bool) (ts : List Touch) → all_by n ts ≡ true → all_by n (dropped_if b ts) ≡ true
by-dropped n true ts all = refl
by-dropped n false ts all = all

by-did : (ended : Bool) (pass : ℕ) (call : Call) (reply : Reply) (h : List Effect) (p n : ℕ) → suc (length h) ≤ n → all_by n (touches ended h p) ≡ true → all_by n (touches ended (Did pass call reply ∷ h) p) ≡ true
by-did ended pass call reply h p n longer all = go (act_of call) refl
  where
    so : (ts : List Touch) → touches ended (Did pass call reply ∷ h) p ≡ ts → all_by n ts ≡ true → all_by n (touches ended (Did pass call reply ∷ h) p) ≡ true
    so ts is within = ap (all_by n) is ∙ within

    go : (a : Act) → act_of call ≡ a → all_by n (touches ended (Did pass call reply ∷ h) p) ≡ true
    go (Opens file given quota temporary) is = so _ (touches-opens ended pass call reply h p is) all
    go (Closes file truncate) is = so _ (touches-closes ended pass call reply h p is) (by-cut n (truncation (objects h) (size_of h) file truncate) p (touches ended h p) all)
    go (Resizes allocation size) is = so _ (touches-resizes ended pass call reply h p is) (by-cut n (Some size) p (touches ended h p) all)
    go (Writes at bytes) is = so _ (touches-writes ended pass call reply h p is) (by-touched n (has_page (record { from = at; to = at + length bytes }) p) (suc (length h)) None (touches ended h p) longer all)
    go (Zeroes from to) is = so _ (touches-zeroes ended pass call reply h p is) (by-touched n (has_page (record { from = from; to = to }) p) (suc (length h)) None (touches ended h p) longer all)
    go (Stores page bytes) is = so _ (touches-stores ended pass call reply h p is) (by-touched n (has_page (stored_range page (size_of h)) p) (suc (length h)) None (touches ended h p) longer all)
    go (Stamps hold lsn) is = so _ (touches-stamps ended pass call reply h p is) (by-touched n (hold_has (hold_at (holds_of h) hold) p) (suc (length h)) lsn (touches ended h p) longer all)
    go (Discards span) is = so _ (touches-discards ended pass call reply h p is) (by-dropped n (span_has span p) (touches ended h p) all)
    go Looks is = so _ (touches-looks ended pass call reply h p is) all

by-began : (n : ℕ) (b : Bool) (ts : List Touch) → all_by n ts ≡ true → all_by n (elim b as (λ x. List Touch) [ true ↦ [] | false ↦ ts ]) ≡ true
by-began n true ts all = refl
by-began n false ts all = all

pub touches-by : (ended : Bool) (h : List Effect) (p n : ℕ) → length h ≤ n → all_by n (touches ended h p) ≡ true
unfolding touches
touches-by ended [] p n longer = refl
touches-by ended (Did pass call reply ∷ h) p n longer = by-did ended pass call reply h p n longer (touches-by ended h p n (omega (arith, longer)))
touches-by ended (CameIn pass page from_disk ∷ h) p n longer = touches-by ended h p n (omega (arith, longer))
touches-by ended (WentOut pass page ∷ h) p n longer = touches-by ended h p n (omega (arith, longer))
touches-by ended (Began pass page ∷ h) p n longer = by-began n (ended && page == p) (touches ended h p) (touches-by ended h p n (omega (arith, longer)))
touches-by ended (Ended pass page how ∷ h) p n longer = touches-by (ended || (page == p && ended_ok how)) h p n (omega (arith, longer))
touches-by ended (Synced pass how ∷ h) p n longer = touches-by ended h p n (omega (arith, longer))
