-- Stretches of a journal in which no page of a stream comes in, none is stored around the cache or thrown away, and each
-- transfer that ends ends well. So it is while one pass has the turn of the stream's disk, and flushes.
use Rattle.std.specs.Prelude.{◌≡◌, ℕ, Bool, true, false, List}
use Rattle.std.specs.List.{list_all}
use Rattle.std.specs.declared.option.Option.{Option}
use Rattle.std.specs.declared.option.Option.TheVariants.{Some, None}
use Rattle.cc_entry.specs.declared.entry.Entry.{Entry}
use Rattle.cc_model.specs.Acts.{Act, act_of, Opens, Closes, Resizes, Writes, Zeroes, Stores, Stamps, Discards, Looks}
use Rattle.cc_model.specs.History.{Effect, Did, CameIn, WentOut, Began, Ended, Synced, effect_of}
use Rattle.cc_model.specs.Sizes.{ended_ok}

-- whether an act neither stores a page around the cache nor throws one away
abbrev pub is_calm_act : Act → Bool
is_calm_act (Opens file sizes quota temporary) = true
is_calm_act (Closes file truncate) = true
is_calm_act (Resizes allocation size) = true
is_calm_act (Writes at bytes) = true
is_calm_act (Zeroes from to) = true
is_calm_act (Stores page bytes) = false
is_calm_act (Stamps hold lsn) = true
is_calm_act (Discards span) = false
is_calm_act Looks = true

-- so of an effect: it brings no page in, and ends no transfer but well
abbrev pub is_calm_effect : Effect → Bool
is_calm_effect (Did pass call reply) = is_calm_act (act_of call)
is_calm_effect (CameIn pass page from_disk) = false
is_calm_effect (WentOut pass page) = true
is_calm_effect (Began pass page) = true
is_calm_effect (Ended pass page how) = ended_ok how
is_calm_effect (Synced pass how) = true

-- so of what an entry means to a stream, where it means something
abbrev pub is_calm_in : Option Effect → Bool
is_calm_in None = true
is_calm_in (Some e) = is_calm_effect e

-- each entry of a stretch is calm to the stream
abbrev pub IsCalm : ℕ → List Entry → Type 0
IsCalm s later = list_all (λ e. is_calm_in (effect_of e s)) later ≡ true
