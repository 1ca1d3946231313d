-- How the pages that were ever touched step at an event.
use Rattle.std.specs.Prelude.{◌≡◌, List, ◌++◌, refl}
use Rattle.std.specs.declared.option.Option.{Option}
use Rattle.std.specs.declared.option.Option.TheVariants.{Some, None}
use Rattle.std.specs.List.{cons_option}
use Rattle.std.proofs.Common.{◌∙◌}
use Rattle.cc_model.specs.History.{Effect, Did, CameIn, WentOut, Began, Ended, Synced}
use Rattle.cc_model.specs.Acts.{Act, act_of, Opens, Closes, Resizes, Writes, Zeroes, Stores, Stamps, Discards, Looks}
use Rattle.cc_model.specs.Touches.{touched}
use Rattle.cc_events.specs.Events.{event_of, event_of_act, touched_pages}
use Rattle.cc_laws.proofs.ActSteps.{touched_by, touched-done}

pages_by : (a : Act) (h : List Effect) → touched_by a h ≡ touched_pages (event_of_act a) h ++ touched h
pages_by (Opens file given quota temporary) h = refl
pages_by (Closes file truncate) h = refl
pages_by (Resizes allocation size) h = refl
pages_by (Writes at bytes) h = refl
pages_by (Zeroes from to) h = refl
pages_by (Stores page bytes) h = refl
pages_by (Stamps hold lsn) h = refl
pages_by (Discards span) h = refl
pages_by Looks h = refl

pub touched-event : (o : Option Effect) (h : List Effect) → touched (cons_option o h) ≡ touched_pages (event_of o) h ++ touched h
unfolding touched
touched-event None h = refl
touched-event (Some (Did pass call reply)) h = touched-done pass call reply h ∙ pages_by (act_of call) h
touched-event (Some (CameIn pass page from_disk)) h = refl
touched-event (Some (WentOut pass page)) h = refl
touched-event (Some (Began pass page)) h = refl
touched-event (Some (Ended pass page how)) h = refl
touched-event (Some (Synced pass how)) h = refl
