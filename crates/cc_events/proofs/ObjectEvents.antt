-- How the open objects of a stream step at an event.
use Rattle.std.specs.Prelude.{◌≡◌, List, ◌∷◌, refl}
use Rattle.std.specs.declared.option.Option.{Option}
use Rattle.std.specs.declared.option.Option.TheVariants.{Some, None}
use Rattle.std.specs.List.{cons_option}
use Rattle.cc_model.specs.History.{Effect, Did, CameIn, WentOut, Began, Ended, Synced}
use Rattle.cc_model.specs.Acts.{Act, act_of, Opens, Closes, Resizes, Writes, Zeroes, Stores, Stamps, Discards, Looks}
use Rattle.cc_model.specs.Objects.{objects}
use Rattle.cc_events.specs.Events.{event_of, event_of_act, objects_after}

pub objects-event : (o : Option Effect) (h : List Effect) → objects (cons_option o h) ≡ objects_after (event_of o) (objects h)
unfolding objects
objects-event None h = refl
objects-event (Some (Did pass call reply)) h = go (act_of call) refl
  where
    go : (a : Act) → act_of call ≡ a → objects (Did pass call reply ∷ h) ≡ objects_after (event_of_act (act_of call)) (objects h)
    go (Opens file given quota temporary) is = rw (is, objects) refl
    go (Closes file truncate) is = rw (is, objects) refl
    go (Resizes allocation size) is = rw (is, objects) refl
    go (Writes at bytes) is = rw (is, objects) refl
    go (Zeroes from to) is = rw (is, objects) refl
    go (Stores page bytes) is = rw (is, objects) refl
    go (Stamps hold lsn) is = rw (is, objects) refl
    go (Discards span) is = rw (is, objects) refl
    go Looks is = rw (is, objects) refl
objects-event (Some (CameIn pass page from_disk)) h = refl
objects-event (Some (WentOut pass page)) h = refl
objects-event (Some (Began pass page)) h = refl
objects-event (Some (Ended pass page how)) h = refl
objects-event (Some (Synced pass how)) h = refl
