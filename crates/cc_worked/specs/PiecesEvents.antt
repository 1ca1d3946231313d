-- Events of `steps` whose disk or log failed.
use Rattle.std.specs.Prelude.{List, [], ◌∷◌}
use Rattle.cc_entry.specs.declared.entry.Entry.{Entry}
use Rattle.cc_entry.specs.declared.entry.Entry.TheVariants as entry
use Rattle.cc_effects.specs.declared.events.Event.{Event}
use Rattle.cc_effects.specs.declared.events.Event.TheVariants as event
use Rattle.cc_effects.specs.declared.events.StepReply.TheVariants as step
use Rattle.cc_pieces.specs.Moments.{EventLeft}
use Rattle.cc_worked.specs.Values.{opened, page, setup}

-- on a past, an event faulted and placed this entry
abbrev pub EventFaults : Event (Unit {0}) → Entry → List Entry → Type 0
EventFaults it e past = EventLeft setup it step.Faulted past (e ∷ past)

-- the fifth log of four is appended to, or flushed
abbrev pub append_nowhere : Event (Unit {0})
append_nowhere = event.Append 1 4 (1 ∷ [])

abbrev pub flush_nowhere : Event (Unit {0})
flush_nowhere = event.LogFlush 1 4 1

abbrev pub nowhere_failed : Entry
nowhere_failed = entry.LogFailed 1 4

-- a page comes in that has no byte below the valid data length
abbrev pub half_valid : List Entry
half_valid = opened 8192 4096 ∷ []

abbrev pub fill_of_zeros : Event (Unit {0})
fill_of_zeros = event.Fill 1 (page 1)

abbrev pub zeros_failed : Entry
zeros_failed = entry.FillFailed 1 (page 1)
