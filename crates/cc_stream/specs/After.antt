-- What is kept of a stream after a call that was done on it.
use Rattle.std.specs.Prelude.{◌<◌, Bool, true, false, unwrap_or, slice_set}
use Rattle.cc_entry.specs.declared.call.Call.{Call}
use Rattle.cc_model.specs.Acts.{Act, act_of, Opens, Closes, Resizes}
use Rattle.cc_model.specs.Settings.{log_after, no_ahead_after, no_behind_after, threshold_after}
use Rattle.cc_stream.specs.Stream.{Stream, cut_of}

-- the state after what a call does, given whether there was a map before it
abbrev pub after_act : Act → Bool → Stream → Stream
after_act (Opens file sizes quota temporary) true s =
    record s { opened = slice_set s.opened file.object true; had_map = true }
after_act (Opens file sizes quota temporary) false s =
    record s {
      opened = slice_set s.opened file.object true;
      had_map = true;
      size = sizes.size;
      allocation = sizes.allocation;
      quota = quota;
      temporary = temporary;
    }
after_act (Closes file truncate) mapped s =
    record s {
      opened = slice_set s.opened file.object false;
      size = unwrap_or (cut_of s file.object truncate) s.size;
    }
after_act (Resizes allocation size) mapped s = record s { allocation = allocation; size = size }
after_act other mapped s = s

-- the state after a call
abbrev pub after : Call → Bool → Stream → Stream
after call mapped s =
    let t = after_act (act_of call) mapped s in
    record t {
      log = log_after call s.log;
      no_read_ahead = no_ahead_after call s.no_read_ahead;
      no_write_behind = no_behind_after call s.no_write_behind;
      threshold = threshold_after call s.threshold;
    }

-- an object that is opened is one of sixteen
abbrev pub ObjectIsNumbered : Act → Type 0
ObjectIsNumbered (Opens file sizes quota temporary) = file.object < 16
ObjectIsNumbered other = Unit {0}
