use Rattle.std.specs.Prelude.{◌≡◌, ◌+◌, ◌-◌, ◌*◌, ◌≤◌, List}
use Rattle.std.specs.List.{range_with_len, fold}
use Rattle.cc_entry.specs.declared.entry.Entry.{Entry}
use Rattle.cc_model.specs.Cache.{views_of}
use Rattle.cc_model.specs.History.{history}
use Rattle.cc_journal.specs.Streams.{StreamsStand}
use Rattle.cc_journal.proofs.streams.Streams.views_taken.Given as goal

abbrev pub invariant-loop-n : goal.invariant-loop-n
invariant-loop-n l = record {
  small : l.taken ≤ 255 * l.n;
  sum : (past : List Entry) → StreamsStand past l.fn.self.states.value l.fn.self.places.places.entries l.fn.self.dirty.rows →
      fold (λ a s. a + views_of (history past s)) l.taken (range_with_len l.n (16 - l.n)) ≡ fold (λ a s. a + views_of (history past s)) 0 (range_with_len 0 16);
}
