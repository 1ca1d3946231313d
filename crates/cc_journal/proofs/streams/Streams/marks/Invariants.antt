use Rattle.std.specs.Prelude.{◌≡◌, ℕ, ◌<◌, false, List, length, slice_index_or}
use Rattle.cc_entry.specs.declared.entry.Entry.{Entry}
use Rattle.cc_model.specs.History.{history}
use Rattle.cc_journal.specs.Streams.{StreamsStand, is_written_behind}
use Rattle.cc_journal.proofs.streams.Streams.marks.Given as goal

abbrev pub invariant-loop-n : goal.invariant-loop-n
invariant-loop-n l = record {
  long : length l.marks ≡ 16;
  marked : (past : List Entry) → StreamsStand past l.fn.self.states.value l.fn.self.places.places.entries l.fn.self.dirty.rows →
      (s : ℕ) → s < l.n → slice_index_or l.marks s false ≡ is_written_behind (history past s);
}
