-- The passes joined so far are ended ones of pass 0, and rows and names are theirs, the last caller's first.
use Rattle.std.proofs.Common.{◌≡◌, ◌≤◌, ◌+◌, ◌++◌, List, length, map, reverse, vec_capacity}
use Rattle.cc_run.specs.Threads.{under_way_of}
use Rattle.cc_run.specs.declared.callers.FinishedCaller.{FinishedCaller}
use Rattle.cc_run.proofs.threads.join_all.Given as goal

abbrev pub invariant-loop-pass : goal.invariant-loop-pass
invariant-loop-pass g l = record {
  gone : List (FinishedCaller g.row.D.Denot g.row.L.Denot g.row.Q.Denot);
  left : l.ended.items ++ gone ≡ l.initial.ended.items;
  counted : length l.ended.items ≡ l.number;
  as_many : length l.rows.items + l.number ≡ 16;
  room : 16 ≤ vec_capacity l.rows;
  first : l.first ≡ record l.initial.first {
    knows = record l.initial.first.knows {
      in_flight = l.initial.first.knows.in_flight + under_way_of gone;
      ended = map (λ one. (one.pass.knows.number, one.pass.knows.seen)) gone ++ l.initial.first.knows.ended;
    };
  };
  names_as_many : length l.names.items + l.number ≡ 16;
  names_room : 16 ≤ vec_capacity l.names;
  names_are : l.names.items ≡ map (λ one. one.names) (reverse gone);
  rows_are : map (λ row. row.items) l.rows.items ≡ map (λ one. reverse one.answers.items) (reverse gone);
}

abbrev pub decreases-loop-pass : goal.decreases-loop-pass
decreases-loop-pass g l = length l.ended.items
