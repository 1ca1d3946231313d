-- The places of the callers that were taken out, which are those from the first on.
use Rattle.std.proofs.Common.{◌≡◌, ◌++◌, ◌+◌, ◌≤◌, length, map, reverse}
use Rattle.std.specs.Prelude.{vec_capacity}
use Rattle.cc_run.proofs.run.all_places.Given as goal

abbrev pub invariant-loop-own : goal.invariant-loop-own
invariant-loop-own l = record {
  taken : l.places.items ++ map (λ own. own.places.ahead) (reverse l.names.items) ≡ map (λ own. own.places.ahead) l.fn.names.items;
  copied : l.async_places.items ++ map (λ own. own.places.copies) (reverse l.names.items) ≡ map (λ own. own.places.copies) l.fn.names.items;
  counted : length l.places.items + length l.names.items ≡ 16;
  room : 18 ≤ vec_capacity l.places;
  async_counted : length l.async_places.items + length l.names.items ≡ 16;
  async_room : 16 ≤ vec_capacity l.async_places;
}

abbrev pub decreases-loop-own : goal.decreases-loop-own
decreases-loop-own l = length l.names.items
