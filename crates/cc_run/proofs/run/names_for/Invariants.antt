use Rattle.std.proofs.Common.{◌≡◌, ◌+◌, ◌≤◌, ℕ, [], suc, length, vec_capacity}
use Rattle.std.specs.Prelude.{slice_get}
use Rattle.std.specs.List.{AllByRecursion}
use Rattle.std.specs.declared.option.Option.TheVariants.{Some}
use Rattle.cc_script.specs.HoldWords.{words_bound}
use Rattle.cc_lines.specs.Holds.{NamesState}
use Rattle.cc_lines.specs.Queues.{new_places}
use Rattle.cc_run.proofs.run.names_for.Given as goal

abbrev pub invariant-loop-caller : goal.invariant-loop-caller
invariant-loop-caller l = record {
  counted : length l.names.items + 1 ≡ l.caller;
  within : l.caller ≤ 17;
  capacity : 16 ≤ vec_capacity l.names;
  fresh : AllByRecursion (λ own. own.places ≡ new_places l.queues) l.names.items;
  same : l.places ≡ l.initial.places;
  none : AllByRecursion (λ names. names.named ≡ []) l.names.items;
  room : (n : ℕ) (names : NamesState) → slice_get l.names.items n ≡ Some names → words_bound (suc n) l.script.lines ≤ names.room;
}
