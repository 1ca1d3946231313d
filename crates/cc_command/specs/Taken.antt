-- What a source gave, and what a sink took, over several calls.
use Rattle.std.specs.Prelude.{◌≡◌, ℕ, List, ◌++◌}
use Rattle.std.specs.declared.option.Option.{Option}
use Rattle.cc_traits.specs.Told.{Both, Gave}

-- Some bytes were taken: those that the source gave, and the front of those that were left, where it told them.
pub record WasTaken (left left_after : Option (List ℕ)) (given given_after : List ℕ) : Type 0 where
  pub bytes : List ℕ
  pub gave : given_after ≡ given ++ bytes
  pub front : Both left left_after (Gave bytes)

-- the front of a text was taken
pub record TookPart (text old new : List ℕ) : Type 0 where
  pub part : List ℕ
  pub rest : List ℕ
  pub text_is : text ≡ part ++ rest
  pub taken : new ≡ old ++ part
