-- The page for which a discard is refused.
use Rattle.std.specs.Prelude.{◌≡◌, ℕ, ◌<◌, Bool, true, false, List}
use Rattle.std.specs.declared.option.Option.{Option}
use Rattle.cc_entry.specs.Place.{Range}
use Rattle.cc_model.specs.History.{Effect}
use Rattle.cc_model.specs.Ranges.{span_has}
use Rattle.cc_model.specs.Touches.{is_dirty}

-- the least dirty page of the span that passes a test
pub record IsLeastDirty (h : List Effect) (span : Option Range) (test : ℕ → Bool) (p : ℕ) : Type 0 where
  pub dirty : is_dirty h p ≡ true
  pub in_span : span_has span p ≡ true
  pub passes : test p ≡ true
  pub least : (q : ℕ) → q < p → is_dirty h q ≡ true → span_has span q ≡ true → test q ≡ false
