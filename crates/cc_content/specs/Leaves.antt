-- What leaves a stream's contents as they were.
use Rattle.std.specs.Prelude.{◌≡◌, ℕ, true, false, List}
use Rattle.cc_model.specs.Bytes.{byte_of}
use Rattle.cc_model.specs.History.{Effect}
use Rattle.cc_model.specs.Touches.{sizes, is_mapped}
use Rattle.cc_model.specs.Settings.{quota_of}
use Rattle.cc_model.specs.Residency.{residents, order_of_use}

-- What led from one history to a later one changed no byte and no size, and while there is a map no page and
-- no use of a block; the map may be gone.
pub record LeavesContents (h later : List Effect) : Type 0 where
  pub gone : is_mapped h ≡ false → is_mapped later ≡ false
  pub quota : quota_of later ≡ quota_of h
  pub sizes : sizes later ≡ sizes h
  pub residents : is_mapped later ≡ true → residents later ≡ residents h
  pub order : is_mapped later ≡ true → order_of_use later ≡ order_of_use h
  pub bytes : (pages : ℕ → List ℕ) (i : ℕ) → byte_of pages later i ≡ byte_of pages h i
