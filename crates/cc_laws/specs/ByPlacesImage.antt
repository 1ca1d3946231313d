-- Images, said of places of a history: the last transfer of the page that ended.
use Rattle.std.specs.Prelude.{◌≡◌, ℕ, Bool, true, false, ◌&&◌, List, [], ◌∷◌, ◌++◌}
use Rattle.std.specs.declared.option.Option.{Option}
use Rattle.std.specs.declared.option.Option.TheVariants.{Some, None}
use Rattle.cc_model.specs.History.{Effect}
use Rattle.cc_model.specs.Bytes.{page_bytes}
use Rattle.cc_laws.specs.ByPlaces.{some_effect, begins_page_transfer, ends_page_transfer}

-- The last end of the page's transfer, and before it its begin: no later end of the page, and no other
-- begin of it between.
pub record LastTransfer (h : List Effect) (p : ℕ) : Type 0 where
  pub after : List Effect
  pub its_end : Effect
  pub between : List Effect
  pub begin : Effect
  pub front : List Effect
  pub places : h ≡ after ++ its_end ∷ (between ++ begin ∷ front)
  pub begins_it : begins_page_transfer p begin ≡ true
  pub ends_it : ends_page_transfer p its_end ≡ true
  pub last : some_effect (λ e before. ends_page_transfer p e) after (its_end ∷ (between ++ begin ∷ front)) ≡ false
  pub same_transfer : some_effect (λ e before. begins_page_transfer p e) between (begin ∷ front) ≡ false

-- whether an effect ends a transfer of the page that began before it
abbrev pub ends_begun : ℕ → Effect → List Effect → Bool
ends_begun p e h = ends_page_transfer p e && some_effect (λ b before. begins_page_transfer p b) h []

-- the image that a transfer leaves: the page as it began where it ended well, else none
abbrev pub image_left_by : (ℕ → List ℕ) → ℕ → List Effect → Bool → Option (List ℕ)
image_left_by pages p front true = Some (page_bytes pages front p)
image_left_by pages p front false = None
