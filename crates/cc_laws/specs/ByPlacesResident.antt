-- Resident pages, said of places of a history: since when a page is resident.
use Rattle.std.specs.Prelude.{ℕ, Bool, false, not, ◌==◌, ◌&&◌, ◌||◌, List, ◌∷◌}
use Rattle.cc_model.specs.History.{Effect, Did, CameIn, WentOut}
use Rattle.cc_model.specs.Acts.{Act, act_of, Stores}
use Rattle.cc_model.specs.Touches.{is_mapped}
use Rattle.cc_laws.specs.ByPlaces.{cuts_page}

-- whether an effect brings the page in: a page-in, or a noncached store of it
abbrev pub act_stores : ℕ → Act → Bool
act_stores p (Stores page bytes) = page == p
act_stores p other = false

abbrev pub brings_page_in : ℕ → Effect → Bool
brings_page_in p (Did pass call reply) = act_stores p (act_of call)
brings_page_in p (CameIn pass page from_disk) = page == p
brings_page_in p other = false

-- whether an effect takes the page out
abbrev pub takes_out : ℕ → Effect → Bool
takes_out p (WentOut pass page) = page == p
takes_out p other = false

-- the page comes in, and the stream has a map then
abbrev pub comes_in : ℕ → Effect → List Effect → Bool
comes_in p e h = is_mapped (e ∷ h) && brings_page_in p e

-- the page goes out, or a size step takes it away, or the map goes
abbrev pub goes_away : ℕ → Effect → List Effect → Bool
goes_away p e h = takes_out p e || (cuts_page p e h || not (is_mapped (e ∷ h)))
