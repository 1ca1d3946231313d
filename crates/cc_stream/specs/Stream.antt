-- What is kept of one stream beside its pages and its holds, and when it stands for the stream's history.
use Rattle.std.specs.Prelude.{◌≡◌, ℕ, ◌<◌, Bool, true, false, not, ◌&&◌, nat_lt, List, All, slice_index_or, slice_set, if◌then◌else◌}
use Rattle.std.specs.declared.option.Option.{Option}
use Rattle.std.specs.declared.option.Option.TheVariants.{Some, None}
use Rattle.std.specs.List.{list_any}
use Rattle.cc_model.specs.Numbers.{is_among}
use Rattle.cc_model.specs.History.{Effect, Did}
use Rattle.cc_model.specs.Objects.{objects, had_map}
use Rattle.cc_model.specs.Touches.{size_of}
use Rattle.cc_model.specs.Settings.{allocation_of, quota_of, is_temporary, log_of, has_no_read_ahead, has_no_write_behind, threshold_of}

-- Which objects are open, by their numbers; whether the stream ever had a map; its size and allocation in
-- bytes; the quota in blocks and the mark that the last initialise gave which made the map; what was set for it.
pub record Stream : Type 0 where
  pub opened : List Bool
  pub had_map : Bool
  pub size : ℕ
  pub allocation : ℕ
  pub quota : ℕ
  pub temporary : Bool
  pub log : Option ℕ
  pub no_read_ahead : Bool
  pub no_write_behind : Bool
  pub threshold : ℕ

-- whether the object of this number is open, by its flag; past the last flag none is
abbrev pub is_open_in : List Bool → ℕ → Bool
is_open_in opened object = slice_index_or opened object false

-- whether any object is open
abbrev pub any_open : List Bool → Bool
any_open opened = list_any (λ flag. flag) opened

-- the size that an uninitialise of the object sets: its truncate, where the object is the last that is open
-- and the truncate is below the size
abbrev pub cut_of : Stream → ℕ → Option ℕ → Option ℕ
cut_of s object None = None
cut_of s object (Some to) =
    let is_last = is_open_in s.opened object && not (any_open (slice_set s.opened object false)) in
    if is_last && nat_lt to s.size then Some to else None

-- a stream's state stands for its history
pub record StreamStands (h : List Effect) (s : Stream) : Type 0 where
  pub opened : (object : ℕ) → is_open_in s.opened object ≡ is_among object (objects h)
  pub numbered : All (λ object. object < 16) (objects h)
  pub had_map : s.had_map ≡ had_map h
  pub size : s.size ≡ size_of h
  pub allocation : s.allocation ≡ allocation_of h
  pub quota : s.quota ≡ quota_of h
  pub temporary : s.temporary ≡ is_temporary h
  pub log : s.log ≡ log_of h
  pub no_read_ahead : s.no_read_ahead ≡ has_no_read_ahead h
  pub no_write_behind : s.no_write_behind ≡ has_no_write_behind h
  pub threshold : s.threshold ≡ threshold_of h

-- whether an effect is a call that was done
abbrev pub is_done : Effect → Bool
is_done (Did pass call reply) = true
is_done other = false
