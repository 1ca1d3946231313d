-- What a done call may do to the resident pages of a stream.
use Rattle.std.specs.Prelude.{◌≡◌, ℕ, Bool, true, false, List, Option, None, Some, if◌then◌else◌}
use Rattle.cc_entry.specs.Place.{Range}
use Rattle.cc_entry.specs.declared.call.Call.{Call}
use Rattle.cc_entry.specs.declared.reply.Reply.{Reply}
use Rattle.cc_views.specs.Views.{MappedViews}
use Rattle.cc_resident.specs.Residents.{all_mapped}
use Rattle.cc_model.specs.Acts.{Act, Stamps, Looks}
use Rattle.cc_model.specs.History.{Effect, Did}
use Rattle.cc_model.specs.Residency.{used_by, blocks_of_range}

-- a done call uses the blocks of this range, or none where there is none
pub record UsesBlocks (h : List Effect) (pass : ℕ) (call : Call) (reply : Reply)
    (range : Option Range) : Type 0 where
  pub blocks : used_by (Did pass call reply) h ≡ blocks_of_range range

-- whether an act changes no byte, size or page
abbrev pub is_look : Act → Bool
is_look Looks = true
is_look (Stamps hold lsn) = true
is_look other = false

-- each view block of a range, where there is one, is mapped
abbrev pub IsMapped : MappedViews → Option Range → Type 0
IsMapped m None = Unit {0}
IsMapped m (Some r) = all_mapped m r ≡ true

-- the range that a change uses, where it uses one
abbrev pub used_if : Bool → Range → Option Range
used_if uses r = if uses then Some r else None
