use Rattle.std.specs.Prelude.{◌≡◌, drop}
use Rattle.cc_views.specs.Views.{first_not_in, mapped_blocks}
use Rattle.cc_views.proofs.views.Views.oldest_of.Given as goal

abbrev pub invariant-loop-place : goal.invariant-loop-place
invariant-loop-place l = first_not_in l.kept (drop l.place (mapped_blocks l.self)) ≡ first_not_in l.kept (mapped_blocks l.self)
