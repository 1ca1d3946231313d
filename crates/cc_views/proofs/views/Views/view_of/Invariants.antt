use Rattle.cc_views.proofs.views.Views.view_of.Given as goal

abbrev pub ghosts-view_in : goal.ghosts-view_in
ghosts-view_in a = record { name = a.blank.name; parts = a.blank.parts }
