-- That nobody else changed a stream from one moment to another.
use Rattle.std.specs.Prelude.{◌≡◌, ℕ, List, ◌++◌}
use Rattle.std.specs.List.{AllByRecursion}
use Rattle.cc_entry.specs.declared.entry.Entry.{Entry}
use Rattle.cc_model.specs.History.{Effect, Did, CameIn, WentOut, Began, Ended, Synced, history}

-- the pass that changed the stream
abbrev pub changer_of : Effect → ℕ
changer_of (Did pass call reply) = pass
changer_of (CameIn pass page from_disk) = pass
changer_of (WentOut pass page) = pass
changer_of (Began pass page) = pass
changer_of (Ended pass page how) = pass
changer_of (Synced pass how) = pass

-- From one moment to another nobody but this pass changed the stream: each effect on it since is the pass's.
pub record NobodyElseChanged (me s : ℕ) (old new : List Entry) : Type 0 where
  pub during : List Entry
  pub grew : new ≡ during ++ old
  pub own : AllByRecursion (λ effect. changer_of effect ≡ me) (history during s)
