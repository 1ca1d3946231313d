use Rattle.cc_traits.specs.Disk.{page_of}
use Rattle.cc_crash_laws.proofs.Logged.{shown-logged}
use Rattle.cc_crash_laws.proofs.logs.no_crash_shows_an_unlogged_change.Goals as goal

pub returns : goal.returns
returns c = λ past s p log opening now begun after content covered gone holds numbered alone among.
    shown-logged past (page_of opening) s p log after content covered holds.durable (gone.crash p content numbered alone among)
