use Rattle.std.proofs.Common.{is_some, ap, sym, ◌∙◌}
use Rattle.cc_views.specs.Views.{frames_at}
use Rattle.cc_views.proofs.views.Views.resize.Goals as goal

pub resize-requires : goal.resize-requires
resize-requires c = λ _ block s. c.requires block (ap (λ m. is_some (frames_at m block)) (sym c.self.view_is) ∙ sym (c.self.invariant.indexed block) ∙ s)

pub invariant_of-self : goal.invariant_of-self
invariant_of-self c =
    let was = c.self.invariant in
    record {
      sound = record {
        distinct = was.sound.distinct;
        below = λ block s. c.requires block (ap (λ m. is_some (frames_at m block)) (sym c.self.view_is) ∙ s);
        within = was.sound.within;
      };
      few = was.few;
      sized = c.in-Ok.ensures.size;
      indexed = λ block. ap is_some (c.resize.ensures.entries block) ∙ was.indexed block;
    }
