use Rattle.std.proofs.Common.{rules, ◌≡◌, ◌∷◌, Some, ◌∙◌}
use Rattle.cc_script.specs.Words.{pair_onto}
use Rattle.cc_script.proofs.ByteWords.{pairs_step}
use Rattle.cc_script.proofs.byte_word.append_pairs.Goals as goal

pub loop-a-preserved : goal.loop-a-preserved
loop-a-preserved c =
    let head : c.loop-a.rest.now ≡ c.in-Some.a ∷ c.in-Some.behind.now = search rules in
    let next : c.in-Some.behind.now ≡ c.in_ok-b.b ∷ c.in_ok-b.behind.now = search rules in
    let step : pair_onto c.loop-a.bytes c.in-Some.a c.in_ok-b.b ≡ Some c.append_pair.new.bytes = search rules in
    c.loop-a.invariant ∙ pairs_step _ _ _ _ _ _ _ head next step
