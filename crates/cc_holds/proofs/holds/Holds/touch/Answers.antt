use Rattle.std.proofs.Common.{arith}
use Rattle.std.proofs.lemmas.Result.{on_ok_weaker}
use Rattle.cc_holds.specs.Holds.{hold_written}
use Rattle.cc_holds.proofs.Changes.{found-within, found-changes}
use Rattle.cc_holds.proofs.Order.{InOrder-set}
use Rattle.cc_holds.proofs.HoldBlocks.{count-set, written-same}
use Rattle.cc_holds.proofs.holds.Holds.touch.Goals as goal

pub index_mut-requires : goal.index_mut-requires
index_mut-requires c = omega (arith, found-within c.self.inside.holds.items _ _ c.args.id c.place_of-place.result c.place_of-place.ensures.value c.deref.ensures.value c.self.view_is c.requires)

pub returns-clause-ok : goal.returns-clause-ok
returns-clause-ok c =
    on_ok_weaker c.write.result
    (found-changes c.self.inside.holds.items _ _ c.args.id c.place_of-place.result c.place_of-place.ensures.value c.deref.ensures.value c.self.view_is c.requires
    c.index_mut.result.now _ (hold_written c.args.span) c.index_mut.ensures.value)
    c.write.ensures.ok

pub invariant_of-self : goal.invariant_of-self
invariant_of-self c =
    let within = found-within c.self.inside.holds.items _ _ c.args.id c.place_of-place.result c.place_of-place.ensures.value c.deref.ensures.value c.self.view_is c.requires in
    let same = written-same c.write.result c.args.span c.index_mut.result.now c.write.new.self c.write.ensures.ok c.write.ensures.err in
    record {
      in_order =
          InOrder-set c.self.inside.holds.items c.place_of-place.result c.index_mut.result.now c.write.new.self within c.index_mut.ensures.value
          same.2 c.self.invariant.in_order;
      counts =
          count-set c.self.inside.holds.items c.self.inside.blocks c.place_of-place.result c.index_mut.result.now c.write.new.self within c.index_mut.ensures.value
          same.0 same.1 c.self.invariant.counts;
    }
