use Rattle.std.proofs.Common.{ap, arith}
use Rattle.cc_holds.proofs.Changes.{found-within, found-changes}
use Rattle.cc_holds.specs.declared.holds.KeptHold.{KeptHold}
use Rattle.cc_holds.proofs.Order.{InOrder-set}
use Rattle.cc_holds.proofs.HoldBlocks.{count-set}
use Rattle.cc_holds.proofs.holds.Holds.stamp.Goals as goal

pub index_mut-requires : goal.index_mut-requires
index_mut-requires c = omega (arith, found-within c.self.inside.holds.items _ _ c.args.id c.place_of-place.result c.place_of-place.ensures.value c.deref.ensures.value c.self.view_is c.requires)

pub returns : goal.returns
returns c =
    found-changes c.self.inside.holds.items _ _ c.args.id c.place_of-place.result c.place_of-place.ensures.value c.deref.ensures.value c.self.view_is c.requires
    c.index_mut.result.now _ _ c.index_mut.ensures.value c.clean.ensures

pub invariant_of-self : goal.invariant_of-self
invariant_of-self c =
    let within = found-within c.self.inside.holds.items _ _ c.args.id c.place_of-place.result c.place_of-place.ensures.value c.deref.ensures.value c.self.view_is c.requires in
    record {
      in_order =
          InOrder-set c.self.inside.holds.items c.place_of-place.result c.index_mut.result.now c.clean.new.self within c.index_mut.ensures.value
          (ap (λ (h : KeptHold). h.row.id) c.clean.ensures) c.self.invariant.in_order;
      counts =
          count-set c.self.inside.holds.items c.self.inside.blocks c.place_of-place.result c.index_mut.result.now c.clean.new.self within c.index_mut.ensures.value
          (ap (λ (h : KeptHold). h.row.at) c.clean.ensures) (ap (λ (h : KeptHold). h.row.len) c.clean.ensures) c.self.invariant.counts;
    }
