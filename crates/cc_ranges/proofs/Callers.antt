-- What a noncached call leaves as it takes the turns of a stream's disk and its book, and gives them back.
use Rattle.std.specs.Prelude.{◌≡◌, ℕ, ◌%◌, ◌<◌, ◌≤◌, Bool, true, false, ◌&&◌, ◌==◌, nat_lt, Result, Ok, Err, Some, None, refl, if◌then◌else◌}
use Rattle.std.proofs.Common.{ap, sym, ◌∙◌, subst}
use Rattle.std.proofs.lemmas.Bool.{ltb-false}
use Rattle.cc_entry.specs.declared.error.CcError.{CcError}
use Rattle.cc_entry.specs.declared.error.CcError.TheVariants as error
use Rattle.cc_effects.specs.Noncached.{shape_refusal}
use Rattle.cc_turns.specs.Standing.{TurnsHeld, Standing, nothing}
use Rattle.cc_turns.specs.Takes.{Takes, with_book, with_device, without_book, without_device}
use Rattle.cc_writes.specs.Hands.{Went}
use Rattle.cc_writes.specs.Fetch.{CanCall, WentOn}
use Rattle.cc_ranges.specs.Shapes.{IsShape}

-- With the disk and the book given back the pass goes on as it stood, but has taken the turn of the disk.
pub went-both : (w v x y z : Standing) (s : ℕ) → w.held ≡ nothing → Takes (with_device s) w v → Takes (with_book s) v x → Went x y → z ≡ without_device (without_book y) → WentOn w z
went-both w v x y z s free first second went given = record {
  same = is ∙ sym (ap (λ (a : Standing). record w { seen = a.seen; others = a.others; device_turns = a.device_turns }) is);
}
  where
    turns : ℕ
    turns = (with_device s w).device_turns

    is : z ≡ record w { seen = y.seen; others = y.others; device_turns = turns }
    is =
        given
        ∙ (ap (λ (a : Standing). without_device (without_book a)) went.same
        ∙ (ap (λ (a : Standing). without_device (without_book (record a { seen = y.seen; others = y.others; in_flight = a.in_flight }))) second.same
        ∙ (ap (λ (a : Standing). without_device (without_book (record (with_book s a) { seen = y.seen; others = y.others }))) first.same
        ∙ (ap (λ (h : TurnsHeld). record w { held = record h { device = None; book = None }; seen = y.seen; others = y.others; device_turns = turns }) free
        ∙ ap (λ (h : TurnsHeld). record w { held = h; seen = y.seen; others = y.others; device_turns = turns }) (sym free)))))

pub went-then : (w v x : Standing) → WentOn w v → WentOn v x → WentOn w x
went-then w v x first second = record {
  same = second.same ∙ ap (λ (a : Standing). record a { seen = x.seen; others = x.others; device_turns = x.device_turns }) first.same;
}

-- the pass may call again
pub can-again : (w v : Standing) (s : ℕ) → CanCall w s → WentOn w v → CanCall v s
can-again w v s can went = record {
  known = subst (λ (n : ℕ). s < n) (sym (ap (λ (a : Standing). a.streams) went.same)) can.known;
  free = ap (λ (a : Standing). a.held) went.same ∙ can.free;
  none = ap (λ (a : Standing). a.in_flight) went.same ∙ can.none;
}

-- the two refusals are those that a place and a length may have
pub shape-is : (at n : ℕ) (e : CcError) → shape_refusal at n ≡ Some e → IsShape e
shape-is at n e is = go (nat_lt 65536 n) refl (at % 4096 == 0 && n % 4096 == 0) refl is
  where
    of-some : (x y : CcError) → Some x ≡ Some y → x ≡ y
    of-some x y same = cc

    go : (long : Bool) → nat_lt 65536 n ≡ long → (whole : Bool) → (at % 4096 == 0 && n % 4096 == 0) ≡ whole → (if long then Some (error.TooLong 65536) else (if whole then None else Some error.Unaligned)) ≡ Some e → IsShape e
    go true a whole b same = subst IsShape (of-some (error.TooLong 65536) e same) refl
    go false a true b same = absurd (cc)
    go false a false b same = subst IsShape (of-some error.Unaligned e same) tt

-- a place and a length that are in order are no more than so many bytes
pub shape-fits : (at n : ℕ) → shape_refusal at n ≡ None → n ≤ 65536
shape-fits at n is = go (nat_lt 65536 n) refl (at % 4096 == 0 && n % 4096 == 0) is
  where
    go : (long : Bool) → nat_lt 65536 n ≡ long → (whole : Bool) → (if long then Some (error.TooLong 65536) else (if whole then None else Some error.Unaligned)) ≡ None → n ≤ 65536
    go true a whole same = absurd (cc)
    go false a whole same = ltb-false 65536 n a
