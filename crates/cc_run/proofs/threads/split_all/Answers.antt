-- Each split makes the caller of the next number, with the last room and the last names that are left.
use Rattle.std.proofs.Common.{◌≡◌, ◌<◌, ◌+◌, ◌-◌, ◌++◌, ◌∷◌, [], ℕ, suc, Bool, false, length, refl, sym, ap, subst, ◌∙◌, inl, inr, arith}
use Rattle.std.specs.Prelude.{slice_get}
use Rattle.std.specs.declared.option.Option.TheVariants.{Some}
use Rattle.std.proofs.lemmas.List.{append-nil}
use Rattle.std.specs.Global.{Global}
use Rattle.std.specs.declared.vec.Vec.{Vec}
use Rattle.cc_entry.specs.declared.answer.Answer.{Answer}
use Rattle.cc_board.specs.Board.{BoardState, FirstState, PassState, IsFirstOf, IsSplit}
use Rattle.cc_board.specs.View.{run_of, with_number, split_left, split_right}
use Rattle.cc_lines.specs.Holds.{NamesState}
use Rattle.cc_run.specs.Threads.{CallerIsMade}
use Rattle.cc_run.specs.declared.callers.Caller.{Caller}
use Rattle.cc_run.proofs.Rooms.{behind, has-room, next, taken-next}
use Rattle.cc_run.proofs.RowSteps.{longer}
use Rattle.cc_run.proofs.threads.split_all.Goals as goal

-- pass 0 after so many splits
abbrev after : {D L : Type 0} → FirstState D L → ℕ → Bool → FirstState D L
after first made drawn = record first { knows = record first.knows { made = made; drawn = drawn } }

-- the next split makes a caller with the next number
made-next : {D L Q : Type 0} (board : BoardState D L) (old at new : FirstState D L) (number : ℕ) (drawn : Bool) (room : Vec Answer Global)
    (names : NamesState) (caller : Caller D L Q) → IsFirstOf board old → at ≡ after old (number + 1) drawn → IsSplit at new caller.pass →
    caller.room ≡ room → caller.names ≡ names → CallerIsMade board old (suc number) room names caller
made-next {D = D} {L = L} board old at new number drawn room names caller here is split room_is names_are =
    let given : FirstState D L → PassState D L = λ f. record { board = f.board; knows = split_right (with_number f.knows); device_turns = 0 } in
    let whole : caller.pass ≡ given (after old (number + 1) drawn) = split.made_is ∙ ap given is in
    record {
      here = ap (λ p. p.board) whole ∙ here;
      run = ap (λ p. run_of p.knows) whole;
      number_is = ap (λ p. p.knows.number) whole ∙ omega arith;
      seen_is = ap (λ p. p.knows.seen) whole;
      none = ap (λ p. p.knows.in_flight) whole;
      before_is = ap (λ p. p.knows.before) whole;
      passes_are = ap (λ p. p.knows.passes) whole;
      room_is = room_is;
      names_are = names_are;
    }

-- and leaves pass 0 as it was but for that
left-next : {D L : Type 0} (old at new : FirstState D L) (made : PassState D L) (number : ℕ) (drawn : Bool) →
    at ≡ after old number drawn → IsSplit at new made → new ≡ after old (number + 1) false
left-next {D = D} {L = L} old at new made number drawn is split =
    let kept : FirstState D L → FirstState D L = λ f. record f { knows = split_left (with_number f.knows) } in
    split.old_is ∙ ap kept is

-- where it makes none, there are too many
too-many : {D L : Type 0} (old at : FirstState D L) (number : ℕ) (drawn : Bool) → at ≡ after old number drawn →
    at.knows.passes < at.knows.made → old.knows.passes < number
too-many old at number drawn is more = omega (arith, more, ap (λ f. f.knows.passes) is, ap (λ f. f.knows.made) is)

pub loop-room-init : goal.loop-room-init
loop-room-init g c = record {
  gone = [];
  left = append-nil c.args.rooms.items;
  counted = omega (arith, c.requires.rooms);
  names_gone = [];
  names_left = append-nil c.args.names.now.items;
  names_counted = c.requires.names ∙ sym c.requires.rooms;
  names_room = refl;
  as_many = ap length c.requires.room.empty;
  room = c.requires.room.room;
  drawn = c.args.first.now.knows.drawn;
  first = ap (λ made. record c.args.first.now { knows = record c.args.first.now.knows { made = made } }) c.requires.may.one_made;
  each = λ n caller at. absurd (let gone = rw c.requires.room.empty at at in cc);
}

pub of-requires : goal.of-requires
of-requires g c = record {
  first = omega arith;
  last = omega (arith, longer _ _ _ c.in-Some.ensures.items, c.loop-room.invariant.counted);
}

pub push_reserved-requires : goal.push_reserved-requires
push_reserved-requires g c =
    let before = c.loop-room.invariant in
    has-room c.loop-room.callers (length c.loop-room.rooms.items) (omega (arith, longer _ _ _ c.in-Some.ensures.items))
    (omega (arith, before.as_many, before.counted)) before.room

pub loop-room-preserved : goal.loop-room-preserved
loop-room-preserved g c =
    let before = c.loop-room.invariant in
    let fewer = c.pop.new.self.items in
    let left : fewer ++ c.in-Some.room ∷ before.gone ≡ c.args.rooms.items =
    taken-next _ _ _ _ _ c.in-Some.ensures.items before.left in
    let names_left : c.pop-in-Some.new.self.items ++ c.in-Some-pop.own ∷ before.names_gone ≡ c.args.names.now.items =
    taken-next _ _ _ _ _ c.in-Some-pop.ensures.items before.names_left in
    let shorter_names : length c.loop-room.names.items ≡ length c.pop-in-Some.new.self.items + 1 = longer _ _ _ c.in-Some-pop.ensures.items in
    let shorter : length c.loop-room.rooms.items ≡ length fewer + 1 = longer _ _ _ c.in-Some.ensures.items in
    record {
      gone = c.in-Some.room ∷ before.gone;
      left = left;
      counted = omega (arith, shorter, before.counted);
      names_gone = c.in-Some-pop.own ∷ before.names_gone;
      names_left = names_left;
      names_counted = omega (arith, shorter, shorter_names, before.names_counted);
      names_room = c.pop-in-Some.ensures.capacity ∙ before.names_room;
      as_many = longer _ _ _ c.push_reserved.ensures.items ∙ ap (λ n. n + 1) before.as_many;
      room = rw c.push_reserved.ensures.capacity before.room;
      drawn = false;
      first = left-next c.args.first.now c.loop-room.first c.split.new.first c.in-Some-split.pass (c.loop-room.number + 1) before.drawn before.first c.in-Some-split.ensures.made;
      each = λ n caller at.
          let which = behind c.loop-room.callers.items _ caller n (rw c.push_reserved.ensures.items at at) in
          elim which [
            | inl there ↦ before.each n caller there
            | inr here ↦
                let is : n ≡ c.loop-room.number = here.0 ∙ before.as_many in
                let place : 15 - n ≡ length fewer = omega (arith, is, shorter, before.counted) in
                let names_place : 15 - n ≡ length c.pop-in-Some.new.self.items = omega (arith, place, shorter, shorter_names, before.names_counted) in (
                  c.in-Some.room,
                  c.in-Some-pop.own,
                  rw place (subst (λ row. slice_get row (length fewer) ≡ Some c.in-Some.room) left (next fewer before.gone c.in-Some.room)),
                  rw names_place (subst (λ row. slice_get row (length c.pop-in-Some.new.self.items) ≡ Some c.in-Some-pop.own) names_left (next c.pop-in-Some.new.self.items before.names_gone c.in-Some-pop.own)),
                  rw is (subst (λ one. CallerIsMade c.args.board.now c.args.first.now (suc c.loop-room.number) c.in-Some.room c.in-Some-pop.own one) here.1
                      (made-next c.args.board.now c.args.first.now c.loop-room.first c.split.new.first c.loop-room.number before.drawn c.in-Some.room c.in-Some-pop.own _ c.requires.may.here before.first c.in-Some-split.ensures.made refl refl)),
                )
          ];
    }

pub unreachable-requires : goal.unreachable-requires
unreachable-requires g c =
    omega (
      arith,
      too-many c.args.first.now c.loop-room.first (c.loop-room.number + 1) c.loop-room.invariant.drawn c.loop-room.invariant.first (c.in_default-split.ensures.none.0 refl),
      c.requires.may.passes,
      longer _ _ _ c.in-Some.ensures.items,
      c.loop-room.invariant.counted,
    )

pub loop-room-smaller : goal.loop-room-smaller
loop-room-smaller g c = omega (arith, longer _ _ _ c.in-Some.ensures.items)
