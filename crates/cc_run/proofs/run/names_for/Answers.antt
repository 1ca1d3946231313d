-- Each caller has room for the words that it binds, and none of its words names anything yet.
use Rattle.std.proofs.Common.{◌≡◌, ◌∙◌, [], ◌∷◌, ℕ, zero, suc, List, length, sym, ap, inl, inr, arith}
use Rattle.std.specs.Prelude.{slice_get}
use Rattle.std.specs.List.{AllByRecursion}
use Rattle.std.specs.declared.option.Option.TheVariants.{Some}
use Rattle.cc_script.specs.HoldWords.{words_bound}
use Rattle.cc_lines.specs.Holds.{NamesState}
use Rattle.cc_lines.specs.Queues.{new_places, queues_of}
use Rattle.cc_run.proofs.Lists.{all-join}
use Rattle.cc_run.proofs.Rooms.{behind}
use Rattle.cc_run.proofs.RowSteps.{longer}
use Rattle.cc_run.proofs.run.names_for.Goals as goal

-- none of them names anything
none-long : (rows : List NamesState) (n : ℕ) (names : NamesState) → AllByRecursion (λ (names : NamesState). names.named ≡ []) rows → slice_get rows n ≡ Some names → length names.named ≡ 0
none-long [] n names all at = absurd (cc at)
none-long (r ∷ rows) zero names all at =
    let is : r ≡ names = cc at in
    ap (λ (names : NamesState). length names.named) (sym is) ∙ ap length all.0
none-long (r ∷ rows) (suc n) names all at = none-long rows n names all.1 at

pub loop-caller-preserved : goal.loop-caller-preserved
loop-caller-preserved c =
    let before = c.loop-caller.invariant in
    let made = c.in_ok-with_room.field-0 in
    record {
      counted = omega (arith, longer _ _ _ c.push_reserved.ensures.items, before.counted);
      within = omega arith;
      capacity = omega (arith, c.push_reserved.ensures.capacity, before.capacity);
      fresh = rw c.push_reserved.ensures.items (all-join (λ (own : NamesState). own.places ≡ new_places c.args.queues.now) c.loop-caller.names.items _ before.fresh (c.in_ok-with_room.ensures.places ∙ c.split-own.ensures.made, tt));
      same = c.split-own.ensures.same ∙ before.same;
      none = rw c.push_reserved.ensures.items (all-join (λ (names : NamesState). names.named ≡ []) c.loop-caller.names.items _ before.none (c.in_ok-with_room.ensures.room.0, tt));
      room = λ n names at.
          let which = behind c.loop-caller.names.items _ names n (rw c.push_reserved.ensures.items at at) in
          elim which [
            | inl there ↦ before.room n names there
            | inr here ↦
                let number : suc n ≡ c.loop-caller.caller = omega (arith, here.0, before.counted) in
                omega (
                  arith,
                  c.in_ok-with_room.ensures.room.1,
                  c.words_of.ensures,
                  ap (λ me. words_bound me c.args.script.now.lines) number,
                  ap (λ (names : NamesState). names.room) here.1,
                )
          ];
    }

pub split-own-requires : goal.split-own-requires
split-own-requires c = record { own = ap queues_of c.loop-caller.invariant.same ∙ c.requires.own }

pub returns-clause-words : goal.returns-clause-words
returns-clause-words c =
    let before = c.loop-caller.invariant in
    record {
      counted = omega (arith, before.counted, before.within, c.loop-caller-test.false);
      none = before.none;
      right = c.requires.within.words;
      room = λ n names at. omega (arith, before.room n names at, none-long c.loop-caller.names.items n names before.none at);
    }

pub returns-clause-places : goal.returns-clause-places
returns-clause-places c = c.loop-caller.invariant.fresh

pub returns-clause-same : goal.returns-clause-same
returns-clause-same c = c.loop-caller.invariant.same
