-- What the journal says of a pass while other passes place entries.
use Rattle.std.specs.Prelude.{◌≡◌, ℕ, Bool, true, false, List, [], ◌∷◌, ◌++◌, refl}
use Rattle.std.proofs.Common.{sym, ◌∙◌}
use Rattle.cc_entry.specs.declared.entry.Entry.{Entry}
use Rattle.cc_model.specs.Passes.{is_mine, mine_of, calls_of, up_to_call, is_written_since}
use Rattle.cc_model.specs.Faults.{faults_since}
use Rattle.cc_laws.specs.Laws.{SamePass}
use Rattle.cc_laws.proofs.PassSteps.{mine_of-mine, mine_of-other, calls_of-not_mine, up_to_call-not_mine, faults_since-not_mine, is_written_since-not_mine}

-- of entries that are all others', the first and the rest
pub mine_of-first : (me : ℕ) (e : Entry) (later : List Entry) → mine_of me (e ∷ later) ≡ [] → is_mine me e ≡ false
mine_of-first me e later none = go (is_mine me e) refl
  where
    go : (t : Bool) → is_mine me e ≡ t → t ≡ false
    go false is = refl
    go true is = let some : e ∷ mine_of me later ≡ [] = sym (mine_of-mine me e later is) ∙ none in cc

pub mine_of-rest : (me : ℕ) (e : Entry) (later : List Entry) → mine_of me (e ∷ later) ≡ [] → mine_of me later ≡ []
mine_of-rest me e later none = sym (mine_of-other me e later (mine_of-first me e later none)) ∙ none

-- what no entry of another changes, others in a row do not
pub kept_by_others : {A : Type 0} (f : List Entry → A) (me : ℕ) → ((e : Entry) (past : List Entry) → is_mine me e ≡ false → f (e ∷ past) ≡ f past) → (later past : List Entry) → mine_of me later ≡ [] → f (later ++ past) ≡ f past
kept_by_others f me step [] past none = refl
kept_by_others f me step (e ∷ later) past none =
    step e (later ++ past) (mine_of-first me e later none) ∙ kept_by_others f me step later past (mine_of-rest me e later none)

pub SamePass-others : (later past : List Entry) (me : ℕ) → mine_of me later ≡ [] → SamePass me (later ++ past) past
SamePass-others later past me none = record {
  same_entries = kept_by_others (mine_of me) me (mine_of-other me) later past none;
  same_calls = kept_by_others (λ past. calls_of past me) me (λ e past other. calls_of-not_mine e past me other) later past none;
  same_up_to = kept_by_others (λ past. up_to_call past me) me (λ e past other. up_to_call-not_mine e past me other) later past none;
  same_faults = kept_by_others (λ past. faults_since past me) me (λ e past other. faults_since-not_mine e past me other) later past none;
  same_written = λ page. kept_by_others (λ past. is_written_since past me page) me (λ e past other. is_written_since-not_mine e past me page other) later past none;
}
