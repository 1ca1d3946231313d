-- A journal each of whose entries keeps the form has it.
use Rattle.std.specs.Prelude.{◌≡◌, ℕ, true, List, [], ◌∷◌, ◌++◌, refl}
use Rattle.std.proofs.Common.{ap, sym, subst, ◌∙◌, append_assoc}
use Rattle.std.proofs.lemmas.List.{append_cancel_right}
use Rattle.cc_entry.specs.declared.entry.Entry.{Entry}
use Rattle.cc_model.specs.Passes.{is_mine}
use Rattle.cc_effects.specs.Moments.{EachOwn}
use Rattle.cc_restart_laws.specs.Updates.{IsUpdated, IsUpdatedEntry}
use Rattle.cc_update_laws.specs.Keeping.{PassKeepsForm, KeepsForm}

pub begin : (s log : ℕ) → IsUpdated s log []
unfolding IsUpdated
begin s log = tt

pub goes-on : (s log : ℕ) (e : Entry) (past : List Entry) → IsUpdatedEntry s log past e → IsUpdated s log past → IsUpdated s log (e ∷ past)
unfolding IsUpdated
goes-on s log e past here before = (here, before)

pub whole-updated : (s log : ℕ) (past : List Entry) → ((later front : List Entry) (e : Entry) → past ≡ later ++ e ∷ front → KeepsForm s log front e) → IsUpdated s log past
whole-updated s log [] keeps = begin s log
whole-updated s log (e ∷ past) keeps =
    let before = whole-updated s log past (λ later front x is. keeps (e ∷ later) front x (ap (λ (l : List Entry). e ∷ l) is)) in
    goes-on s log e past (keeps [] past e refl before) before

each-at : (s log me : ℕ) (later front old : List Entry) (e : Entry) → EachOwn me (KeepsForm s log) (later ++ e ∷ front) old → is_mine me e ≡ true → KeepsForm s log (front ++ old) e
each-at s log me [] front old e each mine = each.0 mine
each-at s log me (x ∷ later) front old e each mine = each-at s log me later front old e each.1 mine

pub keeps-each : (s log me : ℕ) (old new later front : List Entry) (e : Entry) → PassKeepsForm s log me old new → new ≡ later ++ e ∷ (front ++ old) → is_mine me e ≡ true → KeepsForm s log (front ++ old) e
keeps-each s log me old new later front e k is mine =
    let same : k.during ≡ later ++ e ∷ front = append_cancel_right k.during (later ++ e ∷ front) old (sym k.grew ∙ (is ∙ sym (append_assoc later (e ∷ front) old))) in
    each-at s log me later front old e (subst (λ (l : List Entry). EachOwn me (KeepsForm s log) l old) same k.each) mine
