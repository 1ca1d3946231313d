-- In a legal journal the id of each open hold is no greater than how many holds were made.
use Rattle.std.specs.Prelude.{◌≡◌, ℕ, suc, ◌<◌, ◌≤◌, Bool, true, false, ◌==◌, List, [], ◌∷◌, All, cond, if◌then◌else◌, refl}
use Rattle.std.specs.declared.option.Option.{Option}
use Rattle.std.specs.declared.option.Option.TheVariants.{Some, None}
use Rattle.std.specs.List.{AllByRecursion, cons_option, filter}
use Rattle.std.proofs.Common.{ap, sym, subst, arith}
use Rattle.std.proofs.lemmas.List.Elements.{All-from_recursion}
use Rattle.cc_entry.specs.declared.call.Call.{Call}
use Rattle.cc_entry.specs.declared.call.Call.TheVariants as call
use Rattle.cc_entry.specs.declared.reply.Reply.{Reply}
use Rattle.cc_entry.specs.declared.reply.Outcome.TheVariants as outcome
use Rattle.cc_entry.specs.declared.entry.Entry.{Entry}
use Rattle.cc_entry.specs.declared.entry.Entry.TheVariants as entry
use Rattle.cc_model.specs.Setup.{Setup}
use Rattle.cc_model.specs.History.{Effect, Did, CameIn, WentOut, Began, Ended, Synced, effect_of, history}
use Rattle.cc_model.specs.Holds.{Hold, hold_at, changed_at, repinned, id_of, held_after, holds_of}
use Rattle.cc_model.specs.Cache.{makes_hold, holds_made}
use Rattle.cc_model.specs.Replies.{IsReply}
use Rattle.cc_model.specs.Legal.{IsLegal, IsLegalEntry, stream_history, stream_opening}
use Rattle.cc_laws.proofs.PassSteps.{holds_made-entry, holds_made-made}

-- each hold has an id below this number
abbrev AllBelow : ℕ → List Hold → Type 0
AllBelow n holds = AllByRecursion (λ (hold : Hold). hold.id < n) holds

below-more : (n m : ℕ) (holds : List Hold) → n ≤ m → AllBelow n holds → AllBelow m holds
below-more n m [] more below = tt
below-more n m (hold ∷ holds) more below = (further hold.id below.0, below-more n m holds more below.1)
  where
    further : (k : ℕ) → k < n → k < m
    further k less = omega arith

below-changed : (n id : ℕ) (change : Hold → Hold) (holds : List Hold) → ((hold : Hold) → (change hold).id ≡ hold.id) → AllBelow n holds → AllBelow n (changed_at id change holds)
below-changed n id change [] same below = tt
below-changed n id change (hold ∷ holds) same below = (go (hold.id == id), below-changed n id change holds same below.1)
  where
    go : (b : Bool) → (let it : Hold = cond b (change hold) hold in it.id) < n
    go true = subst (λ k. k < n) (sym (same hold)) below.0
    go false = below.0

below-filtered : (n : ℕ) (test : Hold → Bool) (holds : List Hold) → AllBelow n holds → AllBelow n (filter test holds)
below-filtered n test [] below = tt
below-filtered n test (hold ∷ holds) below = go (test hold) (below-filtered n test holds below.1)
  where
    go : (b : Bool) → AllBelow n (filter test holds) → AllBelow n (cond b (hold ∷ filter test holds) (filter test holds))
    go true rest = (below.0, rest)
    go false rest = rest

below-held : (n pass : ℕ) (call : Call) (id : ℕ) (holds : List Hold) → (makes_hold call ≡ true → id < n) → AllBelow n holds → AllBelow n (held_after pass call id holds)
below-held n pass (call.Map file at len) id holds new below = (new refl, below)
below-held n pass (call.PinRead file at len exclusive) id holds new below = (new refl, below)
below-held n pass (call.PinMapped hold exclusive) id holds new below = below-changed n hold _ holds (λ it. refl) below
below-held n pass (call.PreparePin file at len true exclusive) id holds new below = (new refl, below)
below-held n pass (call.PreparePin file at len false exclusive) id holds new below = (new refl, below)
below-held n pass (call.PinnedWrite hold at bytes) id holds new below = below-changed n hold _ holds (λ it. refl) below
below-held n pass (call.SetDirty hold lsn) id holds new below = below-changed n hold _ holds (λ it. refl) below
below-held n pass (call.EndHold hold) id holds new below = below-filtered n _ holds below
below-held n pass (call.Repin hold) id holds new below = go (hold_at holds hold)
  where
    go : (o : Option Hold) → AllBelow n (repinned id pass o holds)
    go None = below
    go (Some it) = (new refl, below)
below-held n pass (call.MdlRead file at len) id holds new below = (new refl, below)
below-held n pass (call.MdlWrite file at len) id holds new below = (new refl, below)
below-held n pass other id holds new below = below

-- the id that an effect gives, where it makes a hold, is below this number
abbrev MadeBelow : Option Effect → ℕ → Type 0
MadeBelow (Some (Did pass call reply)) n = makes_hold call ≡ true → id_of reply < n
MadeBelow other n = Unit {0}

below-onto : (o : Option Effect) (h : List Effect) (n : ℕ) → MadeBelow o n → AllBelow n (holds_of h) → AllBelow n (holds_of (cons_option o h))
unfolding holds_of
below-onto None h n made below = below
below-onto (Some (Did pass call reply)) h n made below = below-held n pass call (id_of reply) (holds_of h) made below
below-onto (Some (CameIn pass page from_disk)) h n made below = below
below-onto (Some (WentOut pass page)) h n made below = below
below-onto (Some (Began pass page)) h n made below = below
below-onto (Some (Ended pass page how)) h n made below = below
below-onto (Some (Synced pass how)) h n made below = below

-- the reply of a call that makes a hold has the next id
next-id : (u : Setup) (past : List Entry) (told : Option (ℕ → List ℕ)) (h : List Effect) (pass : ℕ) (call : Call) (reply : Reply) → IsReply u past told h pass call reply → makes_hold call ≡ true → id_of reply ≡ suc (holds_made past)
next-id u past told h pass (call.Map file at len) reply is makes = ap id_of is
next-id u past told h pass (call.PinRead file at len exclusive) reply is makes = ap id_of is
next-id u past told h pass (call.PreparePin file at len zero exclusive) reply is makes = ap id_of is
next-id u past told h pass (call.Repin hold) reply is makes = ap id_of is
next-id u past told h pass (call.MdlRead file at len) reply is makes = ap id_of is
next-id u past told h pass (call.MdlWrite file at len) reply is makes = ap id_of is
next-id u past told h pass other reply is makes = absurd (cc)

made-if : (same : Bool) (e : Effect) (n : ℕ) → MadeBelow (Some e) n → MadeBelow (if same then Some e else None) n
made-if true e n made = made
made-if false e n made = tt

made-entry : (u : Setup) (past : List Entry) (e : Entry) (s : ℕ) → IsLegalEntry u past e → MadeBelow (effect_of e s) (suc (holds_made (e ∷ past)))
unfolding IsLegalEntry
made-entry u past (entry.Call pass nth (Some stream) call (outcome.Done reply)) s legal =
    made-if (stream == s) (Did pass call reply) _ (λ makes. below makes)
  where
    below : makes_hold call ≡ true → id_of reply < suc (holds_made (entry.Call pass nth (Some stream) call (outcome.Done reply) ∷ past))
    below makes =
        let next = next-id u past (stream_opening u (Some stream)) (stream_history past (Some stream)) pass call reply legal.1 makes in
        let counted = holds_made-made pass nth (Some stream) call reply past makes in
        omega arith
made-entry u past (entry.Call pass nth (Some stream) call (outcome.Failed error)) s legal = tt
made-entry u past (entry.Call pass nth None call ended) s legal = tt
made-entry u past (entry.PageIn pass page from_disk) s legal = made-if (page.stream == s) (CameIn pass page.page from_disk) _ tt
made-entry u past (entry.PageOut pass page) s legal = made-if (page.stream == s) (WentOut pass page.page) _ tt
made-entry u past (entry.WriteBegin pass page) s legal = made-if (page.stream == s) (Began pass page.page) _ tt
made-entry u past (entry.WriteEnd pass page how) s legal = made-if (page.stream == s) (Ended pass page.page how) _ tt
made-entry u past (entry.Sync pass stream how) s legal = made-if (stream == s) (Synced pass how) _ tt
made-entry u past other s legal = tt

below-made : (u : Setup) (past : List Entry) (s : ℕ) → IsLegal u past → AllBelow (suc (holds_made past)) (holds_of (history past s))
unfolding IsLegal history holds_of
below-made u [] s legal = tt
below-made u (e ∷ past) s legal =
    below-onto (effect_of e s) (history past s) (suc (holds_made (e ∷ past))) (made-entry u past e s legal.0)
    (below-more (suc (holds_made past)) _ (holds_of (history past s)) (omega (arith, holds_made-entry e past)) (below-made u past s legal.1))

-- so the id that the next reply has is greater than each
pub ids-made : (u : Setup) (past : List Entry) (s : ℕ) → IsLegal u past → All (λ (hold : Hold). hold.id < suc (holds_made past)) (holds_of (history past s))
ids-made u past s legal = All-from_recursion _ (holds_of (history past s)) (below-made u past s legal)

-- so a done call that makes a hold has a reply with a greater id than each open one
pub id-made : (u : Setup) (past : List Entry) (pass nth s : ℕ) (call : Call) (reply : Reply) → IsLegal u (entry.Call pass nth (Some s) call (outcome.Done reply) ∷ past) → makes_hold call ≡ true → All (λ (hold : Hold). hold.id < id_of reply) (holds_of (history past s))
unfolding IsLegal IsLegalEntry
id-made u past pass nth s call reply legal makes =
    let next = next-id u past (stream_opening u (Some s)) (stream_history past (Some s)) pass call reply legal.0.1 makes in
    subst (λ (n : ℕ). All (λ (hold : Hold). hold.id < n) (holds_of (history past s))) (sym next) (ids-made u past s legal.1)
