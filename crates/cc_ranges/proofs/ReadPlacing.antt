-- The entry of the read of a page that was done, placed in a visit with the stream's disk and book in hand.
use Rattle.std.specs.Prelude.{◌≡◌, ℕ, suc, ◌+◌, ◌-◌, ◌≤◌, Bool, true, false, [], ◌∷◌, Some, refl}
use Rattle.std.proofs.Common.{ap, sym, ◌∙◌, arith}
use Rattle.std.proofs.lemmas.Bool.{eq-eqb}
use Rattle.cc_entry.specs.Place.{File}
use Rattle.cc_entry.specs.declared.call.Call.{Call}
use Rattle.cc_entry.specs.declared.call.Call.TheVariants as call
use Rattle.cc_entry.specs.declared.entry.Entry.{Entry}
use Rattle.cc_entry.specs.declared.entry.Entry.TheVariants as entry
use Rattle.cc_entry.specs.declared.reply.Outcome.{Outcome}
use Rattle.cc_entry.specs.declared.reply.Outcome.TheVariants as outcome
use Rattle.cc_entry.specs.declared.reply.Reply.{Reply}
use Rattle.cc_book.specs.Book.{BookState, done}
use Rattle.cc_journal.specs.Journal.{JournalState}
use Rattle.cc_laws.proofs.TurnSteps.{is_quiet-none, is_quiet-unneeded}
use Rattle.cc_model.specs.Passes.{calls_of}
use Rattle.cc_model.specs.Room.{reserved_in}
use Rattle.cc_model.specs.Turns.{Turn, needs}
use Rattle.cc_step.specs.Step.{StandUnder, AddsOwing, AttemptDone}
use Rattle.cc_turns.specs.Standing.{Standing, holds}
use Rattle.cc_writes.specs.Hands.{HasBook, IsAtRest}
use Rattle.cc_writes.proofs.Placing.{has-book, unneeded-page}
use Rattle.cc_writes.proofs.Visiting.{Visiting, Stepping}

module _ {Q : Type 0} (posted : Q → Bool) (w v : Standing) (file : File) (page : ℕ) (b c : BookState) (j k : JournalState Q)
    (has : HasBook w b.stream b) (vis : Visiting posted w v b.stream b j) (rest : IsAtRest w b.stream) where
  abbrev placed : Reply → Entry
  placed r = done w.number j.entries b.stream (call.NcRead file page) r

  -- what the past owes is reserved
  pub owes : reserved_in j.entries ≤ j.reserved
  owes = covers (reserved_in j.entries) j.reserved w.in_flight v.others vis.reserved_is
    where
      covers : (owed was flight others : ℕ) → was ≡ owed + flight + others → owed ≤ was
      covers owed was flight others is = omega (arith, is)

  -- the entry of a call stands where so many places were reserved, and so many are under way after it
  pub stepping-owing : (flight n : ℕ) (it : Call) (ended : Outcome) → ((t : Turn) → holds (record w.held { journal = true }) t ≡ false → needs (entry.Call w.number (suc (calls_of j.entries w.number)) (Some b.stream) it ended) t ≡ false) → AddsOwing (entry.Call w.number (suc (calls_of j.entries w.number)) (Some b.stream) it ended) (record j { reserved = n }) k → StandUnder w.setup c k → c.stream ≡ b.stream → reserved_in j.entries ≤ n → n + w.in_flight ≡ j.reserved + flight → Stepping w v b.stream flight (entry.Call w.number (suc (calls_of j.entries w.number)) (Some b.stream) it ended ∷ []) c j k
  stepping-owing flight n it ended unneeded owing stand stream owed fewer = record {
    kept = owing ∙ ap (λ (m : ℕ). record j { entries = e ∷ j.entries; reserved = m; rows = k.rows }) (sym is);
    stand = stand;
    stream = stream;
    event = tt;
    own = (eq-eqb w.number w.number refl, tt);
    held = λ t away. is_quiet-unneeded t e [] (unneeded t away) ∙ is_quiet-none t;
    reserved = count k.reserved j.reserved (reserved_in k.entries) (reserved_in (e ∷ j.entries)) (reserved_in j.entries) w.in_flight v.others
        (ap (λ (x : JournalState Q). reserved_in x.entries) owing) is vis.reserved_is owed fewer;
  }
    where
      e : Entry
      e = entry.Call w.number (suc (calls_of j.entries w.number)) (Some b.stream) it ended

      is : k.reserved ≡ reserved_in (e ∷ j.entries) + (n - reserved_in j.entries)
      is = ap (λ (x : JournalState Q). x.reserved) owing

      count : (now was owes after before under others : ℕ) → owes ≡ after → now ≡ after + (n - before) → was ≡ before + under + others → before ≤ n → n + under ≡ was + flight → now ≡ owes + flight + others
      count now was owes after before under others a e s o f = omega (arith, a, e, s, o, f)

  -- that of a read of a page which was done needs the disk too
  pub stepping-read : (flight n : ℕ) (r : Reply) → AttemptDone w.setup w.number (call.NcRead file page) r b c (record j { reserved = n }) k → reserved_in j.entries ≤ n → n + w.in_flight ≡ j.reserved + flight → Stepping w v b.stream flight (placed r ∷ []) c j k
  stepping-read flight n r left owed fewer =
      stepping-owing flight n (call.NcRead file page) (outcome.Done r) (unneeded-page w.held b.stream (has-book posted w v b c j k has vis) rest.device)
      left.placed left.stand left.stream owed fewer
