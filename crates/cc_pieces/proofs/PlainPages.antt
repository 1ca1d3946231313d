-- In a good journal a noncached read answers the plain file's bytes, page by page.
use Rattle.std.specs.Prelude.{◌≡◌, ℕ, zero, suc, ◌*◌, List, [], ◌∷◌, ◌++◌, Ok}
use Rattle.std.specs.declared.option.Option.{Option}
use Rattle.std.specs.declared.option.Option.TheVariants.{Some, None}
use Rattle.std.proofs.Common.{sym, ◌∙◌, append_assoc, inl, inr}
use Rattle.cc_entry.specs.Place.{File}
use Rattle.cc_entry.specs.declared.call.Call.TheVariants as call
use Rattle.cc_entry.specs.declared.error.CcError.{CcError}
use Rattle.cc_entry.specs.declared.reply.Reply.TheVariants as reply
use Rattle.cc_entry.specs.declared.reply.Outcome.TheVariants as outcome
use Rattle.cc_entry.specs.declared.answer.Answer.TheVariants as answer
use Rattle.cc_entry.specs.declared.entry.Entry.{Entry}
use Rattle.cc_entry.specs.declared.entry.Entry.TheVariants as entry
use Rattle.cc_script.specs.declared.script.Action.TheVariants as action
use Rattle.cc_model.specs.Setup.{Setup}
use Rattle.cc_model.specs.History.{history}
use Rattle.cc_model.specs.Replies.{Reads}
use Rattle.cc_model.specs.Legal.{IsLegal, IsLegalEntry}
use Rattle.cc_model.specs.Good.{IsGood}
use Rattle.cc_effects.specs.Calls.{IsDone}
use Rattle.cc_effects.specs.Noncached.{NcReadLeft, IsUntold, PagesRead, ShapedReadLeft, pages_from, shape_refusal}
use Rattle.cc_effects.proofs.FrontLaws.{legal-tail}
use Rattle.cc_effects.proofs.Stretches.{grew-after}
use Rattle.cc_pieces.specs.Bindings.{Binding}
use Rattle.cc_pieces.specs.PlainPages.{ArePlainPages, IsPlainPage}
use Rattle.cc_pieces.specs.Runs.{Explains}

-- the journal has what it had, and more in front
record Grew (old new : List Entry) : Type 0 where
  during : List Entry
  grew : new ≡ during ++ old

page-legal : (u : Setup) (me nth : ℕ) (file : File) (page : ℕ) (bytes : List ℕ) (front : List Entry) → IsLegal u (entry.Call me nth (Some file.stream) (call.NcRead file page) (outcome.Done (reply.Read bytes)) ∷ front) → Reads (u.opening file.stream) (history front file.stream) (4096 * page) 4096 (reply.Read bytes)
unfolding IsLegal IsLegalEntry
page-legal u me nth file page bytes front legal = legal.0.1

page-plain : (u : Setup) (me : ℕ) (file : File) (page : ℕ) (bytes : List ℕ) (old new : List Entry) → IsLegal u new → IsDone me (call.NcRead file page) (reply.Read bytes) old new → IsPlainPage u me file page bytes old new
page-plain u me file page bytes old new legal done =
    let placed = done.placed in
    let grew : new ≡ placed.later ++ (entry.Call me placed.nth (Some file.stream) (call.NcRead file page) (outcome.Done (reply.Read bytes)) ∷ (done.earlier ++ old)) = rw placed.filed at placed.grew in
    record {
      nth = placed.nth;
      later = placed.later;
      earlier = done.earlier;
      grew = grew;
      plain = page-legal u me placed.nth file page bytes (done.earlier ++ old) (legal-tail u placed.later _ (rw grew at legal));
    }

-- the journal gained the entry of a page, and what stands around it
page-grew : (me : ℕ) (file : File) (page : ℕ) (bytes : List ℕ) (old new : List Entry) → IsDone me (call.NcRead file page) (reply.Read bytes) old new → Grew old new
page-grew me file page bytes old new done =
    let own : List Entry = entry.Call me done.placed.nth done.placed.stream (call.NcRead file page) (outcome.Done (reply.Read bytes)) ∷ done.earlier in
    record { during = done.placed.later ++ own; grew = done.placed.grew ∙ sym (append_assoc done.placed.later own old) }

untold-grew : (u : Setup) (me : ℕ) (file : File) (pages : List ℕ) (old new : List Entry) → IsUntold u me file pages old new → Grew old new
untold-grew u me file [] old new left = record { during = left.during; grew = left.grew }
untold-grew u me file (page ∷ pages) old new left = page-grew me file page left.0 old new left.1

grew-then : (old between new : List Entry) → Grew old between → Grew between new → Grew old new
grew-then old between new one more = record {
  during = more.during ++ one.during;
  grew = grew-after more.during one.during old between new more.grew one.grew;
}

pages-grew : (u : Setup) (me : ℕ) (file : File) (pages bytes : List ℕ) (old new : List Entry) → PagesRead u me file pages bytes old new → Grew old new
pages-grew u me file [] bytes old new read = record { during = read.1.during; grew = read.1.grew }
pages-grew u me file (page ∷ pages) [] old new read = page-grew me file page [] old new read
pages-grew u me file (page ∷ pages) (byte ∷ bytes) old new (inl read) =
    grew-then old read.0 new (page-grew me file page read.1 old read.0 read.5) (pages-grew u me file pages read.2 read.0 new read.6)
pages-grew u me file (page ∷ pages) (byte ∷ bytes) old new (inr short) =
    grew-then old short.0 new (page-grew me file page (byte ∷ bytes) old short.0 short.2) (untold-grew u me file pages short.0 new short.3)

pages-plain : (u : Setup) (me : ℕ) (file : File) (pages bytes : List ℕ) (old new : List Entry) → IsLegal u new → PagesRead u me file pages bytes old new → ArePlainPages u me file pages bytes old new
pages-plain u me file [] bytes old new legal read = read.0
pages-plain u me file (page ∷ pages) [] old new legal read = page-plain u me file page [] old new legal read
pages-plain u me file (page ∷ pages) (byte ∷ bytes) old new legal (inl read) =
    let more = pages-grew u me file pages read.2 read.0 new read.6 in
    let front : IsLegal u read.0 = legal-tail u more.during read.0 (rw more.grew at legal) in
    inl (read.0, read.1, read.2, read.3, read.4, page-plain u me file page read.1 old read.0 front read.5, pages-plain u me file pages read.2 read.0 new legal read.6)
pages-plain u me file (page ∷ pages) (byte ∷ bytes) old new legal (inr short) =
    let more = untold-grew u me file pages short.0 new short.3 in
    let front : IsLegal u short.0 = legal-tail u more.during short.0 (rw more.grew at legal) in
    inr (short.0, short.1, page-plain u me file page (byte ∷ bytes) old short.0 front short.2)

left-plain : (u : Setup) (me : ℕ) (file : File) (at len : ℕ) (bytes : List ℕ) (old new : List Entry) → IsLegal u new → NcReadLeft u me file at len (Ok bytes) old new → ArePlainPages u me file (pages_from at len) bytes old new
left-plain u me file at len bytes old new legal left = by (shape_refusal at len) len left
  where
    by : (shape : Option CcError) (len : ℕ) → ShapedReadLeft u me file at len shape (Ok bytes) old new → ArePlainPages u me file (pages_from at len) bytes old new
    by None zero left = left.0
    by None (suc n) left = pages-plain u me file (pages_from at (suc n)) bytes old new legal left
    by (Some refusal) len left = absurd left

pub noncached-plain : (u : Setup) (limit me : ℕ) (bindings : List Binding) (file : File) (at len : ℕ) (bytes : List ℕ) (old new newer : List Entry) → IsGood u (newer ++ new) → Explains u limit me bindings (action.NcRead file at len) (answer.Given (reply.Read bytes)) old new → ArePlainPages u me file (pages_from at len) bytes old new
noncached-plain u limit me bindings file at len bytes old new newer good explains =
    left-plain u me file at len bytes old new (legal-tail u newer new good.legal) explains.served
