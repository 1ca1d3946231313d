-- What a log has of the stamps of a page whose transfer began, and what a crash shows of it.
use Rattle.std.specs.Prelude.{◌≡◌, ℕ, ◌≤◌, List, ◌∷◌, ◌++◌}
use Rattle.std.specs.declared.option.Option.TheVariants.{Some}
use Rattle.cc_entry.specs.declared.entry.Entry.{Entry}
use Rattle.cc_entry.specs.declared.entry.Entry.TheVariants as entry
use Rattle.cc_model.specs.Bytes.{page_bytes}
use Rattle.cc_model.specs.History.{history}
use Rattle.cc_model.specs.Settings.{log_of}
use Rattle.cc_model.specs.Stamps.{newest_of}
use Rattle.cc_traits.specs.Log.{Log}

-- Where this is the log of the stream after a past, it has on its medium the newest LSN that was stamped on the page by then and not
-- written, and each entry before that.
abbrev pub HasStamps : List Entry → ℕ → ℕ → ℕ → Log → Type 0
HasStamps front s p log now =
    (lsn : ℕ) → log_of (history front s) ≡ Some log → newest_of (history front s) p ≡ Some lsn → lsn ≤ now.durable

-- A content is the page as one of its transfers began, and the log has on its medium what was stamped on it by then.
pub record IsShownLogged (pages : ℕ → List ℕ) (past : List Entry) (s p log : ℕ) (after : Log) (content : List ℕ) : Type 0 where
  pub later : List Entry
  pub pass : ℕ
  pub front : List Entry
  pub begins : past ≡ later ++ entry.WriteBegin pass (record { stream = s; page = p }) ∷ front
  pub shown : content ≡ page_bytes pages (history front s) p
  pub logged : HasStamps front s p log after
