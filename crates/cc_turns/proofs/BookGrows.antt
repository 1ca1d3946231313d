-- A book goes on standing while others go on without its turn.
use Rattle.std.specs.Prelude.{◌≡◌, ℕ, true, List, [], ◌∷◌, ◌++◌, Option, refl}
use Rattle.std.specs.List.{list_all}
use Rattle.cc_entry.specs.declared.entry.End.{End}
use Rattle.cc_entry.specs.declared.entry.Entry.{Entry}
use Rattle.cc_model.specs.History.{Effect, Did, CameIn, WentOut, Began, Ended, Synced, history}
use Rattle.cc_model.specs.Turns.{Book, is_quiet}
use Rattle.cc_laws.proofs.HistorySteps.{history-grown}
use Rattle.cc_laws.proofs.QuietSteps.{is_sync, history-bookless}
use Rattle.cc_stream.specs.Stream.{StreamStands}
use Rattle.cc_stream.proofs.StreamSteps.{stands-other as state-other}
use Rattle.cc_ahead.specs.Kept.{PrivateStands}
use Rattle.cc_ahead.proofs.MapSteps.{stands-other as maps-other}
use Rattle.cc_holds.specs.Stands.{HoldsStand}
use Rattle.cc_holds.proofs.HoldsStanding.{stands-other as holds-other}
use Rattle.cc_content.specs.Contents.{ContentsStand}
use Rattle.cc_content.proofs.ContentSteps.{stands-synced as contents-synced}
use Rattle.cc_images.specs.Images.{ImagesStand}
use Rattle.cc_images.proofs.Standing.{stands-synced as images-synced}
use Rattle.cc_book.specs.Book.{BookState, BookStands}

-- what stands for a history, and goes on with each sync, stands after syncs in a row
stands_after_syncs : (Stands : List Effect → Type 0) → ((pass : ℕ) (how : End) (h : List Effect) → Stands h → Stands (Synced pass how ∷ h)) → (more h : List Effect) → list_all is_sync more ≡ true → Stands h → Stands (more ++ h)
stands_after_syncs Stands step [] h all stands = stands
stands_after_syncs Stands step (Synced pass how ∷ more) h all stands =
    step pass how (more ++ h) (stands_after_syncs Stands step more h all stands)
stands_after_syncs Stands step (Did pass call reply ∷ more) h all stands = absurd (cc)
stands_after_syncs Stands step (CameIn pass page from_disk ∷ more) h all stands = absurd (cc)
stands_after_syncs Stands step (WentOut pass page ∷ more) h all stands = absurd (cc)
stands_after_syncs Stands step (Began pass page ∷ more) h all stands = absurd (cc)
stands_after_syncs Stands step (Ended pass page how ∷ more) h all stands = absurd (cc)

-- it stands after entries that do not need the book's turn
stands_without_book : (Stands : List Effect → Type 0) → ((pass : ℕ) (how : End) (h : List Effect) → Stands h → Stands (Synced pass how ∷ h)) → (later past : List Entry) (s : ℕ) → is_quiet (Book s) later ≡ true → Stands (history past s) → Stands (history (later ++ past) s)
stands_without_book Stands step later past s quiet stands =
    rw (history-grown later past s)
    (stands_after_syncs Stands step (history later s) (history past s) (history-bookless later s quiet) stands)

-- entries that do not need the book's turn leave what it stands for
pub book_grows : (later past : List Entry) (s : ℕ) (opening : Option (ℕ → List ℕ)) (b : BookState) → is_quiet (Book s) later ≡ true → b.stream ≡ s → BookStands opening past b → BookStands opening (later ++ past) b
book_grows later past s opening b quiet is stands =
    let own : is_quiet (Book b.stream) later ≡ true = rw is quiet in
    record {
      state_is = stands_without_book (λ h. StreamStands h b.state)
          (λ pass how h. state-other (Synced pass how) h b.state refl) later past b.stream own stands.state_is;
      maps_are = stands_without_book (λ h. PrivateStands h b.maps)
          (λ pass how h. maps-other (Synced pass how) h b.maps refl) later past b.stream own stands.maps_are;
      holds_are = stands_without_book (λ h. HoldsStand h b.holds)
          (λ pass how h. holds-other (Synced pass how) h b.holds refl) later past b.stream own stands.holds_are;
      contents_are = stands_without_book (λ h. ContentsStand opening h b.contents)
          (λ pass how h. contents-synced opening pass how h b.contents) later past b.stream own stands.contents_are;
      images_are = stands_without_book (λ h. ImagesStand h b.images)
          (λ pass how h. images-synced pass how h b.images) later past b.stream own stands.images_are;
    }
