-- Where the contention analysis of the queue finds nothing, it still finds nothing once a call that waits begins to run, or
-- once a call enters that does not wait.
use Rattle.std.proofs.Common.{◌≡◌, ℕ, ◌+◌, false, List, [], ◌∷◌, ◌++◌, length, sym, ap, ◌∙◌, slice_get, slice_set, Some, None}
use Rattle.vll_core.proofs.Common.{enumerate_from, Entry, Status, Running, Waiting, is_waiting, scan, scan_numbered, Line, seen}
use Rattle.vll_sca.proofs.Fruitless.{running, none_after_push, none_after_start}
use Rattle.vll_core.proofs.Analysed.{SeenAt, seen_at, seen_set, seen_push, numbered_at, numbered_set, numbered_push}
use Rattle.vll_core.proofs.QueueScan.{scan_by_place}

module _ (place : ℕ → ℕ) (bits : ℕ) (ls : List Line) (ss : List Status) where
  pub none_started : (t : ℕ) → length ls ≡ length ss → slice_get ss t ≡ Some Waiting → scan place bits (seen ls ss) ≡ None
      → scan place bits (seen ls (slice_set ss t Running)) ≡ None
  none_started t same at none =
      let es : List Entry = seen ls ss in
      let here : SeenAt ls ss t Waiting = seen_at ls ss t Waiting same at in
      ap (scan place bits) (seen_set ls ss t Running here.entry here.at)
      ∙ (sym (scan_by_place place bits (slice_set es t (running here.entry)))
      ∙ (ap (scan_numbered place bits) (numbered_set 0 es t (running here.entry))
      ∙ none_after_start place bits (enumerate_from 0 es) t (0 + t) here.entry (numbered_at 0 es t here.entry here.at) (ap is_waiting here.status) (scan_by_place place bits es ∙ none)))

  pub none_entered : (l : Line) (s : Status) → length ls ≡ length ss → is_waiting s ≡ false → scan place bits (seen ls ss) ≡ None
      → scan place bits (seen (ls ++ l ∷ []) (ss ++ s ∷ [])) ≡ None
  none_entered l s same idle none =
      let es : List Entry = seen ls ss in
      let e : Entry = record { claims = l.call.claims; status = s } in
      ap (scan place bits) (seen_push ls ss l s same)
      ∙ (sym (scan_by_place place bits (es ++ e ∷ []))
      ∙ (ap (scan_numbered place bits) (numbered_push 0 es e)
      ∙ none_after_push place bits (enumerate_from 0 es) (0 + length es) e idle (scan_by_place place bits es ∙ none)))
