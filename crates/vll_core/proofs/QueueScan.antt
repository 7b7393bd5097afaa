-- A scan of the window finds what the contention analysis of the whole queue finds.
use Rattle.std.proofs.Common.{◌≡◌, ℕ, ◌+◌, ◌<◌, true, List, [], ◌∷◌, length, map, refl, sym, ap, ap₂, ◌∙◌, arith, slice_get, get_or, Option, Some, None, suc, zero, zero-add, Bool, subst}
use Rattle.vll_core.proofs.Common.{enumerate_from, range_with_len, option_map, true≢false, slice_get-map, slice_get-get_or, Entry, Status, Waiting, Gone, is_waiting, scan, scan_numbered, scanned_within, scanned_waits, Queued, statuses, found_by, Line, seen, left_among, numbered, kept, IsKept}
use Rattle.vll_sca.proofs.Leaving.{gone_entries_do_not_matter}
use Rattle.vll_core.specs.declared.queue.Queue.TheInside.{Inside}
use Rattle.vll_core.proofs.Entries.{shown_statuses, shown_waiting, starts}
use Rattle.vll_core.proofs.Analysed.{seen_statuses}
use Rattle.vll_core.proofs.WindowEntries.{numbered_left, numbered_all}

-- entries beside their places

entries_numbered : (k : ℕ) (es : List Entry) → map (λ (x : ℕ × Entry). x.1) (enumerate_from k es) ≡ es
entries_numbered k [] = refl
entries_numbered k (e ∷ es) = ap (λ (ds : List Entry). e ∷ ds) (entries_numbered (k + 1) es)

place_numbered : (k : ℕ) (es : List Entry) (i : ℕ) → i < length es → slice_get (map (λ (x : ℕ × Entry). x.0) (enumerate_from k es)) i ≡ Some (k + i)
place_numbered k [] i within = absurd (omega (arith, within))
place_numbered k (e ∷ es) zero within = ap Some (let same : k ≡ k + 0 = omega arith in same)
place_numbered k (e ∷ es) (suc i) within = place_numbered (k + 1) es i (omega (arith, within)) ∙ ap Some (let same : (k + 1) + i ≡ k + suc i = omega arith in same)

-- beside their places, the scan finds the place
pub scan_by_place : (place : ℕ → ℕ) (bits : ℕ) (es : List Entry) → scan_numbered place bits (enumerate_from 0 es) ≡ scan place bits es
scan_by_place place bits es =
    ap (λ (ds : List Entry). number_of (scan place bits ds)) (entries_numbered 0 es) ∙ by_found (scan place bits es) refl
  where
    number_of : Option ℕ → Option ℕ
    number_of o = elim o [ None ↦ None | Some i ↦ slice_get (map (λ (x : ℕ × Entry). x.0) (enumerate_from 0 es)) i ]

    by_found : (o : Option ℕ) → scan place bits es ≡ o → number_of o ≡ o
    by_found None is = refl
    by_found (Some i) is = place_numbered 0 es i (scanned_within place bits es i is) ∙ ap Some (zero-add i)

-- what the contention analysis finds is what a scan of the window finds
pub found_shown : {H : Type 0} (place : H → ℕ → ℕ) (a : Inside H) (q : Queued H) (ls : List Line) (ss : List Status) (o : Option ℕ) → IsKept place a → kept a ≡ q → ls ≡ a.journal.items → ss ≡ a.statuses.items
    → o ≡ scan_numbered (place a.hash) a.bits (numbered ls ss a.window.tickets.items) → found_by place q ≡ o
found_shown place a q ls ss o h is same_lines same_statuses found =
    ap (found_by place) (sym is)
    ∙ (of_all a.journal.items a.statuses.items a.window.tickets.items h.as_many h.window.tickets.left
    ∙ (ap₂ (λ (ms : List Line) (rs : List Status). scanned (numbered ms rs a.window.tickets.items)) (sym same_lines) (sym same_statuses) ∙ sym found))
  where
    scanned : List (ℕ × Entry) → Option ℕ
    scanned = scan_numbered (place a.hash) a.bits

    of_all : (ms : List Line) (rs : List Status) (ts : List ℕ) → length ms ≡ length rs → left_among rs ts ≡ left_among rs (range_with_len 0 (length rs)) → scan (place a.hash) a.bits (seen ms rs) ≡ scanned (numbered ms rs ts)
    of_all ms rs ts many left =
        let all : List ℕ = range_with_len 0 (length rs) in
        sym (scan_by_place (place a.hash) a.bits (seen ms rs))
        ∙ (ap scanned (numbered_all ms rs many)
        ∙ (sym (gone_entries_do_not_matter (place a.hash) a.bits (numbered ms rs all))
        ∙ (ap scanned (numbered_left ms rs all many ∙ (ap (numbered ms rs) (sym left) ∙ sym (numbered_left ms rs ts many)))
        ∙ gone_entries_do_not_matter (place a.hash) a.bits (numbered ms rs ts))))

waits_alone : (s : Status) → is_waiting s ≡ true → s ≡ Waiting
waits_alone Waiting is = refl
waits_alone other is = absurd (true≢false (sym is))

-- the call that is found waits
pub found_waits : {H : Type 0} (place : H → ℕ → ℕ) (a : Inside H) (q : Queued H) (t : ℕ) → IsKept place a → kept a ≡ q
    → found_by place q ≡ Some t → slice_get (statuses q) t ≡ Some Waiting
found_waits place a q t h is found =
    let es : List Entry = seen a.journal.items a.statuses.items in
    let here : scan (place a.hash) a.bits es ≡ Some t = ap (found_by place) is ∙ found in
    let none : Entry = record { claims = []; status = Gone } in
    let at : slice_get es t ≡ Some (get_or es t none) = slice_get-get_or es t none (scanned_within (place a.hash) a.bits es t here) in
    ap (λ (ss : List Status). slice_get ss t) (shown_statuses a q h is ∙ sym (seen_statuses a.journal.items a.statuses.items h.as_many))
    ∙ (slice_get-map (λ (e : Entry). e.status) es t
    ∙ (ap (option_map (λ (e : Entry). e.status)) at
    ∙ ap Some (waits_alone _ (scanned_waits (place a.hash) a.bits es t _ here at))))

-- while no call waits, none is found
pub none_waits : {H : Type 0} (place : H → ℕ → ℕ) (a : Inside H) (q : Queued H) → IsKept place a → kept a ≡ q → a.waiting ≡ 0 → found_by place q ≡ None
none_waits place a q h is none = by_found (found_by place q) refl
  where
    by_found : (o : Option ℕ) → found_by place q ≡ o → found_by place q ≡ None
    by_found None found = found
    by_found (Some t) found =
        let start = starts (statuses q) t (found_waits place a q t h is found) in
        absurd (omega (arith, start.waiting, h.waiting, shown_waiting a q h is, none))

-- the number of bits stays where a scan leaves it
pub shown_bits : {H : Type 0} (a : Inside H) (q : Queued H) (bits : ℕ) → kept a ≡ q → bits ≡ a.bits → kept (record a { bits = bits }) ≡ q
shown_bits a q bits is same = ap (λ (n : ℕ). kept (record a { bits = n })) same ∙ is

-- a queue stays kept that remembers whether the scan found nothing
pub kept_scanned : {H : Type 0} {place : H → ℕ → ℕ} (a : Inside H) (q : Queued H) (bits : ℕ) (fruitless : Bool) → IsKept place a → kept a ≡ q → bits ≡ a.bits → found_by place q ≡ None
    → IsKept place (record a { bits = bits; is_fruitless = fruitless })
kept_scanned {H} {place} a q bits fruitless h is same none =
    subst (λ (n : ℕ). IsKept place (record a { bits = n; is_fruitless = fruitless })) (sym same)
    (let knows : fruitless ≡ true → found_by place (kept a) ≡ None = λ _. ap (found_by place) is ∙ none in assumption (knows, h))
