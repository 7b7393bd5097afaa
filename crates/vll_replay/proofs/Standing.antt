-- The text of the state at the end of a replay, call by call and record by record.
use Rattle.std.proofs.Common.{◌≡◌, ℕ, zero, suc, ◌+◌, ◌*◌, ◌<◌, ◌≤◌, List, [], ◌∷◌, ◌++◌, map, length, drop, get_or, Option, Some, None, slice_index, refl, sym, ap, ap₂, ◌∙◌, arith, add-zero, zero-add, add-one, append_assoc, drop-cons, if◌then◌else◌}
use Rattle.std.specs.List.{enumerate_from, flat_map, slice_get}
use Rattle.std.specs.Option.{option_map}
use Rattle.std.proofs.lemmas.List.{append-nil, drop_all, length-map}
use Rattle.std.proofs.lemmas.List.FromFn.{length-enumerate_from}
use Rattle.std.proofs.lemmas.Option.{get_or_from_slice_get, same_Some, slice_get-get_or, slice_get-map, slice_get_within}
use Rattle.vll_proc.specs.declared.call.Reply.{Reply}
use Rattle.vll_sca.specs.declared.status.Status.{Status}
use Rattle.vll_sca.specs.declared.status.Status.TheVariants.{Running, Waiting, Gone}
use Rattle.vll_sca.specs.Status.{is_gone}
use Rattle.vll_core.specs.declared.line.Line.{Line}
use Rattle.vll_core.specs.Journal.{journal_of, line_of}
use Rattle.vll_core.specs.Shown.{AreWords}
use Rattle.vll_core.specs.Headline.State.{Base}
use Rattle.vll_core.specs.State.{Entered, State, counter, reply_at, value}
use Rattle.vll_replay.specs.ReplayText.{call_words, status_text}
use Rattle.vll_replay.specs.Private.ReplayText.{standing_text}
use Rattle.vll_replay.specs.Headline.Text.{call_line, record_line}

-- the texts of the items from one on, each made of the item's result and its number
abbrev pub texts_from : {A B : Type 0} → (ℕ × B → List ℕ) → (ℕ × A → B) → List A → ℕ → List ℕ
texts_from f g xs i = flat_map f (enumerate_from i (map g (enumerate_from i (drop i xs))))

texts_from-drop : {A B : Type 0} (f : ℕ × B → List ℕ) (g : ℕ × A → B) (xs : List A) (i : ℕ) (x : A) → slice_get xs i ≡ Some x → texts_from f g xs i ≡ f (i, g (i, x)) ++ texts_from f g xs (i + 1)
texts_from-drop f g xs i x is =
    let within : i < length xs = slice_get_within xs i x is in
    rw (add-one, drop-cons xs i x within, get_or_from_slice_get xs i x x is, add-one) refl

-- a text that grew by an item's text, and what is still to come
pub texts_from-next : {A B : Type 0} (f : ℕ × B → List ℕ) (g : ℕ × A → B) (xs : List A) (i : ℕ) (x : A) (words : B) (old new whole : List ℕ) → slice_get xs i ≡ Some x → words ≡ g (i, x)
    → new ≡ old ++ f (i, words) → old ++ texts_from f g xs i ≡ whole → new ++ texts_from f g xs (i + 1) ≡ whole
texts_from-next f g xs i x words old new whole is told grown so_far =
    let rest = texts_from f g xs (i + 1) in
    ap (λ t. t ++ rest) (grown ∙ ap (λ w. old ++ f (i, w)) told)
    ∙ append_assoc old (f (i, g (i, x))) rest
    ∙ ap (λ t. old ++ t) (sym (texts_from-drop f g xs i x is))
    ∙ so_far

-- nothing follows the last item
pub texts_from-end : {A B : Type 0} (f : ℕ × B → List ℕ) (g : ℕ × A → B) (xs : List A) (i : ℕ) (old whole : List ℕ) → length xs ≤ i → old ++ texts_from f g xs i ≡ whole → old ≡ whole
texts_from-end f g xs i old whole past so_far =
    let nothing : texts_from f g xs i ≡ [] = rw (drop_all i xs past) refl in
    sym (append-nil old) ∙ ap (λ t. old ++ t) (sym nothing) ∙ so_far

slice_get-enumerated : {A : Type 0} (n : ℕ) (xs : List A) (k : ℕ) → slice_get (enumerate_from n xs) k ≡ option_map (λ x. (n + k, x)) (slice_get xs k)
slice_get-enumerated n [] k = refl
slice_get-enumerated n (x ∷ xs) zero = ap (λ m. Some (m, x)) (sym (add-zero n))
slice_get-enumerated n (x ∷ xs) (suc k) =
    let same : n + 1 + k ≡ n + suc k = omega arith in
    let rest : slice_get (enumerate_from (n + 1) xs) k ≡ option_map (λ y. (n + 1 + k, y)) (slice_get xs k) = slice_get-enumerated (n + 1) xs k in
    rw (← same) rest

-- the call to which a line of the journal belongs
entered_at : (b : Base) (s : State) (t : ℕ) (l : Line) → slice_get (journal_of b s) t ≡ Some l → (e : Entered) × (slice_get s.entries t ≡ Some e) × (l ≡ line_of b s (t, e))
entered_at b s t l is = there (slice_get s.entries t) refl
  where
    told : slice_get (journal_of b s) t ≡ option_map (line_of b s) (option_map (λ e. (t, e)) (slice_get s.entries t))
    told = slice_get-map (line_of b s) (enumerate_from 0 s.entries) t ∙ ap (option_map (line_of b s)) (rw zero-add at (slice_get-enumerated 0 s.entries t))

    there : (o : Option Entered) → slice_get s.entries t ≡ o → (e : Entered) × (slice_get s.entries t ≡ Some e) × (l ≡ line_of b s (t, e))
    there None none = let found = sym is ∙ told ∙ ap (λ o. option_map (line_of b s) (option_map (λ e. (t, e)) o)) none in absurd (cc found)
    there (Some e) some = (e, some, same_Some l (line_of b s (t, e)) (sym is ∙ told ∙ ap (λ o. option_map (line_of b s) (option_map (λ e. (t, e)) o)) some))

standing : (status : Status) (reply : Reply) → standing_text (if is_gone status then Some reply else None) (Some status) ≡ status_text status reply
standing Running reply = refl
standing Waiting reply = refl
standing Gone reply = refl

-- a line of the journal and the status of its call give the words of the call
call_words-told : (b : Base) (s : State) (t : ℕ) (l : Line) (status : Option Status) (e : Entered) → l ≡ line_of b s (t, e) → status ≡ Some e.status → (l.client, standing_text l.reply status) ≡ call_words b s (t, e)
call_words-told b s t l status e is stands =
    ap₂ (λ (line : Line) (o : Option Status). (line.client, standing_text line.reply o)) is stands ∙ ap (λ words. (e.client, words)) (standing e.status (reply_at b s t e))

-- the next call's line, and what is still to come
pub calls-next : (b : Base) (s : State) (t : ℕ) (l : Line) (status : Option Status) (old new whole : List ℕ) → slice_get (journal_of b s) t ≡ Some l
    → status ≡ option_map (λ (e : Entered). e.status) (slice_get s.entries t) → new ≡ old ++ call_line (t, (l.client, standing_text l.reply status))
    → old ++ texts_from call_line (call_words b s) s.entries t ≡ whole → new ++ texts_from call_line (call_words b s) s.entries (t + 1) ≡ whole
calls-next b s t l status old new whole is stands grown so_far =
    let at = entered_at b s t l is in
    let status_is : status ≡ Some at.0.status = stands ∙ ap (option_map (λ (e : Entered). e.status)) at.1 in
    texts_from-next call_line (call_words b s) s.entries t at.0 (l.client, standing_text l.reply status) old new whole at.1 (call_words-told b s t l status at.0 at.2 status_is) grown so_far

-- there are as many lines as calls
pub journal-length : (b : Base) (s : State) → length (journal_of b s) ≡ length s.entries
journal-length b s = length-map (enumerate_from 0 s.entries) (line_of b s) ∙ length-enumerate_from 0 s.entries

-- a record's value and its counter
abbrev pub record_words : Base → State → ℕ × ℕ → ℕ × ℕ
record_words b s p = (value b s p.0, counter s p.0)

-- the next record's line, and what is still to come
pub records-next : (b : Base) (s : State) (words : List ℕ) (r : ℕ) (old new whole : List ℕ) → AreWords b s words → r < length b.records
    → new ≡ old ++ record_line (r, (slice_index words (2 * r + 1), slice_index words (2 * r + 2)))
    → old ++ texts_from record_line (record_words b s) b.records r ≡ whole → new ++ texts_from record_line (record_words b s) b.records (r + 1) ≡ whole
records-next b s words r old new whole are within grown so_far =
    let odd : 2 * r + 1 ≡ 1 + 2 * r = omega arith in
    let even : 2 * r + 2 ≡ 2 + 2 * r = omega arith in
    let told : (slice_index words (2 * r + 1), slice_index words (2 * r + 2)) ≡ record_words b s (r, get_or b.records r 0) =
    ap₂ (λ i j. (slice_index words i, slice_index words j)) odd even ∙ ap₂ (λ (v c : ℕ). (v, c)) (are.values r within) (are.pairs r within) in
    texts_from-next record_line (record_words b s) b.records r (get_or b.records r 0) (slice_index words (2 * r + 1), slice_index words (2 * r + 2)) old new whole (slice_get-get_or b.records r 0 within) told grown so_far
